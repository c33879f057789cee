use Rattle.std.proofs.Common.{◌≡◌, ◌-◌, length, take, drop, Some, ap, ◌∙◌, arith}
use Rattle.std.specs.Option.{option_map}
use Rattle.std.proofs.lemmas.List.{take_rest, length-drop}
use Rattle.programme.proofs.Sections.{block_from, block_in, block_said}
use Rattle.programme.proofs.laid_out.LaidOut.block.Goals as goal

pub returns-in_err-part-clause-value : goal.returns-in_err-part-clause-value
returns-in_err-part-clause-value c = let ns = c.args.self.now.words.now in rw c.from_residual.ensures (ap (option_map block_in) c.in_err-part.ensures.value ∙ block_said ns c.args.n)

pub returns : goal.returns
returns c =
    let ns = c.args.self.now.words.now in
    let ws = c.in_ok-part.part.words.now in
    let rest = take_rest ws 1 in
    let short = c.in_ok-part.ensures.size in
    let size : length (take (length ws - 1) (drop 1 ws)) ≡ length ws - 1 = ap length rest ∙ length-drop 1 ws in
    record {
      value = ap (λ l. Some (block_from c.from.result l)) rest ∙ ap (λ h. Some (block_from h (drop 1 ws))) c.from.ensures ∙ ap (option_map block_in) c.in_ok-part.ensures.value ∙ block_said ns c.args.n;
      size = (omega arith, omega arith);
    }
