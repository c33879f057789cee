use Rattle.std.proofs.Common.{◌≡◌, ◌-◌, length, take, drop, Some, ap, ◌∙◌, arith}
use Rattle.std.specs.Option.{option_map}
use Rattle.std.proofs.lemmas.List.{take_rest, length-drop}
use Rattle.programme.proofs.Sections.{tuple_from, tuple_in, tuple_said}
use Rattle.programme.proofs.laid_out.LaidOut.tuple.Goals as goal

pub returns-in_err-part-clause-value : goal.returns-in_err-part-clause-value
returns-in_err-part-clause-value c = let ns = c.args.self.now.words.now in rw c.from_residual.ensures (ap (option_map tuple_in) c.in_err-part.ensures.value ∙ tuple_said ns c.args.n)

pub returns : goal.returns
returns c =
    let ns = c.args.self.now.words.now in
    let ws = c.in_ok-part.part.words.now in
    let rest = take_rest ws 1 in
    let short = c.in_ok-part.ensures.size in
    let size : length (take (length ws - 1) (drop 1 ws)) ≡ length ws - 1 = ap length rest ∙ length-drop 1 ws in
    record {
      value = ap (λ l. Some (tuple_from c.from.result l)) rest ∙ ap (λ h. Some (tuple_from h (drop 1 ws))) c.from.ensures ∙ ap (option_map tuple_in) c.in_ok-part.ensures.value ∙ tuple_said ns c.args.n;
      size = (omega arith, omega arith);
    }
