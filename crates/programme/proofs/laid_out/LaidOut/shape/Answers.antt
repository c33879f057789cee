use Rattle.std.proofs.Common.{◌≡◌, ◌-◌, length, take, drop, Some, ap, ◌∙◌, arith}
use Rattle.std.specs.List.{slice_get}
use Rattle.std.specs.Option.{option_map}
use Rattle.std.proofs.lemmas.List.{take_rest, length-drop}
use Rattle.rules.specs.Says.{program_of}
use Rattle.programme.proofs.Sections.{shape_from, shape_in, shape_said}
use Rattle.programme.proofs.laid_out.LaidOut.shape.Goals as goal

pub returns-in_err-part-clause-value : goal.returns-in_err-part-clause-value
returns-in_err-part-clause-value c = let ns = c.args.self.now.words.now in rw c.from_residual.ensures (ap (option_map shape_in) c.in_err-part.ensures.value ∙ shape_said ns c.from.result ∙ ap (slice_get (program_of ns).shapes) c.from.ensures)

pub returns : goal.returns
returns c =
    let ns = c.args.self.now.words.now in
    let ws = c.in_ok-part.part.words.now in
    let rest = take_rest ws 1 in
    let short = c.in_ok-part.ensures.size in
    let size : length (take (length ws - 1) (drop 1 ws)) ≡ length ws - 1 = ap length rest ∙ length-drop 1 ws in
    record {
      value = ap (λ l. Some (shape_from l)) rest ∙ ap (option_map shape_in) c.in_ok-part.ensures.value ∙ shape_said ns c.from.result ∙ ap (slice_get (program_of ns).shapes) c.from.ensures;
      size = (omega arith, omega arith);
    }
