use Rattle.std.proofs.Common.{◌≡◌, length, ap, ◌∙◌, arith}
use Rattle.image.specs.Items.{pieces}
use Rattle.image.specs.Surveys.{nothing_seen, surveyed}
use Rattle.rules.specs.Program.{cell_types}
use Rattle.machine.specs.Runnables.{words_of, programme_of}
use Rattle.machine.proofs.Sound.{sound}
use Rattle.machine.proofs.Counting.{cells_counted, few_cells}
use Rattle.machine.proofs.runnable.Runnable.cell_count.Goals as goal

pub returns : goal.returns
returns c =
    let ns = words_of c.args.self in
    let s = sound ns c.args.self.sound in
    let value : c.survey.result.cells ≡ length (cell_types (programme_of c.args.self)) =
    ap (λ r. r.cells) c.survey.ensures ∙ ap (λ ws. (surveyed nothing_seen (pieces ws)).cells) c.words.ensures ∙ cells_counted ns s
    in
    record { value = value; few = omega (arith, few_cells ns s) }
