use Rattle.std.proofs.Common.{ap, ◌∙◌}
use Rattle.image.specs.Words.{split}
use Rattle.programme.specs.Spelled.{program_in}
use Rattle.rules.specs.Program.{shape_at}
use Rattle.readers.proofs.cells.types_of.Goals as goal

pub returns : goal.returns
returns c = c.shape_types.ensures ∙ ap (λ w. shape_at (program_in c.args.image) w.c) (c.from-head.ensures ∙ ap split c.word_at.ensures)
