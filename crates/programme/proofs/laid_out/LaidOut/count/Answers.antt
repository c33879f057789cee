use Rattle.std.proofs.Common.{ap, ◌∙◌}
use Rattle.image.specs.Counts.{count_of}
use Rattle.image.specs.Items.{pieces}
use Rattle.programme.proofs.Sections.{count_is}
use Rattle.programme.proofs.laid_out.LaidOut.count.Goals as goal

pub returns : goal.returns
returns c =
    c.of.ensures ∙ ap (λ s. count_of s.counts c.args.section) c.survey.ensures ∙ count_is (pieces c.args.self.now.words.now) c.args.section
