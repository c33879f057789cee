use Rattle.std.proofs.Common.{◌≡◌, length, sym, ap, ◌∙◌, subst}
use Rattle.image.specs.Items.{pieces}
use Rattle.image.specs.Reader.{to_come}
use Rattle.rules.specs.Flow.{flow}
use Rattle.rules.specs.LaidOut.{Every}
use Rattle.rules.specs.Says.{program_of}
use Rattle.programme.proofs.Places.{InImage, in_image}
use Rattle.flow.proofs.pass.check_flow.Goals as goal

pub loop-item-init : goal.loop-item-init
loop-item-init g c =
    let ns = c.args.image.words.now in
    let all : to_come c.into_iter-item-iterator.result ≡ pieces ns = ap to_come c.into_iter-item-iterator.ensures.into_iter_gives ∙ c.of-item-items.ensures.items ∙ ap pieces c.words.ensures in
    (tt, tt, subst (Every (InImage (length ns))) (sym all) (in_image ns), ap (flow (g.K.LabelKind.meaning c.args.kind.now) (program_of ns)) all)
