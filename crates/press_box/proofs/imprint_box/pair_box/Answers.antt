use Rattle.std.proofs.Common.{◌≡◌, subst}
use Rattle.labels.specs.Pairs.{pair}
use Rattle.secrecy.specs.Promise.{KeepsPromise}
use Rattle.press_box.proofs.imprint_box.pair_box.Goals as goal

pub returns : goal.returns
returns g c =
    let first = c.new.ensures.first in
    let second = c.new.ensures.second in
    let same : pair (g.A.LabelKind.meaning c.new.result.first) (g.B.LabelKind.meaning c.new.result.second) ≡ pair (g.A.LabelKind.meaning c.args.first) (g.B.LabelKind.meaning c.args.second) = cc in
    record { model = c.new-2.ensures.model; promise = subst KeepsPromise same c.new-2.ensures.promise }
