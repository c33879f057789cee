use Rattle.std.proofs.Common.{refl}
use Rattle.press_box.proofs.imprint_box.ImprintBox.new.Goals as goal

pub returns : goal.returns
returns g c = record { model = c.new.ensures; kind = refl; promise = c.promise.ensures _ (g.met.K.LabelKind.lawful c.args.kind) }
