use Rattle.std.proofs.Common.{refl}
use Rattle.rules.proofs.promises.passes.Goals as goal
use Rattle.rules.proofs.Flowing as flowing
use Rattle.rules.proofs.Decides as decides

pub returns : goal.returns
returns c = record {
  count = refl;
  layout = decides.layout_decides;
  once = decides.one_programme;
  naming = decides.names_decided;
  flow = flowing.flow_decides;
  verdict = λ m lawful ns. decides.verdict_decides m ns;
}
