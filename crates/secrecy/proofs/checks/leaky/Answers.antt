use Rattle.secrecy.proofs.checks.leaky.Goals as goal
use Rattle.secrecy.proofs.Witness as witness

pub returns : goal.returns
returns c = witness.leaky
