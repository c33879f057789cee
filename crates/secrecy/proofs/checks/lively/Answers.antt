use Rattle.secrecy.proofs.checks.lively.Goals as goal
use Rattle.secrecy.proofs.Witness as witness

pub returns : goal.returns
returns c = witness.lively
