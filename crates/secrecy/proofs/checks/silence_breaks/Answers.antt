use Rattle.secrecy.proofs.checks.silence_breaks.Goals as goal
use Rattle.secrecy.proofs.Witness as witness

pub returns : goal.returns
returns c = witness.silence_breaks
