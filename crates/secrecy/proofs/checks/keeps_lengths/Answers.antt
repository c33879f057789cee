use Rattle.secrecy.proofs.checks.keeps_lengths.Goals as goal
use Rattle.secrecy.proofs.Lengths as lengths

pub returns : goal.returns
returns c = lengths.keeps_lengths
