use Rattle.secrecy.proofs.promises.confidential.Goals as goal
use Rattle.secrecy.proofs.Start as start

pub returns : goal.returns
returns c = start.confidential
