use Rattle.secrecy.proofs.promises.promise.Goals as goal
use Rattle.secrecy.proofs.Sides as sides

pub returns : goal.returns
returns c = sides.promise (sides.judged_soundly c.passes.ensures.verdict c.passes.ensures.once)
