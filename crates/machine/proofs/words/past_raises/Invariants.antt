use Rattle.std.proofs.Common.{◌≡◌, length}
use Rattle.rules.specs.Says.{body_of}
use Rattle.machine.specs.Raises.{past}
use Rattle.machine.proofs.words.past_raises.Given as goal

-- only raises were passed
abbrev pub invariant-loop-rest : goal.invariant-loop-rest
invariant-loop-rest l = past (body_of l.rest) ≡ past (body_of l.words)

abbrev pub decreases-loop-rest : goal.decreases-loop-rest
decreases-loop-rest l = length l.rest
