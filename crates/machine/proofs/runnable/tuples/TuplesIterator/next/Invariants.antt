use Rattle.std.proofs.Common.{◌≡◌, length}
use Rattle.image.specs.Reader.{to_come}
use Rattle.machine.specs.Tuples.{tuples_left}
use Rattle.machine.proofs.runnable.tuples.TuplesIterator.next.Given as goal

-- only items that are no tuples were passed
abbrev pub invariant-loop-item : goal.invariant-loop-item
invariant-loop-item l = tuples_left l.self ≡ tuples_left l.initial.self

abbrev pub decreases-loop-item : goal.decreases-loop-item
decreases-loop-item l = length (to_come l.self.items)
