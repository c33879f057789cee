use Rattle.std.proofs.Common.{length}
use Rattle.rules.specs.Says.{body_of}
use Rattle.machine.specs.Cells.{start}
use Rattle.machine.specs.Machine.{body, run}
use Rattle.machine.specs.Memories.{state_of}
use Rattle.machine.specs.Runnables.{programme_of}
use Rattle.machine.proofs.Runs.{Going}
use Rattle.machine.proofs.run.run.Given as goal

abbrev pub invariant-loop-steps : goal.invariant-loop-steps
invariant-loop-steps l =
    Going (programme_of l.image) l.fuel l.initial.strip (run (programme_of l.image) l.fuel (length l.initial.strip) (body (programme_of l.image) 0) (start l.initial.cells)) l.steps l.strikes l.strip (body_of l.rest) (state_of l.memory l.cells)
