use Rattle.std.proofs.Common.{length}
use Rattle.std.proofs.lemmas.Iterator.{YieldsList}
use Rattle.std.specs.List.{zip, enumerate_from}
use Rattle.std.specs.Slice.Iter.{iter_rest}
use Rattle.rules.specs.Program.{cell_types}
use Rattle.rules.specs.Says.{type_in}
use Rattle.machine.specs.Cells.{image_words}
use Rattle.machine.specs.Runnables.{programme_of}
use Rattle.machine.proofs.Laying.{Laying}
use Rattle.machine.proofs.lay.lay_cells.Given as goal

abbrev pub invariant-loop-place : goal.invariant-loop-place
invariant-loop-place l =
    let p = programme_of l.fn.image in
    record {
      can_go : (goal.iterator-loop-place).can_next l.place-iterator;
      ends : (goal.iterator-loop-place).is_finite l.place-iterator;
      hands_out : YieldsList (goal.iterator-loop-place).next_gives (λ c. (c.0, (type_in c.1.0.now, c.1.1.now))) l.initial.place-iterator (enumerate_from 0 (zip (cell_types p) (image_words p.tuples)));
      laid : Laying (cell_types p) (image_words p.tuples) l.job l.initial.sheet (length l.yielded) (iter_rest l.words) l.sheet;
    }
