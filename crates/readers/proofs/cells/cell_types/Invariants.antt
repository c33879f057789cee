use Rattle.std.proofs.Common.{◌≡◌, ◌++◌, vec_items}
use Rattle.image.specs.Reader.{to_come}
use Rattle.programme.specs.Spelled.{program_in}
use Rattle.rules.specs.Program.{cell_types_of, cell_types}
use Rattle.rules.specs.Says.{program}
use Rattle.readers.proofs.cells.cell_types.Given as goal

-- the types so far with those of the tuples to come are all
abbrev pub invariant-loop-item : goal.invariant-loop-item
invariant-loop-item l =
    (goal.iterator-loop-item).can_next l.item-iterator
    × (goal.iterator-loop-item).is_finite l.item-iterator
    × (vec_items l.types ++ cell_types_of (program_in l.image) (program (to_come l.item-iterator)).tuples ≡ cell_types (program_in l.image))
