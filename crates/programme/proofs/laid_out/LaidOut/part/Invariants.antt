use Rattle.std.proofs.Common.{◌≡◌}
use Rattle.image.specs.Items.{pieces}
use Rattle.image.specs.Reader.{to_come}
use Rattle.programme.specs.Lookup.{nth_piece}
use Rattle.programme.specs.Spelled.{words_in}
use Rattle.programme.proofs.laid_out.LaidOut.part.Given as goal

-- the item is found among those to come, as it is among all
abbrev pub invariant-loop-item : goal.invariant-loop-item
invariant-loop-item l =
    (goal.iterator-loop-item).can_next l.item-iterator
    × (goal.iterator-loop-item).is_finite l.item-iterator
    × (nth_piece l.section l.number (to_come l.item-iterator) ≡ nth_piece l.section l.number (pieces (words_in l.self)))
