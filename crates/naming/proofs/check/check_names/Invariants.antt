use Rattle.std.proofs.Common.{◌≡◌, length}
use Rattle.image.specs.Reader.{to_come}
use Rattle.rules.specs.LaidOut.{Every}
use Rattle.rules.specs.Naming.{naming}
use Rattle.rules.specs.Verdict.{naming_of}
use Rattle.programme.specs.Spelled.{words_in, program_in}
use Rattle.programme.proofs.Places.{InImage}
use Rattle.naming.proofs.check.check_names.Given as goal

-- the items to come lie within the image, and what is found in them is what is found in all
abbrev pub invariant-loop-item : goal.invariant-loop-item
invariant-loop-item g l =
    (goal.iterator-loop-item g).can_next l.item-iterator
    × (goal.iterator-loop-item g).is_finite l.item-iterator
    × Every (InImage (length (words_in l.names.image))) (to_come l.item-iterator)
    × (naming (g.K.LabelKind.meaning l.names.kind.now) (program_in l.names.image) (to_come l.item-iterator) ≡ naming_of (g.K.LabelKind.meaning l.names.kind.now) (words_in l.names.image))
