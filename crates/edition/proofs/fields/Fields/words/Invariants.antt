use Rattle.std.proofs.Common.{◌≡◌, vec_items}
use Rattle.edition.specs.Cursor.{to_come}
use Rattle.edition.specs.Lines.{words_on}
use Rattle.edition.proofs.fields.Fields.words.Given as goal

-- the fields that are left go on to the words
abbrev pub invariant-loop-field : goal.invariant-loop-field
invariant-loop-field l = words_on (vec_items l.words) (to_come l.field-iterator) ≡ words_on (vec_items l.initial.words) (to_come l.fn.self)
