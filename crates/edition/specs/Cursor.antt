-- A cursor stands for the fields of its text that are still to come.
use Rattle.std.specs.Prelude.{◌≡◌, ℕ, List, length, Ok, Err, Option, Result, MatchResult}
use Rattle.std.specs.Iterator.{YieldsFirstBy}
use Rattle.edition.specs.declared.setting.Setting.{Setting}
use Rattle.edition.specs.declared.errors.LineError.{LineError}
use Rattle.edition.specs.declared.fields.Field.{Field as Piece}
use Rattle.edition.specs.declared.fields.Fields.{Fields as Cursor}
use Rattle.edition.specs.Fields.{Field, fields_from}
use Rattle.edition.specs.Lines.{keyword, setting}

-- a field without its address
abbrev pub field_of : Piece → Field
field_of f = record { column = f.column; bytes = f.bytes.now }

-- how many bytes the text has
abbrev pub size : Cursor → ℕ
size c = length c.text.now

abbrev pub to_come : Cursor → List Field
to_come c = fields_from c.text.now c.at

-- one step: the first of the fields to come is handed out, where there is one, and the others are still to come
abbrev pub HandsOut : Cursor → Option Piece → Cursor → Type 0
HandsOut before o after = YieldsFirstBy field_of to_come before o after × (size after ≡ size before)

-- what a reader gives of the fields to come, where those behind what it read are still to come, or its error
abbrev pub KeywordRead : {A : Type 0} → Cursor → Setting → Result A LineError → Cursor → Type 0
KeywordRead before s r after =
    MatchResult r (λ _. (keyword (size before) s (to_come before) ≡ Ok (to_come after)) × (size after ≡ size before))
    (λ e. keyword (size before) s (to_come before) ≡ Err e)

abbrev pub SettingRead : Cursor → Setting → Result ℕ LineError → Cursor → Type 0
SettingRead before s r after =
    MatchResult r (λ n. (setting (size before) s (to_come before) ≡ Ok (n, to_come after)) × (size after ≡ size before))
    (λ e. setting (size before) s (to_come before) ≡ Err e)
