-- A line's text, which ends where a comment starts, and its fields, which blanks part.
use Rattle.std.specs.Prelude.{ℕ, ◌+◌, ◌-◌, ◌<◌, ◌≤◌, Bool, true, false, cond, ◌||◌, List, [], ◌∷◌, ◌++◌, length, drop, slice_index, ◌==◌}

-- what stands before the first number sign
abbrev pub text_of : List ℕ → List ℕ
text_of [] = []
text_of (b ∷ bs) = cond (b == 35) [] (b ∷ text_of bs)

-- space, tab and carriage return
abbrev pub blank : ℕ → Bool
blank b = b == 32 || (b == 9 || b == 13)

-- A field, with the column of its first byte, from 1.
pub record Field : Type 0 where
  pub column : ℕ
  pub bytes : List ℕ

-- the field that ends with these bytes, where so many bytes stand before its end; no bytes are no field
abbrev pub ended : ℕ → List ℕ → List Field
ended at [] = []
ended at (b ∷ bs) = record { column = at - length (b ∷ bs) + 1; bytes = b ∷ bs } ∷ []

-- What a byte makes of a field whose bytes so far stand right before it: a blank ends it, any other is its next.
abbrev pub ended_by : ℕ → List ℕ → ℕ → List Field
ended_by at part b = cond (blank b) (ended at part) []

abbrev pub open_after : List ℕ → ℕ → List ℕ
open_after part b = cond (blank b) [] (part ++ (b ∷ []))

-- The fields of the rest of a text, where so many bytes stand before the rest, and the last of them begin a field.
abbrev pub cut : ℕ → List ℕ → List ℕ → List Field
cut at part [] = ended at part
cut at part (b ∷ bs) = ended_by at part b ++ cut (at + 1) (open_after part b) bs

-- the fields of a text from a byte on, at which no field goes on
abbrev pub fields_from : List ℕ → ℕ → List Field
fields_from text from = cut from [] (drop from text)

abbrev pub fields : List ℕ → List Field
fields text = fields_from text 0

-- n bytes at the front pass a test, whose answers these are, and the byte behind them, where there is one, does not
pub record IsRun (answers : ℕ → Bool → Type 0) (bs : List ℕ) (n : ℕ) : Type 0 where
  pub within : n ≤ length bs
  pub pass : (i : ℕ) → i < n → answers (slice_index bs i) true
  pub stops : n < length bs → answers (slice_index bs n) false
