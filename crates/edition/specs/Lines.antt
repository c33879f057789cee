-- What a line says: its fields read from the left, or the first error. In these definitions `size` is how many bytes the line's text
-- has, so that where the text ends too soon the error's column is one past them.
use Rattle.std.specs.Prelude.{◌≡◌, ℕ, ◌+◌, cond, List, [], ◌∷◌, ◌++◌, length, Some, None, Ok, Err, codes, Result, nat_le}
use Rattle.std.specs.Str.{bytes_eq}
use Rattle.edition.specs.declared.setting.Setting.{Setting}
use Rattle.edition.specs.declared.setting.Setting.TheVariants.{Fuel, Strip, Sheet, Words}
use Rattle.edition.specs.declared.errors.Part.TheVariants.{Command, Name, Keyword, Number}
use Rattle.edition.specs.declared.errors.LineError.{LineError}
use Rattle.edition.specs.declared.errors.LineError.TheVariants.{Memory, Missing, Unexpected, TooLarge, Surplus}
use Rattle.edition.specs.Fields.{Field, text_of, fields}
use Rattle.edition.specs.Numbers.{number_of}
use Rattle.edition.specs.Settings.{keyword_of, limit_of}

-- a setting's keyword, and the fields behind it
abbrev pub keyword : ℕ → Setting → List Field → Result (List Field) LineError
keyword size s [] = Err (Missing (size + 1) (Keyword s))
keyword size s (f ∷ fs) = cond (bytes_eq f.bytes (keyword_of s)) (Ok fs) (Err (Unexpected f.column (Keyword s)))

-- the number that a field is, which the setting takes
abbrev pub number : Setting → Field → Result ℕ LineError
number s f =
    elim (number_of f.bytes) [
      | None ↦ Err (Unexpected f.column (Number s))
      | Some n ↦ cond (nat_le n (limit_of s)) (Ok n) (Err (TooLarge f.column s (limit_of s)))
    ]

abbrev pub with_rest : List Field → Result ℕ LineError → Result (ℕ × List Field) LineError
with_rest fs (Ok n) = Ok (n, fs)
with_rest fs (Err e) = Err e

-- a setting's number behind its keyword, and the fields behind both
abbrev pub behind_keyword : ℕ → Setting → Result (List Field) LineError → Result (ℕ × List Field) LineError
behind_keyword size s (Ok []) = Err (Missing (size + 1) (Number s))
behind_keyword size s (Ok (f ∷ fs)) = with_rest fs (number s f)
behind_keyword size s (Err e) = Err e

abbrev pub setting : ℕ → Setting → List Field → Result (ℕ × List Field) LineError
setting size s fs = behind_keyword size s (keyword size s fs)

-- the numbers that these fields are, behind the words ws
abbrev pub words_on : List ℕ → List Field → Result (List ℕ) LineError
words_on ws [] = Ok ws
words_on ws (f ∷ fs) = elim (number Words f) [ Ok n ↦ words_on (ws ++ (n ∷ [])) fs | Err e ↦ Err e ]

-- What a line is for.
pub data Said : Type 0 where
  nothing : Said
  load : Said
  job : (name : List ℕ) (fuel strip sheet : ℕ) (words : List ℕ) → Said

-- A job's settings, one after another.
module _ (size : ℕ) (name : List ℕ) where
  abbrev pub with_words : ℕ → ℕ → ℕ → Result (List ℕ) LineError → Result Said LineError
  with_words fuel strip sheet (Ok ws) = Ok (job name fuel strip sheet ws)
  with_words fuel strip sheet (Err e) = Err e

  abbrev pub at_words : ℕ → ℕ → ℕ → Result (List Field) LineError → Result Said LineError
  at_words fuel strip sheet (Ok fs) = with_words fuel strip sheet (words_on [] fs)
  at_words fuel strip sheet (Err e) = Err e

  abbrev pub with_sheet : ℕ → ℕ → Result (ℕ × List Field) LineError → Result Said LineError
  with_sheet fuel strip (Ok p) = at_words fuel strip p.0 (keyword size Words p.1)
  with_sheet fuel strip (Err e) = Err e

  abbrev pub with_strip : ℕ → Result (ℕ × List Field) LineError → Result Said LineError
  with_strip fuel (Ok p) = with_sheet fuel p.0 (setting size Sheet p.1)
  with_strip fuel (Err e) = Err e

  abbrev pub with_fuel : Result (ℕ × List Field) LineError → Result Said LineError
  with_fuel (Ok p) = with_strip p.0 (setting size Strip p.1)
  with_fuel (Err e) = Err e

-- the fields behind `job`
abbrev pub job_from : ℕ → List Field → Result Said LineError
job_from size [] = Err (Missing (size + 1) Name)
job_from size (f ∷ fs) = with_fuel size f.bytes (setting size Fuel fs)

-- the fields behind `load`: none
abbrev pub load_from : List Field → Result Said LineError
load_from [] = Ok load
load_from (f ∷ fs) = Err (Surplus f.column)

abbrev pub said_by : ℕ → List Field → Result Said LineError
said_by size [] = Ok nothing
said_by size (f ∷ fs) =
    cond (bytes_eq f.bytes (codes "load")) (load_from fs)
    (cond (bytes_eq f.bytes (codes "job")) (job_from size fs) (Err (Unexpected f.column Command)))

-- what a line says, or its first error
abbrev pub reading : List ℕ → Result Said LineError
reading line = said_by (length (text_of line)) (fields (text_of line))

-- An error is the one that was found, or there was no memory for the words.
abbrev pub Refuses : {A : Type 0} → Result A LineError → LineError → Type 0
Refuses r Memory = Unit {0}
Refuses r (Missing column part) = r ≡ Err (Missing column part)
Refuses r (Unexpected column part) = r ≡ Err (Unexpected column part)
Refuses r (TooLarge column s limit) = r ≡ Err (TooLarge column s limit)
Refuses r (Surplus column) = r ≡ Err (Surplus column)
