-- The text form of a list of words. A word is one to eight hexadecimal digits, in either case; white space stands between words;
-- `#` starts a comment, which runs to the end of its line. Anything else is an error, and so is a word of more than eight digits;
-- the first error in the text answers, with its line and column, both counted from 1, a column in bytes.
use Rattle.std.specs.Prelude.{◌≡◌, ℕ, ◌+◌, ◌-◌, ◌*◌, Bool, cond, ◌&&◌, ◌||◌, List, [], ◌∷◌, ◌++◌, Some, None, Ok, Err, vec_items, Option, Result, Vec, ◌==◌, nat_le, nat_lt}
use Rattle.std.specs.Option.{option_to_list}
use Rattle.std.specs.declared.alloc.Global.{Global}
use Rattle.hextext.specs.declared.errors.TextError.{TextError}
use Rattle.hextext.specs.declared.errors.TextError.TheVariants.{Memory, BadCharacter, WordTooLong}
use Rattle.hextext.specs.declared.state.Class.{Class}
use Rattle.hextext.specs.declared.state.Class.TheVariants.{Digit, Space, NewLine, Hash, Other}
use Rattle.hextext.specs.declared.state.Inside.{Inside}
use Rattle.hextext.specs.declared.state.Inside.TheVariants.{Nothing, Comment, Word}
use Rattle.hextext.specs.declared.state.State.{State}

abbrev pub between : ℕ → ℕ → ℕ → Bool
between low high n = nat_le low n && nat_le n high

-- 0 to 9, A to F, a to f; line feed; space, tab, vertical tab, form feed and carriage return; number sign
abbrev pub classed : ℕ → Class
classed b =
    cond (between 48 57 b) (Digit (b - 48))
    (cond (between 65 70 b) (Digit (b - 65 + 10))
    (cond (between 97 102 b) (Digit (b - 97 + 10))
    (cond (b == 10) NewLine
    (cond (b == 32 || between 9 13 b) Space
    (cond (b == 35) Hash (Other b))))))

-- A reader's state before a byte, declared in src/state.rt, has the byte's line and column, both counted from 1, and whether it
-- stands inside a comment, a word or neither. The reader starts between words, at line 1, column 1.
abbrev pub outset : State
outset = record { line = 1; column = 1; inside = Nothing }

-- A digit begins a word here, or it is the next of the word that it stands in, which has eight at most. In a comment it is nothing.
abbrev pub with_digit : State → Inside → ℕ → Result Inside TextError
with_digit s Nothing d = Ok (Word (record { value = d; digits = 1; column = s.column }))
with_digit s Comment d = Ok Comment
with_digit s (Word w) d =
    cond (nat_lt w.digits 8)
    (Ok (Word (record { value = w.value * 16 + d; digits = w.digits + 1; column = w.column })))
    (Err (WordTooLong s.line w.column))

-- What the reader is inside of behind a byte outside a comment, or the error that the byte is.
abbrev pub outside : State → Class → Result Inside TextError
outside s (Digit d) = with_digit s s.inside d
outside s Space = Ok Nothing
outside s NewLine = Ok Nothing
outside s Hash = Ok Comment
outside s (Other b) = Err (BadCharacter s.line s.column b)

-- A comment takes any byte, and ends with its line.
abbrev pub commented : Class → Inside
commented (Digit d) = Comment
commented Space = Comment
commented NewLine = Nothing
commented Hash = Comment
commented (Other b) = Comment

abbrev pub inside_after : State → Class → Result Inside TextError
inside_after s c = elim s.inside [ Nothing ↦ outside s c | Comment ↦ Ok (commented c) | Word w ↦ outside s c ]

-- The place behind a byte: the next column, and behind a line feed the start of the next line.
abbrev pub along : State → Inside → State
along s i = record { line = s.line; column = s.column + 1; inside = i }

abbrev pub moved : State → Class → Inside → State
moved s (Digit d) i = along s i
moved s Space i = along s i
moved s NewLine i = record { line = s.line + 1; column = 1; inside = i }
moved s Hash i = along s i
moved s (Other b) i = along s i

abbrev pub step : State → Class → Result State TextError
step s c = elim (inside_after s c) [ Ok i ↦ Ok (moved s c i) | Err e ↦ Err e ]

-- The word that the reader is inside of; any byte but a digit ends it, and so does the end of the text.
abbrev pub unfinished : Inside → Option ℕ
unfinished Nothing = None
unfinished Comment = None
unfinished (Word w) = Some w.value

abbrev pub ended : Inside → Class → Option ℕ
ended i (Digit d) = None
ended i Space = unfinished i
ended i NewLine = unfinished i
ended i Hash = unfinished i
ended i (Other b) = unfinished i

-- A text has words, in their order, or an error.
pub data Reading : Type 0 where
  words : List ℕ → Reading
  fault : TextError → Reading

-- What is read where the words ws have ended, the reader stands at s, and these bytes are left.
abbrev pub onward : List ℕ → State → List ℕ → Reading
onward ws s [] = words (ws ++ option_to_list (unfinished s.inside))
onward ws s (b ∷ bs) = elim (step s (classed b)) [ Ok t ↦ onward (ws ++ option_to_list (ended s.inside (classed b))) t bs | Err e ↦ fault e ]

abbrev pub reading : List ℕ → Reading
reading bs = onward [] outset bs

-- The answer is what is read of the text, unless there was no memory for it.
abbrev pub Refuses : List ℕ → TextError → Type 0
Refuses bs Memory = Unit {0}
Refuses bs (BadCharacter line column byte) = reading bs ≡ fault (BadCharacter line column byte)
Refuses bs (WordTooLong line column) = reading bs ≡ fault (WordTooLong line column)

abbrev pub Reads : List ℕ → Result (Vec ℕ Global) TextError → Type 0
Reads bs (Ok v) = reading bs ≡ words (vec_items v)
Reads bs (Err e) = Refuses bs e
