-- The sentence that shows an error.
use Rattle.std.specs.Prelude.{ℕ, ◌/◌, ◌%◌, true, cond, ◌||◌, List, [], ◌∷◌, ◌++◌, codes, decimal, ◌==◌}
use Rattle.std.specs.Fmt.{digit_glyph}
use Rattle.hextext.specs.declared.errors.TextError.{TextError}
use Rattle.hextext.specs.declared.errors.TextError.TheVariants.{Memory, BadCharacter, WordTooLong}
use Rattle.hextext.specs.Text.{between}

-- ASCII that can be printed, between quotes; any other byte by its hexadecimal digits
abbrev pub byte_shown : ℕ → List ℕ
byte_shown b = cond (between 32 126 b) (codes "'" ++ (b ∷ codes "'")) (codes "byte 0x" ++ (digit_glyph true (b / 16) ∷ digit_glyph true (b % 16) ∷ []))

-- for who writes 0x
abbrev pub hint : ℕ → List ℕ
hint b = cond (b == 120 || b == 88) (codes " (words are written without 0x)") []

abbrev pub placed : ℕ → ℕ → List ℕ → List ℕ
placed line column said = codes "line " ++ (decimal line ++ (codes ", column " ++ (decimal column ++ (codes ": " ++ said))))

abbrev pub sentence : TextError → List ℕ
sentence Memory = codes "out of memory"
sentence (BadCharacter line column byte) =
    placed line column (byte_shown byte ++ (codes " is no hexadecimal digit; a word is one to eight of 0-9 and A-F, and # starts a comment" ++ hint byte))
sentence (WordTooLong line column) = placed line column (codes "this word has more than eight hexadecimal digits; a word has 32 bits")
