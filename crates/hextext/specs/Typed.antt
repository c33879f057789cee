-- Words as one would type them, each by eight hexadecimal digits on a line of its own.
use Rattle.std.specs.Prelude.{◌≡◌, ℕ, zero, suc, ◌/◌, ◌%◌, ◌^◌, ◌<◌, true, List, [], ◌∷◌, ◌++◌, vec_items, Result, Vec, MatchResult}
use Rattle.std.specs.Fmt.{digit_glyph}
use Rattle.std.specs.List.{AllByRecursion}
use Rattle.std.specs.declared.alloc.Global.{Global}
use Rattle.hextext.specs.declared.errors.TextError.{TextError}
use Rattle.hextext.specs.declared.errors.TextError.TheVariants.{Memory}

-- the last k hexadecimal digits of n
abbrev pub figures : ℕ → ℕ → List ℕ
figures zero n = []
figures (suc k) n = figures k (n / 16) ++ (digit_glyph true (n % 16) ∷ [])

abbrev pub typed : List ℕ → List ℕ
typed [] = []
typed (w ∷ ws) = figures 8 w ++ (10 ∷ typed ws)

-- Typed words are read as these words, unless there is no memory for them.
abbrev pub ReadsBack : List ℕ → Result (Vec ℕ Global) TextError → Type 0
ReadsBack bs r = (ws : List ℕ) → AllByRecursion (λ w. w < 2 ^ 32) ws → bs ≡ typed ws → MatchResult r (λ v. vec_items v ≡ ws) (λ e. e ≡ Memory)
