-- Typed words are read as these words.
use Rattle.std.proofs.Common.{◌≡◌, ℕ, zero, suc, ◌+◌, ◌*◌, ◌/◌, ◌%◌, ◌^◌, ◌<◌, true, List, [], ◌∷◌, ◌++◌, Result, Vec, refl, ap, ◌∙◌, append_assoc, append-nil, add-one, pow-suc, arith}
use Rattle.std.proofs.lemmas.Bool.Decides.{nat_tests}
use Rattle.std.specs.Fmt.{digit_glyph}
use Rattle.std.specs.List.{AllByRecursion}
use Rattle.std.specs.declared.alloc.Global.{Global}
use Rattle.hextext.specs.declared.errors.TextError.{TextError}
use Rattle.hextext.specs.declared.state.Class.TheVariants.{Digit}
use Rattle.hextext.specs.declared.state.Inside.{Inside}
use Rattle.hextext.specs.declared.state.Inside.TheVariants.{Nothing, Word}
use Rattle.hextext.specs.declared.state.State.{State}
use Rattle.hextext.specs.Text.{Reads, reading, onward, classed}
use Rattle.hextext.specs.Text.Reading.{words}
use Rattle.hextext.specs.Typed.{figures, typed, ReadsBack}

figure : (d : ℕ) → d < 16 → classed (digit_glyph true d) ≡ Digit d
figure d h = grind (arith, nat_tests)

abbrev at : ℕ → ℕ → Inside → State
at line column inside = record { line = line; column = column; inside = inside }

abbrev part : ℕ → ℕ → ℕ → Inside
part value digits column = Word (record { value = value; digits = digits; column = column })

module _ (done : List ℕ) (line : ℕ) where
  first_digit : (column d : ℕ) (bs : List ℕ) → d < 16 → onward done (at line column Nothing) (digit_glyph true d ∷ bs) ≡ onward done (at line (column + 1) (part d 1 column)) bs
  first_digit column d bs h = grind (arith, figure d h, append-nil)

  next_digit : (column value digits start d : ℕ) (bs : List ℕ) → digits < 8 → d < 16 → onward done (at line column (part value digits start)) (digit_glyph true d ∷ bs) ≡ onward done (at line (column + 1) (part (value * 16 + d) (digits + 1) start)) bs
  next_digit column value digits start d bs k h = grind (arith, nat_tests, figure d h, append-nil)

  word : (k w column : ℕ) (bs : List ℕ) → k < 8 → w < 16 ^ suc k → onward done (at line column Nothing) (figures (suc k) w ++ bs) ≡ onward done (at line (column + suc k) (part w (suc k) column)) bs
  word zero w column bs k h =
      let e : w % 16 ≡ w = omega (arith, h) in
      first_digit column (w % 16) bs (omega arith) ∙ rw e
  word (suc j) w column bs k h =
      let value : w / 16 * 16 + w % 16 ≡ w = omega arith in
      let place : column + suc j + 1 ≡ column + suc (suc j) = omega arith in
      rw (append_assoc (figures (suc j) (w / 16)) (digit_glyph true (w % 16) ∷ []) bs)
      (word j (w / 16) column (digit_glyph true (w % 16) ∷ bs) (omega arith) (omega (arith, pow-suc 16 (suc j)))
      ∙ next_digit (column + suc j) (w / 16) (suc j) column (w % 16) bs (omega arith) (omega arith)
      ∙ rw (value, place, add-one))

lines_of : (ws done : List ℕ) (line : ℕ) → AllByRecursion (λ w. w < 2 ^ 32) ws → onward done (at line 1 Nothing) (typed ws) ≡ words (done ++ ws)
lines_of [] done line fit = refl
lines_of (w ∷ ws) done line fit =
    let h : w < 16 ^ 8 = omega (arith, fit.0) in
    word done line 7 w 1 (10 ∷ typed ws) (omega arith) h
    ∙ lines_of ws (done ++ (w ∷ [])) (line + 1) fit.1
    ∙ ap words (append_assoc done (w ∷ []) ws)

reads_typed : (ws : List ℕ) → AllByRecursion (λ w. w < 2 ^ 32) ws → reading (typed ws) ≡ words ws
reads_typed ws fit = lines_of ws [] 1 fit

pub reads_back : (bs : List ℕ) (r : Result (Vec ℕ Global) TextError) → Reads bs r → ReadsBack bs r
reads_back bs r h ws fit e = let read : reading bs ≡ words ws = ap reading e ∙ reads_typed ws fit in grind arith
