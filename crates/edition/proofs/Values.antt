-- A value that is cut down to the first number past 32 bits stays so whatever digits follow.
use Rattle.std.proofs.Common.{◌≡◌, ℕ, ◌+◌, ◌*◌, ◌<◌, ◌≤◌, min, cond, List, [], ◌∷◌, length, get_or, drop, Some, None, Option, sym, refl, ap, ◌∙◌, inl, inr, mul-le-mul, arith}
use Rattle.std.proofs.lemmas.List.{at_drop_more}
use Rattle.std.proofs.lemmas.Bool.{cases_lt}
use Rattle.std.proofs.lemmas.Bool.Decides.{nat_tests}
use Rattle.std.specs.Char.{digit_value}
use Rattle.std.specs.Option.{SomeIff}
use Rattle.std.specs.Prelude.{nat_lt}
use Rattle.edition.specs.Numbers.{digit_in, value_on, capped}

module _ (base : ℕ) (pos : 1 ≤ base) where
  -- one more digit
  next : (v w d : ℕ) → min v 4294967296 ≡ min w 4294967296 → min (v * base + d) 4294967296 ≡ min (w * base + d) 4294967296
  next v w d e = elim (cases_lt v 4294967296) [
    | inl h ↦ (let same : v ≡ w = omega arith in ap (λ u. min (u * base + d) 4294967296) same)
    | inr h ↦ (
        let k : 4294967296 ≤ w = omega arith in
        let a : 4294967296 * 1 ≤ v * base = mul-le-mul h pos in
        let b : 4294967296 * 1 ≤ w * base = mul-le-mul k pos in
        omega arith)
  ]

  -- the value behind a byte, by the digit that it is
  abbrev pub behind : ℕ → List ℕ → Option ℕ → Option ℕ
  behind v bs None = None
  behind v bs (Some d) = value_on base (v * base + d) bs

  by_digit : (v w : ℕ) (bs : List ℕ) (o : Option ℕ) → ((d : ℕ) → capped (behind v bs (Some d)) ≡ capped (behind w bs (Some d))) → capped (behind v bs o) ≡ capped (behind w bs o)
  by_digit v w bs None more = refl
  by_digit v w bs (Some d) more = more d

  pub same_capped : (v w : ℕ) (bs : List ℕ) → min v 4294967296 ≡ min w 4294967296 → capped (value_on base v bs) ≡ capped (value_on base w bs)
  same_capped v w [] e = ap Some e
  same_capped v w (b ∷ bs) e = by_digit v w bs (digit_in base b) (λ d. same_capped (v * base + d) (w * base + d) bs (next v w d e))

  module _ (digits : List ℕ) (i v : ℕ) (h : i < length digits) where
    -- what the byte at i makes of the value
    pub at_digit : (o : Option ℕ) → o ≡ digit_in base (get_or digits i 0) → value_on base v (drop i digits) ≡ behind v (drop (i + 1) digits) o
    at_digit o e = at_drop_more (value_on base v) digits i 0 h ∙ ap (behind v (drop (i + 1) digits)) (sym e)

digit_by_value : (base b : ℕ) → base ≤ 16 → digit_in base b ≡ cond (nat_lt (digit_value b) base) (Some (digit_value b)) None
digit_by_value base b h = grind (arith, nat_tests)

-- the library's digits are the digits of a base up to 16
pub digit_is : (base b : ℕ) (o : Option ℕ) → base ≤ 16 → SomeIff o (digit_value b < base) (digit_value b) → o ≡ digit_in base b
digit_is base b None h none = grind (arith, nat_tests, digit_by_value base b h)
digit_is base b (Some d) h some = grind (arith, nat_tests, digit_by_value base b h)
