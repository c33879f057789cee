-- Numbers as they are written: decimal digits, or 0x and hexadecimal digits in either case. Leading zeros say nothing.
use Rattle.std.specs.Prelude.{ℕ, ◌+◌, ◌-◌, ◌*◌, min, Bool, cond, ◌&&◌, List, [], ◌∷◌, drop, Some, None, Option, ◌==◌, nat_le, nat_lt, slice_index}

abbrev pub in_range : ℕ → ℕ → ℕ → Bool
in_range low high n = nat_le low n && nat_le n high

-- 0 to 9, A to F, a to f
abbrev pub digit_of : ℕ → Option ℕ
digit_of b =
    cond (in_range 48 57 b) (Some (b - 48))
    (cond (in_range 65 70 b) (Some (b - 65 + 10))
    (cond (in_range 97 102 b) (Some (b - 97 + 10)) None))

-- the digit of a base that a byte is
abbrev pub digit_in : ℕ → ℕ → Option ℕ
digit_in base b = elim (digit_of b) [ None ↦ None | Some d ↦ cond (nat_lt d base) (Some d) None ]

-- the value of digits of a base, behind digits of the value v
abbrev pub value_on : ℕ → ℕ → List ℕ → Option ℕ
value_on base v [] = Some v
value_on base v (b ∷ bs) = elim (digit_in base b) [ None ↦ None | Some d ↦ value_on base (v * base + d) bs ]

-- a number has a digit
abbrev pub value_in : ℕ → List ℕ → Option ℕ
value_in base [] = None
value_in base (b ∷ bs) = value_on base 0 (b ∷ bs)

abbrev pub hexadecimal : List ℕ → Bool
hexadecimal bs = slice_index bs 0 == 48 && slice_index bs 1 == 120

-- what a field is as a number
abbrev pub number_of : List ℕ → Option ℕ
number_of bs = cond (hexadecimal bs) (value_in 16 (drop 2 bs)) (value_in 10 bs)

-- A number past 32 bits, however large, counts as the first of those.
abbrev pub capped : Option ℕ → Option ℕ
capped None = None
capped (Some v) = Some (min v 4294967296)
