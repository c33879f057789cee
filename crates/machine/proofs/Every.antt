-- What holds of every element of a list, at one of them.
use Rattle.std.proofs.Common.{ℕ, zero, suc, ◌<◌, List, [], ◌∷◌, length, get_or, not-suc-le-zero, arith}
use Rattle.rules.specs.LaidOut.{Every}

pub every_at : {A : Type 0} (P : A → Type 0) (xs : List A) (n : ℕ) (d : A) → Every P xs → n < length xs → P (get_or xs n d)
every_at P [] n d h i = absurd (not-suc-le-zero i)
every_at P (x ∷ xs) zero d h i = h.0
every_at P (x ∷ xs) (suc n) d h i = every_at P xs n d h.1 (omega arith)
