-- What holds of every element of a list.
use mathlib.Core.List.{List, [], ◌∷◌}
use Prim.Native.Nat.{ℕ, zero, suc}
use lib.ListN.{get_or}
use Rattle.rules.specs.LaidOut.{Every}

-- at any place, also past the end, where it holds of the default
pub every_past : {A : Type 0} (P : A → Type 0) (xs : List A) (n : ℕ) (d : A) → Every P xs → P d → P (get_or xs n d)
every_past P [] n d h q = q
every_past P (x ∷ xs) zero d h q = h.0
every_past P (x ∷ xs) (suc n) d h q = every_past P xs n d h.1 q
