-- What a pass over the words finds: nothing, or a broken rule and the place of its word. A pass goes word by word from the front, and
-- gives each word its tests in ascending order of the rules' numbers: so the earliest word answers, and there the lowest number.
use Rattle.std.specs.Prelude.{ℕ, suc, Bool, true, false, cond, List, [], ◌∷◌, Some, None, Option}

pub data Finding (R : Type 0) : Type 0 where
  clear : Finding R
  fault : R → ℕ → Finding R

abbrev pub is_clear : {R : Type 0} → Finding R → Bool
is_clear clear = true
is_clear (fault rule place) = false

-- the first finding, and where that is clear the second
abbrev pub ◌then◌ : {R : Type 0} → Finding R → Finding R → Finding R
clear then y = y
(fault rule place) then y = fault rule place

infixr 40 ◌then◌
-- tests: each a rule, and whether it is kept
abbrev pub Tests : Type 0 → Type 0
Tests R = List (R × Bool)

-- the first rule that is not kept
abbrev pub broken : {R : Type 0} → Tests R → Option R
broken [] = None
broken (t ∷ ts) = cond t.1 (broken ts) (Some t.0)

-- a broken rule with its place
abbrev pub at_place : {R : Type 0} → ℕ → Option R → Finding R
at_place place None = clear
at_place place (Some rule) = fault rule place

abbrev pub first : {R : Type 0} → ℕ → Tests R → Finding R
first place ts = at_place place (broken ts)

-- A walk over a list that starts at a place, one place an element: the tests of each element in the state that those before it left.
module _ {R S A : Type 0} (tests : S → A → Tests R) (next : S → A → S) where
  abbrev pub walk : S → ℕ → List A → Finding R
  walk s place [] = clear
  walk s place (x ∷ xs) = first place (tests s x) then walk (next s x) (suc place) xs

  -- the state that the walk ends in
  abbrev pub arrive : S → List A → S
  arrive s [] = s
  arrive s (x ∷ xs) = arrive (next s x) xs
