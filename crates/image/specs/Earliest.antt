-- "The earliest word answers, and there the lowest number", said without a walk: of all places where something is asked.
use Rattle.std.specs.Prelude.{◌≡◌, ℕ, ◌<◌, ◌≤◌, false, ◌⊎◌, [], ◌∷◌}
use Rattle.image.specs.Finding.{Finding, clear, fault, Tests}

-- the tests name the rule, and it is not kept
abbrev pub Breaks : {R : Type 0} → Tests R → R → Type 0
Breaks [] rule = ⊥
Breaks (t ∷ ts) rule = ((t.0 ≡ rule) × (t.1 ≡ false)) ⊎ Breaks ts rule

abbrev pub AllKept : {R : Type 0} → Tests R → Type 0
AllKept {R} ts = (rule : R) → Breaks ts rule → ⊥

-- what is asked at each place up to the end, and the number of each rule
module _ {R : Type 0} (number : R → ℕ) (asked : ℕ → Tests R) (end : ℕ) where
  pub record FirstBroken (rule : R) (place : ℕ) : Type 0 where
    pub within : place ≤ end
    pub breaks : Breaks (asked place) rule
    pub earliest : (i : ℕ) → i < place → AllKept (asked i)
    pub lowest : (other : R) → Breaks (asked place) other → number rule ≤ number other

  abbrev pub EarliestAndLowest : Finding R → Type 0
  EarliestAndLowest clear = (i : ℕ) → i ≤ end → AllKept (asked i)
  EarliestAndLowest (fault rule place) = FirstBroken rule place
