-- What tests, a finding and a walk say when they are clear.
use Rattle.std.proofs.Common.{◌≡◌, ℕ, suc, ◌<◌, ◌≤◌, Bool, true, false, cond, ◌&&◌, T, eqb, ltb, leb, ◌↔◌, List, [], ◌∷◌, Some, refl, arith, le→leb, eqb→eq, ltb→lt, lt→ltb, leb→le}
use lib.Dec.{eqb_refl}
use Rattle.image.specs.Finding.{Finding, clear, fault, Tests, ◌then◌, broken, at_place, first, walk}
use Rattle.rules.specs.LaidOut.{Every}

-- ---- tests of numbers and pairs of tests

pub both : (x y : Bool) → T (x && y) ↔ (T x × T y)
both true y = (λ h. (tt, h), λ h. h.1)
both false y = (λ h. absurd h, λ h. absurd h.0)

pub lt_iff : (a b : ℕ) → T (ltb a b) ↔ (a < b)
lt_iff a b = (ltb→lt a b, lt→ltb a b)

pub le_iff : (a b : ℕ) → T (leb a b) ↔ (a ≤ b)
le_iff a b = (leb→le a b, le→leb a b)

pub eq_iff : (a b : ℕ) → T (eqb a b) ↔ (a ≡ b)
eq_iff a b = (eqb→eq a b, λ e. rw e (eqb_refl b))

-- ---- equivalences

pub iff_same : {A : Type 0} → A ↔ A
iff_same = (λ a. a, λ a. a)

pub iff_then : {A B C : Type 0} → A ↔ B → B ↔ C → A ↔ C
iff_then f g = (λ a. g.0 (f.0 a), λ c. f.1 (g.1 c))

pub iff_pair : {A B C D : Type 0} → A ↔ B → C ↔ D → (A × C) ↔ (B × D)
iff_pair f g = (λ h. (f.0 h.0, g.0 h.1), λ h. (f.1 h.0, g.1 h.1))

-- ---- the rules of a list of tests, one by one

pub one_rule : {A B : Type 0} → A ↔ B → (A × Unit {0}) ↔ B
one_rule f = (λ h. f.0 h.0, λ b. (f.1 b, tt))

pub two_rules : {A B C D : Type 0} → A ↔ B → C ↔ D → (A × (C × Unit {0})) ↔ (B × D)
two_rules f g = iff_pair f (one_rule g)

pub three_rules : {A B C D E F : Type 0} → A ↔ B → C ↔ D → E ↔ F → (A × (C × (E × Unit {0}))) ↔ (B × D × F)
three_rules f g h = (λ t. (f.0 t.0, g.0 t.1.0, h.0 t.1.1.0), λ t. (f.1 t.0, (g.1 t.1, (h.1 t.2, tt))))

-- ---- findings

module _ {R : Type 0} where
  pub then_clear : (x y : Finding R) → (x then y ≡ clear) ↔ ((x ≡ clear) × (y ≡ clear))
  then_clear clear y = (λ e. (refl, e), λ h. h.1)
  then_clear (fault rule place) y = (λ e. let z : ◌≡◌ {A = ℕ} 0 1 = cc in absurd (omega arith), λ h. h.0)

  abbrev pub Kept : Tests R → Type 0
  Kept ts = Every (λ t. T t.1) ts

  pub first_clear : (place : ℕ) (ts : Tests R) → (first place ts ≡ clear) ↔ Kept ts
  first_clear place [] = (λ e. tt, λ h. refl)
  first_clear place (t ∷ ts) = go t.1 (first_clear place ts)
    where
      go : (b : Bool) → (first place ts ≡ clear) ↔ Kept ts → (at_place place (cond b (broken ts) (Some t.0)) ≡ clear) ↔ (T b × Kept ts)
      go true f = (λ e. (tt, f.0 e), λ h. f.1 h.1)
      go false f = (λ e. let z : ◌≡◌ {A = ℕ} 0 1 = cc in absurd (omega arith), λ h. absurd h.0)

-- a walk is clear exactly where each element has what is asked of it in the state that those before it left
module _ {R S A : Type 0} (tests : S → A → Tests R) (next : S → A → S) where
  abbrev pub Passes : (S → A → Type 0) → S → List A → Type 0
  Passes P s [] = Unit {0}
  Passes P s (x ∷ xs) = P s x × Passes P (next s x) xs

  pub walk_clear : (P : S → A → Type 0) → ((s : S) (x : A) → Kept (tests s x) ↔ P s x) → (s : S) (place : ℕ) (xs : List A) → (walk tests next s place xs ≡ clear) ↔ Passes P s xs
  walk_clear P f s place [] = (λ e. tt, λ h. refl)
  walk_clear P f s place (x ∷ xs) =
      iff_then (then_clear (first place (tests s x)) (walk tests next (next s x) (suc place) xs))
      (iff_pair (iff_then (first_clear place (tests s x)) (f s x)) (walk_clear P f (next s x) (suc place) xs))
