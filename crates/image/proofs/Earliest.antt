-- A walk finds the earliest broken rule, and of those at its place the one of the lowest number.
use Rattle.std.proofs.Common.{◌≡◌, ℕ, suc, ◌+◌, ◌<◌, ◌≤◌, Bool, true, false, cond, ◌⊎◌, List, [], ◌∷◌, length, get_or, take, Some, None, Option, sym, refl, ap, ◌∙◌, subst, inl, inr, ⊎_elim, add-zero, arith}
use Rattle.std.proofs.lemmas.Bool.{cases_lt, true≢false}
use Rattle.image.specs.Finding.{Finding, clear, fault, Tests, ◌then◌, broken, at_place, first, walk, arrive}
use Rattle.image.specs.Earliest.{Breaks, AllKept}

module _ {R : Type 0} (number : R → ℕ) where
  -- the numbers of the tests ascend from m
  abbrev pub Ascending : ℕ → Tests R → Type 0
  Ascending m [] = Unit {0}
  Ascending m (t ∷ ts) = (m ≤ number t.0) × Ascending (number t.0) ts

  pub above : (m : ℕ) (ts : Tests R) → Ascending m ts → (rule : R) → Breaks ts rule → m ≤ number rule
  above m [] a rule b = absurd b
  above m (t ∷ ts) a rule b =
      ⊎_elim (λ e. subst (λ r. m ≤ number r) e.0 a.0) (λ rest. let h = above (number t.0) ts a.1 rule rest in let k = a.0 in omega arith) b

  -- what the first broken rule of some tests says of them
  abbrev pub Told : Tests R → Option R → Type 0
  Told ts None = AllKept ts
  Told ts (Some rule) = Breaks ts rule × ((other : R) → Breaks ts other → number rule ≤ number other)

  pub told : (m : ℕ) (ts : Tests R) → Ascending m ts → Told ts (broken ts)
  told m [] a = λ rule b. b
  told m (t ∷ ts) a = go t.1 refl (broken ts) (told (number t.0) ts a.1)
    where
      go : (b : Bool) → t.1 ≡ b → (o : Option R) → Told ts o → Told (t ∷ ts) (cond b o (Some t.0))
      go true e None h = λ rule x. ⊎_elim (λ y. let z : ◌≡◌ {A = Bool} true false = sym e ∙ y.1 in absurd (true≢false z)) (h rule) x
      go true e (Some rule) h =
          (inr h.0, λ other x. ⊎_elim (λ y. let z : ◌≡◌ {A = Bool} true false = sym e ∙ y.1 in absurd (true≢false z)) (h.1 other) x)
      go false e o h =
          (inl (refl, e), λ other x. ⊎_elim (λ y. subst (λ r. number t.0 ≤ number r) y.0 (omega arith)) (λ y. above (number t.0) ts a.1 other y) x)

-- the earliest broken rule from a place on
module _ {R : Type 0} (number : R → ℕ) (asked : ℕ → Tests R) (p end : ℕ) where
  pub record BrokenFrom (rule : R) (place : ℕ) : Type 0 where
    pub start : p ≤ place
    pub within : place ≤ end
    pub breaks : Breaks (asked place) rule
    pub earliest : (i : ℕ) → p ≤ i → i < place → AllKept (asked i)
    pub lowest : (other : R) → Breaks (asked place) other → number rule ≤ number other

  abbrev pub FromOn : Finding R → Type 0
  FromOn clear = (i : ℕ) → p ≤ i → i ≤ end → AllKept (asked i)
  FromOn (fault rule place) = BrokenFrom rule place

module _ {R : Type 0} (number : R → ℕ) (asked : ℕ → Tests R) (p end : ℕ) where
  kept_here : (f : Finding R) → AllKept (asked p) → FromOn number asked (suc p) end f → FromOn number asked p end f
  kept_here clear k h = λ i l r. ⊎_elim (λ e. subst (λ j. AllKept (asked j)) e k) (λ more. h i more r) (here_or_later i l)
    where
      here_or_later : (i : ℕ) → p ≤ i → (p ≡ i) ⊎ (suc p ≤ i)
      here_or_later i l = ⊎_elim (λ less. inr (omega arith)) (λ more. inl (omega arith)) (cases_lt p i)
  kept_here (fault rule place) k h =
      record {
        start = let s = h.start in omega arith;
        within = h.within;
        breaks = h.breaks;
        earliest = λ i l r. ⊎_elim (λ less. h.earliest i less r) (λ more. let e : p ≡ i = omega arith in subst (λ j. AllKept (asked j)) e k) (cases_lt p i);
        lowest = h.lowest;
      }

  -- at its first place a finding is what the tests there tell
  found_here : p ≤ end → (rule : R) → Told number (asked p) (Some rule) → FromOn number asked p end (fault rule p)
  found_here l rule h = record { start = omega arith; within = l; breaks = h.0; earliest = λ i a b. absurd (omega arith); lowest = h.1 }

module _ {R S A : Type 0} (number : R → ℕ) (tests : S → A → Tests R) (next : S → A → S) (last : S → Tests R) (asked : ℕ → Tests R) (d : A) (m : ℕ) (ascending : (s : S) (x : A) → Ascending number m (tests s x)) (ascending_last : (s : S) → Ascending number m (last s)) where
  abbrev onwards : ℕ → S → ℕ → List A → Finding R
  onwards end s p xs = walk tests next s p xs then first end (last (arrive tests next s xs))

  pub walked : (xs : List A) (s : S) (p end : ℕ) → end ≡ p + length xs → ((i : ℕ) → i < length xs → asked (p + i) ≡ tests (arrive tests next s (take i xs)) (get_or xs i d)) → asked end ≡ last (arrive tests next s xs) → FromOn number asked p end (onwards end s p xs)
  walked [] s p end e each stop = go (broken (last s)) (told number m (last s) (ascending_last s))
    where
      go : (o : Option R) → Told number (last s) o → FromOn number asked p end (at_place end o)
      go None h = λ i l r. let same : end ≡ i = omega arith in subst (λ j. AllKept (asked j)) same (subst AllKept (sym stop) h)
      go (Some rule) h =
          let t : Told number (asked end) (Some rule) = subst (λ ts. Told number ts (Some rule)) (sym stop) h in
          record { start = omega arith; within = omega arith; breaks = t.0; earliest = λ i a b. absurd (omega arith); lowest = t.1 }
  walked (x ∷ xs) s p end e each stop =
      go (broken (tests s x)) (told number m (tests s x) (ascending s x))
      (walked xs (next s x) (suc p) end (omega arith)
      (λ i l. let k : suc p + i ≡ p + suc i = omega arith in ap asked k ∙ each (suc i) (omega arith))
      stop)
    where
      here : asked p ≡ tests s x
      here = ap asked (sym (add-zero p)) ∙ each 0 (omega arith)

      go : (o : Option R) → Told number (tests s x) o → FromOn number asked (suc p) end (onwards end (next s x) (suc p) xs) → FromOn number asked p end ((at_place p o then walk tests next (next s x) (suc p) xs) then first end (last (arrive tests next (next s x) xs)))
      go None h rest = kept_here number asked p end (onwards end (next s x) (suc p) xs) (subst AllKept (sym here) h) rest
      go (Some rule) h rest = found_here number asked p end (omega arith) rule (subst (λ ts. Told number ts (Some rule)) (sym here) h)
