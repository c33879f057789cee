-- The tests of sorts, contexts and fit, each with the rule that it decides.
use Rattle.std.proofs.Common.{◌≡◌, ℕ, zero, suc, Bool, true, false, not, ◌||◌, T, eqb, ◌↔◌, List, [], ◌∷◌, length, get_or, refl, ap, eqb→eq}
use lib.Dec.{eqb_refl}
use Rattle.labels.specs.Meaning.{Meaning}
use Rattle.image.specs.declared.ty.Sort.{Sort}
use Rattle.image.specs.declared.ty.Sort.TheVariants.{Integer, Pointer, Code}
use Rattle.image.specs.declared.ty.Ty.{Ty}
use Rattle.image.specs.declared.ty.Ty.TheVariants.{Nonsense, Typed}
use Rattle.image.specs.declared.head.Context.{Context}
use Rattle.image.specs.declared.head.Context.TheVariants.{Empty, Raised}
use Rattle.rules.specs.Program.{Types}
use Rattle.rules.specs.Types.{reg, slot, label_of}
use Rattle.rules.specs.Fit.{same_sort, is_integer, alike, same_context, is_empty, raised_to, fit_sort, fit_label, pairwise, same_depth, fit_sorts, fit_labels}
use Rattle.rules.specs.WellTyped.{Fit, Fits}
use Rattle.rules.proofs.Tests.{both, eq_iff}

pub same_sort_refl : (s : Sort) → T (same_sort s s)
same_sort_refl Integer = tt
same_sort_refl (Pointer s) = eqb_refl s
same_sort_refl (Code s) = eqb_refl s

pub same_sort_eq : (s o : Sort) → T (same_sort s o) → s ≡ o
same_sort_eq Integer Integer h = refl
same_sort_eq Integer (Pointer u) h = absurd h
same_sort_eq Integer (Code u) h = absurd h
same_sort_eq (Pointer s) Integer h = absurd h
same_sort_eq (Pointer s) (Pointer u) h = ap (λ n. Pointer n) (eqb→eq s u h)
same_sort_eq (Pointer s) (Code u) h = absurd h
same_sort_eq (Code s) Integer h = absurd h
same_sort_eq (Code s) (Pointer u) h = absurd h
same_sort_eq (Code s) (Code u) h = ap (λ n. Code n) (eqb→eq s u h)

-- a test of a type, with what is asked of its label beside it
pub integer_iff : (P : ℕ → Type 0) (t : Ty) → (T (is_integer t) × P (label_of t)) ↔ ((x : ℕ) × (t ≡ Typed Integer x) × P x)
integer_iff P t = (λ h. there t h.0 h.1, λ h. rw h.1 (tt, h.2))
  where
    there : (t : Ty) → T (is_integer t) → P (label_of t) → (x : ℕ) × (t ≡ Typed Integer x) × P x
    there Nonsense h q = absurd h
    there (Typed Integer x) h q = (x, refl, q)
    there (Typed (Pointer s) x) h q = absurd h
    there (Typed (Code s) x) h q = absurd h

pub alike_is : (P : ℕ → ℕ → Type 0) (t u : Ty) → T (alike t u) → P (label_of t) (label_of u) → (y z : ℕ) × (o : Sort) × (t ≡ Typed o y) × (u ≡ Typed o z) × P y z
alike_is P Nonsense u h q = absurd h
alike_is P (Typed s y) Nonsense h q = absurd h
alike_is P (Typed s y) (Typed o z) h q = (y, z, o, ap (λ v. Typed v y) (same_sort_eq s o h), refl, q)

pub context_iff : (k j : Context) → T (same_context k j) ↔ (k ≡ j)
context_iff k j = (there k j, λ e. rw e (same j))
  where
    same : (k : Context) → T (same_context k k)
    same Empty = tt
    same (Raised l n) = (both (eqb l l) (eqb n n)).1 (eqb_refl l, eqb_refl n)

    there : (k j : Context) → T (same_context k j) → k ≡ j
    there Empty Empty h = refl
    there Empty (Raised l n) h = absurd h
    there (Raised l n) Empty h = absurd h
    there (Raised l n) (Raised i o) h =
        let p = (both (eqb l i) (eqb n o)).0 h in
        let e = eqb→eq l i p.0 in
        let f = eqb→eq n o p.1 in
        cc

pub empty_iff : (k : Context) → T (is_empty k) ↔ (k ≡ Empty)
empty_iff k = (there k, λ e. rw e tt)
  where
    there : (k : Context) → T (is_empty k) → k ≡ Empty
    there Empty h = refl
    there (Raised l n) h = absurd h

pub raised_iff : (n : ℕ) (k : Context) → T (raised_to n k) ↔ ((l : ℕ) × (k ≡ Raised l n))
raised_iff n k = (there k, λ h. rw h.1 (eqb_refl n))
  where
    there : (k : Context) → T (raised_to n k) → (l : ℕ) × (k ≡ Raised l n)
    there Empty h = absurd h
    there (Raised l o) h = (l, ap (λ v. Raised l v) (eqb→eq o n h))

-- ---- fit

module _ (m : Meaning) where
  fit_is : (h w : Ty) → T (fit_sort h w) → T (fit_label m h w) → Fit m h w
  fit_is h Nonsense a b = tt
  fit_is Nonsense (Typed s k) a b = absurd a
  fit_is (Typed o l) (Typed s k) a b = (l, ap (λ v. Typed v l) (same_sort_eq o s a), go (same_sort o s) a b)
    where
      go : (c : Bool) → T c → T (not c || m.below l k) → T (m.below l k)
      go true a b = b
      go false a b = absurd a

  fit_sorted : (h w : Ty) → Fit m h w → T (fit_sort h w)
  fit_sorted h Nonsense f = tt
  fit_sorted h (Typed s k) f = rw f.1 (same_sort_refl s)

  fit_labelled : (h w : Ty) → Fit m h w → T (fit_label m h w)
  fit_labelled h Nonsense f = tt
  fit_labelled h (Typed s k) f = rw f.1 (go (same_sort s s))
    where
      go : (c : Bool) → T (not c || m.below f.0 k)
      go true = f.2
      go false = tt

-- what a test of pairs says of each place, where it asks nothing of nonsense
module _ (f : Ty → Ty → Bool) where
  pairwise_at : ((t : Ty) → T (f t Nonsense)) → (xs ys : List Ty) → T (pairwise f xs ys) → (r : ℕ) → T (f (get_or xs r Nonsense) (get_or ys r Nonsense))
  pairwise_at any xs [] h r = any (get_or xs r Nonsense)
  pairwise_at any [] (w ∷ ws) h zero = ((both (f Nonsense w) (pairwise f [] ws)).0 h).0
  pairwise_at any [] (w ∷ ws) h (suc r) = pairwise_at any [] ws ((both (f Nonsense w) (pairwise f [] ws)).0 h).1 r
  pairwise_at any (x ∷ xs) (w ∷ ws) h zero = ((both (f x w) (pairwise f xs ws)).0 h).0
  pairwise_at any (x ∷ xs) (w ∷ ws) h (suc r) = pairwise_at any xs ws ((both (f x w) (pairwise f xs ws)).0 h).1 r

  pairwise_from : (xs ys : List Ty) → ((r : ℕ) → T (f (get_or xs r Nonsense) (get_or ys r Nonsense))) → T (pairwise f xs ys)
  pairwise_from xs [] h = tt
  pairwise_from [] (w ∷ ws) h = (both (f Nonsense w) (pairwise f [] ws)).1 (h 0, pairwise_from [] ws (λ r. h (suc r)))
  pairwise_from (x ∷ xs) (w ∷ ws) h = (both (f x w) (pairwise f xs ws)).1 (h 0, pairwise_from xs ws (λ r. h (suc r)))

-- ---- the fit of all types

module _ (m : Meaning) (g w : Types) where
  sorts : (xs ys : List Ty) → T (pairwise fit_sort xs ys) ↔ ((r : ℕ) → T (fit_sort (get_or xs r Nonsense) (get_or ys r Nonsense)))
  sorts xs ys = (pairwise_at fit_sort (λ t. tt) xs ys, pairwise_from fit_sort xs ys)

  labels : (xs ys : List Ty) → T (pairwise (fit_label m) xs ys) ↔ ((r : ℕ) → T (fit_label m (get_or xs r Nonsense) (get_or ys r Nonsense)))
  labels xs ys = (pairwise_at (fit_label m) (λ t. tt) xs ys, pairwise_from (fit_label m) xs ys)

  abbrev depths : Bool
  depths = same_depth g w

  abbrev reg_sorts : Bool
  reg_sorts = pairwise fit_sort g.registers w.registers

  abbrev slot_sorts : Bool
  slot_sorts = pairwise fit_sort g.slots w.slots

  abbrev reg_labels : Bool
  reg_labels = pairwise (fit_label m) g.registers w.registers

  abbrev slot_labels : Bool
  slot_labels = pairwise (fit_label m) g.slots w.slots

  pub fits_is : T (fit_labels m g w) → T (same_depth g w) → T (fit_sorts g w) → Fits m g w
  fits_is b dd a =
      let (rs, ss) = (both reg_sorts slot_sorts).0 a in
      let (rl, sl) = (both reg_labels (not depths || slot_labels)).0 b in
      record {
        depth = eqb→eq (length g.slots) (length w.slots) dd;
        registers = λ r. fit_is m (reg g r) (reg w r) ((sorts g.registers w.registers).0 rs r) ((labels g.registers w.registers).0 rl r);
        slots = λ r. fit_is m (slot g r) (slot w r) ((sorts g.slots w.slots).0 ss r) ((labels g.slots w.slots).0 (go depths slot_labels dd sl) r);
      }
    where
      go : (d s : Bool) → T d → T (not d || s) → T s
      go true s d h = h
      go false s d h = absurd d

  pub fits_deep : Fits m g w → T (same_depth g w)
  fits_deep f = (eq_iff (length g.slots) (length w.slots)).1 f.depth

  pub fits_sorted : Fits m g w → T (fit_sorts g w)
  fits_sorted f =
      (both reg_sorts slot_sorts).1 (
        (sorts g.registers w.registers).1 (λ r. fit_sorted m (reg g r) (reg w r) (f.registers r)),
        (sorts g.slots w.slots).1 (λ r. fit_sorted m (slot g r) (slot w r) (f.slots r)),
      )

  pub fits_labelled : Fits m g w → T (fit_labels m g w)
  fits_labelled f =
      (both reg_labels (not depths || slot_labels)).1 (
        (labels g.registers w.registers).1 (λ r. fit_labelled m (reg g r) (reg w r) (f.registers r)),
        go depths slot_labels ((labels g.slots w.slots).1 (λ r. fit_labelled m (slot g r) (slot w r) (f.slots r))),
      )
    where
      go : (d s : Bool) → T s → T (not d || s)
      go true s h = h
      go false s h = tt
