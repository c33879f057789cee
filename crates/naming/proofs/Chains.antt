-- A chain that asks one thing after another, and stops at the first fault.
use Rattle.std.proofs.Common.{◌≡◌, List, [], ◌∷◌, Some, None, Ok, Err, Option, Result, sym, refl, ap, ◌∙◌, subst}
use Rattle.std.specs.Prelude.{MatchOption, IsErr, IsErrAnd}
use Rattle.std.specs.Fn.{Called}
use Rattle.std.specs.List.{FoldsTo}
use Rattle.std.specs.Iterator.{AlwaysYields, Yields, YieldsThen}
use Rattle.std.proofs.lemmas.Iterator.{YieldsList}
use denote.Param.Members.{Mut}
use Rattle.image.specs.declared.fault.Fault.{Fault}
use Rattle.image.specs.Finding.{Finding, clear, ◌then◌}
use Rattle.image.specs.Faults.{answered}

-- the first finding in a list of things, each with its own
abbrev pub earliest : {B R : Type 0} → (B → Finding R) → List B → Finding R
earliest h [] = clear
earliest h (x ∷ xs) = h x then earliest h xs

module _ {A F R E : Type 0} (g : Mut F (A × Unit {0}) (Result (Unit {0}) (Fault R))) (error : E → Fault R) where
  -- a call after which the chain goes on
  abbrev pub Turn : F → A → F → Type 0
  Turn p x q = (w : Result (Unit {0}) (Fault R)) × Called g p (x, tt) w q × (w ≡ Ok tt)

  -- the chain ended, or a call stopped it
  abbrev pub Last : F → Result (Unit {0}) (Fault R) → Option A → Type 0
  Last j r o = MatchOption o (r ≡ Ok tt) (λ x. (w : Result (Unit {0}) (Fault R)) × (k : F) × (e : E) × Called g j (x, tt) w k × (w ≡ Err (error e)) × (IsErr r × IsErrAnd r (λ y. y ≡ error e)))

same_fault : {R : Type 0} (f : Fault R) (r w : Result (Unit {0}) (Fault R)) → w ≡ Err f → IsErrAnd r (λ y. y ≡ f) → (y : Finding R) → answered r ≡ (answered w then y)
same_fault f (Ok x) w b k y = absurd k
same_fault f (Err z) w b k y = rw (b, k) refl

module _ {S A B F R E : Type 0} (steps : S → Option A → S → Type 0) (v : A → B) (g : Mut F (A × Unit {0}) (Result (Unit {0}) (Fault R))) (f : F) (error : E → Fault R) (h : B → Finding R)
    (calls : (x : A) (r : Result (Unit {0}) (Fault R)) (q : F) → Called g f (x, tt) r q → (q ≡ f) × (answered r ≡ h (v x))) where
  walked : (all : List B) (xs : List A) (s t u : S) (j : F) (o : Option A) (r : Result (Unit {0}) (Fault R)) → AlwaysYields steps v s all → Yields steps s xs t → FoldsTo (Turn g error) f xs j → steps t o u → Last g error j r o → answered r ≡ earliest h all
  walked [] [] s t u j None r e y c p d = ap answered d
  walked [] [] s t u j (Some x) r e y c p d = absurd (e x u (subst (λ k. steps k (Some x) u) (sym y) p))
  walked (z ∷ all) [] s t u j None r e y c p d = absurd (e.0 u (subst (λ k. steps k None u) (sym y) p))
  walked (z ∷ all) [] s t u j (Some x) r e y c p d =
      let at : v x ≡ z = (e.1 x u (subst (λ k. steps k (Some x) u) (sym y) p)).0 in
      let call = calls x d.0 d.1 (subst (λ k. Called g k (x, tt) d.0 d.1) (sym c) d.3) in
      same_fault (error d.2) r d.0 d.4 d.5.1 (earliest h all) ∙ ap (λ y. y then earliest h all) (call.1 ∙ ap h at)
  walked [] (x ∷ xs) s t u j o r e y c p d = absurd (e x y.0 y.1)
  walked (z ∷ all) (x ∷ xs) s t u j o r e y c p d =
      let at : v x ≡ z = (e.1 x y.0 y.1).0 in
      let call = calls x c.1.0 c.0 c.1.1 in
      walked all xs y.0 t u j o r (e.1 x y.0 y.1).1 y.2 (subst (λ k. FoldsTo (Turn g error) k xs j) call.0 c.2) p d
      ∙ ap (λ y. y then earliest h all) (sym (ap answered c.1.2) ∙ call.1 ∙ ap h at)

  pub first_from_try_for_each : (s u : S) (all : List B) (r : Result (Unit {0}) (Fault R)) → (xs : List A) × (o : Option A) × (j : F) × YieldsThen steps s xs o u × FoldsTo (Turn g error) f xs j × Last g error j r o → YieldsList steps v s all → answered r ≡ earliest h all
  first_from_try_for_each s u all r d e = walked all d.0 s d.3.0 u d.2 d.1 r e.runs d.3.1 d.4 d.3.2 d.5
