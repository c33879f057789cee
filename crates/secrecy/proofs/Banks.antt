-- A bank stays a bank through a store, a push, a pop and a change to types that it fits.
use mathlib.Core.Path.{◌≡◌, refl, ◌∙◌}
use mathlib.Core.List.{List, ◌++◌}
use Prim.Native.Nat.{ℕ}
use native.Mathlib.Omega.{arith}
use lib.ListN.{length, get_or, set, drop, replicate, length-set, length-drop, length-append, length-replicate}
use Rattle.image.specs.declared.ty.Ty.{Ty}
use Rattle.image.specs.declared.ty.Ty.TheVariants.{Nonsense}
use Rattle.rules.specs.WellTyped.{Fit}
use Rattle.secrecy.proofs.Lists.{each_set, each_store, each_push, each_pop, Agree, Kept}
use Rattle.secrecy.proofs.Setting.{Setting, Holds, Labelled, Low, Bank}
use Rattle.secrecy.proofs.Labels.{holds_fit, low_fit}

module _ (w : Setting) where
  abbrev Good : Ty → ℕ → ℕ → Type 0
  Good t v u = Holds w.program t v

  abbrev Fair : Ty → ℕ → ℕ → Type 0
  Fair t v u = Labelled w.meaning t

  module _ {ts : List Ty} {vs : List ℕ} (b : Bank w ts vs) where
    pub bank_set : (a : ℕ) (t : Ty) (v : ℕ) → Labelled w.meaning t → Holds w.program t v → Bank w (set ts a t) (set vs a v)
    bank_set a t v l h = record {
      count = simp length-set b.count;
      holds = each_set Good ts vs vs a t v v b.count b.count b.holds h;
      labels = each_set Fair ts vs vs a t v v b.count b.count b.labels l;
    }

    pub bank_store : (a v : ℕ) → Holds w.program (get_or ts a Nonsense) v → Bank w ts (set vs a v)
    bank_store a v h = record {
      count = simp length-set b.count;
      holds = each_store Good ts vs vs a v v b.count b.count b.holds h;
      labels = b.labels;
    }

    pub bank_push : (n : ℕ) → Bank w (replicate n Nonsense ++ ts) (replicate n 0 ++ vs)
    bank_push n = record {
      count = simp (length-append, length-replicate) (omega (arith, b.count));
      holds = each_push Good ts vs vs n b.holds tt;
      labels = each_push Fair ts vs vs n b.labels tt;
    }

    pub bank_pop : (n : ℕ) → Bank w (drop n ts) (drop n vs)
    bank_pop n = record {
      count = simp length-drop (omega (arith, b.count));
      holds = each_pop Good ts vs vs n b.holds;
      labels = each_pop Fair ts vs vs n b.labels;
    }

  -- types ts, read as types us
  module _ (ts us : List Ty) (f : (r : ℕ) → Fit w.meaning (get_or ts r Nonsense) (get_or us r Nonsense)) where
    pub bank_fit : {vs : List ℕ} → length ts ≡ length us → ((r : ℕ) → Labelled w.meaning (get_or us r Nonsense)) → Bank w ts vs → Bank w us vs
    bank_fit {vs} e l b = record {
      count = b.count ∙ e;
      holds = λ r. holds_fit w (get_or ts r Nonsense) (get_or us r Nonsense) (get_or vs r 0) (f r) (b.holds r);
      labels = l;
    }

    pub agree_fit : {vs vs' : List ℕ} → Agree (Low w) ts vs vs' → Agree (Low w) us vs vs'
    agree_fit h = record { same = λ r q. h.same r (low_fit w (get_or ts r Nonsense) (get_or us r Nonsense) (f r) q) }

    pub kept_fit : {vs : List ℕ} → length ts ≡ length us → Kept (Low w) ts vs us vs
    kept_fit e = record { was = λ c q. (c, omega arith, low_fit w (get_or ts c Nonsense) (get_or us c Nonsense) (f c) q, refl) }
