-- A bank is a list of words with a list of types beside it: the registers, the stack or the cells. What a store, a push and a
-- pop do to what is known of each place of a bank.
use mathlib.Core.Path.{◌≡◌, refl, sym, ◌∙◌}
use mathlib.Core.List.{List, ◌++◌}
use Prim.Native.Nat.{ℕ, zero, suc, ◌+◌, ◌≤◌, ◌<◌}
use native.Mathlib.Omega.{arith}
use lib.ListN.{length, get_or, set, drop, replicate, length-set, length-drop}
use lib.Seq.{get_or-set_same, get_or-set_other, get_or-drop, set_out, set-get_or}
use Rattle.image.specs.declared.ty.Ty.{Ty}
use Rattle.image.specs.declared.ty.Ty.TheVariants.{Nonsense}
use Rattle.machine.proofs.Holding.{Spot, here, past, other, spot}

-- ---- what Q says of each place of two banks of one type, of its type and its two words

abbrev pub Each : (Ty → ℕ → ℕ → Type 0) → List Ty → List ℕ → List ℕ → Type 0
Each Q ts vs us = (r : ℕ) → Q (get_or ts r Nonsense) (get_or vs r 0) (get_or us r 0)

module _ (Q : Ty → ℕ → ℕ → Type 0) (ts : List Ty) (vs us : List ℕ) where
  pub each_set :
      (a : ℕ) (t : Ty) (v u : ℕ) → length vs ≡ length ts → length us ≡ length ts → Each Q ts vs us → Q t v u →
      Each Q (set ts a t) (set vs a v) (set us a u)
  each_set a t v u e f h q r = go (spot (length ts) a r)
    where
      go : Spot (length ts) a r → Q (get_or (set ts a t) r Nonsense) (get_or (set vs a v) r 0) (get_or (set us a u) r 0)
      go (here i lt) =
          let lv : a < length vs = omega arith in
          let lu : a < length us = omega arith in
          rw (i, get_or-set_same ts a t Nonsense lt, get_or-set_same vs a v 0 lv, get_or-set_same us a u 0 lu) q
      go (past le) =
          let lv : length vs ≤ a = omega arith in
          let lu : length us ≤ a = omega arith in
          rw (set_out ts a t le, set_out vs a v lv, set_out us a u lu) (h r)
      go (other n) = rw (get_or-set_other ts a r t Nonsense n, get_or-set_other vs a r v 0 n, get_or-set_other us a r u 0 n) (h r)

  -- a store that leaves the types as they are
  pub each_store :
      (a v u : ℕ) → length vs ≡ length ts → length us ≡ length ts → Each Q ts vs us → Q (get_or ts a Nonsense) v u → Each Q ts (set vs a v) (set us a u)
  each_store a v u e f h q = rw (set-get_or ts a Nonsense) at (each_set a (get_or ts a Nonsense) v u e f h q)

  pub each_push : (n : ℕ) → Each Q ts vs us → Q Nonsense 0 0 → Each Q (replicate n Nonsense ++ ts) (replicate n 0 ++ vs) (replicate n 0 ++ us)
  each_push zero h q r = h r
  each_push (suc n) h q zero = q
  each_push (suc n) h q (suc r) = each_push n h q r

  pub each_pop : (n : ℕ) → Each Q ts vs us → Each Q (drop n ts) (drop n vs) (drop n us)
  each_pop n h r = rw (get_or-drop n ts r Nonsense, get_or-drop n vs r 0, get_or-drop n us r 0) (h (n + r))

-- ---- two banks of one type hold the same words where the type is in P

pub record Agree (P : Ty → Type 0) (ts : List Ty) (vs us : List ℕ) : Type 0 where
  pub same : (r : ℕ) → P (get_or ts r Nonsense) → get_or vs r 0 ≡ get_or us r 0

module _ {P : Ty → Type 0} {ts : List Ty} {vs us : List ℕ} (h : Agree P ts vs us) where
  pub agree_set :
      (a : ℕ) (t : Ty) (v u : ℕ) → length vs ≡ length ts → length us ≡ length ts → (P t → v ≡ u) → Agree P (set ts a t) (set vs a v) (set us a u)
  agree_set a t v u e f q = record { same = each_set (λ t v u. P t → v ≡ u) ts vs us a t v u e f h.same q }

  pub agree_store :
      (a v u : ℕ) → length vs ≡ length ts → length us ≡ length ts → (P (get_or ts a Nonsense) → v ≡ u) → Agree P ts (set vs a v) (set us a u)
  agree_store a v u e f q = record { same = each_store (λ t v u. P t → v ≡ u) ts vs us a v u e f h.same q }

  pub agree_push : (n : ℕ) → Agree P (replicate n Nonsense ++ ts) (replicate n 0 ++ vs) (replicate n 0 ++ us)
  agree_push n = record { same = each_push (λ t v u. P t → v ≡ u) ts vs us n h.same (λ q. refl) }

  pub agree_pop : (n : ℕ) → Agree P (drop n ts) (drop n vs) (drop n us)
  agree_pop n = record { same = each_pop (λ t v u. P t → v ≡ u) ts vs us n h.same }

-- ---- a bank that changes: a place of the later one whose type is in P was there before, with its word, at the same height from
-- the bottom, and its type was in P

pub record Kept (P : Ty → Type 0) (ts : List Ty) (vs : List ℕ) (ts' : List Ty) (vs' : List ℕ) : Type 0 where
  pub was : (c : ℕ) → P (get_or ts' c Nonsense) → (b : ℕ) × (b + length ts' ≡ c + length ts) × P (get_or ts b Nonsense) × (get_or vs b 0 ≡ get_or vs' c 0)

pub kept_then : {P : Ty → Type 0} {ts ts' ts'' : List Ty} {vs vs' vs'' : List ℕ} → Kept P ts vs ts' vs' → Kept P ts' vs' ts'' vs'' → Kept P ts vs ts'' vs''
kept_then {P} {ts} {ts'} {ts''} {vs} {vs'} {vs''} h k = record { was = back }
  where
    back : (c : ℕ) → P (get_or ts'' c Nonsense) → (b : ℕ) × (b + length ts'' ≡ c + length ts) × P (get_or ts b Nonsense) × (get_or vs b 0 ≡ get_or vs'' c 0)
    back c q =
        let (b, e, q', v) = k.was c q in
        let (a, e', q'', v') = h.was b q' in
        (a, omega arith, q'', v' ∙ v)

-- two runs from banks that agree, each of which changed its bank in its own way: where the types came out alike, they agree
pub kept_both :
    {P : Ty → Type 0} {ts ts' : List Ty} {vs us vs' us' : List ℕ} → Agree P ts vs us → Kept P ts vs ts' vs' → Kept P ts us ts' us' →
    Agree P ts' vs' us'
kept_both {P} {ts} {ts'} {vs} {us} {vs'} {us'} h k l = record { same = now }
  where
    now : (c : ℕ) → P (get_or ts' c Nonsense) → get_or vs' c 0 ≡ get_or us' c 0
    now c q =
        let (b, e, q', v) = k.was c q in
        let (a, f, q'', u) = l.was c q in
        let i : b ≡ a = omega arith in
        sym v ∙ h.same b q' ∙ rw i u

module _ {P : Ty → Type 0} (ts : List Ty) (vs : List ℕ) where
  pub kept_all : Kept P ts vs ts vs
  kept_all = record { was = λ c h. (c, refl, h, refl) }

  pub kept_set : (a : ℕ) (t : Ty) (v : ℕ) → length vs ≡ length ts → (P t → ⊥) → Kept P ts vs (set ts a t) (set vs a v)
  kept_set a t v e n = record { was = λ c q. back c q (spot (length ts) a c) }
    where
      back :
          (c : ℕ) → P (get_or (set ts a t) c Nonsense) → Spot (length ts) a c →
          (b : ℕ) × (b + length (set ts a t) ≡ c + length ts) × P (get_or ts b Nonsense) × (get_or vs b 0 ≡ get_or (set vs a v) c 0)
      back c q (here i lt) =
          let q' : P (get_or (set ts a t) a Nonsense) = rw i at q in
          absurd (n (rw (get_or-set_same ts a t Nonsense lt) at q'))
      back c q (past le) =
          let lv : length vs ≤ a = omega arith in
          (c, simp length-set, (rw (set_out ts a t le) at q), rw (set_out vs a v lv))
      back c q (other i) = (c, simp length-set, (rw (get_or-set_other ts a c t Nonsense i) at q), rw (get_or-set_other vs a c v 0 i))

  pub kept_store : (a v : ℕ) → length vs ≡ length ts → (P (get_or ts a Nonsense) → ⊥) → Kept P ts vs ts (set vs a v)
  kept_store a v e n = rw (set-get_or ts a Nonsense) at (kept_set a (get_or ts a Nonsense) v e n)

  pub kept_push : (n : ℕ) → (P Nonsense → ⊥) → Kept P ts vs (replicate n Nonsense ++ ts) (replicate n 0 ++ vs)
  kept_push n h = record { was = back n }
    where
      back :
          (n c : ℕ) → P (get_or (replicate n Nonsense ++ ts) c Nonsense) →
          (b : ℕ) × (b + length (replicate n Nonsense ++ ts) ≡ c + length ts) × P (get_or ts b Nonsense) × (get_or vs b 0 ≡ get_or (replicate n 0 ++ vs) c 0)
      back zero c q = (c, refl, q, refl)
      back (suc n) zero q = absurd (h q)
      back (suc n) (suc c) q = let (b, e, q', v) = back n c q in (b, omega arith, q', v)

  pub kept_pop : (n : ℕ) → n ≤ length ts → Kept P ts vs (drop n ts) (drop n vs)
  kept_pop n le = record { was = λ c q. (n + c, simp length-drop (omega arith), (rw (get_or-drop n ts c Nonsense) at q), rw (get_or-drop n vs c 0)) }
