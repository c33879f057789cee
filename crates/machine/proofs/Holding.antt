-- Words stay what their types say through a write, a store, a push, a pop and a change to types that they fit.
use Rattle.std.proofs.Common.{◌≡◌, ℕ, zero, suc, ◌+◌, ◌<◌, ◌≤◌, ◌≢◌, List, [], ◌∷◌, ◌++◌, length, get_or, drop, set, replicate, ◌∙◌, subst, not-suc-le-zero, add_assoc, zero-add, arith, length-append, length-drop, length-set, get_or-drop, get_or-set_other, get_or-set_same, get_or-append-add}
use native.Mathlib.Decide.{ℕ_discrete, dec_lt}
use lib.ListN.{length-replicate, get_or-append}
use lib.Seq.{set_out, set-get_or}
use Rattle.image.specs.declared.ty.Sort.{Sort}
use Rattle.image.specs.declared.ty.Sort.TheVariants.{Integer, Pointer, Code}
use Rattle.image.specs.declared.ty.Ty.{Ty}
use Rattle.image.specs.declared.ty.Ty.TheVariants.{Nonsense, Typed}
use Rattle.rules.specs.Free.{any_label}
use Rattle.rules.specs.LaidOut.{Every}
use Rattle.rules.specs.Named.{TupleNamed}
use Rattle.rules.specs.Program.{Tuple, Program, no_tuple, shape_at, tuple_at, base_in, cell_types_of, cell_types}
use Rattle.rules.specs.Types.{over}
use Rattle.rules.specs.WellTyped.{Fit}
use Rattle.machine.specs.Typed.{Holds, AllHold}

module _ (p : Program) where
  -- what a word must be does not depend on the label
  pub holds_relabelled : (s : Sort) (l k v : ℕ) → Holds p (Typed s l) v → Holds p (Typed s k) v
  holds_relabelled Integer l k v h = tt
  holds_relabelled (Pointer s) l k v h = h
  holds_relabelled (Code s) l k v h = h

  pub holds_over : (l : ℕ) (t : Ty) (v : ℕ) → Holds p t v → Holds p (over any_label l t) v
  holds_over l Nonsense v h = tt
  holds_over l (Typed s k) v h = holds_relabelled s k 0 v h

  holds_fit : (have want : Ty) (v : ℕ) → Fit any_label have want → Holds p have v → Holds p want v
  holds_fit have Nonsense v f h = tt
  holds_fit have (Typed s k) v f h = holds_relabelled s f.0 k v (subst (λ t. Holds p t v) f.1 h)

-- ---- how place r stands to a write at place a of a list of n

pub data Spot (n a r : ℕ) : Type 0 where
  here : r ≡ a → a < n → Spot n a r
  past : n ≤ a → Spot n a r
  other : r ≢ a → Spot n a r

pub spot : (n a r : ℕ) → Spot n a r
spot n a r = by_index (ℕ_discrete r a)
  where
    by_length : r ≡ a → Dec (a < n) → Spot n a r
    by_length e (yes h) = here e h
    by_length e (no h) = past (omega arith)

    by_index : Dec (r ≡ a) → Spot n a r
    by_index (yes e) = by_length e (dec_lt a n)
    by_index (no h) = other h

module _ {p : Program} {ts : List Ty} {vs : List ℕ} (b : AllHold p ts vs) where
  pub hold_set : (a : ℕ) (t : Ty) (v : ℕ) → Holds p t v → AllHold p (set ts a t) (set vs a v)
  hold_set a t v q = record { count = simp length-set b.count; holds = λ r. go r (spot (length ts) a r) }
    where
      go : (r : ℕ) → Spot (length ts) a r → Holds p (get_or (set ts a t) r Nonsense) (get_or (set vs a v) r 0)
      go r (here i lt) =
          let lv : a < length vs = omega (arith, b.count) in
          rw (i, get_or-set_same ts a t Nonsense lt, get_or-set_same vs a v 0 lv) q
      go r (past le) =
          let lv : length vs ≤ a = omega (arith, b.count) in
          rw (set_out ts a t le, set_out vs a v lv) (b.holds r)
      go r (other n) = rw (get_or-set_other ts a r t Nonsense n, get_or-set_other vs a r v 0 n) (b.holds r)

  -- a write that leaves the types as they are
  pub hold_store : (a v : ℕ) → Holds p (get_or ts a Nonsense) v → AllHold p ts (set vs a v)
  hold_store a v q = rw (set-get_or ts a Nonsense) at (hold_set a (get_or ts a Nonsense) v q)

  pub hold_push : (n : ℕ) → AllHold p (replicate n Nonsense ++ ts) (replicate n 0 ++ vs)
  hold_push n = record { count = simp (length-append, length-replicate) (omega (arith, b.count)); holds = go n }
    where
      go : (n r : ℕ) → Holds p (get_or (replicate n Nonsense ++ ts) r Nonsense) (get_or (replicate n 0 ++ vs) r 0)
      go zero r = b.holds r
      go (suc n) zero = tt
      go (suc n) (suc r) = go n r

  pub hold_pop : (n : ℕ) → AllHold p (drop n ts) (drop n vs)
  hold_pop n = record { count = simp length-drop (omega (arith, b.count)); holds = λ r. rw (get_or-drop n ts r Nonsense, get_or-drop n vs r 0) (b.holds (n + r)) }

  pub hold_fit : (us : List Ty) → length ts ≡ length us → ((r : ℕ) → Fit any_label (get_or ts r Nonsense) (get_or us r Nonsense)) → AllHold p us vs
  hold_fit us e f = record { count = b.count ∙ e; holds = λ r. holds_fit p (get_or ts r Nonsense) (get_or us r Nonsense) (get_or vs r 0) (f r) (b.holds r) }

-- ---- cells lie flat, tuple behind tuple: the cell that a pointer and a place name has the type that the pointer's shape gives it

module _ (p : Program) where
  flat :
      (ts : List Tuple) → Every (TupleNamed any_label p) ts → (v c : ℕ) → v < length ts → c < length (shape_at p (get_or ts v no_tuple).shape) →
      get_or (cell_types_of p ts) (base_in ts v + c) Nonsense ≡ get_or (shape_at p (get_or ts v no_tuple).shape) c Nonsense
  flat [] h v c i j = absurd (not-suc-le-zero i)
  flat (t ∷ ts) h zero c i j = rw (zero-add c) (get_or-append (shape_at p t.shape) (cell_types_of p ts) Nonsense c j)
  flat (t ∷ ts) h (suc v) c i j =
      rw (h.0.count, add_assoc, get_or-append-add (shape_at p t.shape) (cell_types_of p ts) (base_in ts v + c) Nonsense)
      (flat ts h.1 v c (omega arith) j)

  within : (ts : List Tuple) → Every (TupleNamed any_label p) ts → (v c : ℕ) → v < length ts → c < length (shape_at p (get_or ts v no_tuple).shape) → base_in ts v + c < length (cell_types_of p ts)
  within [] h v c i j = absurd (not-suc-le-zero i)
  within (t ∷ ts) h zero c i j = simp length-append (omega arith)
  within (t ∷ ts) h (suc v) c i j = let more = within ts h.1 v c (omega arith) j in let size = h.0.count in simp length-append (omega arith)

  module _ (named : Every (TupleNamed any_label p) p.tuples) (v shape c : ℕ) (i : v < length p.tuples) (e : (tuple_at p v).shape ≡ shape) (j : c < length (shape_at p shape)) where
    pub cell_type : get_or (cell_types p) (base_in p.tuples v + c) Nonsense ≡ get_or (shape_at p shape) c Nonsense
    cell_type = rw (← e) (flat p.tuples named v c i (rw (← e) at j))

    pub cell_within : base_in p.tuples v + c < length (cell_types p)
    cell_within = within p.tuples named v c i (rw (← e) at j)
