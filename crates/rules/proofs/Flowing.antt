-- The flow walk finds no fault exactly where each instruction has what it asks.
use Rattle.std.proofs.Common.{◌≡◌, ℕ, suc, ◌+◌, ◌<◌, T, ◌↔◌, List, [], ◌∷◌, length, get_or, refl}
use Rattle.labels.specs.Meaning.{Meaning}
use Rattle.image.specs.declared.ty.Sort.{Sort}
use Rattle.image.specs.declared.ty.Sort.TheVariants.{Integer, Pointer, Code}
use Rattle.image.specs.declared.ty.Ty.{Ty}
use Rattle.image.specs.declared.ty.Ty.TheVariants.{Nonsense, Typed}
use Rattle.image.specs.declared.head.Context.{Context}
use Rattle.image.specs.declared.instruction.Instruction.{Instruction}
use Rattle.image.specs.declared.instruction.Instruction.TheVariants.{SetNumber, SetTuple, SetBlock, Copy, Add, Subtract, Fetch, Store, Push, Pop, Peek, Poke, Strike, Branch, Raise, Jump, Lower, Halt}
use Rattle.image.specs.Finding.{clear, first}
use Rattle.rules.specs.Program.{Types, Signature, Program, shape_at, signature_at, promise}
use Rattle.rules.specs.Types.{level, reg, label_of, cell}
use Rattle.rules.specs.Fit.{is_integer, is_pointer, is_code, has_cell, alike, target}
use Rattle.rules.specs.Flow.{transfer_tests, flow_tests, state_tests, state_after, body_flow}
use Rattle.rules.specs.LaidOut.{Ends, Ended}
use Rattle.rules.specs.WellTyped.{Transfer, Asks, Closes, Checked, last, more}
use Rattle.rules.proofs.Tests.{lt_iff, le_iff, iff_same, iff_then, one_rule, two_rules, Kept, then_clear, first_clear}
use Rattle.rules.proofs.Fitting.{same_sort_refl, integer_iff, alike_is, context_iff, empty_iff, raised_iff, fits_is, fits_deep, fits_sorted, fits_labelled}

module _ (m : Meaning) (p : Program) where
  abbrev Integers : Ty → Ty → Type 0
  Integers t u = (x y : ℕ) × (t ≡ Typed Integer x) × (u ≡ Typed Integer y)

  two_integers : (t u : Ty) → (T (is_integer t) × (T (is_integer u) × Unit {0})) ↔ Integers t u
  two_integers t u = (there, λ h. rw (h.2, h.3) (tt, (tt, tt)))
    where
      there : (T (is_integer t) × (T (is_integer u) × Unit {0})) → Integers t u
      there (a, b) =
          let (x, e, q) = (integer_iff (λ x. Unit {0}) t).0 (a, tt) in
          let (y, f, r) = (integer_iff (λ x. Unit {0}) u).0 (b.0, tt) in
          (x, y, e, f)

  -- ---- cells

  abbrev Fetches : Ty → ℕ → Type 0
  Fetches t n = (s x : ℕ) × (t ≡ Typed (Pointer s) x) × (n < length (shape_at p s))

  fetch_iff : (t : Ty) (n : ℕ) → (T (is_pointer t) × (T (has_cell p t n) × Unit {0})) ↔ Fetches t n
  fetch_iff t n = (λ h. there t h.1.0, λ h. rw h.2 (tt, ((lt_iff n (length (shape_at p h.0))).1 h.3, tt)))
    where
      there : (t : Ty) → T (has_cell p t n) → Fetches t n
      there Nonsense h = absurd h
      there (Typed Integer x) h = absurd h
      there (Typed (Pointer s) x) h = (s, x, refl, (lt_iff n (length (shape_at p s))).0 h)
      there (Typed (Code s) x) h = absurd h

  abbrev Stores : ℕ → Ty → Ty → ℕ → Type 0
  Stores l t u n =
      (s x y z : ℕ) × (o : Sort) × (t ≡ Typed (Pointer s) x) × (n < length (shape_at p s)) × (u ≡ Typed o y)
      × (get_or (shape_at p s) n Nonsense ≡ Typed o z) × T (m.below (m.joined (m.joined l x) y) z)

  abbrev StoreLabel : ℕ → Ty → Ty → ℕ → Type 0
  StoreLabel l t u n = T (m.below (m.joined (m.joined l (label_of t)) (label_of u)) (label_of (cell p t n)))

  abbrev StoreTests : ℕ → Ty → Ty → ℕ → Type 0
  StoreTests l t u n = T (is_pointer t) × (T (has_cell p t n) × (T (alike u (cell p t n)) × (StoreLabel l t u n × Unit {0})))

  store_iff : (l : ℕ) (t u : Ty) (n : ℕ) → StoreTests l t u n ↔ Stores l t u n
  store_iff l t u n = (λ h. there t h.1.0 h.1.1.0 h.1.1.1.0, back)
    where
      there : (t : Ty) → T (has_cell p t n) → T (alike u (cell p t n)) → StoreLabel l t u n → Stores l t u n
      there Nonsense h i j = absurd h
      there (Typed Integer x) h i j = absurd h
      there (Typed (Pointer s) x) h i j =
          let (y, z, o, e, f, q) = alike_is (λ y z. T (m.below (m.joined (m.joined l x) y) z)) u (get_or (shape_at p s) n Nonsense) i j in
          (s, x, y, z, o, refl, (lt_iff n (length (shape_at p s))).0 h, e, f, q)
      there (Typed (Code s) x) h i j = absurd h

      back : Stores l t u n → StoreTests l t u n
      back h = rw (h.5, h.7, h.8) (tt, ((lt_iff n (length (shape_at p h.0))).1 h.6, (same_sort_refl h.4, (h.9, tt))))

  -- ---- transfers

  transfer_iff : (k : Context) (g : Types) (s : Signature) → Kept (transfer_tests m p k g s) ↔ Transfer m k g s
  transfer_iff k g s = (
    λ h. record { context = (context_iff s.context k).0 h.1.0; types = fits_is m g s.types h.0 h.1.1.0 h.1.1.1.0 },
    λ h. (fits_labelled m g s.types h.types, ((context_iff s.context k).1 h.context, (fits_deep m g s.types h.types, (fits_sorted m g s.types h.types, tt)))),
  )

  abbrev Jumps : Context → Types → Ty → Type 0
  Jumps k g t = (y s : ℕ) × (t ≡ Typed (Code s) y) × T (m.below y (level k)) × Transfer m k g (signature_at p s)

  abbrev JumpTests : Context → Types → Ty → Type 0
  JumpTests k g t = T (is_code t) × (T (m.below (label_of t) (level k)) × Kept (transfer_tests m p k g (target p t)))

  jump_iff : (k : Context) (g : Types) (t : Ty) → JumpTests k g t ↔ Jumps k g t
  jump_iff k g t = (λ h. there t h.0 h.1.0 h.1.1, back)
    where
      there : (t : Ty) → T (is_code t) → T (m.below (label_of t) (level k)) → Kept (transfer_tests m p k g (target p t)) → Jumps k g t
      there Nonsense h a b = absurd h
      there (Typed Integer x) h a b = absurd h
      there (Typed (Pointer s) x) h a b = absurd h
      there (Typed (Code s) x) h a b = (x, s, refl, a, (transfer_iff k g (signature_at p s)).0 b)

      back : Jumps k g t → JumpTests k g t
      back (y, s, e, a, h) = rw e (tt, (a, (transfer_iff k g (signature_at p s)).1 h))

  abbrev Branches : Context → Types → Ty → Ty → Type 0
  Branches k g t u = (x y s : ℕ) × (t ≡ Typed Integer x) × (u ≡ Typed (Code s) y) × T (m.below x (level k)) × T (m.below y (level k)) × Transfer m k g (signature_at p s)

  abbrev BranchTests : Context → Types → Ty → Ty → Type 0
  BranchTests k g t u = T (is_integer t) × (T (is_code u) × (T (m.below (label_of t) (level k)) × (T (m.below (label_of u) (level k)) × Kept (transfer_tests m p k g (target p u)))))

  branch_iff : (k : Context) (g : Types) (t u : Ty) → BranchTests k g t u ↔ Branches k g t u
  branch_iff k g t u = (there, back)
    where
      there : BranchTests k g t u → Branches k g t u
      there (a, h) =
          let (x, i, q) = (integer_iff (λ x. T (m.below x (level k))) t).0 (a, h.1.0) in
          let (y, s, j, r, w) = (jump_iff k g u).0 (h.0, h.1.1) in
          (x, y, s, i, j, q, r, w)

      back : Branches k g t u → BranchTests k g t u
      back (x, y, s, i, j, q, r, w) = rw (i, j) (tt, (tt, (q, (r, (transfer_iff k g (signature_at p s)).1 w))))

  -- ---- each instruction

  asks_iff : (k : Context) (g : Types) (i : Instruction) → (Ends i → ⊥) → Kept (flow_tests m p k g i) ↔ Asks m p k g i
  asks_iff k g (SetNumber to value) n = iff_same
  asks_iff k g (SetTuple to tuple) n = iff_same
  asks_iff k g (SetBlock to block) n = iff_same
  asks_iff k g (Copy to from) n = iff_same
  asks_iff k g (Add to left right) n = two_integers (reg g left) (reg g right)
  asks_iff k g (Subtract to left right) n = two_integers (reg g left) (reg g right)
  asks_iff k g (Fetch to pointer c) n = fetch_iff (reg g pointer) c
  asks_iff k g (Store pointer from c) n = store_iff (level k) (reg g pointer) (reg g from) c
  asks_iff k g (Push count) n = one_rule (le_iff (length g.slots + count) 32)
  asks_iff k g (Pop count) n = one_rule (le_iff count (length g.slots))
  asks_iff k g (Peek to c) n = one_rule (lt_iff c (length g.slots))
  asks_iff k g (Poke from c) n = one_rule (lt_iff c (length g.slots))
  asks_iff k g (Strike channel from) n =
      iff_then (two_rules iff_same iff_same) (integer_iff (λ x. T (m.below (m.joined (level k) x) (get_or p.channels channel 0))) (reg g from))
  asks_iff k g (Branch test to) n = branch_iff k g (reg g test) (reg g to)
  asks_iff k g (Raise label postdominator) n = two_rules iff_same (context_iff (promise p postdominator).context k)
  asks_iff k g (Jump to) n = absurd (n tt)
  asks_iff k g (Lower block) n = absurd (n tt)
  asks_iff k g Halt n = absurd (n tt)

  closes_iff : (k : Context) (g : Types) (i : Instruction) → Ends i → Kept (flow_tests m p k g i) ↔ Closes m p k g i
  closes_iff k g (SetNumber to value) n = absurd n
  closes_iff k g (SetTuple to tuple) n = absurd n
  closes_iff k g (SetBlock to block) n = absurd n
  closes_iff k g (Copy to from) n = absurd n
  closes_iff k g (Add to left right) n = absurd n
  closes_iff k g (Subtract to left right) n = absurd n
  closes_iff k g (Fetch to pointer c) n = absurd n
  closes_iff k g (Store pointer from c) n = absurd n
  closes_iff k g (Push count) n = absurd n
  closes_iff k g (Pop count) n = absurd n
  closes_iff k g (Peek to c) n = absurd n
  closes_iff k g (Poke from c) n = absurd n
  closes_iff k g (Strike channel from) n = absurd n
  closes_iff k g (Branch test to) n = absurd n
  closes_iff k g (Raise label postdominator) n = absurd n
  closes_iff k g (Jump to) n = jump_iff k g (reg g to)
  closes_iff k g (Lower block) n = (
    λ h. let (l, e) = (raised_iff block k).0 h.1.0 in (l, e, fits_is m g (promise p block).types h.0 h.1.1.0 h.1.1.1.0),
    λ h. let w = (promise p block).types in (fits_labelled m g w h.2, ((raised_iff block k).1 (h.0, h.1), (fits_deep m g w h.2, (fits_sorted m g w h.2, tt)))),
  )
  closes_iff k g Halt n = one_rule (empty_iff k)

  -- what closes a block ends it, and what asks within it does not
  closes_ends : (k : Context) (g : Types) (i : Instruction) → Closes m p k g i → Ends i
  closes_ends k g (SetNumber to value) h = h
  closes_ends k g (SetTuple to tuple) h = h
  closes_ends k g (SetBlock to block) h = h
  closes_ends k g (Copy to from) h = h
  closes_ends k g (Add to left right) h = h
  closes_ends k g (Subtract to left right) h = h
  closes_ends k g (Fetch to pointer c) h = h
  closes_ends k g (Store pointer from c) h = h
  closes_ends k g (Push count) h = h
  closes_ends k g (Pop count) h = h
  closes_ends k g (Peek to c) h = h
  closes_ends k g (Poke from c) h = h
  closes_ends k g (Strike channel from) h = h
  closes_ends k g (Branch test to) h = h
  closes_ends k g (Raise label postdominator) h = h
  closes_ends k g (Jump to) h = tt
  closes_ends k g (Lower block) h = tt
  closes_ends k g Halt h = tt

  asks_goes_on : (k : Context) (g : Types) (i : Instruction) → Asks m p k g i → Ends i → ⊥
  asks_goes_on k g (SetNumber to value) h e = e
  asks_goes_on k g (SetTuple to tuple) h e = e
  asks_goes_on k g (SetBlock to block) h e = e
  asks_goes_on k g (Copy to from) h e = e
  asks_goes_on k g (Add to left right) h e = e
  asks_goes_on k g (Subtract to left right) h e = e
  asks_goes_on k g (Fetch to pointer c) h e = e
  asks_goes_on k g (Store pointer from c) h e = e
  asks_goes_on k g (Push count) h e = e
  asks_goes_on k g (Pop count) h e = e
  asks_goes_on k g (Peek to c) h e = e
  asks_goes_on k g (Poke from c) h e = e
  asks_goes_on k g (Strike channel from) h e = e
  asks_goes_on k g (Branch test to) h e = e
  asks_goes_on k g (Raise label postdominator) h e = e
  asks_goes_on k g (Jump to) h e = h
  asks_goes_on k g (Lower block) h e = h
  asks_goes_on k g Halt h e = h

  -- ---- a block

  pub clear_checked : (s : Signature) (place : ℕ) (is : List Instruction) → body_flow m p s place is ≡ clear → Ended is → Checked m p s.context s.types is
  clear_checked s place [] e h = absurd h
  clear_checked s place (i ∷ []) e h = last ((closes_iff s.context s.types i h).0 ((first_clear place (state_tests m p s i)).0 ((then_clear (first place (state_tests m p s i)) clear).0 e).0))
  clear_checked s place (i ∷ (j ∷ is)) e h =
      let (a, b) = (then_clear (first place (state_tests m p s i)) (body_flow m p (state_after m p s i) (suc place) (j ∷ is))).0 e in
      more ((asks_iff s.context s.types i h.0).0 ((first_clear place (state_tests m p s i)).0 a)) (clear_checked (state_after m p s i) (suc place) (j ∷ is) b h.1)

  pub checked_clear : (k : Context) (g : Types) (place : ℕ) (is : List Instruction) → Checked m p k g is → (body_flow m p (record { context = k; types = g }) place is ≡ clear) × Ended is
  checked_clear k g place [] h = elim h [ ]
  checked_clear k g place (i ∷ []) (last c) =
      let n = closes_ends k g i c in
      let s : Signature = record { context = k; types = g } in
      ((then_clear (first place (state_tests m p s i)) clear).1 ((first_clear place (state_tests m p s i)).1 ((closes_iff k g i n).1 c), refl), n)
  checked_clear k g place (i ∷ (j ∷ is)) (more a c) =
      let n = asks_goes_on k g i a in
      let s : Signature = record { context = k; types = g } in
      let t = state_after m p s i in
      let (e, h) = checked_clear t.context t.types (suc place) (j ∷ is) c in
      ((then_clear (first place (state_tests m p s i)) (body_flow m p t (suc place) (j ∷ is))).1 ((first_clear place (state_tests m p s i)).1 ((asks_iff k g i n).1 a), e), (n, h))

pub flow_decides : (m : Meaning) (p : Program) (s : Signature) (place : ℕ) (is : List Instruction) → ((body_flow m p s place is ≡ clear) × Ended is) ↔ Checked m p s.context s.types is
flow_decides m p s place is = (λ h. clear_checked m p s place is h.0 h.1, checked_clear m p s.context s.types place is)
