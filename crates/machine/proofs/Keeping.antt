-- A typed state goes on to typed states: each counted word keeps every register, slot and cell what its type says, and leads to words
-- that are checked at the types it leaves.
use Rattle.std.proofs.Common.{◌≡◌, ℕ, ◌+◌, ◌-◌, ◌%◌, ◌^◌, ◌<◌, Bool, true, false, cond, eqb, List, [], ◌∷◌, ◌++◌, length, get_or, drop, set, replicate, sym, refl, ◌∙◌, subst, arith, length-set}
use Rattle.image.specs.declared.ty.Sort.TheVariants.{Integer, Pointer, Code}
use Rattle.image.specs.declared.ty.Ty.{Ty}
use Rattle.image.specs.declared.ty.Ty.TheVariants.{Nonsense, Typed}
use Rattle.image.specs.declared.head.Context.{Context}
use Rattle.image.specs.declared.instruction.Instruction.{Instruction}
use Rattle.image.specs.declared.instruction.Instruction.TheVariants.{SetNumber, SetTuple, SetBlock, Copy, Add, Subtract, Fetch, Store, Push, Pop, Peek, Poke, Strike, Branch, Raise, Jump, Lower, Halt}
use Rattle.rules.specs.Free.{any_label}
use Rattle.rules.specs.LaidOut.{Every, SignatureLaid}
use Rattle.rules.specs.Named.{InstructionNamed, BlockNamed}
use Rattle.rules.specs.Program.{Types, Program, no_signature, no_block, shape_at, signature_at, tuple_at, block_at, promise, cell_types}
use Rattle.rules.specs.Says.{program_of}
use Rattle.rules.specs.Types.{level, reg, slot, set_reg, over, cell, after, then_context}
use Rattle.rules.specs.WellTyped.{Fits, Transfer, Asks, Closes, Checked, last, more, BlockTyped}
use Rattle.machine.specs.Machine.{State, Deed, stops, goes, strikes, reg_of, with_reg, with_stack, with_cells, body, cell_place, next}
use Rattle.machine.specs.Raises.{is_raise}
use Rattle.machine.specs.Typed.{Holds, AllHold, StateTyped, Ready, CanDo}
use Rattle.machine.proofs.Every.{every_at}
use Rattle.machine.proofs.Sound.{Sound}
use Rattle.machine.proofs.Holding.{holds_relabelled, holds_over, hold_set, hold_store, hold_push, hold_pop, hold_fit, cell_type, cell_within}

pub apart : {A : Type 0} → false ≡ true → A
apart e = absurd (let z : ◌≡◌ {A = ℕ} 0 1 = cc in omega arith)

-- a block's last instruction
pub data Closing : Instruction → Type 0 where
  jumping : (to : ℕ) → Closing (Jump to)
  lowering : (block : ℕ) → Closing (Lower block)
  halting : Closing Halt

pub closing_counts : {i : Instruction} → Closing i → is_raise i ≡ false
closing_counts (jumping to) = refl
closing_counts (lowering block) = refl
closing_counts halting = refl

module _ {ns : List ℕ} (sound : Sound ns) where
  abbrev prog : Program
  prog = program_of ns

  -- ---- blocks

  pub block_named : (n : ℕ) → n < length prog.blocks → BlockNamed any_label prog (block_at prog n)
  block_named n h = every_at (BlockNamed any_label prog) prog.blocks n no_block sound.named.blocks h

  pub block_typed : (n : ℕ) → n < length prog.blocks → BlockTyped any_label prog (block_at prog n)
  block_typed n h = every_at (BlockTyped any_label prog) prog.blocks n no_block sound.well_typed h

  pub eight_registers : (n : ℕ) → n < length prog.blocks → length (promise prog n).types.registers ≡ 8
  eight_registers n h = (every_at SignatureLaid prog.signatures (block_at prog n).signature no_signature sound.laid_out.signatures.1 (block_named n h).signature).eight

  -- control may go to the start of a block whose types the state fits
  landing : (n : ℕ) → n < length prog.blocks → {g : Types} {s : State} → Fits any_label g (promise prog n).types → StateTyped prog g s → Ready prog s (body prog n)
  landing n h {g} {s} f t =
      let e = eight_registers n h in
      record {
        context = (promise prog n).context;
        types = (promise prog n).types;
        checked = block_typed n h;
        named = (block_named n h).body;
        typed = record {
          eight = e;
          registers = hold_fit t.registers (promise prog n).types.registers (t.eight ∙ sym e) f.registers;
          slots = hold_fit t.slots (promise prog n).types.slots f.depth f.slots;
          cells = t.cells;
        };
      }

  -- a register that holds a block of a signature leads to such a block
  module _ {g : Types} {s : State} (t : StateTyped prog g s) (r c y : ℕ) (e : reg g r ≡ Typed (Code c) y) where
    held_block : Holds prog (Typed (Code c) y) (reg_of s r)
    held_block = subst (λ u. Holds prog u (reg_of s r)) e (t.registers.holds r)

    target_there : reg_of s r < length prog.blocks
    target_there = held_block.0

    target_ready : {k : Context} → Transfer any_label k g (signature_at prog c) → Ready prog s (body prog (reg_of s r))
    target_ready f = landing (reg_of s r) held_block.0 (subst (λ n. Fits any_label g (signature_at prog n).types) (sym held_block.1) f.types) t

  -- ---- cells

  module _ {g : Types} {s : State} (t : StateTyped prog g s) (r shape x n : ℕ) (e : reg g r ≡ Typed (Pointer shape) x) (h : n < length (shape_at prog shape)) where
    held_tuple : Holds prog (Typed (Pointer shape) x) (reg_of s r)
    held_tuple = subst (λ u. Holds prog u (reg_of s r)) e (t.registers.holds r)

    cell_is : get_or (cell_types prog) (cell_place prog (reg_of s r) n) Nonsense ≡ get_or (shape_at prog shape) n Nonsense
    cell_is = cell_type prog sound.named.tuples (reg_of s r) shape n held_tuple.0 held_tuple.1 h

    cell_there : cell_place prog (reg_of s r) n < length s.cells
    cell_there = let w = cell_within prog sound.named.tuples (reg_of s r) shape n held_tuple.0 held_tuple.1 h in omega (arith, t.cells.count)

    fetched : (l : ℕ) → Holds prog (over any_label l (cell prog (reg g r) n)) (get_or s.cells (cell_place prog (reg_of s r) n) 0)
    fetched l =
        let v = get_or s.cells (cell_place prog (reg_of s r) n) 0 in
        subst (λ u. Holds prog (over any_label l (cell prog u n)) v) (sym e) (holds_over prog l (get_or (shape_at prog shape) n Nonsense) v (subst (λ u. Holds prog u v) cell_is (t.cells.holds (cell_place prog (reg_of s r) n))))

  typed_set : {g : Types} {s : State} → StateTyped prog g s → (r : ℕ) (ty : Ty) (v : ℕ) → Holds prog ty v → StateTyped prog (set_reg g r ty) (with_reg s r v)
  typed_set {g} {s} t r ty v h = record { eight = simp length-set t.eight; registers = hold_set t.registers r ty v h; slots = t.slots; cells = t.cells }

  typed_stack : {g : Types} {s : State} → StateTyped prog g s → (us : List Ty) (vs : List ℕ) → AllHold prog us vs → StateTyped prog (record { registers = g.registers; slots = us }) (with_stack s vs)
  typed_stack t us vs h = record { eight = t.eight; registers = t.registers; slots = h; cells = t.cells }

  pub closing : (k : Context) (g : Types) (i : Instruction) → Closes any_label prog k g i → Closing i
  closing k g (SetNumber to value) q = absurd q
  closing k g (SetTuple to tuple) q = absurd q
  closing k g (SetBlock to block) q = absurd q
  closing k g (Copy to from) q = absurd q
  closing k g (Add to left right) q = absurd q
  closing k g (Subtract to left right) q = absurd q
  closing k g (Fetch to pointer n) q = absurd q
  closing k g (Store pointer from n) q = absurd q
  closing k g (Push count) q = absurd q
  closing k g (Pop count) q = absurd q
  closing k g (Peek to n) q = absurd q
  closing k g (Poke from n) q = absurd q
  closing k g (Strike channel from) q = absurd q
  closing k g (Branch test to) q = absurd q
  closing k g (Raise label postdominator) q = absurd q
  closing k g (Jump to) q = jumping to
  closing k g (Lower block) q = lowering block
  closing k g Halt q = halting

  -- ---- what comes of a deed is ready

  abbrev pub DeedReady : Deed → Type 0
  DeedReady stops = Unit {0}
  DeedReady (goes is t) = Ready prog t is
  DeedReady (strikes x is t) = Ready prog t is

  -- these words, checked where the instruction before them leaves the state
  module _ (k : Context) (g : Types) (s : State) (t : StateTyped prog g s) (is : List Instruction) (named : Every (InstructionNamed any_label prog) is) where
    abbrev Then : Instruction → Type 0
    Then i = Checked any_label prog (then_context k i) (after any_label prog k g i) is

    on : (i : Instruction) (u : State) → Then i → StateTyped prog (after any_label prog k g i) u → Ready prog u is
    on i u c t = record { context = then_context k i; types = after any_label prog k g i; checked = c; named = named; typed = t }

    branched : (b : Bool) (n : ℕ) → Ready prog s is → Ready prog s (body prog n) → Ready prog s (cond b is (body prog n))
    branched true n r q = r
    branched false n r q = q

    more_kept : (i : Instruction) → InstructionNamed any_label prog i → Asks any_label prog k g i → Then i → (StateTyped prog (after any_label prog k g i) s → DeedReady (next prog s is)) → DeedReady (next prog s (i ∷ is))
    more_kept (SetNumber to value) d a c again = on (SetNumber to value) (with_reg s to value) c (typed_set t to (Typed Integer (level k)) value tt)
    more_kept (SetTuple to tuple) d a c again = on (SetTuple to tuple) (with_reg s to tuple) c (typed_set t to (Typed (Pointer (tuple_at prog tuple).shape) (level k)) tuple (d.1, refl))
    more_kept (SetBlock to block) d a c again = on (SetBlock to block) (with_reg s to block) c (typed_set t to (Typed (Code (block_at prog block).signature) (level k)) block (d.1, refl))
    more_kept (Copy to from) d a c again =
        on (Copy to from) (with_reg s to (reg_of s from)) c (typed_set t to (over any_label (level k) (reg g from)) (reg_of s from) (holds_over prog (level k) (reg g from) (reg_of s from) (t.registers.holds from)))
    more_kept (Add to left right) d a c again =
        let sum = (reg_of s left + reg_of s right) % 2 ^ 32 in
        on (Add to left right) (with_reg s to sum) c (typed_set t to (Typed Integer 0) sum tt)
    more_kept (Subtract to left right) d a c again =
        let difference = (reg_of s left + (2 ^ 32 - reg_of s right)) % 2 ^ 32 in
        on (Subtract to left right) (with_reg s to difference) c (typed_set t to (Typed Integer 0) difference tt)
    more_kept (Fetch to pointer n) d (shape, x, e, h) c again =
        let v = get_or s.cells (cell_place prog (reg_of s pointer) n) 0 in
        on (Fetch to pointer n) (with_reg s to v) c (typed_set t to (over any_label 0 (cell prog (reg g pointer) n)) v (fetched t pointer shape x n e h 0))
    more_kept (Store pointer from n) d (shape, x, y, z, o, e, h, f, w, l) c again =
        let place = cell_place prog (reg_of s pointer) n in
        let v = reg_of s from in
        let kind : get_or (cell_types prog) place Nonsense ≡ Typed o z = cell_is t pointer shape x n e h ∙ w in
        let word : Holds prog (Typed o z) v = holds_relabelled prog o y z v (subst (λ u. Holds prog u v) f (t.registers.holds from)) in
        on (Store pointer from n) (with_cells s (set s.cells place v)) c
        (record { eight = t.eight; registers = t.registers; slots = t.slots; cells = hold_store t.cells place v (subst (λ u. Holds prog u v) (sym kind) word) })
    more_kept (Push count) d a c again =
        let vs = replicate count 0 ++ s.stack in
        on (Push count) (with_stack s vs) c (typed_stack t (replicate count Nonsense ++ g.slots) vs (hold_push t.slots count))
    more_kept (Pop count) d a c again = on (Pop count) (with_stack s (drop count s.stack)) c (typed_stack t (drop count g.slots) (drop count s.stack) (hold_pop t.slots count))
    more_kept (Peek to n) d a c again =
        let v = get_or s.stack n 0 in
        on (Peek to n) (with_reg s to v) c (typed_set t to (over any_label (level k) (slot g n)) v (holds_over prog (level k) (slot g n) v (t.slots.holds n)))
    more_kept (Poke from n) d a c again =
        let v = reg_of s from in
        let ty = over any_label (level k) (reg g from) in
        on (Poke from n) (with_stack s (set s.stack n v)) c (typed_stack t (set g.slots n ty) (set s.stack n v) (hold_set t.slots n ty v (holds_over prog (level k) (reg g from) v (t.registers.holds from))))
    more_kept (Strike channel from) d a c again = on (Strike channel from) s c t
    more_kept (Branch test to) d (x, y, w, e, f, l, m, r) c again = branched (eqb (reg_of s test) 0) (reg_of s to) (on (Branch test to) s c t) (target_ready t to w y f r)
    more_kept (Raise label postdominator) d a c again = again t
    more_kept (Jump to) d a c again = absurd a
    more_kept (Lower block) d a c again = absurd a
    more_kept Halt d a c again = absurd a

  last_kept : (k : Context) (g : Types) (s : State) → StateTyped prog g s → {i : Instruction} → Closing i → InstructionNamed any_label prog i → Closes any_label prog k g i → DeedReady (next prog s (i ∷ []))
  last_kept k g s t (jumping to) d (y, w, e, l, r) = target_ready t to w y e r
  last_kept k g s t (lowering block) d (l, e, f) = landing block d f t
  last_kept k g s t halting d q = tt

  kept : {k : Context} {g : Types} (s : State) {is : List Instruction} → Checked any_label prog k g is → Every (InstructionNamed any_label prog) is → StateTyped prog g s → DeedReady (next prog s is)
  kept s (last {k = k} {g = g} {i = i} c) d t = last_kept k g s t (closing k g i c) d.0 c
  kept s (more {k = k} {g = g} {i = i} {j = j} {is = is} a c) d t = more_kept k g s t (j ∷ is) d.1 i d.0 a c (λ t. kept s c d.1 t)

  pub ready_next : (s : State) (is : List Instruction) → Ready prog s is → DeedReady (next prog s is)
  ready_next s is r = kept s r.checked r.named r.typed

  -- ---- what the first word names is there

  module _ (k : Context) (g : Types) (s : State) (t : StateTyped prog g s) where
    asked_can : (i : Instruction) → InstructionNamed any_label prog i → Asks any_label prog k g i → is_raise i ≡ false → CanDo prog s i
    asked_can (SetNumber to value) d a n = d
    asked_can (SetTuple to tuple) d a n = d.0
    asked_can (SetBlock to block) d a n = d.0
    asked_can (Copy to from) d a n = d
    asked_can (Add to left right) d a n = d
    asked_can (Subtract to left right) d a n = d
    asked_can (Fetch to pointer c) d (shape, x, e, h) n = (d.0, d.1, cell_there t pointer shape x c e h)
    asked_can (Store pointer from c) d (shape, x, y, z, o, e, h, f, w, l) n = (d.0, d.1, cell_there t pointer shape x c e h)
    asked_can (Push count) d a n = omega (arith, a, t.slots.count)
    asked_can (Pop count) d a n = tt
    asked_can (Peek to c) d a n = d
    asked_can (Poke from c) d a n = d
    asked_can (Strike channel from) d a n = d.1
    asked_can (Branch test to) d (x, y, w, e, f, l, m, r) n = (d.0, d.1, target_there t to w y f)
    asked_can (Raise label postdominator) d a n = apart (sym n)
    asked_can (Jump to) d a n = absurd a
    asked_can (Lower block) d a n = absurd a
    asked_can Halt d a n = absurd a

    closes_can : {i : Instruction} → Closing i → InstructionNamed any_label prog i → Closes any_label prog k g i → CanDo prog s i
    closes_can (jumping to) d (y, w, e, l, r) = (d, target_there t to w y e)
    closes_can (lowering block) d q = d
    closes_can halting d q = tt

  checked_can : {k : Context} {g : Types} (s : State) (i : Instruction) (is : List Instruction) → Checked any_label prog k g (i ∷ is) → InstructionNamed any_label prog i → StateTyped prog g s → is_raise i ≡ false → CanDo prog s i
  checked_can s i is (last {k = k} {g = g} c) d t n = closes_can k g s t (closing k g i c) d c
  checked_can s i is (more {k = k} {g = g} a c) d t n = asked_can k g s t i d a n

  pub ready_can : (s : State) (i : Instruction) (is : List Instruction) → Ready prog s (i ∷ is) → is_raise i ≡ false → CanDo prog s i
  ready_can s i is r n = checked_can s i is r.checked r.named.0 r.typed n

  pub ready_some : (s : State) (is : List Instruction) → Ready prog s is → is ≡ [] → ⊥
  ready_some s is r e = none (subst (Checked any_label prog r.context r.types) e r.checked)
    where
      none : {k : Context} {g : Types} → Checked any_label prog k g [] → ⊥
      none c = elim c [ ]
