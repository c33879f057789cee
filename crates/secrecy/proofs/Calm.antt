-- The words that only change registers, the stack or the cells and go on to the next word: each leaves a state that the types after it
-- describe, keeps two states that look the same looking the same, and in a context that the reader may not see leaves what the reader
-- may see.
use mathlib.Core.Path.{◌≡◌, refl}
use mathlib.Core.List.{List, ◌∷◌, ◌++◌}
use Prim.Native.Nat.{ℕ, ◌≤◌}
use lib.ListN.{length, set, drop, replicate, length-set}
use Rattle.image.specs.declared.ty.Ty.{Ty}
use Rattle.image.specs.declared.head.Context.{Context}
use Rattle.image.specs.declared.instruction.Instruction.{Instruction}
use Rattle.image.specs.declared.instruction.Instruction.TheVariants.{Push, Pop, Poke}
use Rattle.rules.specs.Program.{Types}
use Rattle.rules.specs.Types.{level, reg, set_reg, over, then_context}
use Rattle.machine.specs.Machine.{State, reg_of, with_reg, with_stack, next}
use Rattle.machine.specs.Machine.Deed.{goes}
use Rattle.secrecy.proofs.Lists.{agree_set, agree_push, agree_pop, kept_all, kept_set, kept_push, kept_pop}
use Rattle.secrecy.proofs.Setting.{Setting, Holds, Labelled, cells_at, types_after, Seen, Low, Described, Same, Stays}
use Rattle.secrecy.proofs.Banks.{bank_set, bank_push, bank_pop}

module _ (w : Setting) where
  pub record Calm (k : Context) (g : Types) (i : Instruction) : Type 0 where
    pub to : State → State
    pub step : (s : State) (is : List Instruction) → next w.program s (i ∷ is) ≡ goes is (to s)
    pub stays_in : then_context k i ≡ k
    pub described : (s : State) → Described w g s → Described w (types_after w k g i) (to s)
    pub same : (s u : State) → Described w g s → Described w g u → Same w g s u → Same w (types_after w k g i) (to s) (to u)
    pub hidden : (Seen w (level k) → ⊥) → (s : State) → Described w g s → Stays w g s (types_after w k g i) (to s)

  -- a word v of the state, to be written where t is the type
  pub record Write (k : Context) (g : Types) (t : Ty) (v : State → ℕ) : Type 0 where
    pub labelled : (s : State) → Described w g s → Labelled w.meaning t
    pub holds : (s : State) → Described w g s → Holds w.program t (v s)
    pub same : (s u : State) → Described w g s → Described w g u → Same w g s u → Low w t → v s ≡ v u
    pub above : (s : State) → Described w g s → Low w t → Seen w (level k)

  -- ---- where a word is written

  pub by_register :
      {k : Context} {g : Types} {i : Instruction} {t : Ty} {v : State → ℕ} (a : ℕ) → Write k g t v →
      ((s : State) (is : List Instruction) → next w.program s (i ∷ is) ≡ goes is (with_reg s a (v s))) → then_context k i ≡ k →
      types_after w k g i ≡ set_reg g a t → Calm k g i
  by_register {g = g} {t = t} {v = v} a x st ct e = record {
    to = λ s. with_reg s a (v s);
    step = st;
    stays_in = ct;
    described = λ s h. rw e (record {
      eight = simp length-set h.eight;
      registers = bank_set w h.registers a t (v s) (x.labelled s h) (x.holds s h);
      slots = h.slots;
      cells = h.cells;
    });
    same = λ s u h j q. rw e (record {
      registers = agree_set q.registers a t (v s) (v u) h.registers.count j.registers.count (x.same s u h j q);
      slots = q.slots;
      cells = q.cells;
    });
    hidden = λ n s h. rw e (record {
      registers = kept_set g.registers s.registers a t (v s) h.registers.count (λ q. n (x.above s h q));
      slots = kept_all g.slots s.stack;
      cells = kept_all (cells_at w) s.cells;
    });
  }

  pub by_slot : {k : Context} {g : Types} (b n : ℕ) → Write k g (over w.meaning (level k) (reg g b)) (λ s. reg_of s b) → Calm k g (Poke b n)
  by_slot {k} {g} b n x = record {
    to = λ s. with_stack s (set s.stack n (reg_of s b));
    step = λ s is. refl;
    stays_in = refl;
    described = λ s h. record {
      eight = h.eight;
      registers = h.registers;
      slots = bank_set w h.slots n ty (reg_of s b) (x.labelled s h) (x.holds s h);
      cells = h.cells;
    };
    same = λ s u h j q. record {
      registers = q.registers;
      slots = agree_set q.slots n ty (reg_of s b) (reg_of u b) h.slots.count j.slots.count (x.same s u h j q);
      cells = q.cells;
    };
    hidden = λ m s h. record {
      registers = kept_all g.registers s.registers;
      slots = kept_set g.slots s.stack n ty (reg_of s b) h.slots.count (λ q. m (x.above s h q));
      cells = kept_all (cells_at w) s.cells;
    };
  }
    where
      ty : Ty
      ty = over w.meaning (level k) (reg g b)

  pub by_push : {k : Context} {g : Types} (n : ℕ) → Calm k g (Push n)
  by_push {k} {g} n = record {
    to = λ s. with_stack s (replicate n 0 ++ s.stack);
    step = λ s is. refl;
    stays_in = refl;
    described = λ s h. record { eight = h.eight; registers = h.registers; slots = bank_push w h.slots n; cells = h.cells };
    same = λ s u h j q. record { registers = q.registers; slots = agree_push q.slots n; cells = q.cells };
    hidden = λ m s h. record {
      registers = kept_all g.registers s.registers;
      slots = kept_push g.slots s.stack n (λ q. q);
      cells = kept_all (cells_at w) s.cells;
    };
  }

  pub by_pop : {k : Context} {g : Types} (n : ℕ) → n ≤ length g.slots → Calm k g (Pop n)
  by_pop {k} {g} n le = record {
    to = λ s. with_stack s (drop n s.stack);
    step = λ s is. refl;
    stays_in = refl;
    described = λ s h. record { eight = h.eight; registers = h.registers; slots = bank_pop w h.slots n; cells = h.cells };
    same = λ s u h j q. record { registers = q.registers; slots = agree_pop q.slots n; cells = q.cells };
    hidden = λ m s h. record { registers = kept_all g.registers s.registers; slots = kept_pop g.slots s.stack n le; cells = kept_all (cells_at w) s.cells };
  }
