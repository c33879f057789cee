-- A block's words as a walk through what each does, control's way to the start of a block, and contexts within contexts.
use mathlib.Core.Path.{◌≡◌, sym, ◌∙◌}
use mathlib.Core.List.{List, [], ◌∷◌}
use mathlib.Core.Logic.{◌⊎◌, inl, inr}
use Prim.Native.Nat.{ℕ, ◌<◌}
use lib.ListN.{length}
use lib.Dec.{T}
use Rattle.image.specs.declared.ty.Sort.TheVariants.{Code}
use Rattle.image.specs.declared.ty.Ty.TheVariants.{Typed}
use Rattle.image.specs.declared.head.Context.{Context}
use Rattle.image.specs.declared.head.Context.TheVariants.{Empty, Raised}
use Rattle.image.specs.declared.instruction.Instruction.{Instruction}
use Rattle.image.specs.declared.instruction.Instruction.TheVariants.{SetNumber, SetTuple, SetBlock, Copy, Add, Subtract, Fetch, Store, Push, Pop, Peek, Poke, Strike as StrikeOn, Branch, Raise, Jump, Lower, Halt}
use Rattle.rules.specs.Program.{Types, signature_at}
use Rattle.rules.specs.Types.{level, reg, then_context}
use Rattle.rules.specs.LaidOut.{Every}
use Rattle.rules.specs.Named.{InstructionNamed}
use Rattle.rules.specs.WellTyped.{Fits, Transfer, Closes, Checked}
use Rattle.rules.specs.WellTyped.Checked.{last, more}
use Rattle.machine.specs.Machine.{State, reg_of}
use Rattle.secrecy.proofs.Lists.{kept_then, kept_both, kept_all}
use Rattle.secrecy.proofs.Setting.{Setting, Holds, Label, context_at, types_at, words_at, cells_at, types_after, Described, Same, Stays}
use Rattle.secrecy.proofs.Sound.{signature_sound, body_named, body_checked}
use Rattle.secrecy.proofs.Banks.{bank_fit, agree_fit, kept_fit}
use Rattle.secrecy.proofs.Views.{View, view}
use Rattle.secrecy.proofs.Views.View.{calm, striking, branching, raising}

module _ (w : Setting) where
  -- ---- the way to the start of a block

  -- a state of types g may go on at the start of block n
  pub record Landing (g : Types) (n : ℕ) : Type 0 where
    pub there : n < length w.program.blocks
    pub fits : Fits w.meaning g (types_at w n)

  module _ {g : Types} {n : ℕ} (l : Landing g n) where
    pub landing_described : {s : State} → Described w g s → Described w (types_at w n) s
    landing_described t =
        let s = signature_sound w n l.there in
        record {
          eight = s.eight;
          registers = bank_fit w g.registers (types_at w n).registers l.fits.registers (t.eight ∙ sym s.eight) s.registers t.registers;
          slots = bank_fit w g.slots (types_at w n).slots l.fits.slots l.fits.depth s.slots t.slots;
          cells = t.cells;
        }

    pub landing_same : {s u : State} → Same w g s u → Same w (types_at w n) s u
    landing_same q = record {
      registers = agree_fit w g.registers (types_at w n).registers l.fits.registers q.registers;
      slots = agree_fit w g.slots (types_at w n).slots l.fits.slots q.slots;
      cells = q.cells;
    }

    pub landing_stays : {s : State} → Described w g s → Stays w g s (types_at w n) s
    landing_stays {s} t = record {
      registers = kept_fit w g.registers (types_at w n).registers l.fits.registers (t.eight ∙ sym (signature_sound w n l.there).eight);
      slots = kept_fit w g.slots (types_at w n).slots l.fits.slots l.fits.depth;
      cells = kept_all (cells_at w) s.cells;
    }

  -- a register that holds a block of a signature leads to such a block
  pub record Target (k : Context) (g : Types) (n : ℕ) : Type 0 where
    pub landing : Landing g n
    pub context : context_at w n ≡ k

  pub target :
      {k : Context} {g : Types} (s : State) (b c y : ℕ) → Described w g s → reg g b ≡ Typed (Code c) y →
      Transfer w.meaning k g (signature_at w.program c) → Target k g (reg_of s b)
  target s b c y t e f =
      let at : Holds w.program (Typed (Code c) y) (reg_of s b) = rw e at (t.registers.holds b) in
      record { landing = record { there = at.0; fits = rw (at.1, types_at) f.types }; context = rw (at.1, context_at) f.context }

  -- ---- what stays

  pub stays_all : (g : Types) (s : State) → Stays w g s g s
  stays_all g s = record { registers = kept_all g.registers s.registers; slots = kept_all g.slots s.stack; cells = kept_all (cells_at w) s.cells }

  pub stays_then : {g g' g'' : Types} {s s' s'' : State} → Stays w g s g' s' → Stays w g' s' g'' s'' → Stays w g s g'' s''
  stays_then h k = record { registers = kept_then h.registers k.registers; slots = kept_then h.slots k.slots; cells = kept_then h.cells k.cells }

  -- two runs, each of which kept what the reader may see
  pub stays_both : {g g' : Types} {s u s' u' : State} → Same w g s u → Stays w g s g' s' → Stays w g u g' u' → Same w g' s' u'
  stays_both q h k = record {
    registers = kept_both q.registers h.registers k.registers;
    slots = kept_both q.slots h.slots k.slots;
    cells = kept_both q.cells h.cells k.cells;
  }

  -- ---- a block's words

  -- what a block's last word does
  pub data Closing (k : Context) (g : Types) : Instruction → Type 0 where
    jumping :
        {a : ℕ} (y c : ℕ) → reg g a ≡ Typed (Code c) y → T (w.meaning.below y (level k)) →
        Transfer w.meaning k g (signature_at w.program c) → Closing k g (Jump a)
    lowering : {n : ℕ} (l : ℕ) → k ≡ Raised l n → Landing g n → Closing k g (Lower n)
    halting : k ≡ Empty → Closing k g Halt

  closing : (k : Context) (g : Types) (i : Instruction) → InstructionNamed w.meaning w.program i → Closes w.meaning w.program k g i → Closing k g i
  closing k g (SetNumber a n) d q = absurd q
  closing k g (SetTuple a n) d q = absurd q
  closing k g (SetBlock a n) d q = absurd q
  closing k g (Copy a b) d q = absurd q
  closing k g (Add a b c) d q = absurd q
  closing k g (Subtract a b c) d q = absurd q
  closing k g (Fetch a b c) d q = absurd q
  closing k g (Store a b c) d q = absurd q
  closing k g (Push n) d q = absurd q
  closing k g (Pop n) d q = absurd q
  closing k g (Peek a n) d q = absurd q
  closing k g (Poke b n) d q = absurd q
  closing k g (StrikeOn c b) d q = absurd q
  closing k g (Branch a b) d q = absurd q
  closing k g (Raise l n) d q = absurd q
  closing k g (Jump a) d (y, c, e, le, f) = jumping y c e le f
  closing k g (Lower n) d (l, e, f) = lowering l e (record { there = d; fits = f })
  closing k g Halt d q = halting q

  pub data Walk : Context → Types → List Instruction → Type 0 where
    closes : {k : Context} {g : Types} {i : Instruction} → Closing k g i → Walk k g (i ∷ [])
    goes_on :
        {k : Context} {g : Types} {i j : Instruction} {is : List Instruction} → View w k g i → Walk (then_context k i) (types_after w k g i) (j ∷ is) →
        Walk k g (i ∷ (j ∷ is))

  level_after : {k : Context} {g : Types} {i : Instruction} → Label w (level k) → View w k g i → Label w (level (then_context k i))
  level_after h (calm c) = rw c.stays_in h
  level_after h (striking x e le) = h
  level_after h (branching x y c ea eb la lb f) = h
  level_after h (raising l n le e) = l

  walk :
      {k : Context} {g : Types} {is : List Instruction} → Label w (level k) → Checked w.meaning w.program k g is →
      Every (InstructionNamed w.meaning w.program) is → Walk k g is
  walk h (last {k = k} {g = g} {i = i} c) d = closes (closing k g i d.0 c)
  walk h (more {k = k} {g = g} {i = i} a c) d =
      let v = view w k g i h d.0 a in
      goes_on v (walk (level_after h v) c d.1)

  pub block_walk : (n : ℕ) → n < length w.program.blocks → Walk (context_at w n) (types_at w n) (words_at w n)
  block_walk n h = walk (signature_sound w n h).context (body_checked w n h) (body_named w n h)

  -- ---- contexts

  -- A context within another, at or above it: the block that a context leads back to has for its own context the next one down.
  pub data Within (base : Context) : Context → Type 0 where
    here : Within base base
    deeper : {k : Context} {l n : ℕ} → context_at w n ≡ k → T (w.meaning.below (level k) l) → Within base k → Within base (Raised l n)

  pub within_above : {base k : Context} → Label w (level base) → Within base k → T (w.meaning.below (level base) (level k))
  within_above {base} h here = w.lawful.reflexive (level base) h
  within_above {base} h (deeper {k = k} {l = l} e b i) = w.lawful.transitive (level base) (level k) l (within_above h i) b

  -- the context of the block that a context leads back to
  pub record Below (base : Context) (l n : ℕ) : Type 0 where
    pub inside : Within base (context_at w n)
    pub under : T (w.meaning.below (level (context_at w n)) l)

  pub within_down : {base k : Context} (l n : ℕ) → k ≡ Raised l n → Within base k → (base ≡ Raised l n) ⊎ Below base l n
  within_down l n e here = inl e
  within_down l n e (deeper {k = k} {l = j} {n = h} i b d) =
      let el : j ≡ l = cc in
      let en : h ≡ n = cc in
      let ec : context_at w n ≡ k = rw (← en) i in
      inr (record { inside = rw ec d; under = rw (ec, ← el) b })
