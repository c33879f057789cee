-- Well typed: each instruction of a block finds what it asks for, in the context and types that those before it leave.
use Rattle.std.specs.Prelude.{◌≡◌, ℕ, ◌+◌, ◌<◌, ◌≤◌, T, List, [], ◌∷◌, length, slice_index, slice_index_or}
use Rattle.labels.specs.Meaning.{Meaning}
use Rattle.image.specs.declared.ty.Sort.{Sort}
use Rattle.image.specs.declared.ty.Sort.TheVariants.{Integer, Pointer, Code}
use Rattle.image.specs.declared.ty.Ty.{Ty}
use Rattle.image.specs.declared.ty.Ty.TheVariants.{Nonsense, Typed}
use Rattle.image.specs.declared.head.Context.{Context}
use Rattle.image.specs.declared.head.Context.TheVariants.{Empty, Raised}
use Rattle.image.specs.declared.instruction.Instruction.{Instruction}
use Rattle.image.specs.declared.instruction.Instruction.TheVariants.{SetNumber, SetTuple, SetBlock, Copy, Add, Subtract, Fetch, Store, Push, Pop, Peek, Poke, Strike, Branch, Raise, Jump, Lower, Halt}
use Rattle.rules.specs.Program.{Types, Signature, Block, Program, shape_at, signature_at, promise}
use Rattle.rules.specs.Types.{level, reg, slot, after, then_context}
use Rattle.rules.specs.LaidOut.{Every}

-- a type fits where another is wanted: that is nonsense, or has the same sort and number and a label at or above
abbrev pub Fit : Meaning → Ty → Ty → Type 0
Fit m have Nonsense = Unit {0}
Fit m have (Typed sort k) = (l : ℕ) × (have ≡ Typed sort l) × T (m.below l k)

pub record Fits (m : Meaning) (have want : Types) : Type 0 where
  pub depth : length have.slots ≡ length want.slots
  pub registers : (r : ℕ) → Fit m (reg have r) (reg want r)
  pub slots : (n : ℕ) → Fit m (slot have n) (slot want n)

-- control may go where a signature is promised, in the same context
pub record Transfer (m : Meaning) (k : Context) (g : Types) (s : Signature) : Type 0 where
  pub context : s.context ≡ k
  pub types : Fits m g s.types

module _ (m : Meaning) (p : Program) where
  -- what an instruction that is not a block's last asks
  abbrev pub Asks : Context → Types → Instruction → Type 0
  Asks k g (SetNumber to value) = Unit {0}
  Asks k g (SetTuple to tuple) = Unit {0}
  Asks k g (SetBlock to block) = Unit {0}
  Asks k g (Copy to from) = Unit {0}
  Asks k g (Add to left right) = (x y : ℕ) × (reg g left ≡ Typed Integer x) × (reg g right ≡ Typed Integer y)
  Asks k g (Subtract to left right) = (x y : ℕ) × (reg g left ≡ Typed Integer x) × (reg g right ≡ Typed Integer y)
  Asks k g (Fetch to pointer n) = (s x : ℕ) × (reg g pointer ≡ Typed (Pointer s) x) × (n < length (shape_at p s))
  Asks k g (Store pointer from n) =
      (s x y z : ℕ) × (o : Sort) × (reg g pointer ≡ Typed (Pointer s) x) × (n < length (shape_at p s)) × (reg g from ≡ Typed o y)
      × (slice_index_or (shape_at p s) n Nonsense ≡ Typed o z) × T (m.below (m.joined (m.joined (level k) x) y) z)
  Asks k g (Push count) = length g.slots + count ≤ 32
  Asks k g (Pop count) = count ≤ length g.slots
  Asks k g (Peek to n) = n < length g.slots
  Asks k g (Poke from n) = n < length g.slots
  Asks k g (Strike channel from) = (x : ℕ) × (reg g from ≡ Typed Integer x) × T (m.below (m.joined (level k) x) (slice_index p.channels channel))
  Asks k g (Branch test to) =
      (x y s : ℕ) × (reg g test ≡ Typed Integer x) × (reg g to ≡ Typed (Code s) y) × T (m.below x (level k)) × T (m.below y (level k))
      × Transfer m k g (signature_at p s)
  Asks k g (Raise label postdominator) = T (m.below (level k) label) × ((promise p postdominator).context ≡ k)
  Asks k g (Jump to) = ⊥
  Asks k g (Lower block) = ⊥
  Asks k g Halt = ⊥

  -- what a block's last instruction asks
  abbrev pub Closes : Context → Types → Instruction → Type 0
  Closes k g (SetNumber to value) = ⊥
  Closes k g (SetTuple to tuple) = ⊥
  Closes k g (SetBlock to block) = ⊥
  Closes k g (Copy to from) = ⊥
  Closes k g (Add to left right) = ⊥
  Closes k g (Subtract to left right) = ⊥
  Closes k g (Fetch to pointer n) = ⊥
  Closes k g (Store pointer from n) = ⊥
  Closes k g (Push count) = ⊥
  Closes k g (Pop count) = ⊥
  Closes k g (Peek to n) = ⊥
  Closes k g (Poke from n) = ⊥
  Closes k g (Strike channel from) = ⊥
  Closes k g (Branch test to) = ⊥
  Closes k g (Raise label postdominator) = ⊥
  Closes k g (Jump to) = (y s : ℕ) × (reg g to ≡ Typed (Code s) y) × T (m.below y (level k)) × Transfer m k g (signature_at p s)
  Closes k g (Lower block) = (l : ℕ) × (k ≡ Raised l block) × Fits m g (promise p block).types
  Closes k g Halt = k ≡ Empty

  -- a block's words, from one on
  pub data Checked : Context → Types → List Instruction → Type 0 where
    last : {k : Context} {g : Types} {i : Instruction} → Closes k g i → Checked k g (i ∷ [])
    more : {k : Context} {g : Types} {i j : Instruction} {is : List Instruction} → Asks k g i → Checked (then_context k i) (after m p k g i) (j ∷ is) → Checked k g (i ∷ (j ∷ is))

  -- a block, from its own signature
  abbrev pub BlockTyped : Block → Type 0
  BlockTyped b = Checked (signature_at p b.signature).context (signature_at p b.signature).types b.body

  abbrev pub WellTyped : Type 0
  WellTyped = Every BlockTyped p.blocks
