-- The context and types that are known before an instruction: what they are, and how each instruction changes them.
use Rattle.std.specs.Prelude.{ℕ, ◌++◌, drop, replicate, slice_index_or, slice_set}
use Rattle.labels.specs.Meaning.{Meaning}
use Rattle.image.specs.declared.ty.Sort.TheVariants.{Integer, Pointer, Code}
use Rattle.image.specs.declared.ty.Ty.{Ty}
use Rattle.image.specs.declared.ty.Ty.TheVariants.{Nonsense, Typed}
use Rattle.image.specs.declared.head.Context.{Context}
use Rattle.image.specs.declared.head.Context.TheVariants.{Empty, Raised}
use Rattle.image.specs.declared.instruction.Instruction.{Instruction}
use Rattle.image.specs.declared.instruction.Instruction.TheVariants.{SetNumber, SetTuple, SetBlock, Copy, Add, Subtract, Fetch, Store, Push, Pop, Peek, Poke, Strike, Branch, Raise, Jump, Lower, Halt}
use Rattle.rules.specs.Program.{Types, Program, shape_at, tuple_at, block_at}

-- the label of a context, 0 for the empty one
abbrev pub level : Context → ℕ
level Empty = 0
level (Raised label postdominator) = label

abbrev pub reg : Types → ℕ → Ty
reg g r = slice_index_or g.registers r Nonsense

abbrev pub slot : Types → ℕ → Ty
slot g n = slice_index_or g.slots n Nonsense

abbrev pub set_reg : Types → ℕ → Ty → Types
set_reg g r t = record { registers = slice_set g.registers r t; slots = g.slots }

abbrev pub set_slot : Types → ℕ → Ty → Types
set_slot g n t = record { registers = g.registers; slots = slice_set g.slots n t }

-- a type taken over, with a label joined into its own; nonsense stays nonsense
abbrev pub over : Meaning → ℕ → Ty → Ty
over m l Nonsense = Nonsense
over m l (Typed sort label) = Typed sort (m.joined l label)

-- the label of a type, 0 for nonsense
abbrev pub label_of : Ty → ℕ
label_of Nonsense = 0
label_of (Typed sort label) = label

-- the type of cell n of the tuple at a pointer, nonsense where there is none
abbrev pub cell : Program → Ty → ℕ → Ty
cell p Nonsense n = Nonsense
cell p (Typed Integer label) n = Nonsense
cell p (Typed (Pointer shape) label) n = slice_index_or (shape_at p shape) n Nonsense
cell p (Typed (Code signature) label) n = Nonsense

module _ (m : Meaning) (p : Program) where
  -- an integer made of two registers
  abbrev pub mixed : Context → Ty → Ty → Ty
  mixed k t u = Typed Integer (m.joined (m.joined (level k) (label_of t)) (label_of u))

  -- the types after an instruction
  abbrev pub after : Context → Types → Instruction → Types
  after k g (SetNumber to value) = set_reg g to (Typed Integer (level k))
  after k g (SetTuple to tuple) = set_reg g to (Typed (Pointer (tuple_at p tuple).shape) (level k))
  after k g (SetBlock to block) = set_reg g to (Typed (Code (block_at p block).signature) (level k))
  after k g (Copy to from) = set_reg g to (over m (level k) (reg g from))
  after k g (Add to left right) = set_reg g to (mixed k (reg g left) (reg g right))
  after k g (Subtract to left right) = set_reg g to (mixed k (reg g left) (reg g right))
  after k g (Fetch to pointer n) = set_reg g to (over m (m.joined (level k) (label_of (reg g pointer))) (cell p (reg g pointer) n))
  after k g (Store pointer from n) = g
  after k g (Push count) = record { registers = g.registers; slots = replicate count Nonsense ++ g.slots }
  after k g (Pop count) = record { registers = g.registers; slots = drop count g.slots }
  after k g (Peek to n) = set_reg g to (over m (level k) (slot g n))
  after k g (Poke from n) = set_slot g n (over m (level k) (reg g from))
  after k g (Strike channel from) = g
  after k g (Branch test target) = g
  after k g (Raise label postdominator) = g
  after k g (Jump target) = g
  after k g (Lower block) = g
  after k g Halt = g

-- the context after an instruction
abbrev pub then_context : Context → Instruction → Context
then_context k (SetNumber to value) = k
then_context k (SetTuple to tuple) = k
then_context k (SetBlock to block) = k
then_context k (Copy to from) = k
then_context k (Add to left right) = k
then_context k (Subtract to left right) = k
then_context k (Fetch to pointer n) = k
then_context k (Store pointer from n) = k
then_context k (Push count) = k
then_context k (Pop count) = k
then_context k (Peek to n) = k
then_context k (Poke from n) = k
then_context k (Strike channel from) = k
then_context k (Branch test target) = k
then_context k (Raise label postdominator) = Raised label postdominator
then_context k (Jump target) = k
then_context k (Lower block) = k
then_context k Halt = k
