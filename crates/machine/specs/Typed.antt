-- Typed states: every register, slot and cell holds what its type says, and the words to come are checked at those types. The rules
-- that ask no label kind keep a run in such states, and so what an instruction names is always there.
use Rattle.std.specs.Prelude.{◌≡◌, ℕ, ◌+◌, ◌<◌, ◌≤◌, List, length, slice_index, slice_index_or}
use Rattle.image.specs.declared.ty.Sort.TheVariants.{Integer, Pointer, Code}
use Rattle.image.specs.declared.ty.Ty.{Ty}
use Rattle.image.specs.declared.ty.Ty.TheVariants.{Nonsense, Typed}
use Rattle.image.specs.declared.head.Context.{Context}
use Rattle.image.specs.declared.instruction.Instruction.{Instruction}
use Rattle.image.specs.declared.instruction.Instruction.TheVariants.{SetNumber, SetTuple, SetBlock, Copy, Add, Subtract, Fetch, Store, Push, Pop, Peek, Poke, Strike, Branch, Raise, Jump, Lower, Halt}
use Rattle.rules.specs.Program.{Types, Program, tuple_at, block_at, cell_types}
use Rattle.rules.specs.LaidOut.{Every}
use Rattle.rules.specs.Named.{InstructionNamed}
use Rattle.rules.specs.WellTyped.{Checked}
use Rattle.rules.specs.Free.{any_label}
use Rattle.machine.specs.Machine.{State, reg_of, cell_place}

-- what a word of a type is: a pointer's is the number of a tuple of its shape, a code's that of a block of its signature
abbrev pub Holds : Program → Ty → ℕ → Type 0
Holds p Nonsense word = Unit {0}
Holds p (Typed Integer label) word = Unit {0}
Holds p (Typed (Pointer shape) label) word = (word < length p.tuples) × ((tuple_at p word).shape ≡ shape)
Holds p (Typed (Code signature) label) word = (word < length p.blocks) × ((block_at p word).signature ≡ signature)

-- as many words as types, and each is what its type says; past the end there is nothing to say
pub record AllHold (p : Program) (types : List Ty) (words : List ℕ) : Type 0 where
  pub count : length words ≡ length types
  pub holds : (n : ℕ) → Holds p (slice_index_or types n Nonsense) (slice_index words n)

-- cells that a run may begin with
abbrev pub CellsHold : Program → List ℕ → Type 0
CellsHold p cells = AllHold p (cell_types p) cells

pub record StateTyped (p : Program) (g : Types) (s : State) : Type 0 where
  pub eight : length g.registers ≡ 8
  pub registers : AllHold p g.registers s.registers
  pub slots : AllHold p g.slots s.stack
  pub cells : CellsHold p s.cells

-- a state that may go on at these words
pub record Ready (p : Program) (s : State) (is : List Instruction) : Type 0 where
  pub context : Context
  pub types : Types
  pub checked : Checked any_label p context types is
  pub named : Every (InstructionNamed any_label p) is
  pub typed : StateTyped p types s

-- ---- what an instruction names is there

module _ (p : Program) (s : State) where
  -- for one that goes on to the next word
  abbrev pub CanMove : Instruction → Type 0
  CanMove (SetNumber to value) = to < 8
  CanMove (SetTuple to tuple) = to < 8
  CanMove (SetBlock to block) = to < 8
  CanMove (Copy to from) = (to < 8) × (from < 8)
  CanMove (Add to left right) = (to < 8) × (left < 8) × (right < 8)
  CanMove (Subtract to left right) = (to < 8) × (left < 8) × (right < 8)
  CanMove (Fetch to pointer cell) = (to < 8) × (pointer < 8) × (cell_place p (reg_of s pointer) cell < length s.cells)
  CanMove (Store pointer from cell) = (pointer < 8) × (from < 8) × (cell_place p (reg_of s pointer) cell < length s.cells)
  CanMove (Push count) = length s.stack + count ≤ 32
  CanMove (Pop count) = Unit {0}
  CanMove (Peek to slot) = to < 8
  CanMove (Poke from slot) = from < 8
  CanMove (Strike channel from) = ⊥
  CanMove (Branch test target) = ⊥
  CanMove (Raise label postdominator) = ⊥
  CanMove (Jump target) = ⊥
  CanMove (Lower block) = ⊥
  CanMove Halt = ⊥

  -- for any that counts
  abbrev pub CanDo : Instruction → Type 0
  CanDo (SetNumber to value) = CanMove (SetNumber to value)
  CanDo (SetTuple to tuple) = CanMove (SetTuple to tuple)
  CanDo (SetBlock to block) = CanMove (SetBlock to block)
  CanDo (Copy to from) = CanMove (Copy to from)
  CanDo (Add to left right) = CanMove (Add to left right)
  CanDo (Subtract to left right) = CanMove (Subtract to left right)
  CanDo (Fetch to pointer cell) = CanMove (Fetch to pointer cell)
  CanDo (Store pointer from cell) = CanMove (Store pointer from cell)
  CanDo (Push count) = CanMove (Push count)
  CanDo (Pop count) = CanMove (Pop count)
  CanDo (Peek to slot) = CanMove (Peek to slot)
  CanDo (Poke from slot) = CanMove (Poke from slot)
  CanDo (Strike channel from) = from < 8
  CanDo (Branch test target) = (test < 8) × (target < 8) × (reg_of s target < length p.blocks)
  CanDo (Raise label postdominator) = ⊥
  CanDo (Jump target) = (target < 8) × (reg_of s target < length p.blocks)
  CanDo (Lower block) = block < length p.blocks
  CanDo Halt = Unit {0}
