-- Named: what a programme names by number is there, and its codes that stand for labels are labels.
use Rattle.std.specs.Prelude.{◌≡◌, ℕ, ◌<◌, length, slice_index, slice_index_or}
use Rattle.labels.specs.Meaning.{Meaning}
use Rattle.image.specs.declared.ty.Sort.TheVariants.{Integer, Pointer, Code}
use Rattle.image.specs.declared.ty.Ty.{Ty}
use Rattle.image.specs.declared.ty.Ty.TheVariants.{Nonsense, Typed}
use Rattle.image.specs.declared.head.Context.{Context}
use Rattle.image.specs.declared.head.Context.TheVariants.{Empty, Raised}
use Rattle.image.specs.declared.instruction.Instruction.{Instruction}
use Rattle.image.specs.declared.instruction.Instruction.TheVariants.{SetNumber, SetTuple, SetBlock, Copy, Add, Subtract, Fetch, Store, Push, Pop, Peek, Poke, Strike, Branch, Raise, Jump, Lower, Halt}
use Rattle.rules.specs.Program.{Signature, Tuple, Block, Program, shape_at, tuple_at, block_at, promise}
use Rattle.rules.specs.LaidOut.{Every}

-- ---- block 0 is the start: it begins with nothing but integers and nonsense

abbrev pub NoAddress : Ty → Type 0
NoAddress Nonsense = Unit {0}
NoAddress (Typed Integer label) = Unit {0}
NoAddress (Typed (Pointer shape) label) = ⊥
NoAddress (Typed (Code signature) label) = ⊥

pub record Start (s : Signature) : Type 0 where
  pub context : s.context ≡ Empty
  pub depth : length s.types.slots ≡ 0
  pub registers : Every NoAddress s.types.registers

module _ (m : Meaning) (p : Program) where
  abbrev pub TypeNamed : Ty → Type 0
  TypeNamed Nonsense = Unit {0}
  TypeNamed (Typed Integer label) = label < m.count
  TypeNamed (Typed (Pointer shape) label) = (shape < length p.shapes) × (label < m.count)
  TypeNamed (Typed (Code signature) label) = (signature < length p.signatures) × (label < m.count)

  abbrev pub ContextNamed : Context → Type 0
  ContextNamed Empty = Unit {0}
  ContextNamed (Raised label postdominator) = (postdominator < length p.blocks) × (label < m.count)

  -- a plain word in a cell of a type: 0, a tuple of that shape, or a block of that signature
  abbrev pub Plain : Ty → ℕ → Type 0
  Plain Nonsense n = Unit {0}
  Plain (Typed Integer label) n = n ≡ 0
  Plain (Typed (Pointer shape) label) n = (n < length p.tuples) × ((tuple_at p n).shape ≡ shape)
  Plain (Typed (Code signature) label) n = (n < length p.blocks) × ((block_at p n).signature ≡ signature)

  -- a register is one of eight
  abbrev pub InstructionNamed : Instruction → Type 0
  InstructionNamed (SetNumber to value) = to < 8
  InstructionNamed (SetTuple to tuple) = (to < 8) × (tuple < length p.tuples)
  InstructionNamed (SetBlock to block) = (to < 8) × (block < length p.blocks)
  InstructionNamed (Copy to from) = (to < 8) × (from < 8)
  InstructionNamed (Add to left right) = (to < 8) × (left < 8) × (right < 8)
  InstructionNamed (Subtract to left right) = (to < 8) × (left < 8) × (right < 8)
  InstructionNamed (Fetch to pointer cell) = (to < 8) × (pointer < 8)
  InstructionNamed (Store pointer from cell) = (pointer < 8) × (from < 8)
  InstructionNamed (Push count) = Unit {0}
  InstructionNamed (Pop count) = Unit {0}
  InstructionNamed (Peek to slot) = to < 8
  InstructionNamed (Poke from slot) = from < 8
  InstructionNamed (Strike channel from) = (channel < length p.channels) × (from < 8)
  InstructionNamed (Branch test target) = (test < 8) × (target < 8)
  InstructionNamed (Raise label postdominator) = (postdominator < length p.blocks) × (label < m.count)
  InstructionNamed (Jump target) = target < 8
  InstructionNamed (Lower block) = block < length p.blocks
  InstructionNamed Halt = Unit {0}

  pub record SignatureNamed (s : Signature) : Type 0 where
    pub context : ContextNamed s.context
    pub registers : Every TypeNamed s.types.registers
    pub slots : Every TypeNamed s.types.slots

  -- a tuple has the cells of its shape, and in each a plain word of the cell's type
  pub record TupleNamed (t : Tuple) : Type 0 where
    pub shape : t.shape < length p.shapes
    pub count : length t.words ≡ length (shape_at p t.shape)
    pub words : (n : ℕ) → n < length t.words → Plain (slice_index_or (shape_at p t.shape) n Nonsense) (slice_index t.words n)

  pub record BlockNamed (b : Block) : Type 0 where
    pub signature : b.signature < length p.signatures
    pub body : Every InstructionNamed b.body

  pub record Named : Type 0 where
    pub channels : Every (λ l. l < m.count) p.channels
    pub shapes : Every (Every TypeNamed) p.shapes
    pub signatures : Every SignatureNamed p.signatures
    pub tuples : Every TupleNamed p.tuples
    pub blocks : Every BlockNamed p.blocks
    pub start : Start (promise p 0)
