-- Laid out: the words are a programme written down, within its limits.
use Rattle.std.specs.Prelude.{◌≡◌, ℕ, ◌+◌, ◌<◌, ◌≤◌, List, [], ◌∷◌, length}
use Rattle.image.specs.declared.ty.Sort.TheVariants.{Integer, Pointer, Code}
use Rattle.image.specs.declared.ty.Ty.{Ty}
use Rattle.image.specs.declared.ty.Ty.TheVariants.{Nonsense, Typed}
use Rattle.image.specs.declared.head.Context.{Context}
use Rattle.image.specs.declared.head.Context.TheVariants.{Empty, Raised}
use Rattle.image.specs.declared.instruction.Instruction.{Instruction}
use Rattle.image.specs.declared.instruction.Instruction.TheVariants.{SetNumber, SetTuple, SetBlock, Copy, Add, Subtract, Fetch, Store, Push, Pop, Peek, Poke, Strike, Branch, Raise, Jump, Lower, Halt}
use Rattle.rules.specs.Program.{Signature, Tuple, Block, Program}
use Rattle.rules.specs.Written.{image_of}

abbrev pub Every : {A : Type 0} → (A → Type 0) → List A → Type 0
Every P [] = Unit {0}
Every P (x ∷ xs) = P x × Every P xs

-- ---- every operand fits its byte, and a number its two

abbrev pub ByteType : Ty → Type 0
ByteType Nonsense = Unit {0}
ByteType (Typed Integer label) = label < 256
ByteType (Typed (Pointer shape) label) = (shape < 256) × (label < 256)
ByteType (Typed (Code signature) label) = (signature < 256) × (label < 256)

-- a shape has no nonsense cell
abbrev pub CellType : Ty → Type 0
CellType Nonsense = ⊥
CellType (Typed sort label) = ByteType (Typed sort label)

abbrev pub ByteContext : Context → Type 0
ByteContext Empty = Unit {0}
ByteContext (Raised label postdominator) = (label < 256) × (postdominator < 256)

abbrev pub ByteInstruction : Instruction → Type 0
ByteInstruction (SetNumber to value) = (to < 256) × (value < 65536)
ByteInstruction (SetTuple to tuple) = (to < 256) × (tuple < 256)
ByteInstruction (SetBlock to block) = (to < 256) × (block < 256)
ByteInstruction (Copy to from) = (to < 256) × (from < 256)
ByteInstruction (Add to left right) = (to < 256) × (left < 256) × (right < 256)
ByteInstruction (Subtract to left right) = (to < 256) × (left < 256) × (right < 256)
ByteInstruction (Fetch to pointer cell) = (to < 256) × (pointer < 256) × (cell < 256)
ByteInstruction (Store pointer from cell) = (pointer < 256) × (from < 256) × (cell < 256)
ByteInstruction (Push count) = count < 256
ByteInstruction (Pop count) = count < 256
ByteInstruction (Peek to slot) = (to < 256) × (slot < 256)
ByteInstruction (Poke from slot) = (from < 256) × (slot < 256)
ByteInstruction (Strike channel from) = (channel < 256) × (from < 256)
ByteInstruction (Branch test target) = (test < 256) × (target < 256)
ByteInstruction (Raise label postdominator) = (label < 256) × (postdominator < 256)
ByteInstruction (Jump target) = target < 256
ByteInstruction (Lower block) = block < 256
ByteInstruction Halt = Unit {0}

-- ---- the last instruction of a block ends it, and no other does

abbrev pub Ends : Instruction → Type 0
Ends (SetNumber to value) = ⊥
Ends (SetTuple to tuple) = ⊥
Ends (SetBlock to block) = ⊥
Ends (Copy to from) = ⊥
Ends (Add to left right) = ⊥
Ends (Subtract to left right) = ⊥
Ends (Fetch to pointer cell) = ⊥
Ends (Store pointer from cell) = ⊥
Ends (Push count) = ⊥
Ends (Pop count) = ⊥
Ends (Peek to slot) = ⊥
Ends (Poke from slot) = ⊥
Ends (Strike channel from) = ⊥
Ends (Branch test target) = ⊥
Ends (Raise label postdominator) = ⊥
Ends (Jump target) = Unit {0}
Ends (Lower block) = Unit {0}
Ends Halt = Unit {0}

abbrev pub Ended : List Instruction → Type 0
Ended [] = ⊥
Ended (i ∷ []) = Ends i
Ended (i ∷ (j ∷ is)) = (Ends i → ⊥) × Ended (j ∷ is)

-- ---- the items within their limits

pub record ShapeLaid (ts : List Ty) : Type 0 where
  pub some : 1 ≤ length ts
  pub few : length ts ≤ 16
  pub cells : Every CellType ts

pub record SignatureLaid (s : Signature) : Type 0 where
  pub context : ByteContext s.context
  pub eight : length s.types.registers ≡ 8
  pub depth : length s.types.slots ≤ 32
  pub registers : Every ByteType s.types.registers
  pub slots : Every ByteType s.types.slots

pub record TupleLaid (t : Tuple) : Type 0 where
  pub shape : t.shape < 256
  pub some : 1 ≤ length t.words
  pub few : length t.words ≤ 16

pub record BlockLaid (b : Block) : Type 0 where
  pub signature : b.signature < 256
  pub few : length b.body ≤ 64
  pub bytes : Every ByteInstruction b.body
  pub ended : Ended b.body

-- how many cells the tuples have together
abbrev pub all_cells : List Tuple → ℕ
all_cells [] = 0
all_cells (t ∷ ts) = length t.words + all_cells ts

pub record IsLaidOut (ns : List ℕ) (p : Program) : Type 0 where
  pub written : ns ≡ image_of p
  pub short : length ns ≤ 2048
  pub channels : (length p.channels ≤ 16) × Every (λ l. l < 256) p.channels
  pub shapes : (length p.shapes ≤ 32) × Every ShapeLaid p.shapes
  pub signatures : (length p.signatures ≤ 64) × Every SignatureLaid p.signatures
  pub tuples : (length p.tuples ≤ 64) × (all_cells p.tuples ≤ 256) × Every TupleLaid p.tuples
  pub blocks : (1 ≤ length p.blocks) × (length p.blocks ≤ 128) × Every BlockLaid p.blocks
