-- The naming pass: does each word name only what is there, and each code that stands for a label a label?
use Rattle.std.specs.Prelude.{ℕ, suc, Bool, true, false, not, ◌&&◌, ◌||◌, List, [], ◌∷◌, ◌++◌, length, drop, ◌==◌, nat_lt, slice_index_or}
use Rattle.labels.specs.Meaning.{Meaning}
use Rattle.image.specs.declared.ty.Sort.TheVariants.{Integer, Pointer, Code}
use Rattle.image.specs.declared.ty.Ty.{Ty}
use Rattle.image.specs.declared.ty.Ty.TheVariants.{Nonsense, Typed}
use Rattle.image.specs.declared.head.Context.{Context}
use Rattle.image.specs.declared.head.Context.TheVariants.{Empty, Raised}
use Rattle.image.specs.declared.instruction.Instruction.{Instruction}
use Rattle.image.specs.declared.instruction.Instruction.TheVariants.{SetNumber, SetTuple, SetBlock, Copy, Add, Subtract, Fetch, Store, Push, Pop, Peek, Poke, Strike, Branch, Raise, Jump, Lower, Halt}
use Rattle.image.specs.Finding.{Finding, clear, Tests, ◌then◌, first, walk}
use Rattle.image.specs.Items.{Piece}
use Rattle.rules.specs.declared.rule.NamingRule.{NamingRule}
use Rattle.rules.specs.declared.rule.NamingRule.TheVariants.{NoSuchRegister, NoSuchChannel, NoSuchShape, NoSuchSignature, NoSuchTuple, NoSuchBlock, NotALabel, BadStart, WrongCellCount, WrongPlainWord}
use Rattle.rules.specs.Program.{Signature, Tuple, Block, Program, shape_at, tuple_at, block_at, signature_at}
use Rattle.rules.specs.Says.{Part, a_channel, a_shape, a_signature, a_tuple, a_block, says}

-- the number by which each rule is refused
abbrev pub naming_number : NamingRule → ℕ
naming_number NoSuchRegister = 4
naming_number NoSuchChannel = 4
naming_number NoSuchShape = 4
naming_number NoSuchSignature = 4
naming_number NoSuchTuple = 4
naming_number NoSuchBlock = 4
naming_number NotALabel = 5
naming_number BadStart = 6
naming_number WrongCellCount = 7
naming_number WrongPlainWord = 7

-- ---- the start rule: an empty context, depth 0, and registers that are integer or nonsense

abbrev pub unraised : Context → Bool
unraised Empty = true
unraised (Raised label postdominator) = false

abbrev pub no_address : Ty → Bool
no_address Nonsense = true
no_address (Typed Integer label) = true
no_address (Typed (Pointer shape) label) = false
no_address (Typed (Code signature) label) = false

abbrev pub all : {A : Type 0} → (A → Bool) → List A → Bool
all f [] = true
all f (x ∷ xs) = f x && all f xs

abbrev pub starts : Signature → Bool
starts s = unraised s.context && length s.types.slots == 0 && all no_address s.types.registers

-- block 0 is the start
abbrev pub may_start : ℕ → Signature → Bool
may_start number s = not (number == 0) || starts s

module _ (m : Meaning) (p : Program) where
  -- ---- each named thing has its test

  abbrev pub register_there : ℕ → NamingRule × Bool
  register_there r = (NoSuchRegister, nat_lt r 8)

  abbrev pub channel_there : ℕ → NamingRule × Bool
  channel_there n = (NoSuchChannel, nat_lt n (length p.channels))

  abbrev pub shape_there : ℕ → NamingRule × Bool
  shape_there n = (NoSuchShape, nat_lt n (length p.shapes))

  abbrev pub signature_there : ℕ → NamingRule × Bool
  signature_there n = (NoSuchSignature, nat_lt n (length p.signatures))

  abbrev pub tuple_there : ℕ → NamingRule × Bool
  tuple_there n = (NoSuchTuple, nat_lt n (length p.tuples))

  abbrev pub block_there : ℕ → NamingRule × Bool
  block_there n = (NoSuchBlock, nat_lt n (length p.blocks))

  abbrev pub a_label : ℕ → NamingRule × Bool
  a_label l = (NotALabel, nat_lt l m.count)

  -- ---- one word each

  abbrev pub type_named : Ty → Tests NamingRule
  type_named Nonsense = []
  type_named (Typed Integer label) = a_label label ∷ []
  type_named (Typed (Pointer shape) label) = shape_there shape ∷ a_label label ∷ []
  type_named (Typed (Code signature) label) = signature_there signature ∷ a_label label ∷ []

  abbrev pub context_named : Context → Tests NamingRule
  context_named Empty = []
  context_named (Raised label postdominator) = block_there postdominator ∷ a_label label ∷ []

  -- the plain word of a cell of a type
  abbrev pub plain_named : Ty → ℕ → Tests NamingRule
  plain_named Nonsense n = []
  plain_named (Typed Integer label) n = (WrongPlainWord, (n == 0)) ∷ []
  plain_named (Typed (Pointer shape) label) n = tuple_there n ∷ (WrongPlainWord, ((tuple_at p n).shape == shape)) ∷ []
  plain_named (Typed (Code signature) label) n = block_there n ∷ (WrongPlainWord, ((block_at p n).signature == signature)) ∷ []

  abbrev pub instruction_named : Instruction → Tests NamingRule
  instruction_named (SetNumber to value) = register_there to ∷ []
  instruction_named (SetTuple to tuple) = register_there to ∷ tuple_there tuple ∷ []
  instruction_named (SetBlock to block) = register_there to ∷ block_there block ∷ []
  instruction_named (Copy to from) = register_there to ∷ register_there from ∷ []
  instruction_named (Add to left right) = register_there to ∷ register_there left ∷ register_there right ∷ []
  instruction_named (Subtract to left right) = register_there to ∷ register_there left ∷ register_there right ∷ []
  instruction_named (Fetch to pointer cell) = register_there to ∷ register_there pointer ∷ []
  instruction_named (Store pointer from cell) = register_there pointer ∷ register_there from ∷ []
  instruction_named (Push count) = []
  instruction_named (Pop count) = []
  instruction_named (Peek to slot) = register_there to ∷ []
  instruction_named (Poke from slot) = register_there from ∷ []
  instruction_named (Strike channel from) = channel_there channel ∷ register_there from ∷ []
  instruction_named (Branch test target) = register_there test ∷ register_there target ∷ []
  instruction_named (Raise label postdominator) = block_there postdominator ∷ a_label label ∷ []
  instruction_named (Jump target) = register_there target ∷ []
  instruction_named (Lower block) = block_there block ∷ []
  instruction_named Halt = []

  -- ---- heads

  abbrev pub tuple_named : Tuple → Tests NamingRule
  tuple_named t = shape_there t.shape ∷ (WrongCellCount, (length t.words == length (shape_at p t.shape))) ∷ []

  -- the block of a number
  abbrev pub block_named : ℕ → Block → Tests NamingRule
  block_named number b = signature_there b.signature ∷ (BadStart, may_start number (signature_at p b.signature)) ∷ []

  -- ---- the words behind a head, from a place on

  abbrev pub types_named : ℕ → List Ty → Finding NamingRule
  types_named place ts = walk (λ s t. type_named t) (λ s t. s) (tt {0}) place ts

  -- the state is the types of the cells still to come
  abbrev pub plains_named : List Ty → ℕ → List ℕ → Finding NamingRule
  plains_named ts place ns = walk (λ ts n. plain_named (slice_index_or ts 0 Nonsense) n) (λ ts n. drop 1 ts) ts place ns

  abbrev pub instructions_named : ℕ → List Instruction → Finding NamingRule
  instructions_named place is = walk (λ s i. instruction_named i) (λ s i. s) (tt {0}) place is

  -- ---- an item by its number and place: its head, then its words

  abbrev pub part_named : ℕ → ℕ → Part → Finding NamingRule
  part_named number place (a_channel l) = first place (a_label l ∷ [])
  part_named number place (a_shape ts) = types_named (suc place) ts
  part_named number place (a_signature s) = first place (context_named s.context) then types_named (suc place) (s.types.registers ++ s.types.slots)
  part_named number place (a_tuple t) = first place (tuple_named t) then plains_named (shape_at p t.shape) (suc place) t.words
  part_named number place (a_block b) = first place (block_named number b) then instructions_named (suc place) b.body

  abbrev pub naming : List Piece → Finding NamingRule
  naming [] = clear
  naming (i ∷ is) = part_named i.number i.place (says i) then naming is
