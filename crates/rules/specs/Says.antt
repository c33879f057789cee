-- What the items of an image say: each is a part of the programme, and all of them together are the programme.
use Rattle.std.specs.Prelude.{ℕ, Bool, true, false, List, [], ◌∷◌, map, take, drop, Some, None, slice_index}
use Rattle.image.specs.declared.section.Section.{Section}
use Rattle.image.specs.declared.section.Section.TheVariants.{Channels, Shapes, Signatures, Tuples, Blocks}
use Rattle.image.specs.declared.word.Word.{Word}
use Rattle.image.specs.declared.ty.Ty.{Ty}
use Rattle.image.specs.declared.ty.Ty.TheVariants.{Nonsense}
use Rattle.image.specs.declared.instruction.Instruction.{Instruction}
use Rattle.image.specs.declared.instruction.Instruction.TheVariants.{Halt}
use Rattle.image.specs.Words.{split}
use Rattle.image.specs.Heads.{context_of}
use Rattle.image.specs.Types.{type_of}
use Rattle.image.specs.Instructions.{instruction_of}
use Rattle.image.specs.Items.{Piece, pieces}
use Rattle.rules.specs.Program.{Signature, Tuple, Block, Program}

pub data Part : Type 0 where
  a_channel : ℕ → Part
  a_shape : List Ty → Part
  a_signature : Signature → Part
  a_tuple : Tuple → Part
  a_block : Block → Part

-- ---- a word within an item; one that says nothing stands in no item of a laid out image

abbrev pub type_in : ℕ → Ty
type_in n = elim (type_of (split n)) [ None ↦ Nonsense | Some t ↦ t ]

abbrev pub instruction_in : Bool → ℕ → Instruction
instruction_in last n = elim (instruction_of last (split n)) [ None ↦ Halt | Some i ↦ i ]

abbrev pub none_behind : List ℕ → Bool
none_behind [] = true
none_behind (n ∷ ns) = false

abbrev pub body_of : List ℕ → List Instruction
body_of [] = []
body_of (n ∷ ns) = instruction_in (none_behind ns) n ∷ body_of ns

-- ---- an item, by its section: its head, and the words behind it

abbrev pub part_in : Section → Word → List ℕ → Part
part_in Channels head ns = a_channel head.c
part_in Shapes head ns = a_shape (map type_in ns)
part_in Signatures head ns = a_signature (record { context = context_of head; types = record { registers = map type_in (take 8 ns); slots = map type_in (drop 8 ns) } })
part_in Tuples head ns = a_tuple (record { shape = head.c; words = ns })
part_in Blocks head ns = a_block (record { signature = head.b; body = body_of ns })

abbrev pub says : Piece → Part
says i = part_in i.section (split (slice_index i.words 0)) (drop 1 i.words)

-- ---- all items

abbrev pub no_program : Program
no_program = record { channels = []; shapes = []; signatures = []; tuples = []; blocks = [] }

abbrev pub with_part : Part → Program → Program
with_part (a_channel l) p = record { channels = l ∷ p.channels; shapes = p.shapes; signatures = p.signatures; tuples = p.tuples; blocks = p.blocks }
with_part (a_shape ts) p = record { channels = p.channels; shapes = ts ∷ p.shapes; signatures = p.signatures; tuples = p.tuples; blocks = p.blocks }
with_part (a_signature s) p = record { channels = p.channels; shapes = p.shapes; signatures = s ∷ p.signatures; tuples = p.tuples; blocks = p.blocks }
with_part (a_tuple t) p = record { channels = p.channels; shapes = p.shapes; signatures = p.signatures; tuples = t ∷ p.tuples; blocks = p.blocks }
with_part (a_block b) p = record { channels = p.channels; shapes = p.shapes; signatures = p.signatures; tuples = p.tuples; blocks = b ∷ p.blocks }

-- parts put together, each section in its order
abbrev pub together : List Part → Program
together [] = no_program
together (x ∷ xs) = with_part x (together xs)

abbrev pub program : List Piece → Program
program is = together (map says is)

-- the programme of an image
abbrev pub program_of : List ℕ → Program
program_of ns = program (pieces ns)
