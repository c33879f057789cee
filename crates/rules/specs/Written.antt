-- How a programme is written down as words, item by item in their order.
use Rattle.std.specs.Prelude.{ℕ, ◌+◌, ◌*◌, List, [], ◌∷◌, ◌++◌, map, length}
use Rattle.image.specs.declared.word.Word.{Word}
use Rattle.image.specs.declared.ty.Ty.{Ty}
use Rattle.image.specs.declared.head.Head.{Head}
use Rattle.image.specs.declared.head.Head.TheVariants as head
use Rattle.image.specs.declared.instruction.Instruction.{Instruction}
use Rattle.image.specs.Heads.{head_word}
use Rattle.image.specs.Types.{type_word}
use Rattle.image.specs.Instructions.{instruction_word}
use Rattle.rules.specs.Program.{Program}
use Rattle.rules.specs.Says.{Part, a_channel, a_shape, a_signature, a_tuple, a_block}

-- a word from its four bytes
abbrev pub joined_word : Word → ℕ
joined_word w = w.kind * 16777216 + w.a * 65536 + w.b * 256 + w.c

abbrev pub type_written : Ty → ℕ
type_written t = joined_word (type_word t)

abbrev pub instruction_written : Instruction → ℕ
instruction_written i = joined_word (instruction_word i)

-- ---- one item: its head, and the words that follow

abbrev pub head_for : Part → Head
head_for (a_channel l) = head.Channel l
head_for (a_shape ts) = head.Shape (length ts)
head_for (a_signature s) = head.Signature s.context (length s.types.slots)
head_for (a_tuple t) = head.Tuple t.shape (length t.words)
head_for (a_block b) = head.Block b.signature (length b.body)

abbrev pub head_written : Part → ℕ
head_written x = joined_word (head_word (head_for x))

abbrev pub body_written : Part → List ℕ
body_written (a_channel l) = []
body_written (a_shape ts) = map type_written ts
body_written (a_signature s) = map type_written s.types.registers ++ map type_written s.types.slots
body_written (a_tuple t) = t.words
body_written (a_block b) = map instruction_written b.body

-- ---- one item after another

abbrev pub written : List Part → List ℕ
written [] = []
written (x ∷ xs) = head_written x ∷ (body_written x ++ written xs)

-- channels, shapes, signatures, tuples, blocks
abbrev pub parts_of : Program → List Part
parts_of p = map a_channel p.channels ++ (map a_shape p.shapes ++ (map a_signature p.signatures ++ (map a_tuple p.tuples ++ map a_block p.blocks)))

abbrev pub image_of : Program → List ℕ
image_of p = written (parts_of p)
