-- The heads of items: what a head word says, and how it is written.
use Rattle.std.specs.Prelude.{ℕ, ◌+◌, ◌%◌, cond, [], ◌∷◌, Some, None, Option, nat_le, slice_index_or}
use Rattle.image.specs.declared.word.Word.{Word}
use Rattle.image.specs.declared.head.Context.{Context}
use Rattle.image.specs.declared.head.Context.TheVariants.{Empty, Raised}
use Rattle.image.specs.declared.head.Head.{Head}
use Rattle.image.specs.declared.head.Head.TheVariants.{Channel, Shape, Signature, Tuple, Block}
use Rattle.image.specs.declared.section.Section.{Section}
use Rattle.image.specs.declared.section.Section.TheVariants.{Channels, Shapes, Signatures, Tuples, Blocks}
use Rattle.image.specs.Words.{word}

-- c has the stack depth in its low seven bits, and its top bit is set where the context is raised, to label a with postdominator b
abbrev pub context_of : Word → Context
context_of w = cond (nat_le 128 w.c) (Raised w.a w.b) Empty

-- the heads of kinds 0 to 5; there is none of kind 0
abbrev pub head_of : Word → Option Head
head_of w =
    slice_index_or
    (None
    ∷ Some (Channel w.c)
    ∷ Some (Shape w.c)
    ∷ Some (Signature (context_of w) (w.c % 128))
    ∷ Some (Tuple w.c w.b)
    ∷ Some (Block w.b w.c)
    ∷ [])
    w.kind None

-- how a head is written: every field that it does not name is zero
abbrev pub head_word : Head → Word
head_word (Channel label) = word 1 0 0 label
head_word (Shape cells) = word 2 0 0 cells
head_word (Signature Empty depth) = word 3 0 0 (depth % 128)
head_word (Signature (Raised label postdominator) depth) = word 3 label postdominator (128 + depth % 128)
head_word (Tuple shape cells) = word 4 0 cells shape
head_word (Block signature words) = word 5 0 signature words

abbrev pub section_of : Head → Section
section_of (Channel label) = Channels
section_of (Shape cells) = Shapes
section_of (Signature context depth) = Signatures
section_of (Tuple shape cells) = Tuples
section_of (Block signature words) = Blocks

-- how many words follow the head: types of cells, types of registers and slots, plain words, instructions
abbrev pub follows : Head → ℕ
follows (Channel label) = 0
follows (Shape cells) = cells
follows (Signature context depth) = 8 + depth
follows (Tuple shape cells) = cells
follows (Block signature words) = words
