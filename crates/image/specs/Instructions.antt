-- Instruction words, kinds 20 to 2E and 30 to 32: what each says, and how it is written.
use Rattle.std.specs.Prelude.{◌+◌, ◌-◌, ◌*◌, ◌/◌, ◌%◌, Bool, cond, [], ◌∷◌, get_or, Some, None, Option, nat_le, slice_index_or}
use Rattle.image.specs.declared.word.Word.{Word}
use Rattle.image.specs.declared.instruction.Instruction.{Instruction}
use Rattle.image.specs.declared.instruction.Instruction.TheVariants.{SetNumber, SetTuple, SetBlock, Copy, Add, Subtract, Fetch, Store, Push, Pop, Peek, Poke, Strike, Branch, Raise, Jump, Lower, Halt}
use Rattle.image.specs.Words.{word}

-- the instructions within a block, kinds 20 to 2E
abbrev pub inner_of : Word → Option Instruction
inner_of w =
    cond (nat_le 0x20 w.kind)
    (get_or
    (Some (SetNumber w.a (w.b * 256 + w.c))
    ∷ Some (SetTuple w.a w.c)
    ∷ Some (SetBlock w.a w.c)
    ∷ Some (Copy w.a w.b)
    ∷ Some (Add w.a w.b w.c)
    ∷ Some (Fetch w.a w.b w.c)
    ∷ Some (Store w.a w.b w.c)
    ∷ Some (Push w.c)
    ∷ Some (Pop w.c)
    ∷ Some (Peek w.a w.c)
    ∷ Some (Poke w.b w.c)
    ∷ Some (Strike w.a w.b)
    ∷ Some (Branch w.a w.b)
    ∷ Some (Raise w.a w.c)
    ∷ Some (Subtract w.a w.b w.c)
    ∷ [])
    (w.kind - 0x20) None)
    None

-- those that end a block, kinds 30 to 32
abbrev pub closing_of : Word → Option Instruction
closing_of w =
    cond (nat_le 0x30 w.kind) (slice_index_or (Some (Jump w.a) ∷ Some (Lower w.c) ∷ Some Halt ∷ []) (w.kind - 0x30) None) None

-- a block's last word, and no other, is one that ends it
abbrev pub instruction_of : Bool → Word → Option Instruction
instruction_of last w = cond last (closing_of w) (inner_of w)

abbrev pub instruction_word : Instruction → Word
instruction_word (SetNumber to value) = word 0x20 to (value / 256) (value % 256)
instruction_word (SetTuple to tuple) = word 0x21 to 0 tuple
instruction_word (SetBlock to block) = word 0x22 to 0 block
instruction_word (Copy to from) = word 0x23 to from 0
instruction_word (Add to left right) = word 0x24 to left right
instruction_word (Fetch to pointer cell) = word 0x25 to pointer cell
instruction_word (Store pointer from cell) = word 0x26 pointer from cell
instruction_word (Push count) = word 0x27 0 0 count
instruction_word (Pop count) = word 0x28 0 0 count
instruction_word (Peek to slot) = word 0x29 to 0 slot
instruction_word (Poke from slot) = word 0x2A 0 from slot
instruction_word (Strike channel from) = word 0x2B channel from 0
instruction_word (Branch test target) = word 0x2C test target 0
instruction_word (Raise label postdominator) = word 0x2D label 0 postdominator
instruction_word (Subtract to left right) = word 0x2E to left right
instruction_word (Jump target) = word 0x30 target 0 0
instruction_word (Lower block) = word 0x31 0 0 block
instruction_word Halt = word 0x32 0 0 0
