-- The card image: a small programme at stages, which strikes its two cells on two channels.
use Rattle.std.specs.Prelude.{List, [], ◌∷◌, ℕ}

abbrev pub card : List ℕ
card =
    -- channel 0 has label 0, channel 1 label 1
    0x01000000 ∷ 0x01000001
    -- shape 0: an integer of label 1, and one of label 0
    ∷ 0x02000002 ∷ 0x11000001 ∷ 0x11000000
    -- signature 0: an empty context, no slot, nothing known of the registers
    ∷ 0x03000000 ∷ 0x10000000 ∷ 0x10000000 ∷ 0x10000000 ∷ 0x10000000 ∷ 0x10000000 ∷ 0x10000000 ∷ 0x10000000 ∷ 0x10000000
    -- tuple 0, of shape 0
    ∷ 0x04000200 ∷ 0x00000000 ∷ 0x00000000
    -- block 0: strike cell 1 on channel 0 and cell 0 on channel 1, halt
    ∷ 0x05000006 ∷ 0x21000000 ∷ 0x25010001 ∷ 0x2B000100 ∷ 0x25010000 ∷ 0x2B010100 ∷ 0x32000000
    ∷ []
