-- The card image, a small programme that strikes two cells on two channels, and what changes of it are refused for.
use Rattle.std.specs.Prelude.{◌≡◌, ℕ, List, [], ◌∷◌, slice_set}
use Rattle.labels.specs.Stages.{stages}
use Rattle.rules.specs.Verdict.{Verdict, accepted, refused, in_layout, in_naming, in_flow, verdict}

abbrev pub card : List ℕ
card =
    0x01000000 ∷ 0x01000001 ∷ 0x02000002 ∷ 0x11000001 ∷ 0x11000000 ∷ 0x03000000
    ∷ 0x10000000 ∷ 0x10000000 ∷ 0x10000000 ∷ 0x10000000 ∷ 0x10000000 ∷ 0x10000000 ∷ 0x10000000 ∷ 0x10000000
    ∷ 0x04000200 ∷ 0x00000000 ∷ 0x00000000
    ∷ 0x05000006 ∷ 0x21000000 ∷ 0x25010001 ∷ 0x2B000100 ∷ 0x25010000 ∷ 0x2B010100 ∷ 0x32000000 ∷ []

-- a worked example: the load of an image, at stages, with its verdict
pub data Example : Type 0 where
  loads : List ℕ → Verdict → Example

abbrev pub Holds : Example → Type 0
Holds (loads ns answer) = verdict stages ns ≡ answer

abbrev pub examples : List Example
examples =
    loads card accepted
    ∷ loads (slice_set card 18 0x21000100) (refused in_layout 2 18)
    ∷ loads (slice_set card 17 0x05000000) (refused in_layout 3 17)
    ∷ loads (slice_set card 18 0x21080000) (refused in_naming 4 18)
    ∷ loads (slice_set card 3 0x11000010) (refused in_naming 5 3)
    ∷ loads (slice_set card 6 0x12000000) (refused in_naming 6 17)
    ∷ loads (slice_set card 15 0x00000001) (refused in_naming 7 15)
    ∷ loads (slice_set card 20 0x2B000200) (refused in_flow 8 20)
    ∷ loads (slice_set card 18 0x28000001) (refused in_flow 9 18)
    ∷ loads (slice_set card 22 0x2B000100) (refused in_flow 10 22)
    ∷ loads (slice_set card 23 0x31000000) (refused in_flow 11 23)
    ∷ loads (slice_set (slice_set (slice_set card 21 0x27000001) 22 0x22010000) 23 0x30010000) (refused in_flow 12 23)
    ∷ []
