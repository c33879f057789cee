-- The layout pass: is an image of any words a row of whole items, in their order and within their limits?
use Rattle.std.specs.Prelude.{ℕ, zero, suc, ◌+◌, Bool, true, false, cond, not, ◌&&◌, ◌||◌, List, [], ◌∷◌, ◌++◌, length, take, Some, None, ◌==◌, nat_le, nat_lt, slice_index}
use Rattle.image.specs.declared.word.Word.{Word}
use Rattle.image.specs.declared.section.Section.{Section}
use Rattle.image.specs.declared.section.Section.TheVariants.{Channels, Shapes, Signatures, Tuples, Blocks}
use Rattle.image.specs.declared.head.Head.{Head}
use Rattle.image.specs.declared.head.Head.TheVariants.{Channel, Shape, Signature, Tuple, Block}
use Rattle.image.specs.declared.rule.LayoutRule.{LayoutRule}
use Rattle.image.specs.declared.rule.LayoutRule.TheVariants.{TooLong, KindOutOfPlace, FieldNotZero, CutShort, TooManyItems, SizeOutOfRange, TooManyCells, NoBlock}
use Rattle.image.specs.Words.{split, same}
use Rattle.image.specs.Sections.{rank, most}
use Rattle.image.specs.Heads.{head_of, head_word, section_of, follows}
use Rattle.image.specs.Types.{type_of, type_word, is_nonsense}
use Rattle.image.specs.Instructions.{instruction_of, instruction_word}
use Rattle.image.specs.Finding.{Finding, Tests, ◌then◌, first, walk, arrive}

-- the number by which each rule is refused
abbrev pub number_of : LayoutRule → ℕ
number_of TooLong = 1
number_of KindOutOfPlace = 2
number_of FieldNotZero = 2
number_of CutShort = 2
number_of TooManyItems = 3
number_of SizeOutOfRange = 3
number_of TooManyCells = 3
number_of NoBlock = 3

-- Where the pass stands before a word: the section of the latest head, how many items that section has so far, how many cells all
-- tuples have so far, and how many words of the present item are still to come.
pub record Stand : Type 0 where
  pub section : Section
  pub count : ℕ
  pub cells : ℕ
  pub left : ℕ

abbrev pub stand : Section → ℕ → ℕ → ℕ → Stand
stand section count cells left = record { section = section; count = count; cells = cells; left = left }

abbrev pub outset : Stand
outset = stand Channels 0 0 0

abbrev pub between : ℕ → ℕ → ℕ → Bool
between low high n = nat_le low n && nat_le n high

-- ---- heads

-- a shape's cells, a signature's depth, a tuple's cells and a block's words
abbrev pub size_fine : Head → Bool
size_fine (Channel label) = true
size_fine (Shape cells) = between 1 16 cells
size_fine (Signature context depth) = nat_le depth 32
size_fine (Tuple shape cells) = between 1 16 cells
size_fine (Block signature words) = between 1 64 words

-- how many items the head's section has with this one
abbrev pub counted : Stand → Head → ℕ
counted s h = cond (rank (section_of h) == rank s.section) (suc s.count) 1

abbrev pub cells_of : Head → ℕ
cells_of (Channel label) = 0
cells_of (Shape cells) = 0
cells_of (Signature context depth) = 0
cells_of (Tuple shape cells) = cells
cells_of (Block signature words) = 0

abbrev pub tests_of_head : Stand → Head → Word → Tests LayoutRule
tests_of_head s h w =
    (KindOutOfPlace, nat_le (rank s.section) (rank (section_of h)))
    ∷ (FieldNotZero, same (head_word h) w)
    ∷ (TooManyItems, nat_le (counted s h) (most (section_of h)))
    ∷ (SizeOutOfRange, size_fine h)
    ∷ (TooManyCells, nat_le (s.cells + cells_of h) 256)
    ∷ []

abbrev pub no_such_kind : Tests LayoutRule
no_such_kind = (KindOutOfPlace, false) ∷ []

abbrev pub head_tests : Stand → Word → Tests LayoutRule
head_tests s w = elim (head_of w) [ None ↦ no_such_kind | Some h ↦ tests_of_head s h w ]

-- ---- the words that follow a head

-- a shape has no nonsense cell
abbrev pub type_tests : Bool → Word → Tests LayoutRule
type_tests nonsense_fine w =
    elim (type_of w) [ None ↦ no_such_kind | Some t ↦ (KindOutOfPlace, nonsense_fine || not (is_nonsense t)) ∷ (FieldNotZero, same (type_word t) w) ∷ [] ]

abbrev pub instruction_tests : Bool → Word → Tests LayoutRule
instruction_tests last w = elim (instruction_of last w) [ None ↦ no_such_kind | Some i ↦ (FieldNotZero, same (instruction_word i) w) ∷ [] ]

-- by the item's section; behind is how many words of the item follow this one. A plain word of a tuple may be any
abbrev pub inner_tests : Section → ℕ → Word → Tests LayoutRule
inner_tests Channels behind w = []
inner_tests Shapes behind w = type_tests false w
inner_tests Signatures behind w = type_tests true w
inner_tests Tuples behind w = []
inner_tests Blocks behind w = instruction_tests (behind == 0) w

-- ---- the pass

abbrev pub word_tests : Stand → ℕ → Tests LayoutRule
word_tests s n = elim s.left [ zero ↦ head_tests s (split n) | suc behind ↦ inner_tests s.section behind (split n) ]

abbrev pub after_head : Stand → Head → Stand
after_head s h = stand (section_of h) (counted s h) (s.cells + cells_of h) (follows h)

abbrev pub step : Stand → ℕ → Stand
step s n =
    elim s.left [
      | zero ↦ elim (head_of (split n)) [ None ↦ s | Some h ↦ after_head s h ]
      | suc behind ↦ stand s.section s.count s.cells behind
    ]

-- behind the last word no item may be open, and there must be a block
abbrev pub end_tests : Stand → Tests LayoutRule
end_tests s = (CutShort, (s.left == 0)) ∷ (NoBlock, (rank s.section == 5)) ∷ []

-- what is found from a place on, in the words from there, of an image so long
abbrev pub onward : ℕ → Stand → ℕ → List ℕ → Finding LayoutRule
onward size s place ns = walk word_tests step s place ns then first size (end_tests (arrive word_tests step s ns))

abbrev pub layout : List ℕ → Finding LayoutRule
layout ns = first 0 ((TooLong, nat_le (length ns) 2048) ∷ []) then onward (length ns) outset 0 ns

-- ---- the same without a walk

-- what is asked at a place: at the front that the image is not too long, of each word its tests where the words before it left the
-- pass, and behind the last word that the image is whole
abbrev pub length_tests : List ℕ → ℕ → Tests LayoutRule
length_tests ns zero = (TooLong, nat_le (length ns) 2048) ∷ []
length_tests ns (suc place) = []

abbrev pub place_tests : List ℕ → ℕ → Tests LayoutRule
place_tests ns place =
    cond (nat_lt place (length ns)) (word_tests (arrive word_tests step outset (take place ns)) (slice_index ns place)) (end_tests (arrive word_tests step outset ns))

abbrev pub asked_at : List ℕ → ℕ → Tests LayoutRule
asked_at ns place = length_tests ns place ++ place_tests ns place
