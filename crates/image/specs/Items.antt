-- The items of an image, each as the part of the image that it is.
use Rattle.std.specs.Prelude.{ℕ, zero, suc, cond, List, [], ◌∷◌, length, take, Some, None, Option, nat_le}
use Rattle.image.specs.declared.section.Section.{Section}
use Rattle.image.specs.declared.section.Section.TheVariants.{Channels, Shapes, Signatures, Tuples, Blocks}
use Rattle.image.specs.declared.head.Head.{Head}
use Rattle.image.specs.declared.rule.LayoutRule.{LayoutRule}
use Rattle.image.specs.declared.counts.Counts.{Counts}
use Rattle.image.specs.declared.item.Part.{Part}
use Rattle.image.specs.declared.item.Item.{Item}
use Rattle.image.specs.declared.item.Item.TheVariants.{Channel, Shape, Signature, Tuple, Block}
use Rattle.image.specs.Words.{split}
use Rattle.image.specs.Heads.{head_of, section_of, follows}
use Rattle.image.specs.Counts.{no_items, count_of, with_one}
use Rattle.image.specs.Finding.{Finding, clear, fault}
use Rattle.image.specs.Layout.{layout}

abbrev pub part_of : Item → Part
part_of (Channel p) = p
part_of (Shape p) = p
part_of (Signature p) = p
part_of (Tuple p) = p
part_of (Block p) = p

abbrev pub item_section : Item → Section
item_section (Channel p) = Channels
item_section (Shape p) = Shapes
item_section (Signature p) = Signatures
item_section (Tuple p) = Tuples
item_section (Block p) = Blocks

-- an item by its section, its place in the image, its number within the section, and its words, the head first
pub record Piece : Type 0 where
  pub section : Section
  pub place : ℕ
  pub number : ℕ
  pub words : List ℕ

abbrev pub piece : Section → ℕ → ℕ → List ℕ → Piece
piece section place number ns = record { section = section; place = place; number = number; words = ns }

-- the head of the item that the words begin with, where they hold the whole of it
abbrev pub whole_head : List ℕ → Option Head
whole_head [] = None
whole_head (n ∷ ns) = elim (head_of (split n)) [ None ↦ None | Some h ↦ cond (nat_le (follows h) (length ns)) (Some h) None ]

-- The whole items in the words from a place on, after so many items, where so many of the first words belong to an item that began before.
abbrev pub pieces_from : Counts → ℕ → ℕ → List ℕ → List Piece
pieces_from before skip place [] = []
pieces_from before zero place (n ∷ ns) =
    elim (whole_head (n ∷ ns)) [
      | None ↦ []
      | Some h ↦ piece (section_of h) place (count_of before (section_of h)) (n ∷ take (follows h) ns) ∷ pieces_from (with_one before (section_of h)) (follows h) (suc place) ns
    ]
pieces_from before (suc skip) place (n ∷ ns) = pieces_from before skip (suc place) ns

-- how many words stand before the first fault: all where there is none
abbrev pub reach : List ℕ → Finding LayoutRule → ℕ
reach ns clear = length ns
reach ns (fault rule place) = place

-- the items of an image: those that end before the first fault
abbrev pub pieces : List ℕ → List Piece
pieces ns = pieces_from no_items 0 0 (take (reach ns (layout ns)) ns)
