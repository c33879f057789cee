-- The item of a section and number, and how many words it may have.
use Rattle.std.specs.Prelude.{ℕ, ◌≤◌, Bool, cond, ◌&&◌, List, [], ◌∷◌, Some, None, Option, ◌==◌}
use Rattle.image.specs.declared.section.Section.{Section}
use Rattle.image.specs.declared.section.Section.TheVariants.{Channels, Shapes, Signatures, Tuples, Blocks}
use Rattle.image.specs.declared.item.Part.{Part}
use Rattle.image.specs.Sections.{rank}
use Rattle.image.specs.Items.{Piece, piece}

abbrev pub same_section : Section → Section → Bool
same_section s t = rank s == rank t

-- the item of a section that has a number
abbrev pub nth_piece : Section → ℕ → List Piece → Option Piece
nth_piece section number [] = None
nth_piece section number (p ∷ ps) = cond (same_section p.section section && p.number == number) (Some p) (nth_piece section number ps)

-- a part of an image, as an item of a section
abbrev pub part_piece : Section → Part → Piece
part_piece section p = piece section p.place p.number p.words.now

abbrev pub Between : ℕ → ℕ → ℕ → Type 0
Between low high n = (low ≤ n) × (n ≤ high)

-- how many words an item of a section has, its head with it
abbrev pub WithinLimits : Section → ℕ → Type 0
WithinLimits Channels size = Between 1 1 size
WithinLimits Shapes size = Between 2 17 size
WithinLimits Signatures size = Between 9 41 size
WithinLimits Tuples size = Between 2 17 size
WithinLimits Blocks size = Between 2 65 size
