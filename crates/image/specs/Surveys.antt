-- What items come to: how many of each section, how many cells in all tuples, and how many words.
use Rattle.std.specs.Prelude.{ℕ, ◌+◌, ◌-◌, List, [], ◌∷◌, length}
use Rattle.image.specs.declared.section.Section.{Section}
use Rattle.image.specs.declared.section.Section.TheVariants.{Channels, Shapes, Signatures, Tuples, Blocks}
use Rattle.image.specs.declared.survey.Survey.{Survey}
use Rattle.image.specs.Counts.{no_items, with_one}
use Rattle.image.specs.Items.{Piece}

abbrev pub nothing_seen : Survey
nothing_seen = record { counts = no_items; cells = 0; end = 0 }

-- a tuple's words are its head and a plain word for each cell
abbrev pub cells_in : Section → ℕ → ℕ
cells_in Channels size = 0
cells_in Shapes size = 0
cells_in Signatures size = 0
cells_in Tuples size = size - 1
cells_in Blocks size = 0

-- with one item more, of so many words
abbrev pub with_item : Survey → Section → ℕ → Survey
with_item s section size = record { counts = with_one s.counts section; cells = s.cells + cells_in section size; end = s.end + size }

abbrev pub surveyed : Survey → List Piece → Survey
surveyed s [] = s
surveyed s (p ∷ ps) = surveyed (with_item s p.section (length p.words)) ps
