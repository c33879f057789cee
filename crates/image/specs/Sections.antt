-- The five sections of an image. Items stand in this order, and each section has room for so many.
use Rattle.std.specs.Prelude.{ℕ}
use Rattle.image.specs.declared.section.Section.{Section}
use Rattle.image.specs.declared.section.Section.TheVariants.{Channels, Shapes, Signatures, Tuples, Blocks}

-- the place of a section in the order, which is the kind byte of its heads
abbrev pub rank : Section → ℕ
rank Channels = 1
rank Shapes = 2
rank Signatures = 3
rank Tuples = 4
rank Blocks = 5

-- at most so many items
abbrev pub most : Section → ℕ
most Channels = 16
most Shapes = 32
most Signatures = 64
most Tuples = 64
most Blocks = 128
