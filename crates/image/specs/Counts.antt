-- How many items of each section there are.
use Rattle.std.specs.Prelude.{ℕ, ◌+◌}
use Rattle.image.specs.declared.section.Section.{Section}
use Rattle.image.specs.declared.section.Section.TheVariants.{Channels, Shapes, Signatures, Tuples, Blocks}
use Rattle.image.specs.declared.counts.Counts.{Counts}

abbrev pub counts : ℕ → ℕ → ℕ → ℕ → ℕ → Counts
counts channels shapes signatures tuples blocks = record { channels = channels; shapes = shapes; signatures = signatures; tuples = tuples; blocks = blocks }

abbrev pub no_items : Counts
no_items = counts 0 0 0 0 0

abbrev pub count_of : Counts → Section → ℕ
count_of n Channels = n.channels
count_of n Shapes = n.shapes
count_of n Signatures = n.signatures
count_of n Tuples = n.tuples
count_of n Blocks = n.blocks

-- with one more item of a section
abbrev pub with_one : Counts → Section → Counts
with_one n Channels = counts (n.channels + 1) n.shapes n.signatures n.tuples n.blocks
with_one n Shapes = counts n.channels (n.shapes + 1) n.signatures n.tuples n.blocks
with_one n Signatures = counts n.channels n.shapes (n.signatures + 1) n.tuples n.blocks
with_one n Tuples = counts n.channels n.shapes n.signatures (n.tuples + 1) n.blocks
with_one n Blocks = counts n.channels n.shapes n.signatures n.tuples (n.blocks + 1)

abbrev pub total : Counts → ℕ
total n = n.channels + n.shapes + n.signatures + n.tuples + n.blocks
