-- Stages: 16 labels, ordered as numbers, so the join is the larger.
use Rattle.std.specs.Prelude.{max, nat_le}
use Rattle.labels.specs.Meaning.{Meaning, within}

abbrev pub stages : Meaning
stages = within 16 nat_le max
