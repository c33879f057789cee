-- Masthead sets: 16 labels, each code four bits. A set is at or below another where it is part of it, that is, where
-- their union is the other; the join is the union.
use Rattle.std.specs.Prelude.{ℕ, Bool, ◌==◌, bit_or}
use Rattle.labels.specs.Meaning.{Meaning, within}

abbrev pub included : ℕ → ℕ → Bool
included a b = bit_or a b == b

abbrev pub mastheads : Meaning
mastheads = within 16 included bit_or
