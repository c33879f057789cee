-- Pairs: the code of a pair is the first part's code times the count of the second kind, plus the second part's code.
use Rattle.std.specs.Prelude.{ℕ, ◌+◌, ◌*◌, ◌/◌, ◌%◌, Bool, true, cond, ◌&&◌, nat_le}
use Rattle.labels.specs.Meaning.{Meaning, within}

-- Both parts of a are at or below those of b.
abbrev pub below_by_parts : Meaning → Meaning → ℕ → ℕ → Bool
below_by_parts f s a b = f.below (a / s.count) (b / s.count) && s.below (a % s.count) (b % s.count)

-- The code of the joins of the parts.
abbrev pub joined_by_parts : Meaning → Meaning → ℕ → ℕ → ℕ
joined_by_parts f s a b = f.joined (a / s.count) (b / s.count) * s.count + s.joined (a % s.count) (b % s.count)

abbrev pub by_parts : Meaning → Meaning → Meaning
by_parts f s = within (f.count * s.count) (below_by_parts f s) (joined_by_parts f s)

-- The kind whose only label is 0.
abbrev pub lone : Meaning
lone = within 1 (λ _ _. true) (λ _ _. 0)

-- A code is one byte: where the parts make more than 256 codes, the pair has one label alone.
abbrev pub pair : Meaning → Meaning → Meaning
pair f s = cond (nat_le (f.count * s.count) 256) (by_parts f s) lone
