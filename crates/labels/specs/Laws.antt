-- What follows from the laws alone, whatever the kind; then what is so of pairs.
use Rattle.std.specs.Prelude.{◌≡◌, ℕ, ◌*◌, ◌<◌, false, T}
use Rattle.labels.specs.Meaning.{Meaning, Lawful}
use Rattle.labels.specs.Stages.{stages}
use Rattle.labels.specs.Mastheads.{mastheads}
use Rattle.labels.specs.Pairs.{pair, lone}

-- Every label is at or below every other.
abbrev pub Flat : Meaning → Type 0
Flat m = (a b : ℕ) → a < m.count → b < m.count → T (m.below a b)

-- Antisymmetry shuts out an order that tells no labels apart: only a kind of one label is flat.
abbrev pub FlatHasOneLabel : Type 0
FlatHasOneLabel = (m : Meaning) → Lawful m → Flat m → m.count ≡ 1

-- Two kinds have as many labels, in the same order.
pub record SameOrder (m n : Meaning) : Type 0 where
  pub as_many : m.count ≡ n.count
  pub alike : (a b : ℕ) → m.below a b ≡ n.below a b

-- The order fixes the join: a kind has no choice of it, on any two codes.
abbrev pub OrderFixesJoin : Type 0
OrderFixesJoin = (m n : Meaning) → Lawful m → Lawful n → SameOrder m n → (a b : ℕ) → m.joined a b ≡ n.joined a b

-- Where the parts make more codes than a byte has, the pair is the kind of one label.
abbrev pub OverLargeIsLone : Type 0
OverLargeIsLone = (f s : Meaning) → 256 < f.count * s.count → pair f s ≡ lone

-- The stages with the masthead sets, at two codes of which neither is at or below the other.
pub record WorkedPair : Type 0 where
  pub not_below : (pair stages mastheads).below 0x31 0x24 ≡ false
  pub not_above : (pair stages mastheads).below 0x24 0x31 ≡ false
  pub join : (pair stages mastheads).joined 0x31 0x24 ≡ 0x35
