-- What a label kind means, as a value: how many labels it has, its order and its join, the last two for every two codes.
use Rattle.std.specs.Prelude.{◌≡◌, ℕ, ◌<◌, ◌≤◌, Bool, cond, ◌&&◌, T, nat_lt}

pub record Meaning : Type 0 where
  pub count : ℕ
  pub below : ℕ → ℕ → Bool
  pub joined : ℕ → ℕ → ℕ

-- The laws that every kind keeps. A code below the count is a label.
pub record Lawful (m : Meaning) : Type 0 where
  -- there are 1 to 256 labels
  pub some : 1 ≤ m.count
  pub few : m.count ≤ 256
  -- a code that is no label is at or below nothing, has nothing at or below it, and joins to 0
  pub outside_below : (a b : ℕ) → T (m.below a b) → (a < m.count) × (b < m.count)
  pub outside_join_left : (a b : ℕ) → m.count ≤ a → m.joined a b ≡ 0
  pub outside_join_right : (a b : ℕ) → m.count ≤ b → m.joined a b ≡ 0
  -- the labels are ordered, and 0 is the lowest
  pub reflexive : (a : ℕ) → a < m.count → T (m.below a a)
  pub antisymmetric : (a b : ℕ) → T (m.below a b) → T (m.below b a) → a ≡ b
  pub transitive : (a b c : ℕ) → T (m.below a b) → T (m.below b c) → T (m.below a c)
  pub bottom : (a : ℕ) → a < m.count → T (m.below 0 a)
  -- the join is a label, at or above both, and at or below every label that is
  pub join_label : (a b : ℕ) → a < m.count → b < m.count → m.joined a b < m.count
  pub join_left : (a b : ℕ) → a < m.count → b < m.count → T (m.below a (m.joined a b))
  pub join_right : (a b : ℕ) → a < m.count → b < m.count → T (m.below b (m.joined a b))
  pub join_least : (a b c : ℕ) → T (m.below a c) → T (m.below b c) → T (m.below (m.joined a b) c)

-- Both codes are below n: with the count for n, both are labels.
abbrev pub both_below : ℕ → ℕ → ℕ → Bool
both_below n a b = nat_lt a n && nat_lt b n

-- The n labels 0 to n - 1, ordered by le and joined by up; of any other code the answers are no and 0.
abbrev pub within : ℕ → (ℕ → ℕ → Bool) → (ℕ → ℕ → ℕ) → Meaning
within n le up = record {
  count = n;
  below = λ a b. both_below n a b && le a b;
  joined = λ a b. cond (both_below n a b) (up a b) 0;
}
