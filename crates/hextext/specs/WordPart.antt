-- What a reader knows of a word that it stands inside of.
use Rattle.std.specs.Prelude.{ℕ}

-- the value of the digits so far, how many they are, and the column of the first
pub record WordPart : Type 0 where
  pub value : ℕ
  pub digits : ℕ
  pub column : ℕ
