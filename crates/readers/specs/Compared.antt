-- How two lists of strikes stand to each other.
use Rattle.std.specs.Prelude.{◌≡◌, ℕ, ◌<◌, ◌≢◌, List, length, get_or, take, slice_index_or}
use Rattle.machine.specs.declared.strike.Strike.{Strike}
use Rattle.secrecy.specs.Seen.{Begins, EitherBegins}
use Rattle.readers.specs.declared.agreement.Agreement.{Agreement}
use Rattle.readers.specs.declared.agreement.Agreement.TheVariants.{Same, FirstBegins, SecondBegins, Apart}

-- what is read past the end of a list
abbrev pub no_strike : Strike
no_strike = record { channel = 0; word = 0 }

-- both lists have a record at a place, the two differ, and all records before are the same
pub record PartAt (xs ys : List Strike) (at : ℕ) : Type 0 where
  pub in_first : at < length xs
  pub in_second : at < length ys
  pub before : take at xs ≡ take at ys
  pub differ : get_or xs at no_strike ≢ slice_index_or ys at no_strike

-- A list that begins another is shorter where the answer says that it begins it, so that just one answer fits two lists. They are
-- apart exactly where neither begins the other.
abbrev pub Compared : List Strike → List Strike → Agreement → Type 0
Compared xs ys Same = xs ≡ ys
Compared xs ys FirstBegins = Begins xs ys × (length xs < length ys)
Compared xs ys SecondBegins = Begins ys xs × (length ys < length xs)
Compared xs ys (Apart at) = (EitherBegins xs ys → ⊥) × PartAt xs ys at
