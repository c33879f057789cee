-- An image meets every rule where it writes down a programme that is laid out, named and well typed. No pass and no order of tests is
-- named here.
use Rattle.std.specs.Prelude.{ℕ, List}
use Rattle.labels.specs.Meaning.{Meaning}
use Rattle.rules.specs.Program.{Program}
use Rattle.rules.specs.LaidOut.{IsLaidOut}
use Rattle.rules.specs.Named.{Named}
use Rattle.rules.specs.WellTyped.{WellTyped}

pub record MeetsEveryRule (m : Meaning) (ns : List ℕ) : Type 0 where
  pub programme : Program
  pub laid_out : IsLaidOut ns programme
  pub named : Named m programme
  pub well_typed : WellTyped m programme
