-- How the end of a run is shown: by one word.
use Rattle.std.specs.Prelude.{ℕ, List, codes}
use Rattle.machine.specs.declared.ran.End.{End}
use Rattle.machine.specs.declared.ran.End.TheVariants.{Halted, Spent, Full}

abbrev pub end_shown : End → List ℕ
end_shown Halted = codes "halted"
end_shown Spent = codes "spent"
end_shown Full = codes "full"
