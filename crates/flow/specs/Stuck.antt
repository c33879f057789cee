-- What is shown of an instruction that breaks a rule: in the state that is shown it does break it.
use Rattle.std.specs.Prelude.{◌≡◌, Some, None, Option}
use Rattle.labels.specs.Meaning.{Meaning}
use Rattle.image.specs.Finding.{broken}
use Rattle.rules.specs.Program.{Program}
use Rattle.rules.specs.Flow.{state_tests}
use Rattle.typing.specs.States.{known}
use Rattle.flow.specs.declared.stuck.Stuck.{Stuck}

abbrev pub BreaksItsRule : Meaning → Program → Stuck → Type 0
BreaksItsRule m p x = Some x.rule ≡ broken (state_tests m p (known x.state) x.instruction)

abbrev pub StuckThere : Meaning → Program → Option Stuck → Type 0
StuckThere m p None = Unit {0}
StuckThere m p (Some x) = BreaksItsRule m p x
