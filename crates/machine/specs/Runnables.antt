-- An image that may be run, as its words and the programme that they spell.
use Rattle.std.specs.Prelude.{ℕ, List}
use Rattle.programme.specs.Spelled.{words_in}
use Rattle.rules.specs.Program.{Program}
use Rattle.rules.specs.Says.{program_of}
use Rattle.machine.specs.declared.runnable.Runnable.{Runnable}

abbrev pub words_of : Runnable → List ℕ
words_of r = words_in r.image

abbrev pub programme_of : Runnable → Program
programme_of r = program_of (words_of r)
