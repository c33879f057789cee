-- The tuples of an image that a reader has still to hand out.
use Rattle.std.specs.Prelude.{List}
use Rattle.image.specs.Reader.{to_come}
use Rattle.rules.specs.Program.{Tuple}
use Rattle.rules.specs.Says.{program}
use Rattle.machine.specs.declared.runnable.tuples.Tuples.{Tuples}

abbrev pub tuples_left : Tuples → List Tuple
tuples_left r = (program (to_come r.items)).tuples
