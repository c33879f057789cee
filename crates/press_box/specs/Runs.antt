-- What a run of a box in the code is given and gives back, as the definitions of a run have it.
use Rattle.std.specs.Prelude.{ℕ, List, Ok, Err, Result}
use Rattle.machine.specs.declared.strike.Strike.{Strike}
use Rattle.machine.specs.declared.ran.Ran.{Ran}
use Rattle.machine.specs.Box.{Model, Order, Answer, refused, ended, Exit}
use Rattle.press_box.specs.declared.fault.RunFault.{RunFault}
use Rattle.press_box.specs.declared.fault.RunFault.TheVariants.{Empty, Stopped, JobLength, SheetTooShort}

-- the refusal's number
abbrev pub run_number : RunFault → ℕ
run_number Empty = 13
run_number Stopped = 14
run_number JobLength = 15
run_number SheetTooShort = 16

abbrev pub run_answer : Result Ran RunFault → Answer
run_answer (Ok r) = ended r
run_answer (Err f) = refused (run_number f)

abbrev pub order : List ℕ → ℕ → List Strike → List ℕ → Order
order job fuel strip sheet = record { job = job; fuel = fuel; strip = strip; sheet = sheet }

-- the answer, with the box, the strip and the sheet as the run leaves them
abbrev pub left : Result Ran RunFault → Model → List Strike → List ℕ → Exit
left r b strip sheet = record { answer = run_answer r; box = b; strip = strip; sheet = sheet }
