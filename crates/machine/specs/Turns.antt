-- What the code does in a turn, beside the definition of a deed; and what a run answers and leaves, beside an outcome.
use Rattle.std.specs.Prelude.{◌≡◌, ℕ, List, ◌∷◌, length}
use Rattle.image.specs.declared.instruction.Instruction.{Instruction}
use Rattle.rules.specs.Program.{Program}
use Rattle.rules.specs.Says.{body_of}
use Rattle.machine.specs.declared.ran.Ran.{Ran}
use Rattle.machine.specs.declared.strike.Strike.{Strike}
use Rattle.machine.specs.declared.turn.Turn.{Turn}
use Rattle.machine.specs.declared.turn.Turn.TheVariants.{Stop, Go, Struck}
use Rattle.machine.specs.Box.{written}
use Rattle.machine.specs.Machine.{State, Outcome, stops, goes, strikes, next}

-- an instruction leads from one state to another and goes on to the next word, whatever that is
abbrev pub Moves : Program → State → Instruction → State → Type 0
Moves p s i t = (is : List Instruction) → next p s (i ∷ is) ≡ goes is t

-- a turn on these words leads from one state to another. A turn that stops or strikes leaves the cells
abbrev pub Turns : Program → State → List Instruction → Turn → State → Type 0
Turns p s is Stop t = (next p s is ≡ stops) × (t.cells ≡ s.cells)
Turns p s is (Go words) t = next p s is ≡ goes (body_of words.now) t
Turns p s is (Struck strike words) t = (next p s is ≡ strikes strike (body_of words.now) t) × (t.cells ≡ s.cells)

-- the answer is the outcome's, its strikes stand on the front of what the strip was, and the cells are as they end
pub record ComesTo (o : Outcome) (r : Ran) (strip_was strip_is : List Strike) (cells_are : List ℕ) : Type 0 where
  pub end : r.end ≡ o.end
  pub steps : r.steps ≡ o.steps
  pub strikes : r.strikes ≡ length o.strikes
  pub strip : strip_is ≡ written o.strikes strip_was
  pub cells : cells_are ≡ o.cells
