-- One counted step of a run that strikes nothing.
use mathlib.Core.Path.{◌≡◌, ap}
use mathlib.Core.List.{List}
use Prim.Native.Nat.{ℕ, suc}
use Rattle.image.specs.declared.instruction.Instruction.{Instruction}
use Rattle.machine.specs.Machine.{State, proceed, next, run}
use Rattle.machine.specs.Machine.Deed.{goes}
use Rattle.secrecy.proofs.Setting.{Setting, runs_on}
use Rattle.secrecy.proofs.Outcomes.{Looks, looks_equal, looks_counted}

pub step_looks :
    (w : Setting) (f room : ℕ) (s t : State) (is js : List Instruction) → next w.program s is ≡ goes js t →
    Looks w (runs_on w (suc f) room s is) (runs_on w f room t js)
step_looks w f room s t is js e = looks_equal w (ap (λ d. proceed s (run w.program f) d room) e) (looks_counted w (runs_on w f room t js))
