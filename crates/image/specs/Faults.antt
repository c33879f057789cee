-- What a pass answers, as a finding.
use Rattle.std.specs.Prelude.{ℕ, Some, None, Ok, Err, Option, Result}
use Rattle.image.specs.declared.fault.Fault.{Fault}
use Rattle.image.specs.Finding.{Finding, clear, fault}

abbrev pub reported : {R : Type 0} → Option (Fault R) → Finding R
reported None = clear
reported (Some f) = fault f.rule f.place

abbrev pub answered : {A R : Type 0} → Result A (Fault R) → Finding R
answered (Ok x) = clear
answered (Err f) = fault f.rule f.place

-- what is answered about the word at a place
abbrev pub placed : {A R : Type 0} → ℕ → Result A R → Result A (Fault R)
placed place (Ok x) = Ok x
placed place (Err rule) = Err (record { rule = rule; place = place })
