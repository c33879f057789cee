-- What the exported calls answer in numbers, beside the definitions of a load and a run.
use Rattle.std.specs.Prelude.{◌≡◌, List, ℕ}
use Rattle.labels.specs.Meaning.{Meaning}
use Rattle.rules.specs.Verdict.{Pass, in_layout, in_naming, in_flow, Verdict, accepted, refused as refuses, verdict}
use Rattle.machine.specs.declared.strike.Strike.{Strike}
use Rattle.machine.specs.declared.ran.End.{End}
use Rattle.machine.specs.declared.ran.End.TheVariants.{Halted, Spent, Full}
use Rattle.machine.specs.Box.{Model, loaded, Order, Answer, refused, ended, ran}
use Rattle.firmware.specs.declared.numbers.Fault.{Fault}
use Rattle.firmware.specs.declared.numbers.Report.{Report}

-- ---- load

-- layout, naming and flow by their places in a load
abbrev pub pass_number : Pass → ℕ
pass_number in_layout = 1
pass_number in_naming = 2
pass_number in_flow = 3

-- the refusal's number, or 0
abbrev pub load_number : Verdict → ℕ
load_number accepted = 0
load_number (refuses pass number place) = number

-- a refusal is written down, an accepted load leaves what was there
abbrev pub fault_after : Verdict → Fault → Fault
fault_after accepted was = was
fault_after (refuses pass number place) was = record { number = number; pass = pass_number pass; place = place }

pub record Loads (m : Meaning) (image : List ℕ) (box_was : Model) (fault_was : Fault) (number : ℕ) (box_is : Model) (fault_is : Fault) : Type 0 where
  pub number_is : number ≡ load_number (verdict m image)
  pub box : box_is ≡ loaded m image box_was
  pub fault : fault_is ≡ fault_after (verdict m image) fault_was

-- ---- run

abbrev pub end_number : End → ℕ
end_number Halted = 0
end_number Spent = 1
end_number Full = 2

-- the refusal's number, or 0
abbrev pub run_number : Answer → ℕ
run_number (refused number) = number
run_number (ended r) = 0

-- a run that was not refused is reported, a refused one leaves what was there
abbrev pub report_after : Answer → Report → Report
report_after (refused number) was = was
report_after (ended r) was = record { end = end_number r.end; steps = r.steps; strikes = r.strikes }

pub record Runs (o : Order) (box_was : Model) (report_was : Report) (number : ℕ) (box_is : Model) (strip_is : List Strike) (sheet_is : List ℕ) (report_is : Report) : Type 0 where
  pub number_is : number ≡ run_number (ran box_was o).answer
  pub box : box_is ≡ (ran box_was o).box
  pub strip : strip_is ≡ (ran box_was o).strip
  pub sheet : sheet_is ≡ (ran box_was o).sheet
  pub report : report_is ≡ report_after (ran box_was o).answer report_was
