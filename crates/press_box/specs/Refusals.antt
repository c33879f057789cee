-- What a load answers, as a verdict: the pass, the number and the place of a refusal.
use Rattle.std.specs.Prelude.{ℕ, Ok, Err, Result}
use Rattle.image.specs.Layout.{number_of}
use Rattle.rules.specs.Naming.{naming_number}
use Rattle.rules.specs.Flow.{flow_number}
use Rattle.rules.specs.Verdict as rules
use Rattle.press_box.specs.declared.fault.Pass as code
use Rattle.press_box.specs.declared.fault.Pass.TheVariants as passes
use Rattle.press_box.specs.declared.fault.LoadFault.{LoadFault}
use Rattle.press_box.specs.declared.fault.LoadFault.TheVariants.{Layout, Naming, Flow}

abbrev pub pass_of : LoadFault → code.Pass
pass_of (Layout f) = passes.Layout
pass_of (Naming f) = passes.Naming
pass_of (Flow f) = passes.Flow

abbrev pub number_in : LoadFault → ℕ
number_in (Layout f) = number_of f.rule
number_in (Naming f) = naming_number f.rule
number_in (Flow f) = flow_number f.rule

abbrev pub place_in : LoadFault → ℕ
place_in (Layout f) = f.place
place_in (Naming f) = f.place
place_in (Flow f) = f.place

abbrev pub pass_in : LoadFault → rules.Pass
pass_in (Layout f) = rules.in_layout
pass_in (Naming f) = rules.in_naming
pass_in (Flow f) = rules.in_flow

abbrev pub answered : Result (Unit {0}) LoadFault → rules.Verdict
answered (Ok u) = rules.accepted
answered (Err f) = rules.refused (pass_in f) (number_in f) (place_in f)
