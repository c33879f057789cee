-- The verdict on an image: accepted, or the pass that refuses it with the rule's number and the place of the word.
use Rattle.std.specs.Prelude.{ℕ, List}
use Rattle.labels.specs.Meaning.{Meaning}
use Rattle.image.specs.Finding.{Finding, clear, fault}
use Rattle.image.specs.Layout.{layout, number_of}
use Rattle.image.specs.Items.{pieces}
use Rattle.rules.specs.declared.rule.NamingRule.{NamingRule}
use Rattle.rules.specs.declared.rule.FlowRule.{FlowRule}
use Rattle.rules.specs.Says.{program_of}
use Rattle.rules.specs.Naming.{naming, naming_number}
use Rattle.rules.specs.Flow.{flow, flow_number}

pub data Pass : Type 0 where
  in_layout : Pass
  in_naming : Pass
  in_flow : Pass

pub data Verdict : Type 0 where
  accepted : Verdict
  refused : Pass → ℕ → ℕ → Verdict

-- a pass's finding, and where it is clear what the passes after it say
abbrev pub answer : {R : Type 0} → Pass → (R → ℕ) → Finding R → Verdict → Verdict
answer pass number clear others = others
answer pass number (fault rule place) others = refused pass (number rule) place

-- the naming pass and the flow pass over the items of an image
abbrev pub naming_of : Meaning → List ℕ → Finding NamingRule
naming_of m ns = naming m (program_of ns) (pieces ns)

abbrev pub flow_of : Meaning → List ℕ → Finding FlowRule
flow_of m ns = flow m (program_of ns) (pieces ns)

-- layout, then naming, then flow
abbrev pub verdict : Meaning → List ℕ → Verdict
verdict m ns = answer in_layout number_of (layout ns) (answer in_naming naming_number (naming_of m ns) (answer in_flow flow_number (flow_of m ns) accepted))
