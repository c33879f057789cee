-- What is proved of the definitions.
use Rattle.std.specs.Prelude.{◌≡◌, ℕ, true, ◌↔◌, List, ◌≢◌}
use Rattle.labels.specs.Meaning.{Meaning, Lawful}
use Rattle.image.specs.declared.instruction.Instruction.{Instruction}
use Rattle.image.specs.Finding.{clear}
use Rattle.image.specs.Layout.{layout}
use Rattle.rules.specs.Program.{Signature, Program}
use Rattle.rules.specs.Says.{program_of}
use Rattle.rules.specs.Flow.{body_flow}
use Rattle.rules.specs.LaidOut.{Every, Ended, IsLaidOut}
use Rattle.rules.specs.Named.{Named}
use Rattle.rules.specs.WellTyped.{Checked}
use Rattle.rules.specs.Rules.{MeetsEveryRule}
use Rattle.rules.specs.Verdict.{Pass, accepted, refused, naming_of, verdict}
use Rattle.rules.specs.Free.{any_label, MeetsKindFreeRules, kind_free}
use Rattle.rules.specs.Card.{Holds, examples}

-- every worked example comes out as it says
abbrev pub CardRows : Type 0
CardRows = Every Holds examples

-- the walk through a block that is ended by its last instruction alone finds no fault exactly where each has what it asks
abbrev pub FlowDecides : Type 0
FlowDecides = (m : Meaning) (p : Program) (s : Signature) (place : ℕ) (is : List Instruction) → ((body_flow m p s place is ≡ clear) × Ended is) ↔ Checked m p s.context s.types is

-- the layout pass finds no fault exactly where the words are the programme that the items say, written down
abbrev pub LayoutDecides : Type 0
LayoutDecides = (ns : List ℕ) → (layout ns ≡ clear) ↔ IsLaidOut ns (program_of ns)

-- and no other programme is written so
abbrev pub OneProgramme : Type 0
OneProgramme = (ns : List ℕ) (p : Program) → IsLaidOut ns p → program_of ns ≡ p

-- in an image that is laid out the naming pass finds no fault exactly where the programme is named
abbrev pub NamingDecides : Type 0
NamingDecides = (m : Meaning) (ns : List ℕ) → layout ns ≡ clear → (naming_of m ns ≡ clear) ↔ Named m (program_of ns)

-- an image is accepted exactly where it meets every rule
abbrev pub VerdictDecides : Type 0
VerdictDecides = (m : Meaning) → Lawful m → (ns : List ℕ) → (verdict m ns ≡ accepted) ↔ MeetsEveryRule m ns

-- an image that any kind accepts meets the rules that ask no kind
abbrev pub AcceptedIsKindFree : Type 0
AcceptedIsKindFree = (m : Meaning) (ns : List ℕ) → verdict m ns ≡ accepted → MeetsKindFreeRules ns

-- and only those: none of them is refusal 5 or 10
abbrev pub KindFreeAsksNoLabel : Type 0
KindFreeAsksNoLabel = (ns : List ℕ) (pass : Pass) (n place : ℕ) → verdict any_label ns ≡ refused pass n place → (n ≢ 5) × (n ≢ 10)

-- the test of those rules is the rules
abbrev pub KindFreeTested : Type 0
KindFreeTested = (ns : List ℕ) → (kind_free ns ≡ true) ↔ MeetsKindFreeRules ns
