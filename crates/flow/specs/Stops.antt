-- What a walk through a block answers.
use Rattle.std.specs.Prelude.{ℕ, ◌+◌, Ok, Err, Result}
use Rattle.image.specs.Finding.{Finding, clear, fault}
use Rattle.rules.specs.declared.rule.FlowRule.{FlowRule}
use Rattle.flow.specs.declared.walk.Stop.{Stop}

-- as a finding, where the head of the block stands at a place
abbrev pub finding_from : ℕ → Result (Unit {0}) Stop → Finding FlowRule
finding_from place (Ok done) = clear
finding_from place (Err stop) = fault stop.stuck.rule (place + 1 + stop.index)
