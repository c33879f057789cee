use Rattle.std.proofs.Common.{◌≡◌}
use Rattle.image.specs.Items.{pieces}
use Rattle.image.specs.Reader.{to_come}
use Rattle.image.specs.Surveys.{nothing_seen, surveyed}
use Rattle.image.proofs.items.reader.survey.Given as goal

-- what was seen with what is to come is the whole
abbrev pub invariant-loop : goal.invariant-loop
invariant-loop l = surveyed l.items.seen (to_come l.items) ≡ surveyed nothing_seen (pieces l.image)
