use Rattle.hextext.proofs.errors.TextErrorDisplay.fmt.Goals as goal

pub returns-in-BadCharacter-clause-writes : goal.returns-in-BadCharacter-clause-writes
returns-in-BadCharacter-clause-writes g c =
    λ plain ok. rw (c.in-BadCharacter.is, ← c.hint_at-hint.ensures) (c.write-in-BadCharacter.ensures.writes plain ok)

pub returns-in-WordTooLong-clause-writes : goal.returns-in-WordTooLong-clause-writes
returns-in-WordTooLong-clause-writes g c = λ plain ok. rw c.in-WordTooLong.is (c.write-in-WordTooLong.ensures.writes plain ok)
