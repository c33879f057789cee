-- The rules that ask no label kind: all but "a code is no label" and "a label is not under another".
use Rattle.std.specs.Prelude.{◌≡◌, ℕ, Bool, true, false, List}
use Rattle.labels.specs.Meaning.{Meaning}
use Rattle.rules.specs.Verdict.{Verdict, accepted, refused, verdict}

-- the meaning that asks nothing of labels: every byte is one, at or below every other, and every join is 0
abbrev pub any_label : Meaning
any_label = record { count = 256; below = λ a b. true; joined = λ a b. 0 }

abbrev pub MeetsKindFreeRules : List ℕ → Type 0
MeetsKindFreeRules ns = verdict any_label ns ≡ accepted

-- the same as a test
abbrev pub is_accepted : Verdict → Bool
is_accepted accepted = true
is_accepted (refused pass number place) = false

abbrev pub kind_free : List ℕ → Bool
kind_free ns = is_accepted (verdict any_label ns)
