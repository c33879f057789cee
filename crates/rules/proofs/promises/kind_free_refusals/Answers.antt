use Rattle.std.proofs.Common.{refl}
use Rattle.rules.proofs.promises.kind_free_refusals.Goals as goal
use Rattle.rules.proofs.KindFree as free
use Rattle.rules.proofs.Unlabelled as unlabelled

pub returns : goal.returns
returns c = record { count = refl; kept = free.accepted_is_kind_free; only = unlabelled.never_labels; tested = free.kind_free_tested }
