use mathlib.Core.Path.{refl}
use Rattle.card.proofs.worked_examples.Goals as goal

-- each by computation
pub returns : goal.returns
returns c =
    record {
      count = refl;
      hold = (refl, (refl, (refl, (refl, (refl, (refl, (refl, (refl, (refl, (refl, (refl, (refl, (refl, (refl, tt))))))))))))));
    }
