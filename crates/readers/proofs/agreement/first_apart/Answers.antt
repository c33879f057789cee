use Rattle.std.proofs.Common.{rules, tests}
use Rattle.std.proofs.lemmas.Iterator.{IsFirst-from_position, YieldsList-from_slice, YieldsList-from_zip}
use Rattle.readers.proofs.Parting.{Same, Differ, found}
use Rattle.readers.proofs.agreement.first_apart.Goals as goal

pub returns : goal.returns
returns c =
    let xs = c.args.xs.now in
    let ys = c.args.ys.now in
    found xs ys c.position.result
    (IsFirst-from_position c.position.new.self _ c.position.result Differ Same c.position.ensures.ran (YieldsList-from_zip (YieldsList-from_slice xs cc) (YieldsList-from_slice ys cc)) (λ x q k. search (rules, tests)) (λ x q k. search (rules, tests)))
