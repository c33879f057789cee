use Rattle.std.proofs.Common.{rules}
use Rattle.std.proofs.lemmas.List.{drop-set-add}
use Rattle.rows.proofs.row.Row.put.Goals as goal

pub returns-then-n-depth : goal.returns-then-n-depth
returns-then-n-depth g c = search (rules, drop-set-add)
