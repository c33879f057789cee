use Rattle.std.proofs.Common.{sym, arith, length}
use Rattle.std.proofs.lemmas.Cmp.{ranked}
use Rattle.readers.proofs.Parting.{begins_front, same_front, neither_begins}
use Rattle.readers.proofs.agreement.compare.Goals as goal

pub returns-in-Some : goal.returns-in-Some
returns-in-Some c = (neither_begins c.args.xs.now c.args.ys.now c.in-Some.at c.in-Some.ensures, c.in-Some.ensures)

pub returns-in-Less : goal.returns-in-Less
returns-in-Less c =
    let h = rw c.in-Less.is at (ranked (length c.args.xs.now) (length c.args.ys.now) c.cmp.result c.cmp.ensures) in
    (begins_front _ _ _ c.in-None.ensures (omega arith), h)

pub returns-in-Equal : goal.returns-in-Equal
returns-in-Equal c =
    let h = rw c.in-Equal.is at (ranked (length c.args.xs.now) (length c.args.ys.now) c.cmp.result c.cmp.ensures) in
    same_front _ _ _ c.in-None.ensures (omega arith) (omega arith)

pub returns-in-Greater : goal.returns-in-Greater
returns-in-Greater c =
    let h = rw c.in-Greater.is at (ranked (length c.args.xs.now) (length c.args.ys.now) c.cmp.result c.cmp.ensures) in
    (begins_front _ _ _ (sym c.in-None.ensures) (omega arith), h)
