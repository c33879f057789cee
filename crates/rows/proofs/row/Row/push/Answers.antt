use Rattle.std.proofs.Common.{rules, arith}
use Rattle.rows.proofs.Rows.{filled, pushed}
use Rattle.rows.proofs.row.Row.push.Goals as goal

pub returns-clause-after : goal.returns-clause-after
returns-clause-after g c =
    let row = c.args.self.now in
    let gave = c.fill_with.ensures in
    pushed row.places c.fill_with.new.self row.front c.args.count c.args.value c.if-count-self.false (omega arith) gave.len (filled _ c.args.value _ _ _ gave.ran.1 (λ x q k. search rules))
