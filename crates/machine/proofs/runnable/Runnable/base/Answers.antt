use Rattle.std.proofs.Common.{length, take, ◌∙◌, arith, rules}
use borrow.Author.Tests.{tests}
use Rattle.std.proofs.lemmas.Iterator.{YieldsList-from_map, YieldsList-from_take}
use Rattle.std.proofs.lemmas.Iterator.Consumers.{YieldsList-from_first, YieldsList-at, sum_by_from_yields_List, fits_by_from_yields_list}
use Rattle.programme.specs.Spelled.{tuple_spelled}
use Rattle.rules.specs.Program.{Tuple}
use Rattle.machine.specs.Runnables.{words_of, programme_of}
use Rattle.machine.specs.Tuples.{tuples_left}
use Rattle.machine.proofs.Sound.{sound}
use Rattle.machine.proofs.Counting.{base_counted, base_few}
use Rattle.machine.proofs.runnable.Runnable.base.Goals as goal

pub sum-requires-clause-fits : goal.sum-requires-clause-fits
sum-requires-clause-fits c =
    let ts = (programme_of c.args.self).tuples in
    let n = c.args.tuple in
    fits_by_from_yields_list (λ (t : Tuple). length t.words) (take n ts) c.map.result _
    (YieldsList-from_map _ (λ (t : Tuple). length t.words) (YieldsList-at c.map.ensures.source (YieldsList-from_take n (YieldsList-at c.take.ensures.source (YieldsList-from_first tuple_spelled tuples_left ts c.tuples.ensures)) c.take.ensures.count)) c.map.ensures.closure (λ x r q k. search (rules, tests)))
    (omega (arith, base_counted ts n, base_few ts n, (sound (words_of c.args.self) c.args.self.sound).laid_out.tuples.1))

pub returns : goal.returns
returns c =
    let ts = (programme_of c.args.self).tuples in
    let n = c.args.tuple in
    let value = sum_by_from_yields_List (λ (t : Tuple). length t.words) (take n ts) c.map.result c.sum.result c.sum.ensures.ran
    (YieldsList-from_map _ (λ (t : Tuple). length t.words) (YieldsList-at c.map.ensures.source (YieldsList-from_take n (YieldsList-at c.take.ensures.source (YieldsList-from_first tuple_spelled tuples_left ts c.tuples.ensures)) c.take.ensures.count)) c.map.ensures.closure (λ x r q k. search (rules, tests)))
    ∙ base_counted ts n in
    record { value = value; few = omega (arith, base_few ts n, (sound (words_of c.args.self) c.args.self.sound).laid_out.tuples.1) }
