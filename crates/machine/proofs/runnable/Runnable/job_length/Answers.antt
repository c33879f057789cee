use Rattle.std.proofs.Common.{count_by, ◌∙◌, arith, rules}
use borrow.Author.Tests.{tests}
use Rattle.std.proofs.lemmas.Iterator.{YieldsList-from_map}
use Rattle.std.proofs.lemmas.Iterator.Consumers.{YieldsList-from_first, YieldsList-at, sum_by_from_yields_List, fits_by_from_yields_list}
use Rattle.programme.specs.Spelled.{tuple_spelled}
use Rattle.rules.specs.Fit.{is_integer}
use Rattle.rules.specs.Program.{Tuple, shape_at}
use Rattle.machine.specs.Runnables.{words_of, programme_of}
use Rattle.machine.specs.Tuples.{tuples_left}
use Rattle.machine.proofs.Sound.{sound}
use Rattle.machine.proofs.Counting.{job_counted, few_filled}
use Rattle.machine.proofs.runnable.Runnable.job_length.Goals as goal

pub sum-requires-clause-fits : goal.sum-requires-clause-fits
sum-requires-clause-fits c =
    let p = programme_of c.args.self in
    fits_by_from_yields_list (λ (t : Tuple). count_by is_integer (shape_at p t.shape)) p.tuples c.map.result _
    (YieldsList-from_map _ (λ (t : Tuple). count_by is_integer (shape_at p t.shape)) (YieldsList-at c.map.ensures.source (YieldsList-from_first tuple_spelled tuples_left p.tuples c.tuples.ensures)) c.map.ensures.closure (λ x r q k. search (rules, tests)))
    (omega (arith, job_counted p, few_filled (words_of c.args.self) (sound (words_of c.args.self) c.args.self.sound)))

pub returns : goal.returns
returns c =
    let p = programme_of c.args.self in
    let value = sum_by_from_yields_List (λ (t : Tuple). count_by is_integer (shape_at p t.shape)) p.tuples c.map.result c.sum.result c.sum.ensures.ran
    (YieldsList-from_map _ (λ (t : Tuple). count_by is_integer (shape_at p t.shape)) (YieldsList-at c.map.ensures.source (YieldsList-from_first tuple_spelled tuples_left p.tuples c.tuples.ensures)) c.map.ensures.closure (λ x r q k. search (rules, tests)))
    ∙ job_counted p in
    record { value = value; few = omega (arith, few_filled (words_of c.args.self) (sound (words_of c.args.self) c.args.self.sound)) }
