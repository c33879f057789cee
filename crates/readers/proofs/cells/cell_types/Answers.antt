use Rattle.std.proofs.Common.{map, vec_items, rules}
use Rattle.std.proofs.lemmas.Iterator.{YieldsList-from_slice, YieldsList-from_map}
use Rattle.std.proofs.lemmas.Iterator.Adapters.{items_from_extend}
use Rattle.std.proofs.lemmas.Iterator.Consumers.{YieldsList-from_copied}
use Rattle.image.specs.Reader.{to_come}
use Rattle.programme.specs.Spelled.{program_in}
use Rattle.rules.specs.Program.{cell_types}
use Rattle.rules.specs.Says.{type_in}
use Rattle.readers.proofs.Walking.{tuple_added}
use Rattle.readers.proofs.cells.cell_types.Goals as goal

pub loop-item-preserved : goal.loop-item-preserved
loop-item-preserved c =
    let p = program_in c.args.image in
    let l = c.loop-item in
    let step = c.in-Some.ensures.steps in
    let words = c.types_of.result.now in
    let added = items_from_extend c.extend.result c.extend.ensures.ran (YieldsList-from_map _ type_in (YieldsList-from_copied (YieldsList-from_slice words cc)) c.map.ensures.closure (λ x r q k. search rules)) in
    let more = (rw c.in_ok-extend.was at added).0 in
    (tt, tt, tuple_added p c.in-Tuple.part c.in-Some.item c.in-Tuple.is (to_come l.item-iterator) (to_come c.next.new.self) step.item step.rest (vec_items l.types) (map type_in words) (vec_items c.extend.new.self) (cell_types p) c.types_of.ensures more l.invariant.2)
