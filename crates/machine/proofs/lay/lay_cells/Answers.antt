use Rattle.std.proofs.Common.{◌≡◌, ◌<◌, length, sym, refl, ap, ◌∙◌, inr, arith, rules}
use borrow.Author.Tests.{tests}
use Rattle.std.proofs.lemmas.Iterator.Consumers.{YieldsList-from_enumerate, YieldsList-at}
use Rattle.std.proofs.lemmas.List.{length_push}
use Rattle.std.specs.Iterator.Adapters.{enumerate_source, enumerate_count}
use Rattle.std.proofs.lemmas.Slice.Zip.{length-zip}
use Rattle.rules.specs.Fit.{is_integer}
use Rattle.rules.specs.Program.{cell_types}
use Rattle.machine.specs.Cells.{image_words, laid}
use Rattle.machine.specs.Runnables.{words_of, programme_of}
use Rattle.machine.specs.Tuples.{tuples_left}
use Rattle.machine.proofs.Counting.{few_cells}
use Rattle.machine.proofs.Fitted.{cells_hold}
use Rattle.machine.proofs.Handing.{all_handed, this_cell, no_cell, some_next, next_is, run_short}
use Rattle.machine.proofs.Laying.{as_many, lay_job, lay_plain, some_left, laid_all}
use Rattle.machine.proofs.Sound.{sound}
use Rattle.machine.proofs.lay.lay_cells.Goals as goal
use Rattle.machine.proofs.lay.lay_cells.Goals.{then-is_integer, else-is_integer}

pub loop-place-init : goal.loop-place-init
loop-place-init c =
    let p = programme_of c.args.image in
    let s = sound (words_of c.args.image) c.args.image.sound in
    let source : enumerate_source c.into_iter-place-iterator.result ≡ c.flat_map-cells.result = ap enumerate_source c.into_iter-place-iterator.ensures.into_iter_gives ∙ c.enumerate-place-items.ensures.source in
    let count : enumerate_count c.into_iter-place-iterator.result ≡ 0 = ap enumerate_count c.into_iter-place-iterator.ensures.into_iter_gives ∙ c.enumerate-place-items.ensures.count in
    let made = c.flat_map-cells.ensures in
    let road = YieldsList-at source (all_handed p _ c.flat_map-cells.result made.runs made.closure made.front made.back made.done (ap tuples_left made.source ∙ c.tuples.ensures) s.named.tuples (λ x u q k. search (rules, tests))) in
    record {
      can_go = (((λ d. ((tt, record { at = λ xs t q x u y f s. tt }), record { at = λ xs t q x u y f s j e. ((tt, tt), tt, search (rules, tests)) }), tt, λ x e. ((tt, tt), tt)), λ x e. ((tt, tt), tt)), tt, inr (λ r a b d. omega (arith, count, run_short road r b, length-zip (cell_types p) (image_words p.tuples), few_cells (words_of c.args.image) s)));
      ends = tt;
      hands_out = YieldsList-from_enumerate road count;
      laid = record { long = refl; enough = omega (arith, c.requires.job, ap length c.iter-words.ensures.rest); behind = refl; comes = ap (laid (cell_types p) (image_words p.tuples)) c.iter-words.ensures.rest };
    }

pub unwrap-requires : goal.unwrap-requires
unwrap-requires c =
    let p = programme_of c.args.image in
    let s = sound (words_of c.args.image) c.args.image.sound in
    let l = c.loop-place.invariant in
    let t = this_cell (cell_types p) (image_words p.tuples) (as_many p p.tuples s.named.tuples) l.hands_out c.loop-place.yielded c.loop-place.yielded_by c.in-Some.is c.next.ensures.steps in
    some_next _ _ c.next-then-is_integer.result c.next-then-is_integer.ensures.steps (some_left l.laid c.requires.room t.inside (ap is_integer (sym t.type) ∙ ap is_integer (sym c.type_in.ensures) ∙ sym c.is_integer.ensures ∙ c.if-is_integer.true))

pub bounds-sheet-place : goal.bounds-sheet-place
bounds-sheet-place c =
    let p = programme_of c.args.image in
    let s = sound (words_of c.args.image) c.args.image.sound in
    let l = c.loop-place.invariant in
    let t = this_cell (cell_types p) (image_words p.tuples) (as_many p p.tuples s.named.tuples) l.hands_out c.loop-place.yielded c.loop-place.yielded_by c.in-Some.is c.next.ensures.steps in
    omega (arith, t.inside, t.at, l.laid.long, c.requires.room)

pub offset_bounds-sheet-place : goal.offset_bounds-sheet-place
offset_bounds-sheet-place c =
    let p = programme_of c.args.image in
    let s = sound (words_of c.args.image) c.args.image.sound in
    let l = c.loop-place.invariant in
    let t = this_cell (cell_types p) (image_words p.tuples) (as_many p p.tuples s.named.tuples) l.hands_out c.loop-place.yielded c.loop-place.yielded_by c.in-Some.is c.next.ensures.steps in
    let low : c.in-Some.place < 256 = omega (arith, t.inside, t.at, few_cells (words_of c.args.image) s) in
    search rules

pub loop-place-preserved : goal.loop-place-preserved
loop-place-preserved c =
    let p = programme_of c.args.image in
    let s = sound (words_of c.args.image) c.args.image.sound in
    let l = c.loop-place.invariant in
    let t = this_cell (cell_types p) (image_words p.tuples) (as_many p p.tuples s.named.tuples) l.hands_out c.loop-place.yielded c.loop-place.yielded_by c.in-Some.is c.next.ensures.steps in
    let same = ap is_integer (sym t.type) ∙ ap is_integer (sym c.type_in.ensures) ∙ sym c.is_integer.ensures in
    record {
      can_go = search rules;
      ends = search rules;
      hands_out = l.hands_out;
      laid = elim c.if-is_integer.branch [
        | then-is_integer w ↦ rw (w.words-is, w.sheet-is) (lay_job l.laid c.requires.room t.inside (same ∙ w.if-is_integer.true) _ _ _ _ t.at (length_push c.loop-place.yielded _) (next_is _ _ w.next-then-is_integer.result _ w.unwrap.ensures w.next-then-is_integer.ensures.steps))
        | else-is_integer w ↦ rw (w.words-is, w.sheet-is) (lay_plain l.laid c.requires.room t.inside (same ∙ w.if-is_integer.false) _ _ _ t.at (length_push c.loop-place.yielded _) t.word)
      ];
    }

pub returns : goal.returns
returns c =
    let ns = words_of c.args.image in
    let p = programme_of c.args.image in
    let s = sound ns c.args.image.sound in
    let l = c.loop-place.invariant in
    record {
      sheet = laid_all l.laid c.requires.room (no_cell (cell_types p) (image_words p.tuples) (as_many p p.tuples s.named.tuples) l.hands_out c.loop-place.yielded c.loop-place.yielded_by c.in-None.is c.next.ensures.steps);
      hold = cells_hold ns s c.args.job.now;
    }
