use Rattle.std.proofs.Common.{◌≡◌, drop, sym, ap, ◌∙◌, subst}
use Rattle.rules.specs.Says.{body_of}
use Rattle.machine.specs.Cells.{start}
use Rattle.machine.specs.Machine.{body}
use Rattle.machine.specs.Memories.{state_of}
use Rattle.machine.specs.Raises.{past}
use Rattle.machine.specs.Runnables.{words_of, programme_of}
use Rattle.machine.specs.Typed.{Ready}
use Rattle.machine.proofs.Sound.{sound, some_block}
use Rattle.machine.proofs.Keeping.{DeedReady, ready_next, ready_can, ready_some}
use Rattle.machine.proofs.Passing.{ready_past, past_first}
use Rattle.machine.proofs.Starting.{ready_start}
use Rattle.machine.proofs.Facing.{some_words, faced}
use Rattle.machine.proofs.Runs.{going_start, going_goes, going_strikes, going_stops, going_full, going_spent}
use Rattle.machine.proofs.run.run.Goals as goal
use Rattle.machine.proofs.run.run.Goals.{in-Go, in-Struck+else-strikes-strip}

pub block-requires : goal.block-requires
block-requires c = some_block (words_of c.args.image) c.args.image.sound

pub loop-steps-init : goal.loop-steps-init
loop-steps-init c =
    let p = programme_of c.args.image in
    let m = c.start-memory in
    let cells = c.args.cells.now in
    let begun : state_of m.result cells ≡ start cells = λ i. record { registers = m.ensures.registers i; stack = m.ensures.stack i; cells = cells } in
    going_start p c.args.fuel c.args.strip.now (body_of c.block.result.words.now) (body p 0) (state_of m.result cells) (start cells) (ap (λ b. b.body) c.block.ensures) begun
    (ready_start (sound (words_of c.args.image) c.args.image.sound) cells c.requires)

pub first-requires : goal.first-requires
first-requires c =
    let s = state_of c.loop-steps.memory c.loop-steps.cells in
    let is = body_of c.loop-steps.rest.now in
    let ok = sound (words_of c.args.image) c.args.image.sound in
    some_words c.past_raises-here.result.now (λ z. ready_some ok s (past is) (ready_past ok s is c.loop-steps.invariant.ready) (sym c.past_raises-here.ensures ∙ z))

pub obey-requires : goal.obey-requires
obey-requires c =
    let s = state_of c.loop-steps.memory c.loop-steps.cells in
    let is = body_of c.loop-steps.rest.now in
    let js = body_of (drop 1 c.past_raises-here.result.now) in
    let ok = sound (words_of c.args.image) c.args.image.sound in
    let here = sym c.past_raises-here.ensures ∙ c.first.ensures in
    ready_can ok s c.first.result js (subst (Ready (programme_of c.args.image) s) here (ready_past ok s is c.loop-steps.invariant.ready)) (past_first is js c.first.result here)

pub returns-in-Stop : goal.returns-in-Stop
returns-in-Stop c =
    let s = state_of c.loop-steps.memory c.loop-steps.cells in
    let deed = faced (programme_of c.args.image) s (body_of c.loop-steps.rest.now) c.past_raises-here.result.now c.first.result c.past_raises-here.ensures c.first.ensures in
    going_stops c.loop-steps.invariant c.loop-steps-test.true (deed ∙ c.in-Stop.ensures.0) c.obey.new.cells c.in-Stop.ensures.1

pub returns-then-strikes-strip : goal.returns-then-strikes-strip
returns-then-strikes-strip c =
    let s = state_of c.loop-steps.memory c.loop-steps.cells in
    let deed = faced (programme_of c.args.image) s (body_of c.loop-steps.rest.now) c.past_raises-here.result.now c.first.result c.past_raises-here.ensures c.first.ensures in
    going_full c.loop-steps.invariant c.loop-steps-test.true c.in-Struck.strike (body_of c.in-Struck.words.now) (state_of c.obey.new.self c.obey.new.cells) (deed ∙ c.in-Struck.ensures.0) c.if-strikes-strip.true c.obey.new.cells c.in-Struck.ensures.1

pub loop-steps-preserved : goal.loop-steps-preserved
loop-steps-preserved c =
    let s = state_of c.loop-steps.memory c.loop-steps.cells in
    let t = state_of c.obey.new.self c.obey.new.cells in
    let is = body_of c.loop-steps.rest.now in
    let ok = sound (words_of c.args.image) c.args.image.sound in
    let deed = faced (programme_of c.args.image) s is c.past_raises-here.result.now c.first.result c.past_raises-here.ensures c.first.ensures in
    let ready = ready_next ok s is c.loop-steps.invariant.ready in
    elim c.match-obey.branch [
      | in-Go w ↦ rw (w.strip-is, w.rest-is, w.strikes-is) (going_goes c.loop-steps.invariant c.loop-steps-test.true (body_of w.in-Go.words.now) t (deed ∙ w.in-Go.ensures) (subst (DeedReady ok) (deed ∙ w.in-Go.ensures) ready))
      | in-Struck+else-strikes-strip w ↦ rw (w.strip-is, w.rest-is, w.strikes-is) (going_strikes c.loop-steps.invariant c.loop-steps-test.true w.in-Struck.strike (body_of w.in-Struck.words.now) t (deed ∙ w.in-Struck.ensures.0) w.if-strikes-strip.false (subst (DeedReady ok) (deed ∙ w.in-Struck.ensures.0) ready))
    ]

pub returns : goal.returns
returns c = going_spent c.loop-steps.invariant c.loop-steps-test.false c.loop-steps.auto.steps-end
