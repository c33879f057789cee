use Rattle.std.proofs.Common.{◌+◌, ap, ◌∙◌, rules}
use Rattle.programme.specs.Spelled.{program_in}
use Rattle.typing.specs.States.{known}
use Rattle.flow.proofs.Blocks.{more, found, ended}
use Rattle.flow.proofs.walk.check_words.Goals as goal

pub returns-in-Err-clause-finding : goal.returns-in-Err-clause-finding
returns-in-Err-clause-finding g c =
    let meaning = g.K.LabelKind.meaning in
    let image = c.args.image in
    let walk = c.loop-index.walk in
    found (meaning c.args.kind.now) (program_in image) c.in-Some.words.now (c.args.block.place + 1) c.loop-index.index (known walk.state) c.instruction_in-instruction.result (meaning walk.kind.now) (program_in walk.image) (ap meaning c.loop-index.invariant.kind) (ap program_in c.loop-index.invariant.image) c.loop-index-test.true c.instruction_in-instruction.ensures c.in-Err.rule c.in-Err.ensures
    ∙ c.loop-index.invariant.comes

pub loop-index-preserved : goal.loop-index-preserved
loop-index-preserved g c =
    let meaning = g.K.LabelKind.meaning in
    let image = c.args.image in
    let walk = c.loop-index.walk in
    record {
      kind = search rules;
      image = search rules;
      comes = more (meaning c.args.kind.now) (program_in image) c.in-Some.words.now (c.args.block.place + 1) c.loop-index.index (known walk.state) c.instruction_in-instruction.result (meaning walk.kind.now) (program_in walk.image) (ap meaning c.loop-index.invariant.kind) (ap program_in c.loop-index.invariant.image) c.loop-index-test.true c.instruction_in-instruction.ensures (known c.advance.new.self.state) c.in_default-instruction_fault.ensures c.advance.ensures.known ∙ c.loop-index.invariant.comes;
    }

pub returns-clause-finding : goal.returns-clause-finding
returns-clause-finding g c =
    ended (g.K.LabelKind.meaning c.args.kind.now) (program_in c.args.image) c.in-Some.words.now (c.args.block.place + 1) c.loop-index.index (known c.loop-index.walk.state) c.loop-index-test.false ∙ c.loop-index.invariant.comes
