use Rattle.std.proofs.Common.{◌≡◌, ◌+◌, drop}
use Rattle.image.specs.declared.section.Section.TheVariants.{Blocks}
use Rattle.programme.specs.Lookup.{part_piece}
use Rattle.programme.specs.Spelled.{program_in}
use Rattle.rules.specs.Flow.{body_flow, part_flow}
use Rattle.rules.specs.Says.{body_of, says}
use Rattle.typing.specs.States.{known}
use Rattle.flow.proofs.walk.check_words.Given as goal

-- the walk goes by the same kind and image, and what is found from here on is what is found in all
abbrev pub invariant-loop-index : goal.invariant-loop-index
invariant-loop-index g l =
    let m = g.K.LabelKind.meaning l.kind in
    let p = program_in l.fn.image in
    let place = l.fn.block.place in
    record {
      kind : l.walk.kind.now ≡ l.kind;
      image : l.walk.image ≡ l.fn.image;
      comes : body_flow m p (known l.walk.state) (place + 1 + l.index) (drop l.index (body_of l.words)) ≡ part_flow m p place (says (part_piece Blocks l.fn.block));
    }
