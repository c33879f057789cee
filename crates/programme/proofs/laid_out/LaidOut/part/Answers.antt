use Rattle.std.proofs.Common.{◌≡◌, Some, sym, ap, ◌∙◌, rules}
use denote.Enum.Bare.{same_true}
use Rattle.image.specs.contracts.section.Section.{the_type}
use Rattle.image.specs.Items.{item_section, pieces}
use Rattle.image.specs.Reader.{to_come}
use Rattle.programme.specs.Lookup.{nth_piece, part_piece}
use Rattle.programme.proofs.Found.{found_here}
use Rattle.programme.proofs.Sections.{found_in}
use Rattle.programme.proofs.Sizes.{Limited, within_limits}
use Rattle.programme.proofs.laid_out.LaidOut.part.Goals as goal

pub returns-then-part-number : goal.returns-then-part-number
returns-then-part-number c =
    let ns = c.args.self.now.words.now in
    let s = c.args.section in
    let n = c.args.number in
    let same : item_section c.in-Some.item ≡ s = sym c.section.ensures ∙ same_true the_type (search rules) _ _ (sym c.if-eq.ensures) in
    let part = c.part-part.ensures in
    let found : Some (part_piece s c.part-part.result) ≡ nth_piece s n (pieces ns) =
    ap (λ p. Some (part_piece s p)) part
    ∙ found_here s n c.in-Some.item (to_come c.loop-item.item-iterator) c.in-Some.ensures.steps.item same (ap (λ p. p.number) (sym part) ∙ c.if-part-number.true)
    ∙ c.loop-item.invariant.2
    in
    record { value = found; size = found_in Limited s n (pieces ns) (within_limits ns) (part_piece s c.part-part.result) found }
