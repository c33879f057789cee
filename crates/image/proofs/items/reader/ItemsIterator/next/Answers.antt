use Rattle.std.proofs.Common.{◌≡◌, ◌+◌, ◌-◌, length, take, drop, sym, ap, ◌∙◌, arith, rules}
use Rattle.std.proofs.lemmas.List.{take_rest}
use Rattle.image.specs.Items.{pieces_from}
use Rattle.image.specs.Reader.{handed, others}
use Rattle.image.proofs.Reading.{turn, part_length}
use Rattle.image.proofs.items.reader.ItemsIterator.next.Goals as goal

pub returns : goal.returns
returns c =
    let s = c.args.self.now in
    let at = s.seen.end in
    let one = turn s.front.now at s.seen.counts c.in_ok-head.head c.section-section.result c.of-number.result c.follows-size.result c.in_ok-head.ensures.value c.section-section.ensures c.of-number.ensures c.follows-size.ensures in
    let size : length (take (at + (1 + c.follows-size.result) - at) (drop at s.front.now)) ≡ 1 + c.follows-size.result = part_length s.front.now at c.follows-size.result (omega (arith, c.in_ok-head.ensures.within, c.follows-size.ensures, ap length (take_rest s.front.now at))) in
    record {
      steps = record {
        item = rw (c.of.ensures.section, c.of.ensures.part) (sym (ap handed one));
        rest = ap (λ seen. pieces_from seen.counts 0 seen.end (drop seen.end s.front.now)) c.add.ensures ∙ sym (ap others one);
        seen = rw (c.of.ensures.section, c.of.ensures.part, size) c.add.ensures;
      };
      goes = search rules;
    }
