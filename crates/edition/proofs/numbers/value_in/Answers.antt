use Rattle.std.proofs.Common.{◌≡◌, ◌+◌, ◌*◌, ◌≤◌, min, drop, Some, sym, ap, ◌∙◌, arith}
use Rattle.edition.specs.Numbers.{capped, digit_in}
use Rattle.edition.proofs.Values.{digit_is, same_capped, at_digit}
use Rattle.edition.proofs.numbers.value_in.Goals as goal

pub loop-byte-preserved : goal.loop-byte-preserved
loop-byte-preserved c =
    let base = c.args.base in
    let digits = c.args.digits.now in
    let l = c.loop-byte in
    let d = c.in_ok-digit.digit in
    let digit = digit_is base c.from.result (Some d) c.requires.high c.in_ok-digit.ensures.value ∙ ap (digit_in base) c.from.ensures in
    let pos : 1 ≤ base = omega arith in
    let read = at_digit base pos digits l.byte-index l.value c.loop-byte-test.true (Some d) digit in
    let next : min c.min-value.result 4294967296 ≡ min (l.value * base + d) 4294967296 = omega (arith, rw (c.from-in-loop-byte.ensures, c.from-in-loop-byte-2.ensures) at c.min-value.ensures) in
    let same = same_capped base pos c.min-value.result (l.value * base + d) (drop (l.byte-index + 1) digits) next in
    (omega arith, same ∙ sym (ap capped read) ∙ l.invariant.1)
