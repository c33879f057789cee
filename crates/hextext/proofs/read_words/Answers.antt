use Rattle.std.proofs.Common.{Ok, arith}
use Rattle.std.proofs.lemmas.Grind.{common_steps}
use Rattle.hextext.specs.Text.{Reads}
use Rattle.hextext.proofs.Typing.{reads_back}
use Rattle.hextext.proofs.read_words.Goals as goal

pub returns-in_err-next-clause-back : goal.returns-in_err-next-clause-back
returns-in_err-next-clause-back c = reads_back c.args.text.now c.from_residual.result (grind (arith, common_steps))

pub loop-byte-preserved : goal.loop-byte-preserved
loop-byte-preserved c =
    let after = c.in_ok-next.ensures in
    let kept = c.in_ok-keep.ensures in
    record { line = omega (arith, after.line); column = omega (arith, after.column); reads_on = grind (arith, common_steps) }

pub returns : goal.returns
returns c =
    let words = c.keep-2.new.words in
    let kept = c.in_ok-keep-2.ensures in
    let reads : Reads c.args.text.now (Ok words) = grind (arith, common_steps) in
    record { reads = reads; back = reads_back c.args.text.now (Ok words) reads }
