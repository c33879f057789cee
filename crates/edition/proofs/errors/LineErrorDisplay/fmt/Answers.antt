use Rattle.std.proofs.Common.{sym, subst}
use Rattle.std.specs.Fmt.{HasWritten}
use Rattle.edition.specs.Sentences.{sentence}
use Rattle.edition.proofs.errors.LineErrorDisplay.fmt.Goals as goal

pub returns-in-TooLarge-clause-writes : goal.returns-in-TooLarge-clause-writes
returns-in-TooLarge-clause-writes g c =
    λ plain ok.
    let w = c.write-in-TooLarge in
    subst (λ e. HasWritten g.W.Write.write_str_gives c.args.f.now (sentence e) w.new.self) (sym c.in-TooLarge.is) (w.ensures.writes plain ok)
