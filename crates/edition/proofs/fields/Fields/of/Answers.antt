use Rattle.std.proofs.Common.{◌≡◌, length, take, ap, rules}
use Rattle.edition.specs.Fields.{text_of, fields}
use Rattle.edition.proofs.Cuts.{no_hash, run_is, text_is}
use Rattle.edition.proofs.fields.Fields.of.Goals as goal

pub returns : goal.returns
returns c =
    let line = c.args.line.now in
    let same : take c.run-end.result line ≡ text_of line = rw (run_is no_hash (λ b r h. search rules) line _ c.run-end.ensures) at (text_is line) in
    record { size = ap length same; fields = ap fields same }
