use Rattle.std.proofs.Common.{ap, ◌∙◌}
use Rattle.std.proofs.lemmas.Option.{unwrap_or-slice_get}
use Rattle.std.specs.Option.{unwrap_or}
use Rattle.programme.specs.Spelled.{program_in}
use Rattle.readers.proofs.sight.Reader.may_see.Goals as goal

pub returns : goal.returns
returns g c =
    let reader = c.args.self in
    let label = c.unwrap_or-label.ensures ∙ ap (λ o. unwrap_or o 0) c.channel.ensures ∙ unwrap_or-slice_get (program_in reader.image).channels c.args.channel 0 in
    c.at_or_below.ensures ∙ ap (λ l. (g.K.LabelKind.meaning reader.kind.now).below l reader.label) label
