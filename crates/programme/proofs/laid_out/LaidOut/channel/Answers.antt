use Rattle.std.proofs.Common.{Some, ap, ◌∙◌}
use Rattle.std.specs.List.{slice_get}
use Rattle.std.specs.Option.{option_map}
use Rattle.rules.specs.Says.{program_of}
use Rattle.programme.proofs.Sections.{channel_in, channel_said}
use Rattle.programme.proofs.laid_out.LaidOut.channel.Goals as goal

pub returns-in_err-part : goal.returns-in_err-part
returns-in_err-part c =
    let ns = c.args.self.now.words.now in
    rw c.from_residual.ensures (ap (option_map channel_in) c.in_err-part.ensures.value ∙ channel_said ns c.from.result ∙ ap (slice_get (program_of ns).channels) c.from.ensures)

pub returns : goal.returns
returns c =
    let ns = c.args.self.now.words.now in
    ap (λ w. Some w.c) c.from-2.ensures
    ∙ ap (option_map channel_in) c.in_ok-part.ensures.value
    ∙ channel_said ns c.from.result
    ∙ ap (slice_get (program_of ns).channels) c.from.ensures
