use Rattle.std.proofs.Common.{ap, ◌∙◌}
use Rattle.rules.specs.Verdict.{naming_of, flow_of}
use Rattle.press_box.proofs.Loads.{may_be_kept, short}
use Rattle.press_box.proofs.store.ImageStore.load.Goals as goal

pub keep-requires : goal.keep-requires
keep-requires g c =
    let m = g.K.LabelKind.meaning c.args.kind.now in
    let ns = c.args.image.now in
    let l = c.in_ok-laid_out.ensures.finding in
    let same = c.in_ok-laid_out.ensures.kept in
    let n = c.in_ok-check_names.ensures ∙ ap (naming_of m) same in
    let f = c.in_ok-check_flow.ensures ∙ ap (flow_of m) same in
    record { fine = may_be_kept m ns l n f; few = short ns l }
