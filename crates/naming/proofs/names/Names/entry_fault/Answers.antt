use Rattle.std.proofs.Common.{◌≡◌, cond, Some, None, sym, ap, ◌∙◌}
use Rattle.std.specs.List.{slice_get}
use Rattle.rules.specs.declared.rule.NamingRule.TheVariants.{NoSuchSignature, BadStart}
use Rattle.rules.specs.Program.{no_signature, signature_at}
use Rattle.rules.specs.Naming.{may_start}
use Rattle.programme.specs.Spelled.{program_in, signature_spelled}
use Rattle.programme.proofs.Nth.{there, nth_is}
use Rattle.naming.proofs.names.Names.entry_fault.Goals as goal

pub returns : goal.returns
returns g c =
    let p = program_in c.args.self.now.image in
    let all = p.signatures in
    let n = c.args.signature in
    let s = signature_spelled c.in_ok-s.s in
    let found : Some s ≡ slice_get all n = rw c.in_ok-s.ensures.ok_part at c.signature.ensures.value in
    c.ask.ensures
    ∙ ap (λ b. cond b None (Some BadStart)) c.may_start.ensures
    ∙ ap (λ s. cond (may_start c.args.number s) None (Some BadStart)) (sym (nth_is all n s no_signature found))
    ∙ ap (λ b. cond b (cond (may_start c.args.number (signature_at p n)) None (Some BadStart)) (Some NoSuchSignature)) (sym (there all n s found))
