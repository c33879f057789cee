use Rattle.std.proofs.Common.{◌∙◌, rules, arith}
use Rattle.std.proofs.lemmas.Iterator.{YieldsList-from_slice, YieldsList-from_zip}
use Rattle.std.proofs.lemmas.Iterator.Consumers.{YieldsList-from_enumerate}
use Rattle.programme.specs.Spelled.{program_in}
use Rattle.naming.proofs.Chains.{first_from_try_for_each}
use Rattle.naming.proofs.Findings.{plain_found, plains_found}
use Rattle.naming.proofs.names.Names.plains_fault.Goals as goal

pub returns : goal.returns
returns g c =
    let m = g.K.LabelKind.meaning c.args.self.now.kind.now in
    let p = program_in c.args.self.now.image in
    let ts = c.args.types.now in
    let ns = c.args.part.behind.now in
    first_from_try_for_each _ _ _ _ (λ e. e.0) (plain_found m p c.args.part.place) (λ x r q k. search rules) c.enumerate.result c.try_for_each.new.self _ _ c.try_for_each.ensures.ran (YieldsList-from_enumerate (YieldsList-from_zip (YieldsList-from_slice ts cc) (YieldsList-from_slice ns cc)) cc)
    ∙ plains_found m p c.args.part.place 0 _ ts ns c.requires (omega arith)
