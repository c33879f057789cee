use Rattle.std.proofs.Common.{◌∙◌, length, rules, arith}
use Rattle.std.proofs.lemmas.Iterator.{YieldsList-from_slice}
use Rattle.std.proofs.lemmas.Iterator.Consumers.{YieldsList-from_enumerate}
use Rattle.programme.specs.Spelled.{program_in}
use Rattle.naming.proofs.Chains.{first_from_try_for_each}
use Rattle.naming.proofs.Findings.{instruction_found, instructions_found}
use Rattle.naming.proofs.names.Names.instructions_fault.Goals as goal

pub returns : goal.returns
returns g c =
    let m = g.K.LabelKind.meaning c.args.self.now.kind.now in
    let p = program_in c.args.self.now.image in
    let ns = c.args.part.behind.now in
    first_from_try_for_each _ _ _ _ (λ e. e.0) (instruction_found m p c.args.part.place (length ns)) (λ x r q k. search rules) c.enumerate.result c.try_for_each.new.self _ _ c.try_for_each.ensures.ran (YieldsList-from_enumerate (YieldsList-from_slice ns cc) cc)
    ∙ instructions_found m p c.args.part.place (length ns) 0 _ ns (omega arith) (omega arith)
