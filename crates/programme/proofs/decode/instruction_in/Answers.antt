use Rattle.std.proofs.Common.{Some, None, ap, ◌∙◌}
use Rattle.image.specs.declared.instruction.Instruction.TheVariants.{Halt}
use Rattle.image.specs.Instructions.{instruction_of}
use Rattle.programme.proofs.decode.instruction_in.Goals as goal

pub returns-in-Some : goal.returns-in-Some
returns-in-Some c = ap (λ o. elim o [ None ↦ Halt | Some i ↦ i ]) (c.in-Some.ensures ∙ ap (instruction_of c.args.last) c.from.ensures)
