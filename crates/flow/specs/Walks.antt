-- What a walk asks of an instruction, and what it knows behind one.
use Rattle.std.specs.Prelude.{Bool, [], ◌∷◌}
use Rattle.labels.specs.Meaning.{Meaning}
use Rattle.image.specs.declared.instruction.Instruction.{Instruction}
use Rattle.image.specs.declared.ty.Ty.{Ty}
use Rattle.image.specs.Finding.{Tests}
use Rattle.programme.specs.Spelled.{program_in}
use Rattle.rules.specs.declared.rule.FlowRule.{FlowRule}
use Rattle.rules.specs.declared.rule.FlowRule.TheVariants.{LabelMisfit, WrongContext, DepthMisfit, SortMisfit}
use Rattle.rules.specs.Fit.{target, same_depth, fit_sorts, fit_labels}
use Rattle.rules.specs.Flow.{guarded, transfer_tests, state_tests, state_after}
use Rattle.rules.specs.Program.{Types, Signature}
use Rattle.typing.specs.States.{known}
use Rattle.flow.specs.declared.walk.Walk.{Walk}

module _ {K : Type 0} (meaning : K → Meaning) (w : Walk K) where
  abbrev pub walk_tests : Instruction → Tests FlowRule
  walk_tests i = state_tests (meaning w.kind.now) (program_in w.image) (known w.state) i

  abbrev pub walk_after : Instruction → Signature
  walk_after i = state_after (meaning w.kind.now) (program_in w.image) (known w.state) i

  -- control goes to a block of the signature that a code type names
  abbrev pub code_tests : Ty → Tests FlowRule
  code_tests t =
      let m = meaning w.kind.now in
      let p = program_in w.image in
      guarded m p (known w.state).context t ∷ transfer_tests m p (known w.state).context (known w.state).types (target p t)

  -- control goes to where there are to be these types, and the context is as it is to be or not
  abbrev pub arrival_tests : Types → Bool → Tests FlowRule
  arrival_tests want context_fits =
      (LabelMisfit, fit_labels (meaning w.kind.now) (known w.state).types want)
      ∷ (WrongContext, context_fits)
      ∷ (DepthMisfit, same_depth (known w.state).types want)
      ∷ (SortMisfit, fit_sorts (known w.state).types want)
      ∷ []
