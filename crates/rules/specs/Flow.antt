-- The flow pass: does each instruction find the sorts, the depth, the labels and the context that it asks for?
use Rattle.std.specs.Prelude.{ℕ, suc, ◌+◌, Bool, List, [], ◌∷◌, length, nat_le, nat_lt, slice_index}
use Rattle.labels.specs.Meaning.{Meaning}
use Rattle.image.specs.declared.ty.Ty.{Ty}
use Rattle.image.specs.declared.head.Context.{Context}
use Rattle.image.specs.declared.instruction.Instruction.{Instruction}
use Rattle.image.specs.declared.instruction.Instruction.TheVariants.{SetNumber, SetTuple, SetBlock, Copy, Add, Subtract, Fetch, Store, Push, Pop, Peek, Poke, Strike, Branch, Raise, Jump, Lower, Halt}
use Rattle.image.specs.Finding.{Finding, clear, Tests, ◌then◌, walk}
use Rattle.image.specs.Items.{Piece}
use Rattle.rules.specs.declared.rule.FlowRule.{FlowRule}
use Rattle.rules.specs.declared.rule.FlowRule.TheVariants.{WrongSort, NoSuchCell, TooDeep, NoSuchSlot, LabelTooHigh, LabelMisfit, WrongContext, DepthMisfit, SortMisfit}
use Rattle.rules.specs.Program.{Types, Signature, Program, signature_at, promise}
use Rattle.rules.specs.Says.{Part, a_channel, a_shape, a_signature, a_tuple, a_block, says}
use Rattle.rules.specs.Types.{level, reg, label_of, cell, after, then_context}
use Rattle.rules.specs.Fit.{is_integer, is_pointer, is_code, has_cell, alike, target, same_context, is_empty, raised_to, same_depth, fit_sorts, fit_labels}

-- the number by which each rule is refused
abbrev pub flow_number : FlowRule → ℕ
flow_number WrongSort = 8
flow_number NoSuchCell = 8
flow_number TooDeep = 9
flow_number NoSuchSlot = 9
flow_number LabelTooHigh = 10
flow_number LabelMisfit = 10
flow_number WrongContext = 11
flow_number DepthMisfit = 12
flow_number SortMisfit = 12

-- ---- the tests of each instruction, at a context and types

module _ (m : Meaning) (p : Program) where
  -- at or below the context's label
  abbrev pub guarded : Context → Ty → FlowRule × Bool
  guarded k t = (LabelTooHigh, m.below (label_of t) (level k))

  -- control goes to a block of this signature
  abbrev pub transfer_tests : Context → Types → Signature → Tests FlowRule
  transfer_tests k g s =
      (LabelMisfit, fit_labels m g s.types)
      ∷ (WrongContext, same_context s.context k)
      ∷ (DepthMisfit, same_depth g s.types)
      ∷ (SortMisfit, fit_sorts g s.types)
      ∷ []

  abbrev pub flow_tests : Context → Types → Instruction → Tests FlowRule
  flow_tests k g (SetNumber to value) = []
  flow_tests k g (SetTuple to tuple) = []
  flow_tests k g (SetBlock to block) = []
  flow_tests k g (Copy to from) = []
  flow_tests k g (Add to left right) = (WrongSort, is_integer (reg g left)) ∷ (WrongSort, is_integer (reg g right)) ∷ []
  flow_tests k g (Subtract to left right) = (WrongSort, is_integer (reg g left)) ∷ (WrongSort, is_integer (reg g right)) ∷ []
  flow_tests k g (Fetch to pointer n) = (WrongSort, is_pointer (reg g pointer)) ∷ (NoSuchCell, has_cell p (reg g pointer) n) ∷ []
  flow_tests k g (Store pointer from n) =
      (WrongSort, is_pointer (reg g pointer))
      ∷ (NoSuchCell, has_cell p (reg g pointer) n)
      ∷ (WrongSort, alike (reg g from) (cell p (reg g pointer) n))
      ∷ (LabelTooHigh, m.below (m.joined (m.joined (level k) (label_of (reg g pointer))) (label_of (reg g from))) (label_of (cell p (reg g pointer) n)))
      ∷ []
  flow_tests k g (Push count) = (TooDeep, nat_le (length g.slots + count) 32) ∷ []
  flow_tests k g (Pop count) = (NoSuchSlot, nat_le count (length g.slots)) ∷ []
  flow_tests k g (Peek to n) = (NoSuchSlot, nat_lt n (length g.slots)) ∷ []
  flow_tests k g (Poke from n) = (NoSuchSlot, nat_lt n (length g.slots)) ∷ []
  flow_tests k g (Strike channel from) =
      (WrongSort, is_integer (reg g from))
      ∷ (LabelTooHigh, m.below (m.joined (level k) (label_of (reg g from))) (slice_index p.channels channel))
      ∷ []
  flow_tests k g (Branch test to) =
      (WrongSort, is_integer (reg g test))
      ∷ (WrongSort, is_code (reg g to))
      ∷ guarded k (reg g test)
      ∷ guarded k (reg g to)
      ∷ transfer_tests k g (target p (reg g to))
  flow_tests k g (Raise label postdominator) = (LabelTooHigh, m.below (level k) label) ∷ (WrongContext, same_context (promise p postdominator).context k) ∷ []
  flow_tests k g (Jump to) = (WrongSort, is_code (reg g to)) ∷ guarded k (reg g to) ∷ transfer_tests k g (target p (reg g to))
  flow_tests k g (Lower block) =
      (LabelMisfit, fit_labels m g (promise p block).types)
      ∷ (WrongContext, raised_to block k)
      ∷ (DepthMisfit, same_depth g (promise p block).types)
      ∷ (SortMisfit, fit_sorts g (promise p block).types)
      ∷ []
  flow_tests k g Halt = (WrongContext, is_empty k) ∷ []

  -- ---- the state of the walk through a block is what a signature has: a context and types

  abbrev pub state_tests : Signature → Instruction → Tests FlowRule
  state_tests s i = flow_tests s.context s.types i

  abbrev pub state_after : Signature → Instruction → Signature
  state_after s i = record { context = then_context s.context i; types = after m p s.context s.types i }

  abbrev pub body_flow : Signature → ℕ → List Instruction → Finding FlowRule
  body_flow s place is = walk state_tests state_after s place is

  -- each block from its own signature
  abbrev pub part_flow : ℕ → Part → Finding FlowRule
  part_flow place (a_channel l) = clear
  part_flow place (a_shape ts) = clear
  part_flow place (a_signature s) = clear
  part_flow place (a_tuple t) = clear
  part_flow place (a_block b) = body_flow (signature_at p b.signature) (suc place) b.body

  abbrev pub flow : List Piece → Finding FlowRule
  flow [] = clear
  flow (i ∷ is) = part_flow i.place (says i) then flow is
