-- The erased machine: what a programme does, with no label, context or type in sight.
use Rattle.std.specs.Prelude.{ℕ, zero, suc, ◌+◌, ◌-◌, ◌%◌, ◌^◌, cond, List, [], ◌∷◌, ◌++◌, drop, replicate, ◌==◌, slice_index, slice_set}
use Rattle.image.specs.declared.instruction.Instruction.{Instruction}
use Rattle.image.specs.declared.instruction.Instruction.TheVariants.{SetNumber, SetTuple, SetBlock, Copy, Add, Subtract, Fetch, Store, Push, Pop, Peek, Poke, Strike as StrikeOn, Branch, Raise, Jump, Lower, Halt}
use Rattle.rules.specs.Program.{Program, block_at, base_in}
use Rattle.machine.specs.declared.strike.Strike.{Strike}
use Rattle.machine.specs.declared.ran.End.{End}
use Rattle.machine.specs.declared.ran.End.TheVariants.{Halted, Spent, Full}

-- eight registers, the stack with its top first, and the cells of all tuples
pub record State : Type 0 where
  pub registers : List ℕ
  pub stack : List ℕ
  pub cells : List ℕ

-- what comes of a run: how it ends, its steps, its strikes in their order, and the cells as they end
pub record Outcome : Type 0 where
  pub end : End
  pub steps : ℕ
  pub strikes : List Strike
  pub cells : List ℕ

abbrev pub reg_of : State → ℕ → ℕ
reg_of s r = slice_index s.registers r

abbrev pub with_reg : State → ℕ → ℕ → State
with_reg s r v = record { registers = slice_set s.registers r v; stack = s.stack; cells = s.cells }

abbrev pub with_stack : State → List ℕ → State
with_stack s x = record { registers = s.registers; stack = x; cells = s.cells }

abbrev pub with_cells : State → List ℕ → State
with_cells s x = record { registers = s.registers; stack = s.stack; cells = x }

-- what one counted word does: it stops the run, or goes on at some words in a state, with a strike or without
pub data Deed : Type 0 where
  stops : Deed
  goes : List Instruction → State → Deed
  strikes : Strike → List Instruction → State → Deed

-- one step more, with its strike where it made one
abbrev pub counted : List Strike → Outcome → Outcome
counted xs o = record { end = o.end; steps = suc o.steps; strikes = xs ++ o.strikes; cells = o.cells }

-- what comes of a deed in a state with this much room in the strip, where go says what comes after it
abbrev pub proceed : State → (ℕ → List Instruction → State → Outcome) → Deed → ℕ → Outcome
proceed s go stops room = record { end = Halted; steps = 1; strikes = []; cells = s.cells }
proceed s go (goes is t) room = counted [] (go room is t)
proceed s go (strikes x is t) zero = record { end = Full; steps = 0; strikes = []; cells = s.cells }
proceed s go (strikes x is t) (suc room) = counted (x ∷ []) (go room is t)

module _ (p : Program) where
  abbrev pub body : ℕ → List Instruction
  body n = (block_at p n).body

  -- where cell n of the tuple at a pointer lies among all cells
  abbrev pub cell_place : ℕ → ℕ → ℕ
  cell_place pointer n = base_in p.tuples pointer + n

  -- the deed of the first of these words, with the words behind it in its block. A raise is skipped and not counted; no word left
  -- is a halt, which a block that ends in a jump, a lower or a halt never shows. Numbers wrap at 32 bits.
  abbrev pub next : State → List Instruction → Deed
  next s [] = stops
  next s (SetNumber to value ∷ is) = goes is (with_reg s to value)
  next s (SetTuple to tuple ∷ is) = goes is (with_reg s to tuple)
  next s (SetBlock to block ∷ is) = goes is (with_reg s to block)
  next s (Copy to from ∷ is) = goes is (with_reg s to (reg_of s from))
  next s (Add to left right ∷ is) = goes is (with_reg s to ((reg_of s left + reg_of s right) % 2 ^ 32))
  next s (Subtract to left right ∷ is) = goes is (with_reg s to ((reg_of s left + (2 ^ 32 - reg_of s right)) % 2 ^ 32))
  next s (Fetch to pointer n ∷ is) = goes is (with_reg s to (slice_index s.cells (cell_place (reg_of s pointer) n)))
  next s (Store pointer from n ∷ is) = goes is (with_cells s (slice_set s.cells (cell_place (reg_of s pointer) n) (reg_of s from)))
  next s (Push count ∷ is) = goes is (with_stack s (replicate count 0 ++ s.stack))
  next s (Pop count ∷ is) = goes is (with_stack s (drop count s.stack))
  next s (Peek to n ∷ is) = goes is (with_reg s to (slice_index s.stack n))
  next s (Poke from n ∷ is) = goes is (with_stack s (slice_set s.stack n (reg_of s from)))
  next s (StrikeOn channel from ∷ is) = strikes (record { channel = channel; word = reg_of s from }) is s
  next s (Branch test target ∷ is) = goes (cond (reg_of s test == 0) is (body (reg_of s target))) s
  next s (Raise label postdominator ∷ is) = next s is
  next s (Jump target ∷ is) = goes (body (reg_of s target)) s
  next s (Lower block ∷ is) = goes (body block) s
  next s (Halt ∷ is) = stops

  -- the run of these words on from a state, with this much fuel and this much room in the strip
  abbrev pub run : ℕ → ℕ → List Instruction → State → Outcome
  run zero room is s = record { end = Spent; steps = 0; strikes = []; cells = s.cells }
  run (suc fuel) room is s = proceed s (run fuel) (next s is) room
