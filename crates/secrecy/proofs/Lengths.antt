-- How many cells and strikes a run ends with, and so how long it leaves strip and sheet.
use mathlib.Core.Path.{◌≡◌, refl, ◌∙◌}
use mathlib.Core.List.{List, [], ◌∷◌}
use mathlib.Core.Bool.{Bool, true, false, cond, not}
use Prim.Native.Nat.{ℕ, zero, suc, ◌≤◌}
use native.Mathlib.Omega.{arith}
use lib.ListN.{length, length-set, length-drop, length-append}
use lib.Dec.{eqb, ltb}
use borrow.Author.Tests.{ltb-false}
use Rattle.image.specs.declared.instruction.Instruction.{Instruction}
use Rattle.image.specs.declared.instruction.Instruction.TheVariants.{SetNumber, SetTuple, SetBlock, Copy, Add, Subtract, Fetch, Store, Push, Pop, Peek, Poke, Strike as StrikeOn, Branch, Raise, Jump, Lower, Halt}
use Rattle.rules.specs.Program.{Program, cell_types}
use Rattle.machine.specs.Machine.{State, Deed, proceed, body, next, run}
use Rattle.machine.specs.Machine.Deed.{stops, goes, strikes}
use Rattle.machine.specs.Cells.{job_labels, image_words, cells_for, start}
use Rattle.machine.specs.Box.{Model, Order, Exit, refusal, written, outcome, exit, no_words, ran_as}
use Rattle.secrecy.specs.Promise.{program_in}
use Rattle.secrecy.specs.Checks.{KeepsLengths}
use Rattle.machine.proofs.Laying.{laid_length}

module _ (p : Program) where
  -- a deed leaves n cells
  abbrev Leaves : ℕ → Deed → Type 0
  Leaves n stops = Unit {0}
  Leaves n (goes is t) = length t.cells ≡ n
  Leaves n (strikes x is t) = length t.cells ≡ n

  next_leaves : (s : State) (is : List Instruction) → Leaves (length s.cells) (next p s is)
  next_leaves s [] = tt
  next_leaves s (SetNumber a n ∷ is) = refl
  next_leaves s (SetTuple a n ∷ is) = refl
  next_leaves s (SetBlock a n ∷ is) = refl
  next_leaves s (Copy a b ∷ is) = refl
  next_leaves s (Add a b c ∷ is) = refl
  next_leaves s (Subtract a b c ∷ is) = refl
  next_leaves s (Fetch a b c ∷ is) = refl
  next_leaves s (Store a b c ∷ is) = simp length-set
  next_leaves s (Push n ∷ is) = refl
  next_leaves s (Pop n ∷ is) = refl
  next_leaves s (Peek a n ∷ is) = refl
  next_leaves s (Poke b n ∷ is) = refl
  next_leaves s (StrikeOn c b ∷ is) = refl
  next_leaves s (Branch a b ∷ is) = refl
  next_leaves s (Raise l n ∷ is) = next_leaves s is
  next_leaves s (Jump a ∷ is) = refl
  next_leaves s (Lower n ∷ is) = refl
  next_leaves s (Halt ∷ is) = tt

  run_leaves : (fuel room : ℕ) (is : List Instruction) (s : State) → length (run p fuel room is s).cells ≡ length s.cells
  run_leaves zero room is s = refl
  run_leaves (suc fuel) room is s = by_deed (next p s is) room (next_leaves s is) (run_leaves fuel)
    where
      by_deed :
          (d : Deed) (room : ℕ) → Leaves (length s.cells) d →
          ((room : ℕ) (is : List Instruction) (t : State) → length (run p fuel room is t).cells ≡ length t.cells) →
          length (proceed s (run p fuel) d room).cells ≡ length s.cells
      by_deed stops room e h = refl
      by_deed (goes is t) room e h = h room is t ∙ e
      by_deed (strikes x is t) zero e h = refl
      by_deed (strikes x is t) (suc room) e h = h room is t ∙ e

  pub ends_with : (o : Order) → length (outcome p o).cells ≡ length (cell_types p)
  ends_with o = run_leaves o.fuel (length o.strip) (body p 0) (start (cells_for p o.job)) ∙ laid_length (cell_types p) (image_words p.tuples) o.job

-- ---- a run by its tests

-- a run by its four tests: whether the box is empty, whether it is stopped, whether the job has another length, and the sheet is short
abbrev pub tried : Program → Model → Order → Bool → Bool → Bool → Bool → Exit
tried p b o none stopped job sheet =
    cond none (refusal 13 b o) (cond stopped (refusal 14 b o) (cond job (refusal 15 b o) (cond sheet (refusal 16 b o) (exit b.image o (outcome p o)))))

abbrev pub bad_job : Program → Order → Bool
bad_job p o = not (eqb (length o.job) (length (job_labels p)))

abbrev pub bad_sheet : Program → Order → Bool
bad_sheet p o = ltb (length o.sheet) (length (cell_types p))

-- a run leaves the image
pub ran_image : (p : Program) (b : Model) (o : Order) → (ran_as p b o).box.image ≡ b.image
ran_image p b o = by_tests (no_words b.image) b.stopped (bad_job p o) (bad_sheet p o)
  where
    by_tests : (none stopped job sheet : Bool) → (tried p b o none stopped job sheet).box.image ≡ b.image
    by_tests true stopped job sheet = refl
    by_tests false true job sheet = refl
    by_tests false false true sheet = refl
    by_tests false false false true = refl
    by_tests false false false false = refl

-- ---- strip and sheet

written_length : {A : Type 0} (xs was : List A) → length xs ≤ length was → length (written xs was) ≡ length was
written_length xs was h = simp (length-append, length-drop) (omega arith)

-- no more strikes than there is room for
run_room : (p : Program) (fuel room : ℕ) (is : List Instruction) (s : State) → length (run p fuel room is s).strikes ≤ room
run_room p zero room is s = omega arith
run_room p (suc fuel) room is s = by_deed (next p s is) room (run_room p fuel)
  where
    by_deed :
        (d : Deed) (room : ℕ) → ((room : ℕ) (is : List Instruction) (t : State) → length (run p fuel room is t).strikes ≤ room) →
        length (proceed s (run p fuel) d room).strikes ≤ room
    by_deed stops room h = omega arith
    by_deed (goes is t) room h = h room is t
    by_deed (strikes x is t) zero h = omega arith
    by_deed (strikes x is t) (suc room) h = omega (arith, h room is t)

pub keeps_lengths : KeepsLengths
keeps_lengths b o = by_tests (no_words b.image) b.stopped (bad_job p o) (bad_sheet p o) refl
  where
    p : Program
    p = program_in b

    by_tests :
        (none stopped job sheet : Bool) → bad_sheet p o ≡ sheet →
        (length (tried p b o none stopped job sheet).strip ≡ length o.strip) × (length (tried p b o none stopped job sheet).sheet ≡ length o.sheet)
    by_tests true stopped job sheet e = (refl, refl)
    by_tests false true job sheet e = (refl, refl)
    by_tests false false true sheet e = (refl, refl)
    by_tests false false false true e = (refl, refl)
    by_tests false false false false e = (
      written_length (outcome p o).strikes o.strip (run_room p o.fuel (length o.strip) (body p 0) (start (cells_for p o.job))),
      written_length (outcome p o).cells o.sheet (omega (arith, ends_with p o, ltb-false _ _ e)),
    )
