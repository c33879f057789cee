-- A run that none of its tests refuses: the cells are laid on the front of the sheet, the machine runs on that front, and what the
-- code leaves is what the definition of a run says.
use Rattle.std.proofs.Common.{◌≡◌, ℕ, ◌-◌, ◌<◌, ◌≤◌, Bool, false, cond, not, ltb, List, [], ◌∷◌, ◌++◌, length, take, drop, Ok, sym, refl, ap, ◌∙◌, arith, eq-eqb}
use native.Mathlib.Nat.{sub-zero}
use borrow.Rule.Slice.PartMut.{post_of}
use Rattle.std.proofs.lemmas.List.{take_at, drop_at}
use Rattle.std.proofs.lemmas.Bool.Decides.{nat_tests}
use Rattle.rules.specs.Program.{Program, cell_types}
use Rattle.machine.specs.declared.strike.Strike.{Strike}
use Rattle.machine.specs.declared.ran.End.{End}
use Rattle.machine.specs.declared.ran.Ran.{Ran}
use Rattle.machine.specs.Machine.{Outcome, body, run}
use Rattle.machine.specs.Cells.{job_labels, cells_for, start}
use Rattle.machine.specs.Typed.{CellsHold}
use Rattle.machine.specs.Turns.{ComesTo}
use Rattle.press_box.specs.Runs.{left}
use Rattle.machine.specs.Box.{Model, Order, Exit, ended, exit, outcome, no_words, stops_box, written, ran_as}

-- ---- what is written stands in front

module _ (xs was ys : List ℕ) (n : ℕ) (e : ys ≡ written xs was) (k : n ≡ length xs) where
  pub front : take (n - 0) ys ≡ xs
  front = ap (λ (m : ℕ). take m ys) (sub-zero n) ∙ ap (take n) e ∙ take_at xs (drop (length xs) was) n (sym k)

  -- and behind it the rest of what was there
  pub behind : post_of 0 (n - 0) ys ≡ drop n was
  behind = ap (λ (m : ℕ). drop m ys) (sub-zero n) ∙ ap (drop n) e ∙ drop_at xs (drop (length xs) was) n (sym k) ∙ ap (λ (m : ℕ). drop m was) (sym k)

pub some_words : (ns : List ℕ) → 0 < length ns → no_words ns ≡ false
some_words [] h = absurd (omega arith)
some_words (n ∷ ns) h = refl

-- a test that fails is passed
past : (t : Bool) (x y : Exit) → t ≡ false → cond t x y ≡ y
past t x y e = ap (λ (b : Bool). cond b x y) e

not_shorter : (a b : ℕ) → b ≤ a → ltb a b ≡ false
not_shorter a b h = grind (arith, nat_tests)

-- what comes to an outcome is its exit
exits :
    (image : List ℕ) (o : Order) (x : Outcome) (r : Ran) (stopped : Bool) (strip : List Strike) (cells sheet : List ℕ) → ComesTo x r o.strip strip cells →
    stopped ≡ stops_box r.end → sheet ≡ written x.cells o.sheet → left (Ok r) (record { image = image; stopped = stopped }) strip sheet ≡ exit image o x
exits image o x r stopped strip cells sheet c t s =
    ap (λ (v : Bool). left (Ok r) (record { image = image; stopped = v }) strip sheet) t ∙
    ap (λ (v : End). made v r.steps r.strikes strip sheet) c.end ∙
    ap (λ (v : ℕ). made x.end v r.strikes strip sheet) c.steps ∙
    ap (λ (v : ℕ). made x.end x.steps v strip sheet) c.strikes ∙
    ap (λ (v : List Strike). made x.end x.steps (length x.strikes) v sheet) c.strip ∙
    ap (λ (v : List ℕ). made x.end x.steps (length x.strikes) (written x.strikes o.strip) v) s
  where
    made : End → ℕ → ℕ → List Strike → List ℕ → Exit
    made end steps strikes strip sheet = record {
      answer = ended (record { end = end; steps = steps; strikes = strikes });
      box = record { image = image; stopped = stops_box end };
      strip = strip;
      sheet = sheet;
    }

-- ---- the run

module _ (p : Program) (b : Model) (o : Order) where
  -- what the four tests ask
  pub record Fitting : Type 0 where
    pub holds_image : 0 < length b.image
    pub free : b.stopped ≡ false
    pub job : length o.job ≡ length (job_labels p)
    pub room : length (cell_types p) ≤ length o.sheet

  pub not_refused : Fitting → ran_as p b o ≡ exit b.image o (outcome p o)
  not_refused f =
      past _ _ _ (some_words b.image f.holds_image) ∙ past _ _ _ f.free ∙ past _ _ _ (ap not (eq-eqb _ _ f.job)) ∙ past _ _ _ (not_shorter _ _ f.room)

  -- what is there once the machine has run on the cells that were laid
  pub record Ended (r : Ran) (n : ℕ) (stopped : Bool) (strip : List Strike) (laid cells : List ℕ) : Type 0 where
    pub count : n ≡ length (cell_types p)
    pub holds : CellsHold p (cells_for p o.job)
    pub front_laid : laid ≡ written (cells_for p o.job) o.sheet
    pub length_kept : length cells ≡ length (take (n - 0) laid)
    pub stops : stopped ≡ stops_box r.end
    pub comes : ComesTo (run p o.fuel (length o.strip) (body p 0) (start (take (n - 0) laid))) r o.strip strip cells

  module _ {r : Ran} {n : ℕ} {stopped : Bool} {strip : List Strike} {laid cells : List ℕ} (e : Ended r n stopped strip laid cells) where
    counted : n ≡ length (cells_for p o.job)
    counted = e.count ∙ sym e.holds.count

    pub cells_in_front : take (n - 0) laid ≡ cells_for p o.job
    cells_in_front = front _ _ laid n e.front_laid counted

    abbrev came : Outcome
    came = run p o.fuel (length o.strip) (body p 0) (start (take (n - 0) laid))

    sheet_is : cells ++ post_of 0 (n - 0) laid ≡ written came.cells o.sheet
    sheet_is =
        ap (λ (l : List ℕ). cells ++ l) (behind _ _ laid n e.front_laid counted) ∙
        ap (λ (l : List ℕ). l ++ drop n o.sheet) e.comes.cells ∙
        ap (λ (m : ℕ). came.cells ++ drop m o.sheet) (counted ∙ ap length (sym cells_in_front) ∙ sym e.length_kept ∙ ap length e.comes.cells)

    pub leaves :
        Fitting → left (Ok r) (record { image = b.image; stopped = stopped }) strip (cells ++ post_of 0 (n - 0) laid) ≡ ran_as p b o
    leaves f =
        exits b.image o came r stopped strip cells _ e.comes e.stops sheet_is ∙
        ap (λ (cs : List ℕ). exit b.image o (run p o.fuel (length o.strip) (body p 0) (start cs))) cells_in_front ∙ sym (not_refused f)
