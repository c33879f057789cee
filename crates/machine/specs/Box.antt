-- A box and the two calls on it, load and run: what each answers, and what it leaves in the box, in the strip and on the sheet. The
-- strip takes the run's strikes, the sheet its cells, each from the front.
use Rattle.std.specs.Prelude.{ℕ, Bool, true, false, cond, not, List, [], ◌∷◌, ◌++◌, length, drop, ◌==◌, nat_lt}
use Rattle.labels.specs.Meaning.{Meaning}
use Rattle.rules.specs.Program.{Program, cell_types}
use Rattle.rules.specs.Says.{program_of}
use Rattle.rules.specs.Verdict.{Verdict, accepted, refused as refuses, verdict}
use Rattle.machine.specs.declared.strike.Strike.{Strike}
use Rattle.machine.specs.declared.ran.End.{End}
use Rattle.machine.specs.declared.ran.End.TheVariants.{Halted, Spent, Full}
use Rattle.machine.specs.declared.ran.Ran.{Ran}
use Rattle.machine.specs.Machine.{Outcome, body, run}
use Rattle.machine.specs.Cells.{job_labels, cells_for, start}

-- the words of the image that a box holds, none where it is empty; and whether it is stopped
pub record Model : Type 0 where
  pub image : List ℕ
  pub stopped : Bool

abbrev pub new_box : Model
new_box = record { image = []; stopped = false }

-- ---- load

-- the box after a load, by the verdict on the image
abbrev pub after_load : Verdict → List ℕ → Model → Model
after_load accepted image b = record { image = image; stopped = false }
after_load (refuses pass number place) image b = b

abbrev pub loaded : Meaning → List ℕ → Model → Model
loaded m image b = after_load (verdict m image) image b

-- ---- run

-- what a run is given: a job, which is the words for the integer cells; fuel, the most steps that it may take; strip and sheet
pub record Order : Type 0 where
  pub job : List ℕ
  pub fuel : ℕ
  pub strip : List Strike
  pub sheet : List ℕ

-- refused, by a number from 13 to 16; or how the run ended
pub data Answer : Type 0 where
  refused : ℕ → Answer
  ended : Ran → Answer

-- what a run gives back
pub record Exit : Type 0 where
  pub answer : Answer
  pub box : Model
  pub strip : List Strike
  pub sheet : List ℕ

-- a refused run leaves all as it was
abbrev pub refusal : ℕ → Model → Order → Exit
refusal number b o = record { answer = refused number; box = b; strip = o.strip; sheet = o.sheet }

-- what is written, and behind it the rest of what was there
abbrev pub written : {A : Type 0} → List A → List A → List A
written xs was = xs ++ drop (length xs) was

-- a run that was spent or full stops the box
abbrev pub stops_box : End → Bool
stops_box Halted = false
stops_box Spent = true
stops_box Full = true

-- the machine's run on an order
abbrev pub outcome : Program → Order → Outcome
outcome p o = run p o.fuel (length o.strip) (body p 0) (start (cells_for p o.job))

-- what a box that holds this image gives back where the machine came to this
abbrev pub exit : List ℕ → Order → Outcome → Exit
exit image o x = record {
  answer = ended (record { end = x.end; steps = x.steps; strikes = length x.strikes });
  box = record { image = image; stopped = stops_box x.end };
  strip = written x.strikes o.strip;
  sheet = written x.cells o.sheet;
}

abbrev pub no_words : List ℕ → Bool
no_words [] = true
no_words (n ∷ ns) = false

-- A run on a box whose image spells this programme. The first of these refuses it: the box is empty (13) or stopped (14), the job's
-- length is not the number of integer cells (15), the sheet is shorter than the cells (16).
abbrev pub ran_as : Program → Model → Order → Exit
ran_as p b o =
    cond (no_words b.image) (refusal 13 b o)
    (cond b.stopped (refusal 14 b o)
    (cond (not (length o.job == length (job_labels p))) (refusal 15 b o)
    (cond (nat_lt (length o.sheet) (length (cell_types p))) (refusal 16 b o)
    (exit b.image o (outcome p o)))))

abbrev pub ran : Model → Order → Exit
ran b o = ran_as (program_of b.image) b o
