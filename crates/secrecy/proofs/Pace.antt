-- Two boxes that hold one image: what a run on both leaves between them, as a reader sees it.
use mathlib.Core.Path.{◌≡◌, refl, sym, ap, ◌∙◌, subst}
use mathlib.Core.List.{List, ◌++◌, append-nil}
use mathlib.Core.Logic.{inl, inr}
use mathlib.Core.Bool.{Bool, true, false, not}
use Prim.Native.Nat.{ℕ, ◌<◌}
use native.Mathlib.Omega.{arith}
use lib.ListN.{length, get_or, drop, get_or-append}
use lib.Seq.{take-append_seam}
use lib.Dec.{eqb, ltb}
use Rattle.rules.specs.Program.{Program, cell_types}
use Rattle.machine.specs.declared.strike.Strike.{Strike}
use Rattle.machine.specs.declared.ran.End.{End}
use Rattle.machine.specs.declared.ran.End.TheVariants.{Halted, Spent, Full}
use Rattle.machine.specs.Machine.{Outcome}
use Rattle.machine.specs.Cells.{job_labels}
use Rattle.machine.specs.Box.{Model, Order, Exit, refusal, written, stops_box, outcome, exit, no_words, ran_as}
use Rattle.secrecy.specs.Seen.{Begins, EitherBegins, seen, SameJobs, SameCells}
use Rattle.secrecy.specs.Promise.{strikes_of, Halts}
use Rattle.secrecy.proofs.Setting.{Setting, cells_at}
use Rattle.secrecy.proofs.Beginnings.{begins_same, begins_after, begins_longer, same_after}
use Rattle.secrecy.proofs.Outcomes.{Agreed}
use Rattle.secrecy.proofs.Lengths.{ends_with, tried, bad_job, bad_sheet}
use Rattle.secrecy.proofs.Start.{runs_alike}

-- ---- what one run gives back

strikes_exit : (image : List ℕ) (o : Order) (x : Outcome) → strikes_of (exit image o x) ≡ x.strikes
strikes_exit image o x = take-append_seam x.strikes (drop (length x.strikes) o.strip)

-- a cell stands at its place on the sheet
cell_at : (p : Program) (o : Order) (i : ℕ) → i < length (cell_types p) → get_or (written (outcome p o).cells o.sheet) i 0 ≡ get_or (outcome p o).cells i 0
cell_at p o i h = get_or-append (outcome p o).cells (drop (length (outcome p o).cells) o.sheet) 0 i (omega (arith, ends_with p o))

-- ---- two boxes

module _ (w : Setting) where
  abbrev pub sight : List Strike → List Strike
  sight xs = seen w.meaning w.program w.reader xs

  abbrev pub held : Bool → Model
  held stopped = record { image = w.image; stopped = stopped }

  -- two boxes that hold the image, each with its strikes since it was loaded: while neither is stopped they look the same, and those of
  -- a stopped box are a beginning of the other's
  pub data Pace : Model → List Strike → Model → List Strike → Type 0 where
    together : {s t : List Strike} → sight s ≡ sight t → Pace (held false) s (held false) t
    first_stopped : {s t : List Strike} → Begins (sight s) (sight t) → Pace (held true) s (held false) t
    second_stopped : {s t : List Strike} → Begins (sight t) (sight s) → Pace (held false) s (held true) t
    both_stopped : {s t : List Strike} → EitherBegins (sight s) (sight t) → Pace (held true) s (held true) t

  pub pace_order : {b c : Model} {s t : List Strike} → Pace b s c t → EitherBegins (sight s) (sight t)
  pace_order (together e) = inl (begins_same e)
  pace_order (first_stopped h) = inl h
  pace_order (second_stopped h) = inr h
  pace_order (both_stopped h) = h

  -- a run of a box that holds the image, where none says whether it holds no word
  abbrev trial : Bool → Bool → Order → Exit
  trial none stopped o = tried w.program (held stopped) o none stopped (bad_job w.program o) (bad_sheet w.program o)

  -- what a run on both leaves
  pub record After (s t : List Strike) (e f : Exit) : Type 0 where
    pub alike :
        Halts e.answer → Halts f.answer →
        (sight (strikes_of e) ≡ sight (strikes_of f)) × SameCells w.meaning w.program w.reader e.sheet f.sheet
    pub pace : Pace e.box (s ++ strikes_of e) f.box (t ++ strikes_of f)

  -- both were refused
  quiet : {b c : Model} {s t : List Strike} (n k : ℕ) (x y : Order) → Pace b s c t → After s t (refusal n b x) (refusal k c y)
  quiet {s = s} {t = t} n k x y h = record { alike = λ q. absurd q; pace = rw (append-nil s, append-nil t) h }

  module _ (s t : List Strike) where
    -- both ran
    pace_ended : (x y : Outcome) → sight s ≡ sight t → Agreed w x y → Pace (held (stops_box x.end)) (s ++ x.strikes) (held (stops_box y.end)) (t ++ y.strikes)
    pace_ended x y e a = by_ends x.end y.end refl refl
      where
        first : Begins (sight x.strikes) (sight y.strikes) → Begins (sight (s ++ x.strikes)) (sight (t ++ y.strikes))
        first h = begins_after w.meaning w.program w.reader s t x.strikes y.strikes e h

        second : Begins (sight y.strikes) (sight x.strikes) → Begins (sight (t ++ y.strikes)) (sight (s ++ x.strikes))
        second h = begins_after w.meaning w.program w.reader t s y.strikes x.strikes (sym e) h

        order : EitherBegins (sight (s ++ x.strikes)) (sight (t ++ y.strikes))
        order = elim a.order [ inl h ↦ inl (first h) | inr h ↦ inr (second h) ]

        by_ends : (i j : End) → x.end ≡ i → y.end ≡ j → Pace (held (stops_box i)) (s ++ x.strikes) (held (stops_box j)) (t ++ y.strikes)
        by_ends Halted Halted q r = together (same_after w.meaning w.program w.reader s t x.strikes y.strikes e (a.both_halted q r).0)
        by_ends Halted Spent q r = second_stopped (second (a.first_halted q))
        by_ends Halted Full q r = second_stopped (second (a.first_halted q))
        by_ends Spent Halted q r = first_stopped (first (a.second_halted r))
        by_ends Full Halted q r = first_stopped (first (a.second_halted r))
        by_ends Spent Spent q r = both_stopped order
        by_ends Spent Full q r = both_stopped order
        by_ends Full Spent q r = both_stopped order
        by_ends Full Full q r = both_stopped order

    -- only the second ran, the first being stopped; and the other way round
    pace_second : (y : Outcome) → Begins (sight s) (sight t) → Pace (held true) s (held (stops_box y.end)) (t ++ y.strikes)
    pace_second y h = by_end y.end
      where
        longer : Begins (sight s) (sight (t ++ y.strikes))
        longer = begins_longer w.meaning w.program w.reader s t y.strikes h

        by_end : (j : End) → Pace (held true) s (held (stops_box j)) (t ++ y.strikes)
        by_end Halted = first_stopped longer
        by_end Spent = both_stopped (inl longer)
        by_end Full = both_stopped (inl longer)

    pace_first : (x : Outcome) → Begins (sight t) (sight s) → Pace (held (stops_box x.end)) (s ++ x.strikes) (held true) t
    pace_first x h = by_end x.end
      where
        longer : Begins (sight t) (sight (s ++ x.strikes))
        longer = begins_longer w.meaning w.program w.reader t s x.strikes h

        by_end : (j : End) → Pace (held (stops_box j)) (s ++ x.strikes) (held true) t
        by_end Halted = second_stopped longer
        by_end Spent = both_stopped (inr longer)
        by_end Full = both_stopped (inr longer)

    -- ---- the tests

    module _ (a b : Order) where
      abbrev first_tried : Bool → Bool → Exit
      first_tried job sheet = tried w.program (held false) a false false job sheet

      abbrev second_tried : Bool → Bool → Exit
      second_tried job sheet = tried w.program (held false) b false false job sheet

      ran_second : (job sheet : Bool) → Begins (sight s) (sight t) → After s t (refusal 14 (held true) a) (second_tried job sheet)
      ran_second true sheet h = quiet 14 15 a b (first_stopped h)
      ran_second false true h = quiet 14 16 a b (first_stopped h)
      ran_second false false h = record {
        alike = λ q. absurd q;
        pace = rw (append-nil s, strikes_exit w.image b (outcome w.program b)) (pace_second (outcome w.program b) h);
      }

      ran_first : (job sheet : Bool) → Begins (sight t) (sight s) → After s t (first_tried job sheet) (refusal 14 (held true) b)
      ran_first true sheet h = quiet 15 14 a b (second_stopped h)
      ran_first false true h = quiet 16 14 a b (second_stopped h)
      ran_first false false h = record {
        alike = λ q r. absurd r;
        pace = rw (append-nil t, strikes_exit w.image a (outcome w.program a)) (pace_first (outcome w.program a) h);
      }

      module _ (words : SameJobs w.meaning w.program w.reader a.job b.job) where
        ran_both : (job sheet : Bool) → sight s ≡ sight t → After s t (first_tried job sheet) (second_tried job sheet)
        ran_both true sheet e = quiet 15 15 a b (together e)
        ran_both false true e = quiet 16 16 a b (together e)
        ran_both false false e = record {
          alike = λ q r.
              let (k, c) = (runs_alike w a b words).both_halted q r in (
                ap sight (strikes_exit w.image a (outcome w.program a)) ∙ k ∙ sym (ap sight (strikes_exit w.image b (outcome w.program b))),
                λ i h v. cell_at w.program a i h ∙ c i h v ∙ sym (cell_at w.program b i h),
              );
          pace =
              rw (strikes_exit w.image a (outcome w.program a), strikes_exit w.image b (outcome w.program b))
              (pace_ended (outcome w.program a) (outcome w.program b) e (runs_alike w a b words));
        }

        -- jobs of one length and sheets of one length pass the same tests
        ran_together :
            length a.job ≡ length b.job → length a.sheet ≡ length b.sheet → sight s ≡ sight t → After s t (trial false false a) (trial false false b)
        ran_together jobs sheets e =
            let same : second_tried (bad_job w.program a) (bad_sheet w.program a) ≡ trial false false b =
            λ i. second_tried (not (eqb (jobs i) (length (job_labels w.program)))) (ltb (sheets i) (length (cells_at w))) in
            subst (λ f. After s t (trial false false a) f) same (ran_both (bad_job w.program a) (bad_sheet w.program a) e)

  -- an image that was loaded has words
  not_empty :
      (z v : Bool) {s t : List Strike} (x y : Order) → no_words w.image ≡ false → After s t (trial false z x) (trial false v y) →
      After s t (ran_as w.program (held z) x) (ran_as w.program (held v) y)
  not_empty z v {s} {t} x y some h = subst (λ n. After s t (trial n z x) (trial n v y)) (sym some) h

  -- a run on both, with jobs of one length that agree where the reader sees, and sheets of one length
  pub pace_ran :
      {b c : Model} {s t : List Strike} → no_words w.image ≡ false → Pace b s c t → (x y : Order) → length x.job ≡ length y.job →
      length x.sheet ≡ length y.sheet → SameJobs w.meaning w.program w.reader x.job y.job →
      After s t (ran_as w.program b x) (ran_as w.program c y)
  pace_ran some (together {s = s} {t = t} e) x y jobs sheets words = not_empty false false x y some (ran_together s t x y words jobs sheets e)
  pace_ran some (first_stopped {s = s} {t = t} h) x y jobs sheets words =
      not_empty true false x y some (ran_second s t x y (bad_job w.program y) (bad_sheet w.program y) h)
  pace_ran some (second_stopped {s = s} {t = t} h) x y jobs sheets words =
      not_empty false true x y some (ran_first s t x y (bad_job w.program x) (bad_sheet w.program x) h)
  pace_ran some (both_stopped h) x y jobs sheets words = not_empty true true x y some (quiet 14 14 x y (both_stopped h))
