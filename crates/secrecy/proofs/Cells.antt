-- The cells that a job fills: they are as their types ask, and two jobs that agree where the reader sees lay cells that do.
use mathlib.Core.Path.{◌≡◌, refl}
use mathlib.Core.List.{List, [], ◌∷◌, ◌++◌}
use Prim.Native.Nat.{ℕ, zero, suc, ◌<◌}
use native.Mathlib.Omega.{arith}
use lib.ListN.{length, get_or, drop}
use lib.Dec.{T}
use Rattle.labels.specs.Meaning.{Meaning}
use Rattle.image.specs.declared.ty.Sort.TheVariants.{Integer, Pointer, Code}
use Rattle.image.specs.declared.ty.Ty.{Ty}
use Rattle.image.specs.declared.ty.Ty.TheVariants.{Nonsense, Typed}
use Rattle.rules.specs.Program.{Tuple, Program, shape_at, cell_types_of}
use Rattle.rules.specs.Types.{label_of}
use Rattle.rules.specs.LaidOut.{Every}
use Rattle.rules.specs.Named.{TupleNamed}
use Rattle.machine.specs.Cells.{filled_labels, image_words, laid, cells_for}
use Rattle.secrecy.specs.Seen.{SameJobs}
use Rattle.machine.proofs.Laying.{laid_length}
use Rattle.secrecy.proofs.Lists.{Agree}
use Rattle.secrecy.proofs.Setting.{Setting, Holds, cells_at, Open, Bank}
use Rattle.secrecy.proofs.Sound.{plain_holds, cells_labelled}

-- ---- the cells laid

module _ (p : Program) where
  -- each of these words is as its type asks
  abbrev Fitting : List Ty → List ℕ → Type 0
  Fitting [] ws = Unit {0}
  Fitting (t ∷ ts) ws = Holds p t (get_or ws 0 0) × Fitting ts (drop 1 ws)

  fitting_append : (ts us : List Ty) (ws vs : List ℕ) → length ws ≡ length ts → Fitting ts ws → Fitting us vs → Fitting (ts ++ us) (ws ++ vs)
  fitting_append [] us [] vs e h k = k
  fitting_append [] us (w ∷ ws) vs e h k = absurd (omega arith)
  fitting_append (t ∷ ts) us [] vs e h k = absurd (omega arith)
  fitting_append (t ∷ ts) us (w ∷ ws) vs e h k = (h.0, fitting_append ts us ws vs (omega arith) h.1 k)

  fitting_row : (ts : List Ty) (ws : List ℕ) → length ws ≡ length ts → ((c : ℕ) → c < length ws → Holds p (get_or ts c Nonsense) (get_or ws c 0)) → Fitting ts ws
  fitting_row [] ws e h = tt
  fitting_row (t ∷ ts) [] e h = absurd (omega arith)
  fitting_row (t ∷ ts) (w ∷ ws) e h = (h 0 (omega arith), fitting_row ts ws (omega arith) (λ c i. h (suc c) (omega arith)))

  laid_holds : (ts : List Ty) (ws job : List ℕ) → Fitting ts ws → (i : ℕ) → Holds p (get_or ts i Nonsense) (get_or (laid ts ws job) i 0)
  laid_holds [] ws job h i = tt
  laid_holds (Nonsense ∷ ts) ws job h zero = tt
  laid_holds (Nonsense ∷ ts) ws job h (suc i) = laid_holds ts (drop 1 ws) job h.1 i
  laid_holds (Typed Integer l ∷ ts) ws job h zero = tt
  laid_holds (Typed Integer l ∷ ts) ws job h (suc i) = laid_holds ts (drop 1 ws) (drop 1 job) h.1 i
  laid_holds (Typed (Pointer s) l ∷ ts) ws job h zero = h.0
  laid_holds (Typed (Pointer s) l ∷ ts) ws job h (suc i) = laid_holds ts (drop 1 ws) job h.1 i
  laid_holds (Typed (Code s) l ∷ ts) ws job h zero = h.0
  laid_holds (Typed (Code s) l ∷ ts) ws job h (suc i) = laid_holds ts (drop 1 ws) job h.1 i

module _ (w : Setting) where
  fitting_tuples : (ts : List Tuple) → Every (TupleNamed w.meaning w.program) ts → Fitting w.program (cell_types_of w.program ts) (image_words ts)
  fitting_tuples [] h = tt
  fitting_tuples (t ∷ ts) h =
      fitting_append w.program (shape_at w.program t.shape) (cell_types_of w.program ts) t.words (image_words ts) h.0.count
      (fitting_row w.program (shape_at w.program t.shape) t.words h.0.count (λ c i. plain_holds w (get_or (shape_at w.program t.shape) c Nonsense) (get_or t.words c 0) (h.0.words c i)))
      (fitting_tuples ts h.1)

  pub cells_bank : (job : List ℕ) → Bank w (cells_at w) (cells_for w.program job)
  cells_bank job = record {
    count = laid_length (cells_at w) (image_words w.program.tuples) job;
    holds = laid_holds w.program (cells_at w) (image_words w.program.tuples) job (fitting_tuples w.program.tuples w.named.tuples);
    labels = cells_labelled w;
  }

-- ---- two jobs

module _ (m : Meaning) (reader : ℕ) where
  -- the words of two jobs agree where the reader sees the cells that they fill
  abbrev JobsAgree : List Ty → List ℕ → List ℕ → Type 0
  JobsAgree ts xs ys = (i : ℕ) → i < length (filled_labels ts) → T (m.below (get_or (filled_labels ts) i 0) reader) → get_or xs i 0 ≡ get_or ys i 0

  past_first : (xs : List ℕ) (i : ℕ) → get_or (drop 1 xs) i 0 ≡ get_or xs (suc i) 0
  past_first [] i = refl
  past_first (x ∷ xs) i = refl

  laid_same :
      (ts : List Ty) (ws xs ys : List ℕ) → JobsAgree ts xs ys → (i : ℕ) → T (m.below (label_of (get_or ts i Nonsense)) reader) →
      get_or (laid ts ws xs) i 0 ≡ get_or (laid ts ws ys) i 0
  laid_same [] ws xs ys h i q = refl
  laid_same (Nonsense ∷ ts) ws xs ys h zero q = refl
  laid_same (Nonsense ∷ ts) ws xs ys h (suc i) q = laid_same ts (drop 1 ws) xs ys h i q
  laid_same (Typed Integer l ∷ ts) ws xs ys h zero q = h 0 (omega arith) q
  laid_same (Typed Integer l ∷ ts) ws xs ys h (suc i) q =
      laid_same ts (drop 1 ws) (drop 1 xs) (drop 1 ys) (λ j k o. rw (past_first xs j, past_first ys j) (h (suc j) (omega arith) o)) i q
  laid_same (Typed (Pointer s) l ∷ ts) ws xs ys h zero q = refl
  laid_same (Typed (Pointer s) l ∷ ts) ws xs ys h (suc i) q = laid_same ts (drop 1 ws) xs ys h i q
  laid_same (Typed (Code s) l ∷ ts) ws xs ys h zero q = refl
  laid_same (Typed (Code s) l ∷ ts) ws xs ys h (suc i) q = laid_same ts (drop 1 ws) xs ys h i q

pub cells_agree :
    (w : Setting) (xs ys : List ℕ) → SameJobs w.meaning w.program w.reader xs ys →
    Agree (Open w) (cells_at w) (cells_for w.program xs) (cells_for w.program ys)
cells_agree w xs ys h = record { same = laid_same w.meaning w.reader (cells_at w) (image_words w.program.tuples) xs ys h }
