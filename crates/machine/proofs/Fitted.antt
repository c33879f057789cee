-- The cells that are laid are what their types say: those of the image by its plain words, and an integer cell takes any word.
use Rattle.std.proofs.Common.{◌≡◌, ℕ, zero, suc, ◌<◌, List, [], ◌∷◌, ◌++◌, length, get_or, drop, arith}
use Rattle.image.specs.declared.ty.Sort.TheVariants.{Integer, Pointer, Code}
use Rattle.image.specs.declared.ty.Ty.{Ty}
use Rattle.image.specs.declared.ty.Ty.TheVariants.{Nonsense, Typed}
use Rattle.rules.specs.Free.{any_label}
use Rattle.rules.specs.LaidOut.{Every}
use Rattle.rules.specs.Named.{Plain, TupleNamed}
use Rattle.rules.specs.Program.{Tuple, Program, shape_at, cell_types_of, cell_types}
use Rattle.rules.specs.Says.{program_of}
use Rattle.machine.specs.Cells.{image_words, laid, cells_for}
use Rattle.machine.specs.Typed.{Holds, CellsHold}
use Rattle.machine.proofs.Laying.{laid_length}
use Rattle.machine.proofs.Sound.{Sound}

module _ (p : Program) where
  plain_holds : (t : Ty) (n : ℕ) → Plain any_label p t n → Holds p t n
  plain_holds Nonsense n h = tt
  plain_holds (Typed Integer label) n h = tt
  plain_holds (Typed (Pointer shape) label) n h = h
  plain_holds (Typed (Code signature) label) n h = h

  -- each of these words is what its type says
  abbrev Fitting : List Ty → List ℕ → Type 0
  Fitting [] ws = Unit {0}
  Fitting (t ∷ ts) ws = Holds p t (get_or ws 0 0) × Fitting ts (drop 1 ws)

  fitting_append : (ts us : List Ty) (ws vs : List ℕ) → length ws ≡ length ts → Fitting ts ws → Fitting us vs → Fitting (ts ++ us) (ws ++ vs)
  fitting_append [] us [] vs e h k = k
  fitting_append [] us (w ∷ ws) vs e h k = absurd (omega arith)
  fitting_append (t ∷ ts) us [] vs e h k = absurd (omega arith)
  fitting_append (t ∷ ts) us (w ∷ ws) vs e h k = (h.0, fitting_append ts us ws vs (omega arith) h.1 k)

  fitting_row : (ts : List Ty) (ws : List ℕ) → length ws ≡ length ts → ((c : ℕ) → c < length ws → Plain any_label p (get_or ts c Nonsense) (get_or ws c 0)) → Fitting ts ws
  fitting_row [] ws e h = tt
  fitting_row (t ∷ ts) [] e h = absurd (omega arith)
  fitting_row (t ∷ ts) (w ∷ ws) e h = (plain_holds t w (h 0 (omega arith)), fitting_row ts ws (omega arith) (λ c i. h (suc c) (omega arith)))

  fitting_tuples : (ts : List Tuple) → Every (TupleNamed any_label p) ts → Fitting (cell_types_of p ts) (image_words ts)
  fitting_tuples [] h = tt
  fitting_tuples (t ∷ ts) h =
      fitting_append (shape_at p t.shape) (cell_types_of p ts) t.words (image_words ts) h.0.count (fitting_row (shape_at p t.shape) t.words h.0.count h.0.words) (fitting_tuples ts h.1)

  laid_holds : (ts : List Ty) (ws job : List ℕ) → Fitting ts ws → (i : ℕ) → Holds p (get_or ts i Nonsense) (get_or (laid ts ws job) i 0)
  laid_holds [] ws job h i = tt
  laid_holds (Nonsense ∷ ts) ws job h zero = tt
  laid_holds (Nonsense ∷ ts) ws job h (suc i) = laid_holds ts (drop 1 ws) job h.1 i
  laid_holds (Typed Integer l ∷ ts) ws job h zero = tt
  laid_holds (Typed Integer l ∷ ts) ws job h (suc i) = laid_holds ts (drop 1 ws) (drop 1 job) h.1 i
  laid_holds (Typed (Pointer s) l ∷ ts) ws job h zero = h.0
  laid_holds (Typed (Pointer s) l ∷ ts) ws job h (suc i) = laid_holds ts (drop 1 ws) job h.1 i
  laid_holds (Typed (Code s) l ∷ ts) ws job h zero = h.0
  laid_holds (Typed (Code s) l ∷ ts) ws job h (suc i) = laid_holds ts (drop 1 ws) job h.1 i

pub cells_hold : (ns : List ℕ) → Sound ns → (job : List ℕ) → CellsHold (program_of ns) (cells_for (program_of ns) job)
cells_hold ns s job =
    let p = program_of ns in
    record {
      count = laid_length (cell_types p) (image_words p.tuples) job;
      holds = laid_holds p (cell_types p) (image_words p.tuples) job (fitting_tuples p p.tuples s.named.tuples);
    }
