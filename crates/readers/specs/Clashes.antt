-- The first place at which two lists of words differ where a reader may see it.
use Rattle.std.specs.Prelude.{◌≡◌, ℕ, ◌<◌, T, ◌≢◌, List, length, get_or, slice_index, slice_index_or}
use Rattle.image.specs.declared.ty.Ty.TheVariants.{Nonsense}
use Rattle.labels.specs.Meaning.{Meaning}
use Rattle.machine.specs.Cells.{job_labels}
use Rattle.rules.specs.Program.{Program, cell_types}
use Rattle.rules.specs.Types.{label_of}

-- the reader may see a place of these labels
abbrev pub Visible : Meaning → ℕ → List ℕ → ℕ → Type 0
Visible m reader labels i = T (m.below (slice_index labels i) reader)

-- two lists have the same words at the visible places below n
abbrev pub Agree : (ℕ → Type 0) → ℕ → List ℕ → List ℕ → Type 0
Agree Sees n xs ys = (i : ℕ) → i < n → Sees i → slice_index xs i ≡ slice_index ys i

-- a place below n is visible, the two lists differ there, and at no visible place before
pub record FirstClash (Sees : ℕ → Type 0) (n : ℕ) (xs ys : List ℕ) (at : ℕ) : Type 0 where
  pub within : at < n
  pub visible : Sees at
  pub differ : get_or xs at 0 ≢ slice_index ys at
  pub before : Agree Sees at xs ys

module _ (m : Meaning) (p : Program) (reader : ℕ) where
  -- of two jobs, over the words that a job has
  abbrev pub JobClash : List ℕ → List ℕ → ℕ → Type 0
  JobClash xs ys at = FirstClash (Visible m reader (job_labels p)) (length (job_labels p)) xs ys at

  -- of two lists that begin with the cells, over all cells
  abbrev pub CellClash : List ℕ → List ℕ → ℕ → Type 0
  CellClash xs ys at = FirstClash (λ i. T (m.below (label_of (slice_index_or (cell_types p) i Nonsense)) reader)) (length (cell_types p)) xs ys at
