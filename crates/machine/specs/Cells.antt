-- The cells that a run begins with: the job fills every integer cell in order, and the others come from the image.
use Rattle.std.specs.Prelude.{ℕ, List, [], ◌∷◌, ◌++◌, drop, replicate, slice_index}
use Rattle.image.specs.declared.ty.Sort.TheVariants.{Integer, Pointer, Code}
use Rattle.image.specs.declared.ty.Ty.{Ty}
use Rattle.image.specs.declared.ty.Ty.TheVariants.{Nonsense, Typed}
use Rattle.rules.specs.Program.{Tuple, Program, cell_types}
use Rattle.machine.specs.Machine.{State}

-- the labels of the cells that a job fills, in their order: one for each integer cell
abbrev pub filled_labels : List Ty → List ℕ
filled_labels [] = []
filled_labels (Nonsense ∷ ts) = filled_labels ts
filled_labels (Typed Integer label ∷ ts) = label ∷ filled_labels ts
filled_labels (Typed (Pointer shape) label ∷ ts) = filled_labels ts
filled_labels (Typed (Code signature) label ∷ ts) = filled_labels ts

abbrev pub job_labels : Program → List ℕ
job_labels p = filled_labels (cell_types p)

-- the image's words for the cells of all tuples, tuple by tuple
abbrev pub image_words : List Tuple → List ℕ
image_words [] = []
image_words (t ∷ ts) = t.words ++ image_words ts

-- cells of these types: an integer cell takes the next word of the job, any other the image's word for it
abbrev pub laid : List Ty → List ℕ → List ℕ → List ℕ
laid [] image job = []
laid (Nonsense ∷ ts) image job = slice_index image 0 ∷ laid ts (drop 1 image) job
laid (Typed Integer label ∷ ts) image job = slice_index job 0 ∷ laid ts (drop 1 image) (drop 1 job)
laid (Typed (Pointer shape) label ∷ ts) image job = slice_index image 0 ∷ laid ts (drop 1 image) job
laid (Typed (Code signature) label ∷ ts) image job = slice_index image 0 ∷ laid ts (drop 1 image) job

abbrev pub cells_for : Program → List ℕ → List ℕ
cells_for p job = laid (cell_types p) (image_words p.tuples) job

-- a run begins with registers zero and an empty stack
abbrev pub start : List ℕ → State
start cells = record { registers = replicate 8 0; stack = []; cells = cells }
