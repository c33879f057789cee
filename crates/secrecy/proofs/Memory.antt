-- Cells lie flat, tuple behind tuple: the cell that a pointer and a place name has the type that the pointer's shape gives it.
use mathlib.Core.Path.{◌≡◌}
use mathlib.Core.List.{List, [], ◌∷◌}
use Prim.Native.Nat.{ℕ, zero, suc, ◌+◌, ◌<◌}
use native.Mathlib.Nat.{zero-add, add_assoc, not-suc-le-zero}
use native.Mathlib.Omega.{arith}
use lib.ListN.{length, get_or, get_or-append}
use lib.Seq.{get_or-append-add}
use Rattle.image.specs.declared.ty.Ty.TheVariants.{Nonsense}
use Rattle.rules.specs.Program.{Tuple, no_tuple, shape_at, tuple_at, base_in, cell_types_of}
use Rattle.rules.specs.LaidOut.{Every}
use Rattle.rules.specs.Named.{TupleNamed}
use Rattle.machine.specs.Machine.{cell_place}
use Rattle.secrecy.proofs.Setting.{Setting, cells_at}

module _ (w : Setting) where
  flat :
      (ts : List Tuple) → Every (TupleNamed w.meaning w.program) ts → (v c : ℕ) → v < length ts →
      c < length (shape_at w.program (get_or ts v no_tuple).shape) →
      get_or (cell_types_of w.program ts) (base_in ts v + c) Nonsense ≡ get_or (shape_at w.program (get_or ts v no_tuple).shape) c Nonsense
  flat [] h v c i j = absurd (not-suc-le-zero i)
  flat (t ∷ ts) h zero c i j = rw (zero-add c) (get_or-append (shape_at w.program t.shape) (cell_types_of w.program ts) Nonsense c j)
  flat (t ∷ ts) h (suc v) c i j =
      rw (h.0.count, add_assoc, get_or-append-add (shape_at w.program t.shape) (cell_types_of w.program ts) (base_in ts v + c) Nonsense)
      (flat ts h.1 v c (omega arith) j)

  pub cell_type :
      (v s c : ℕ) → v < length w.program.tuples → (tuple_at w.program v).shape ≡ s → c < length (shape_at w.program s) →
      get_or (cells_at w) (cell_place w.program v c) Nonsense ≡ get_or (shape_at w.program s) c Nonsense
  cell_type v s c i e j = rw (← e) (flat w.program.tuples w.named.tuples v c i (rw (← e) at j))
