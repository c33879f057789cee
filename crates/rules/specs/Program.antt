-- A programme as its image lays it out: channels, shapes, signatures, tuples and blocks, each by its number.
use Rattle.std.specs.Prelude.{ℕ, zero, suc, ◌+◌, List, [], ◌∷◌, ◌++◌, length, slice_index_or}
use Rattle.image.specs.declared.ty.Ty.{Ty}
use Rattle.image.specs.declared.head.Context.{Context}
use Rattle.image.specs.declared.head.Context.TheVariants.{Empty}
use Rattle.image.specs.declared.instruction.Instruction.{Instruction}

-- the types of the eight registers, and of the stack's slots, the top one first
pub record Types : Type 0 where
  pub registers : List Ty
  pub slots : List Ty

-- what holds on entry of a block: the flow context, and the types
pub record Signature : Type 0 where
  pub context : Context
  pub types : Types

-- the number of its shape, and a plain word for each cell
pub record Tuple : Type 0 where
  pub shape : ℕ
  pub words : List ℕ

-- the number of its signature, and its instructions
pub record Block : Type 0 where
  pub signature : ℕ
  pub body : List Instruction

-- a channel is its label, and a shape the types of its cells
pub record Program : Type 0 where
  pub channels : List ℕ
  pub shapes : List (List Ty)
  pub signatures : List Signature
  pub tuples : List Tuple
  pub blocks : List Block

-- ---- what a number names, with a default where there is no such thing

abbrev pub no_types : Types
no_types = record { registers = []; slots = [] }

abbrev pub no_signature : Signature
no_signature = record { context = Empty; types = no_types }

abbrev pub no_tuple : Tuple
no_tuple = record { shape = 0; words = [] }

abbrev pub no_block : Block
no_block = record { signature = 0; body = [] }

abbrev pub shape_at : Program → ℕ → List Ty
shape_at p n = slice_index_or p.shapes n []

abbrev pub signature_at : Program → ℕ → Signature
signature_at p n = slice_index_or p.signatures n no_signature

abbrev pub tuple_at : Program → ℕ → Tuple
tuple_at p n = slice_index_or p.tuples n no_tuple

abbrev pub block_at : Program → ℕ → Block
block_at p n = slice_index_or p.blocks n no_block

-- the signature of block n
abbrev pub promise : Program → ℕ → Signature
promise p n = signature_at p (block_at p n).signature

-- ---- the cells of all tuples, one tuple after another

-- where the cells of tuple n begin among all cells
abbrev pub base_in : List Tuple → ℕ → ℕ
base_in [] n = 0
base_in (t ∷ ts) n = elim n [ zero ↦ 0 | suc k ↦ length t.words + base_in ts k ]

abbrev pub cell_types_of : Program → List Tuple → List Ty
cell_types_of p [] = []
cell_types_of p (t ∷ ts) = shape_at p t.shape ++ cell_types_of p ts

-- the types of all cells
abbrev pub cell_types : Program → List Ty
cell_types p = cell_types_of p p.tuples
