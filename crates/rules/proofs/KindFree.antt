-- An image that a kind accepts meets the rules that ask no kind.
use Rattle.std.proofs.Common.{◌≡◌, ℕ, true, ◌↔◌, List, [], ◌∷◌, refl, arith}
use Rattle.labels.specs.Meaning.{Meaning}
use Rattle.image.specs.declared.ty.Sort.TheVariants.{Integer, Pointer, Code}
use Rattle.image.specs.declared.ty.Ty.{Ty}
use Rattle.image.specs.declared.ty.Ty.TheVariants.{Nonsense, Typed}
use Rattle.image.specs.declared.head.Context.{Context}
use Rattle.image.specs.declared.head.Context.TheVariants.{Empty, Raised}
use Rattle.image.specs.declared.instruction.Instruction.{Instruction}
use Rattle.image.specs.declared.instruction.Instruction.TheVariants.{SetNumber, SetTuple, SetBlock, Copy, Add, Subtract, Fetch, Store, Push, Pop, Peek, Poke, Strike, Branch, Raise, Jump, Lower, Halt}
use Rattle.rules.specs.Program.{Program}
use Rattle.rules.specs.LaidOut.{Every, ByteType, CellType, ByteContext, ByteInstruction, ShapeLaid, SignatureLaid, TupleLaid, BlockLaid, IsLaidOut}
use Rattle.rules.specs.Named.{TypeNamed, ContextNamed, InstructionNamed, SignatureNamed, TupleNamed, BlockNamed, Named}
use Rattle.rules.specs.Verdict.{Verdict, accepted, refused, verdict}
use Rattle.rules.specs.Free.{any_label, is_accepted, kind_free}
use Rattle.rules.proofs.TypeWords.{cell_iff}
use Rattle.rules.proofs.Bare.{blocks_free}
use Rattle.rules.proofs.Decides.{verdict_decides}

-- what each element gives with what is known of it beside
both_every : {A : Type 0} (P Q R : A → Type 0) → ((x : A) → P x → Q x → R x) → (xs : List A) → Every P xs → Every Q xs → Every R xs
both_every P Q R f [] y h = tt
both_every P Q R f (x ∷ xs) y h = (f x y.0 h.0, both_every P Q R f xs y.1 h.1)

-- a byte is a label of the meaning that asks nothing
module _ (m : Meaning) (p : Program) where
  type_free : (t : Ty) → ByteType t → TypeNamed m p t → TypeNamed any_label p t
  type_free Nonsense y h = tt
  type_free (Typed Integer l) y h = y
  type_free (Typed (Pointer s) l) y h = (h.0, y.1)
  type_free (Typed (Code s) l) y h = (h.0, y.1)

  types_free : (ts : List Ty) → Every ByteType ts → Every (TypeNamed m p) ts → Every (TypeNamed any_label p) ts
  types_free = both_every ByteType (TypeNamed m p) (TypeNamed any_label p) type_free

  cells_free : (ts : List Ty) → Every CellType ts → Every (TypeNamed m p) ts → Every (TypeNamed any_label p) ts
  cells_free = both_every CellType (TypeNamed m p) (TypeNamed any_label p) (λ t y h. type_free t ((cell_iff t).1 y).0 h)

  context_free : (k : Context) → ByteContext k → ContextNamed m p k → ContextNamed any_label p k
  context_free Empty y h = tt
  context_free (Raised l n) y h = (h.0, y.0)

  instruction_free : (i : Instruction) → ByteInstruction i → InstructionNamed m p i → InstructionNamed any_label p i
  instruction_free (SetNumber to value) y h = h
  instruction_free (SetTuple to tuple) y h = h
  instruction_free (SetBlock to block) y h = h
  instruction_free (Copy to from) y h = h
  instruction_free (Add to left right) y h = h
  instruction_free (Subtract to left right) y h = h
  instruction_free (Fetch to pointer cell) y h = h
  instruction_free (Store pointer from cell) y h = h
  instruction_free (Push count) y h = h
  instruction_free (Pop count) y h = h
  instruction_free (Peek to slot) y h = h
  instruction_free (Poke from slot) y h = h
  instruction_free (Strike channel from) y h = h
  instruction_free (Branch test target) y h = h
  instruction_free (Raise label postdominator) y h = (h.0, y.0)
  instruction_free (Jump target) y h = h
  instruction_free (Lower block) y h = h
  instruction_free Halt y h = h

  named_free : (ns : List ℕ) → IsLaidOut ns p → Named m p → Named any_label p
  named_free ns y h =
      record {
        channels = y.channels.1;
        shapes = both_every ShapeLaid (Every (TypeNamed m p)) (Every (TypeNamed any_label p)) (λ ts y h. cells_free ts y.cells h) p.shapes y.shapes.1 h.shapes;
        signatures =
            both_every SignatureLaid (SignatureNamed m p) (SignatureNamed any_label p)
            (λ s y h. record { context = context_free s.context y.context h.context; registers = types_free s.types.registers y.registers h.registers; slots = types_free s.types.slots y.slots h.slots })
            p.signatures y.signatures.1 h.signatures;
        tuples = both_every TupleLaid (TupleNamed m p) (TupleNamed any_label p) (λ t y h. record { shape = h.shape; count = h.count; words = h.words }) p.tuples y.tuples.2 h.tuples;
        blocks =
            both_every BlockLaid (BlockNamed m p) (BlockNamed any_label p)
            (λ b y h. record { signature = h.signature; body = both_every ByteInstruction (InstructionNamed m p) (InstructionNamed any_label p) instruction_free b.body y.bytes h.body })
            p.blocks y.blocks.2 h.blocks;
        start = h.start;
      }

pub accepted_is_kind_free : (m : Meaning) (ns : List ℕ) → verdict m ns ≡ accepted → verdict any_label ns ≡ accepted
accepted_is_kind_free m ns e =
    let r = (verdict_decides m ns).0 e in
    let p = r.programme in
    (verdict_decides any_label ns).1
    (record { programme = p; laid_out = r.laid_out; named = named_free m p ns r.laid_out r.named; well_typed = blocks_free m p p.blocks r.well_typed })

-- the test

accepted_iff : (v : Verdict) → (is_accepted v ≡ true) ↔ (v ≡ accepted)
accepted_iff accepted = (λ e. refl, λ e. refl)
accepted_iff (refused pass number place) = (λ e. let z : ◌≡◌ {A = ℕ} 0 1 = cc in absurd (omega arith), λ e. let z : ◌≡◌ {A = ℕ} 0 1 = cc in absurd (omega arith))

pub kind_free_tested : (ns : List ℕ) → (kind_free ns ≡ true) ↔ (verdict any_label ns ≡ accepted)
kind_free_tested ns = accepted_iff (verdict any_label ns)
