-- What the rules say of each numbered thing of the programme: signatures, tuples, blocks and the start.
use mathlib.Core.Path.{◌≡◌}
use mathlib.Core.List.{List, [], ◌∷◌}
use Prim.Native.Nat.{ℕ, ◌<◌}
use lib.ListN.{length, get_or}
use Rattle.image.specs.declared.ty.Sort.TheVariants.{Integer, Pointer, Code}
use Rattle.image.specs.declared.ty.Ty.{Ty}
use Rattle.image.specs.declared.ty.Ty.TheVariants.{Nonsense, Typed}
use Rattle.image.specs.declared.head.Context.{Context}
use Rattle.image.specs.declared.head.Context.TheVariants.{Empty, Raised}
use Rattle.rules.specs.Program.{Signature, Tuple, no_signature, no_block, shape_at, block_at, promise, cell_types_of}
use Rattle.rules.specs.Types.{level, reg, slot}
use Rattle.rules.specs.LaidOut.{Every, SignatureLaid}
use Rattle.rules.specs.Named.{NoAddress, TypeNamed, ContextNamed, Plain, InstructionNamed, SignatureNamed, BlockNamed}
use Rattle.rules.specs.WellTyped.{Checked, BlockTyped}
use Rattle.machine.proofs.Every.{every_at}
use Rattle.rules.proofs.ItemWords.{every_join}
use Rattle.secrecy.proofs.Every.{every_past}
use Rattle.secrecy.proofs.Setting.{Setting, Holds, Labelled, Label, context_at, types_at, words_at, cells_at}

module _ (w : Setting) where
  labelled : (t : Ty) → TypeNamed w.meaning w.program t → Labelled w.meaning t
  labelled Nonsense h = tt
  labelled (Typed Integer label) h = h
  labelled (Typed (Pointer shape) label) h = h.1
  labelled (Typed (Code signature) label) h = h.1

  every_labelled : (ts : List Ty) → Every (TypeNamed w.meaning w.program) ts → (n : ℕ) → Labelled w.meaning (get_or ts n Nonsense)
  every_labelled ts h n = labelled (get_or ts n Nonsense) (every_past (TypeNamed w.meaning w.program) ts n Nonsense h tt)

  -- ---- signatures

  pub record SoundSignature (s : Signature) : Type 0 where
    pub context : Label w (level s.context)
    pub eight : length s.types.registers ≡ 8
    pub registers : (r : ℕ) → Labelled w.meaning (reg s.types r)
    pub slots : (n : ℕ) → Labelled w.meaning (slot s.types n)

  named_level : (k : Context) → ContextNamed w.meaning w.program k → Label w (level k)
  named_level Empty h = w.lawful.some
  named_level (Raised label postdominator) h = h.1

  block_named : (n : ℕ) → n < length w.program.blocks → BlockNamed w.meaning w.program (block_at w.program n)
  block_named n h = every_at (BlockNamed w.meaning w.program) w.program.blocks n no_block w.named.blocks h

  pub signature_sound : (n : ℕ) → n < length w.program.blocks → SoundSignature (promise w.program n)
  signature_sound n h =
      let there = (block_named n h).signature in
      let laid = every_at SignatureLaid w.program.signatures (block_at w.program n).signature no_signature w.laid_out.signatures.1 there in
      let named = every_at (SignatureNamed w.meaning w.program) w.program.signatures (block_at w.program n).signature no_signature w.named.signatures there in
      record {
        context = named_level (context_at w n) named.context;
        eight = laid.eight;
        registers = every_labelled (types_at w n).registers named.registers;
        slots = every_labelled (types_at w n).slots named.slots;
      }

  -- ---- blocks

  pub body_named : (n : ℕ) → n < length w.program.blocks → Every (InstructionNamed w.meaning w.program) (words_at w n)
  body_named n h = (block_named n h).body

  pub body_checked : (n : ℕ) → n < length w.program.blocks → Checked w.meaning w.program (context_at w n) (types_at w n) (words_at w n)
  body_checked n h = every_at (BlockTyped w.meaning w.program) w.program.blocks n no_block w.well_typed h

  pub start_there : 0 < length w.program.blocks
  start_there = w.laid_out.blocks.0

  -- a register at the start is an integer or nonsense, and any word will do
  pub start_holds : (r v : ℕ) → Holds w.program (reg (types_at w 0) r) v
  start_holds r v = plain (reg (types_at w 0) r) (every_past NoAddress (types_at w 0).registers r Nonsense w.named.start.registers tt)
    where
      plain : (t : Ty) → NoAddress t → Holds w.program t v
      plain Nonsense h = tt
      plain (Typed Integer label) h = tt
      plain (Typed (Pointer shape) label) h = absurd h
      plain (Typed (Code signature) label) h = absurd h

  -- ---- tuples

  -- the image's word for a cell may stand there
  pub plain_holds : (t : Ty) (v : ℕ) → Plain w.meaning w.program t v → Holds w.program t v
  plain_holds Nonsense v h = tt
  plain_holds (Typed Integer label) v h = tt
  plain_holds (Typed (Pointer shape) label) v h = h
  plain_holds (Typed (Code signature) label) v h = h

  pub cells_labelled : (n : ℕ) → Labelled w.meaning (get_or (cells_at w) n Nonsense)
  cells_labelled n = every_labelled (cells_at w) (in_tuples w.program.tuples) n
    where
      in_tuples : (ts : List Tuple) → Every (TypeNamed w.meaning w.program) (cell_types_of w.program ts)
      in_tuples [] = tt
      in_tuples (t ∷ ts) =
          every_join (TypeNamed w.meaning w.program) (shape_at w.program t.shape) (cell_types_of w.program ts)
          (every_past (Every (TypeNamed w.meaning w.program)) w.program.shapes t.shape [] w.named.shapes tt)
          (in_tuples ts)
