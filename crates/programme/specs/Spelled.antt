-- The words of a laid out image as the programme that they spell.
use Rattle.std.specs.Prelude.{ℕ, List, map, length, take, drop}
use Rattle.image.specs.declared.section.Section.{Section}
use Rattle.image.specs.declared.section.Section.TheVariants.{Channels, Shapes, Signatures, Tuples, Blocks}
use Rattle.image.specs.declared.ty.Ty.{Ty}
use Rattle.rules.specs.Program.{Signature, Tuple, Block, Program}
use Rattle.rules.specs.Says.{type_in, body_of, program_of}
use Rattle.programme.specs.declared.laid_out.LaidOut.{LaidOut}
use Rattle.programme.specs.declared.parts.Shape.{Shape}
use Rattle.programme.specs.declared.parts.SignatureWords.{SignatureWords}
use Rattle.programme.specs.declared.parts.TupleWords.{TupleWords}
use Rattle.programme.specs.declared.parts.BlockWords.{BlockWords}

abbrev pub words_in : LaidOut → List ℕ
words_in x = x.words.now

abbrev pub program_in : LaidOut → Program
program_in x = program_of (words_in x)

-- how many parts of a section a programme has
abbrev pub count_in : Program → Section → ℕ
count_in p Channels = length p.channels
count_in p Shapes = length p.shapes
count_in p Signatures = length p.signatures
count_in p Tuples = length p.tuples
count_in p Blocks = length p.blocks

-- ---- the parts

abbrev pub shape_spelled : Shape → List Ty
shape_spelled x = map type_in x.types.now

abbrev pub signature_spelled : SignatureWords → Signature
signature_spelled x = record { context = x.context; types = record { registers = map type_in (take 8 x.types.now); slots = map type_in (drop 8 x.types.now) } }

abbrev pub tuple_spelled : TupleWords → Tuple
tuple_spelled x = record { shape = x.shape; words = x.words.now }

abbrev pub block_spelled : BlockWords → Block
block_spelled x = record { signature = x.signature; body = body_of x.words.now }
