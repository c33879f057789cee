-- Type words, kinds 10 to 13: what each says, and how it is written.
use Rattle.std.specs.Prelude.{◌-◌, Bool, true, false, cond, [], ◌∷◌, Some, None, Option, nat_le, slice_index_or}
use Rattle.image.specs.declared.word.Word.{Word}
use Rattle.image.specs.declared.ty.Sort.TheVariants.{Integer, Pointer, Code}
use Rattle.image.specs.declared.ty.Ty.{Ty}
use Rattle.image.specs.declared.ty.Ty.TheVariants.{Nonsense, Typed}
use Rattle.image.specs.Words.{word}

abbrev pub type_of : Word → Option Ty
type_of w =
    cond (nat_le 0x10 w.kind)
    (slice_index_or
    (Some Nonsense
    ∷ Some (Typed Integer w.c)
    ∷ Some (Typed (Pointer w.a) w.c)
    ∷ Some (Typed (Code w.a) w.c)
    ∷ [])
    (w.kind - 0x10) None)
    None

abbrev pub type_word : Ty → Word
type_word Nonsense = word 0x10 0 0 0
type_word (Typed Integer label) = word 0x11 0 0 label
type_word (Typed (Pointer shape) label) = word 0x12 shape 0 label
type_word (Typed (Code signature) label) = word 0x13 signature 0 label

abbrev pub is_nonsense : Ty → Bool
is_nonsense Nonsense = true
is_nonsense (Typed sort label) = false
