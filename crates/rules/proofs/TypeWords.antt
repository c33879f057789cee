-- Type words: one whose layout tests are kept is a type written down, and a type written down is read back.
use Rattle.std.proofs.Common.{◌≡◌, ℕ, Bool, true, false, not, ◌||◌, T, ◌↔◌, List, [], ◌∷◌, map, Some, None, Option, sym, refl, ap, ◌∙◌, subst, ap₂, arith}
use Rattle.image.specs.declared.word.Word.{Word}
use Rattle.image.specs.declared.ty.Sort.TheVariants.{Integer, Pointer, Code}
use Rattle.image.specs.declared.ty.Ty.{Ty}
use Rattle.image.specs.declared.ty.Ty.TheVariants.{Nonsense, Typed}
use Rattle.image.specs.declared.rule.LayoutRule.{LayoutRule}
use Rattle.image.specs.declared.rule.LayoutRule.TheVariants.{KindOutOfPlace, FieldNotZero}
use Rattle.image.specs.Words.{split, same}
use Rattle.image.specs.Types.{type_of, type_word, is_nonsense}
use Rattle.image.specs.Finding.{Tests}
use Rattle.image.specs.Layout.{type_tests}
use Rattle.rules.specs.Says.{type_in}
use Rattle.rules.specs.Written.{joined_word, type_written}
use Rattle.rules.specs.LaidOut.{Every, ByteType, CellType}
use Rattle.rules.proofs.Tests.{Kept}
use Rattle.rules.proofs.Words.{Bytes, joined_split, split_bytes, split_joined, same_refl, same_is, said, says_so}

type_bytes : (t : Ty) → Bytes (type_word t) ↔ ByteType t
type_bytes Nonsense = (λ h. tt, λ h. (omega arith, omega arith, omega arith))
type_bytes (Typed Integer l) = (λ h. h.2, λ h. (omega arith, omega arith, h))
type_bytes (Typed (Pointer s) l) = (λ h. (h.0, h.2), λ h. (h.0, omega arith, h.1))
type_bytes (Typed (Code s) l) = (λ h. (h.0, h.2), λ h. (h.0, omega arith, h.1))

type_decoded : (t : Ty) → type_of (type_word t) ≡ Some t
type_decoded Nonsense = refl
type_decoded (Typed Integer l) = refl
type_decoded (Typed (Pointer s) l) = refl
type_decoded (Typed (Code s) l) = refl

-- what a type word may say: with nonsense in a signature, and without it in a shape
abbrev pub Fine : Bool → Ty → Type 0
Fine nonsense_fine t = ByteType t × T (nonsense_fine || not (is_nonsense t))

abbrev pub said_type : Option Ty → Ty
said_type o = elim o [ None ↦ Nonsense | Some t ↦ t ]

module _ (f : Bool) where
  abbrev tests_at : Word → Ty → Tests LayoutRule
  tests_at w t = (KindOutOfPlace, f || not (is_nonsense t)) ∷ (FieldNotZero, same (type_word t) w) ∷ []

  type_read : (n : ℕ) → Kept (type_tests f (split n)) → (type_written (type_in n) ≡ n) × Fine f (type_in n)
  type_read n h =
      let (t, e, k) = said (tests_at (split n)) (type_of (split n)) h in
      let s = same_is (type_word t) (split n) k.1.0 in
      let i : type_in n ≡ t = ap said_type e in
      (ap type_written i ∙ ap joined_word s ∙ joined_split n, subst (Fine f) (sym i) ((type_bytes t).0 (subst Bytes (sym s) (split_bytes n)), k.0))

  type_tested : (t : Ty) → Fine f t → Kept (type_tests f (split (type_written t)))
  type_tested t h =
      let s = split_joined (type_word t) ((type_bytes t).1 h.0) in
      subst (λ w. Kept (type_tests f w)) (sym s) (says_so (tests_at (type_word t)) (type_of (type_word t)) t (type_decoded t) (h.1, (same_refl (type_word t), tt)))

  -- ---- one after another

  abbrev pub Tested : ℕ → Type 0
  Tested n = Kept (type_tests f (split n))

  pub types_read : (ns : List ℕ) → Every Tested ns → (ns ≡ map type_written (map type_in ns)) × Every (Fine f) (map type_in ns)
  types_read [] h = (refl, tt)
  types_read (n ∷ ns) h =
      let (e, y) = type_read n h.0 in
      let (es, ys) = types_read ns h.1 in
      (ap₂ ◌∷◌ (sym e) es, (y, ys))

  pub types_tested : (ts : List Ty) → Every (Fine f) ts → Every Tested (map type_written ts)
  types_tested [] h = tt
  types_tested (t ∷ ts) h = (type_tested t h.0, types_tested ts h.1)

type_back : (t : Ty) → ByteType t → type_in (type_written t) ≡ t
type_back t h = ap (λ w. said_type (type_of w)) (split_joined (type_word t) ((type_bytes t).1 h)) ∙ ap said_type (type_decoded t)

pub types_back : (ts : List Ty) → Every ByteType ts → map type_in (map type_written ts) ≡ ts
types_back [] h = refl
types_back (t ∷ ts) h = ap₂ ◌∷◌ (type_back t h.0) (types_back ts h.1)

-- ---- the types of cells

pub cell_iff : (t : Ty) → Fine false t ↔ CellType t
cell_iff Nonsense = (λ h. h.1, λ h. absurd h)
cell_iff (Typed s l) = (λ h. h.0, λ h. (h, tt))

pub byte_iff : (t : Ty) → Fine true t ↔ ByteType t
byte_iff t = (λ h. h.0, λ h. (h, tt))
