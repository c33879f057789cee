-- A word is its four bytes, and the other way round; and what the tests of a word by its kind say.
use Rattle.std.proofs.Common.{◌≡◌, ℕ, ◌/◌, ◌%◌, ◌<◌, ◌&&◌, T, eqb, ◌↔◌, List, [], ◌∷◌, length, Some, None, Option, sym, refl, subst, arith, eqb→eq}
use lib.Dec.{eqb_refl}
use Rattle.image.specs.declared.word.Word.{Word}
use Rattle.image.specs.declared.section.Section.{Section}
use Rattle.image.specs.declared.rule.LayoutRule.{LayoutRule}
use Rattle.image.specs.Words.{word, split, same}
use Rattle.image.specs.Finding.{Tests}
use Rattle.image.specs.Layout.{no_such_kind, inner_tests}
use Rattle.rules.specs.Written.{joined_word}
use Rattle.rules.specs.LaidOut.{Every}
use Rattle.rules.proofs.Tests.{both, iff_same, iff_pair, Kept}

abbrev pub Bytes : Word → Type 0
Bytes w = (w.a < 256) × (w.b < 256) × (w.c < 256)

pub joined_split : (n : ℕ) → joined_word (split n) ≡ n
joined_split n = omega arith

pub split_bytes : (n : ℕ) → Bytes (split n)
split_bytes n = (omega arith, omega arith, omega arith)

pub split_joined : (w : Word) → Bytes w → split (joined_word w) ≡ w
split_joined w (ha, hb, hc) =
    let n = joined_word w in
    let k : n / 16777216 ≡ w.kind = omega arith in
    let a : n / 65536 % 256 ≡ w.a = omega arith in
    let b : n / 256 % 256 ≡ w.b = omega arith in
    let c : n % 256 ≡ w.c = omega arith in
    λ i. word (k i) (a i) (b i) (c i)

pub same_refl : (w : Word) → T (same w w)
same_refl w =
    (both (eqb w.kind w.kind && eqb w.a w.a && eqb w.b w.b) (eqb w.c w.c)).1 (
      (both (eqb w.kind w.kind && eqb w.a w.a) (eqb w.b w.b)).1 (
        (both (eqb w.kind w.kind) (eqb w.a w.a)).1 (eqb_refl w.kind, eqb_refl w.a),
        eqb_refl w.b,
      ),
      eqb_refl w.c,
    )

pub same_is : (v w : Word) → T (same v w) → v ≡ w
same_is v w h =
    let (kab, hc) = (both (eqb v.kind w.kind && eqb v.a w.a && eqb v.b w.b) (eqb v.c w.c)).0 h in
    let (ka, hb) = (both (eqb v.kind w.kind && eqb v.a w.a) (eqb v.b w.b)).0 kab in
    let (hk, ha) = (both (eqb v.kind w.kind) (eqb v.a w.a)).0 ka in
    let k = eqb→eq v.kind w.kind hk in
    let a = eqb→eq v.a w.a ha in
    let b = eqb→eq v.b w.b hb in
    let c = eqb→eq v.c w.c hc in
    λ i. word (k i) (a i) (b i) (c i)

-- a word whose tests are kept says something, and a word that says something has its tests
module _ {X : Type 0} (tests : X → Tests LayoutRule) where
  abbrev pub by_kind : Option X → Tests LayoutRule
  by_kind o = elim o [ None ↦ no_such_kind | Some x ↦ tests x ]

  pub said : (o : Option X) → Kept (by_kind o) → (x : X) × (o ≡ Some x) × Kept (tests x)
  said None h = absurd h.0
  said (Some x) h = (x, refl, h)

  pub says_so : (o : Option X) (x : X) → o ≡ Some x → Kept (tests x) → Kept (by_kind o)
  says_so o x e h = subst (λ o. Kept (by_kind o)) (sym e) h

-- the words behind a head, each with its tests by how many are behind it
abbrev pub Body : Section → List ℕ → Type 0
Body x [] = Unit {0}
Body x (n ∷ ns) = Kept (inner_tests x (length ns) (split n)) × Body x ns

-- where a word's tests do not look at what is behind it
pub body_each : (x : Section) (P : ℕ → Type 0) → ((behind n : ℕ) → Kept (inner_tests x behind (split n)) ↔ P n) → (ns : List ℕ) → Body x ns ↔ Every P ns
body_each x P f [] = iff_same
body_each x P f (n ∷ ns) = iff_pair (f (length ns) n) (body_each x P f ns)
