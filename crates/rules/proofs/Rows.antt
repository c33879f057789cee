-- The layout pass is clear exactly over the words of a row of parts, in order and within the limits.
use Rattle.std.proofs.Common.{◌≡◌, ℕ, zero, suc, ◌+◌, ◌≤◌, cond, leb, ◌↔◌, List, [], ◌∷◌, ◌++◌, map, length, take, drop, Some, None, Option, sym, refl, ap, ◌∙◌, subst, ap₂, arith, le→leb, eqb→eq, leb→le, length-append, length-drop, take-append-drop, length-take}
use Rattle.std.proofs.lemmas.Bool.{le-leb}
use Rattle.image.specs.declared.section.Section.{Section}
use Rattle.image.specs.declared.counts.Counts.{Counts}
use Rattle.image.specs.declared.head.Head.{Head}
use Rattle.image.specs.declared.rule.LayoutRule.{LayoutRule}
use Rattle.image.specs.declared.rule.LayoutRule.TheVariants.{TooLong}
use Rattle.image.specs.Layout.{Stand}
use Rattle.image.specs.Words.{split}
use Rattle.image.specs.Sections.{rank, most}
use Rattle.image.specs.Heads.{head_of, head_word, section_of, follows}
use Rattle.image.specs.Counts.{with_one}
use Rattle.image.specs.Finding.{Finding, clear, fault, ◌then◌, first, walk, arrive}
use Rattle.image.specs.Layout.{stand, outset, counted, cells_of, tests_of_head, head_tests, inner_tests, word_tests, step, after_head, end_tests, onward, layout}
use Rattle.image.specs.Items.{pieces_from}
use Rattle.image.proofs.Reading.{read, skipped}
use Rattle.rules.specs.Says.{Part, part_in, says}
use Rattle.rules.specs.Written.{joined_word, head_for, head_written, body_written, written}
use Rattle.rules.specs.LaidOut.{Every}
use Rattle.rules.proofs.Tests.{eq_iff, le_iff, iff_then, iff_pair, one_rule, Kept, then_clear, first_clear}
use Rattle.rules.proofs.Words.{Bytes, joined_split, split_bytes, split_joined, same_refl, same_is, said, says_so, Body}
use Rattle.rules.proofs.ItemWords.{PartLaid, take_front, drop_front, reads, writes}

-- ---- the pass and its end as one

abbrev pub Good : Stand → List ℕ → Type 0
Good s [] = Kept (end_tests s)
Good s (n ∷ ns) = Kept (word_tests s n) × Good (step s n) ns

then_then : (x y z : Finding LayoutRule) → ((x then y) then z ≡ clear) ↔ ((x ≡ clear) × (y then z ≡ clear))
then_then clear y z = (λ e. (refl, e), λ h. h.1)
then_then (fault rule place) y z = (λ e. let c : ◌≡◌ {A = ℕ} 0 1 = cc in absurd (omega arith), λ h. h.0)

onward_iff : (size : ℕ) (s : Stand) (place : ℕ) (ns : List ℕ) → (onward size s place ns ≡ clear) ↔ Good s ns
onward_iff size s place [] = first_clear size (end_tests s)
onward_iff size s place (n ∷ ns) =
    iff_then (then_then (first place (word_tests s n)) (walk word_tests step (step s n) (suc place) ns) (first size (end_tests (arrive word_tests step (step s n) ns))))
    (iff_pair (first_clear place (word_tests s n)) (onward_iff size (step s n) (suc place) ns))

pub layout_iff : (ns : List ℕ) → (layout ns ≡ clear) ↔ ((length ns ≤ 2048) × Good outset ns)
layout_iff ns =
    iff_then (then_clear (first 0 ((TooLong, leb (length ns) 2048) ∷ [])) (onward (length ns) outset 0 ns))
    (iff_pair (iff_then (first_clear 0 ((TooLong, leb (length ns) 2048) ∷ [])) (one_rule (le_iff (length ns) 2048))) (onward_iff (length ns) outset 0 ns))

-- ---- over the words behind one head

good_body : (x : Section) (count cells n : ℕ) (ns : List ℕ) → Good (stand x count cells n) ns → (n ≤ length ns) × Body x (take n ns) × Good (stand x count cells 0) (drop n ns)
good_body x count cells zero ns g = (omega arith, tt, g)
good_body x count cells (suc n) [] g = let e = eqb→eq (suc n) 0 g.0 in absurd (omega arith)
good_body x count cells (suc n) (w ∷ ns) g =
    let (l, b, r) = good_body x count cells n ns g.1 in
    let t = length-take n ns in
    let e : n ≡ length (take n ns) = omega arith in
    (omega arith, (subst (λ j. Kept (inner_tests x j (split w))) e g.0, b), r)

body_good : (x : Section) (count cells : ℕ) (bs ns : List ℕ) → Body x bs → Good (stand x count cells 0) ns → Good (stand x count cells (length bs)) (bs ++ ns)
body_good x count cells [] ns b g = g
body_good x count cells (n ∷ bs) ns b g = (b.0, body_good x count cells bs ns b.1 g)

-- ---- the item that a head begins

abbrev moved : Stand → Option Head → Stand
moved s o = elim o [ None ↦ s | Some h ↦ after_head s h ]

-- the parts that the items in some words say
abbrev pub parts_in : Counts → ℕ → List ℕ → List Part
parts_in before place ns = map says (pieces_from before 0 place ns)

module _ (n : ℕ) (ns : List ℕ) (h : Head) (e : head_of (split n) ≡ Some h) where
  step_is : (x : Section) (count cells : ℕ) → step (stand x count cells 0) n ≡ after_head (stand x count cells 0) h
  step_is x count cells = ap (moved (stand x count cells 0)) e

  parts_more : (before : Counts) (place : ℕ) → head_word h ≡ split n → follows h ≤ length ns → parts_in before place (n ∷ ns) ≡ part_in (section_of h) (head_word h) (take (follows h) ns) ∷ parts_in (with_one before (section_of h)) (suc place + follows h) (drop (follows h) ns)
  parts_more before place s l =
      ap (λ o. map says (read before place n ns o)) (ap (λ o. elim o [ None ↦ None | Some g ↦ cond (leb (follows g) (length ns)) (Some g) None ]) e ∙ ap (λ b. cond b (Some h) None) (le-leb (follows h) (length ns) l))
      ∙ ap₂ ◌∷◌ (ap (λ w. part_in (section_of h) w (take (follows h) ns)) (sym s)) (ap (map says) (skipped (with_one before (section_of h)) (follows h) (suc place) ns))

-- ---- rows of parts

-- a head may stand where the pass stands, and what is behind it too
abbrev HeadRow : Section → ℕ → ℕ → Head → (Section → ℕ → ℕ → Type 0) → Type 0
HeadRow x count cells h behind =
    (rank x ≤ rank (section_of h)) × (counted (stand x count cells 0) h ≤ most (section_of h)) × (cells + cells_of h ≤ 256)
    × behind (section_of h) (counted (stand x count cells 0) h) (cells + cells_of h)

abbrev pub Row : Section → ℕ → ℕ → List Part → Type 0
Row x count cells [] = rank x ≡ 5
Row x count cells (y ∷ ys) = PartLaid y × HeadRow x count cells (head_for y) (λ x count cells. Row x count cells ys)

pub good_row : (size : ℕ) (x : Section) (count cells : ℕ) (before : Counts) (place : ℕ) (ns : List ℕ) → length ns ≤ size → Good (stand x count cells 0) ns → (ns ≡ written (parts_in before place ns)) × Row x count cells (parts_in before place ns)
good_row size x count cells before place [] l g = (refl, eqb→eq (rank x) 5 g.1.0)
good_row zero x count cells before place (n ∷ ns) l g = absurd (omega arith)
good_row (suc size) x count cells before place (n ∷ ns) l g =
    let (h, e, t) = said (λ h. tests_of_head (stand x count cells 0) h (split n)) (head_of (split n)) g.0 in
    let s = same_is (head_word h) (split n) t.1.0 in
    let f = follows h in
    let c = counted (stand x count cells 0) h in
    let k = cells + cells_of h in
    let (fl, b, more) = good_body (section_of h) c k f ns (subst (λ s. Good s ns) (step_is n ns h e x count cells) g.1) in
    let lt = length-take f ns in
    let ld = length-drop f ns in
    let r = reads h (take f ns) (subst Bytes (sym s) (split_bytes n)) t.1.1.1.0 b (omega arith) in
    let (es, row) = good_row size (section_of h) c k (with_one before (section_of h)) (suc place + f) (drop f ns) (omega arith) more in
    let ys = parts_in (with_one before (section_of h)) (suc place + f) (drop f ns) in
    subst (λ ps. (n ∷ ns ≡ written ps) × Row x count cells ps) (sym (parts_more n ns h e before place s fl)) (
      ap₂ ◌∷◌ (sym (ap (λ h. joined_word (head_word h)) r.head ∙ ap joined_word s ∙ joined_split n)) (sym (take-append-drop f ns) ∙ ap₂ ◌++◌ r.body es),
      (
        r.laid,
        subst (λ h. HeadRow x count cells h (λ x count cells. Row x count cells ys)) (sym r.head)
            (leb→le (rank x) (rank (section_of h)) t.0, leb→le c (most (section_of h)) t.1.1.0, leb→le k 256 t.1.1.1.1.0, row),
      ),
    )

pub row_laid : (x : Section) (count cells : ℕ) (ys : List Part) → Row x count cells ys → Every PartLaid ys
row_laid x count cells [] r = tt
row_laid x count cells (y ∷ ys) (laid, (o, m, k, r)) = (laid, row_laid (section_of (head_for y)) (counted (stand x count cells 0) (head_for y)) (cells + cells_of (head_for y)) ys r)

-- ---- the words of a row

module _ (y : Part) (laid : PartLaid y) where
  head_split : split (head_written y) ≡ head_word (head_for y)
  head_split = split_joined (head_word (head_for y)) (writes y laid).bytes

  head_decoded : head_of (split (head_written y)) ≡ Some (head_for y)
  head_decoded = ap head_of head_split ∙ (writes y laid).decoded

pub row_good : (x : Section) (count cells : ℕ) (ys : List Part) → Row x count cells ys → Good (stand x count cells 0) (written ys)
row_good x count cells [] r = (tt, ((eq_iff (rank x) 5).1 r, tt))
row_good x count cells (y ∷ ys) (laid, (o, m, k, r)) =
    let w = writes y laid in
    let h = head_for y in
    let s = stand x count cells 0 in
    let v = head_word h in
    let ns = body_written y ++ written ys in (
      subst (λ v. Kept (head_tests s v)) (sym (head_split y laid))
          (says_so (λ h. tests_of_head s h v) (head_of v) h w.decoded
          (le→leb (rank x) (rank (section_of h)) o, (same_refl v, (le→leb (counted s h) (most (section_of h)) m, (w.size, (le→leb (cells + cells_of h) 256 k, tt)))))),
      subst (λ s. Good s ns) (sym (step_is (head_written y) ns h (head_decoded y laid) x count cells))
          (subst (λ f. Good (stand (section_of h) (counted s h) (cells + cells_of h) f) ns) (sym w.follow)
          (body_good (section_of h) (counted s h) (cells + cells_of h) (body_written y) (written ys) w.body (row_good (section_of h) (counted s h) (cells + cells_of h) ys r))),
    )

pub row_parts : (x : Section) (count cells : ℕ) (before : Counts) (place : ℕ) (ys : List Part) → Row x count cells ys → parts_in before place (written ys) ≡ ys
row_parts x count cells before place [] r = refl
row_parts x count cells before place (y ∷ ys) (laid, (o, m, k, r)) =
    let w = writes y laid in
    let h = head_for y in
    let bs = body_written y in
    let ns = bs ++ written ys in
    let la = length-append bs (written ys) in
    let fe = w.follow in
    parts_more (head_written y) ns h (head_decoded y laid) before place (sym (head_split y laid)) (omega arith)
    ∙ ap₂ ◌∷◌
    (ap (λ f. part_in (section_of h) (head_word h) (take f ns)) fe ∙ ap (part_in (section_of h) (head_word h)) (take_front bs (written ys)) ∙ w.back)
    (ap (λ f. parts_in (with_one before (section_of h)) (suc place + follows h) (drop f ns)) fe
    ∙ ap (parts_in (with_one before (section_of h)) (suc place + follows h)) (drop_front bs (written ys))
    ∙ row_parts (section_of h) (counted (stand x count cells 0) h) (cells + cells_of h) (with_one before (section_of h)) (suc place + follows h) ys r)
