-- Reading the items off the words, one after another.
use Rattle.std.proofs.Common.{◌≡◌, ℕ, zero, suc, ◌+◌, ◌-◌, ◌<◌, List, [], ◌∷◌, length, take, drop, Some, None, Option, sym, refl, ap, ◌∙◌, add-zero, arith}
use Rattle.std.proofs.lemmas.List.{drop-drop, take_rest, length-take-le}
use Rattle.image.specs.declared.section.Section.{Section}
use Rattle.image.specs.declared.head.Head.{Head}
use Rattle.image.specs.declared.counts.Counts.{Counts}
use Rattle.image.specs.Heads.{section_of, follows}
use Rattle.image.specs.Counts.{count_of, with_one}
use Rattle.image.specs.Items.{Piece, piece, whole_head, pieces_from}

-- the words of an item that began before are passed over
pub skipped : (before : Counts) (k place : ℕ) (ns : List ℕ) → pieces_from before k place ns ≡ pieces_from before 0 (place + k) (drop k ns)
skipped before zero place ns = ap (λ p. pieces_from before 0 p ns) (sym (add-zero place))
skipped before (suc k) place [] = refl
skipped before (suc k) place (n ∷ ns) =
    let e : suc place + k ≡ place + suc k = omega arith in skipped before k (suc place) ns ∙ ap (λ p. pieces_from before 0 p (drop k ns)) e

abbrev pub read : Counts → ℕ → ℕ → List ℕ → Option Head → List Piece
read before place n ns o =
    elim o [
      | None ↦ []
      | Some h ↦ piece (section_of h) place (count_of before (section_of h)) (n ∷ take (follows h) ns) ∷ pieces_from (with_one before (section_of h)) (follows h) (suc place) ns
    ]

pub none_left : (before : Counts) (place : ℕ) (ns : List ℕ) → None ≡ whole_head ns → pieces_from before 0 place ns ≡ []
none_left before place [] e = refl
none_left before place (n ∷ ns) e = ap (read before place n ns) (sym e)

pub one_more : (before : Counts) (place : ℕ) (ns : List ℕ) (h : Head) → Some h ≡ whole_head ns → pieces_from before 0 place ns ≡ piece (section_of h) place (count_of before (section_of h)) (take (1 + follows h) ns) ∷ pieces_from (with_one before (section_of h)) 0 (place + 1 + follows h) (drop (1 + follows h) ns)
one_more before place [] h e = absurd (let z : ◌≡◌ {A = ℕ} 0 1 = cc in omega arith)
one_more before place (n ∷ ns) h e =
    let one : 1 + follows h ≡ suc (follows h) = omega arith in
    let far : suc place + follows h ≡ place + 1 + follows h = omega arith in
    ap (read before place n ns) (sym e)
    ∙ ap (λ ps. piece (section_of h) place (count_of before (section_of h)) (n ∷ take (follows h) ns) ∷ ps) (skipped (with_one before (section_of h)) (follows h) (suc place) ns)
    ∙ ap (λ p. piece (section_of h) place (count_of before (section_of h)) (n ∷ take (follows h) ns) ∷ pieces_from (with_one before (section_of h)) 0 p (drop (follows h) ns)) far
    ∙ ap (λ k. piece (section_of h) place (count_of before (section_of h)) (take k (n ∷ ns)) ∷ pieces_from (with_one before (section_of h)) 0 (place + 1 + follows h) (drop k (n ∷ ns))) (sym one)

-- a turn of the reader: it stands at a place of the front, where a whole item begins
module _ (front : List ℕ) (at : ℕ) (before : Counts) (h : Head) (section : Section) (number f : ℕ) where
  pub turn : Some h ≡ whole_head (take (length front - at) (drop at front)) → section ≡ section_of h → number ≡ count_of before section → f ≡ follows h → pieces_from before 0 at (drop at front) ≡ piece section at number (take (at + (1 + f) - at) (drop at front)) ∷ pieces_from (with_one before section) 0 (at + (1 + f)) (drop (at + (1 + f)) front)
  turn e s k l =
      let words : take (at + (1 + f) - at) (drop at front) ≡ take (1 + follows h) (drop at front) = let n : at + (1 + f) - at ≡ 1 + follows h = omega arith in ap (λ n. take n (drop at front)) n in
      let far : drop (at + (1 + f)) front ≡ drop (1 + follows h) (drop at front) = let n : at + (1 + f) ≡ at + (1 + follows h) = omega arith in ap (λ n. drop n front) n ∙ sym (drop-drop (1 + follows h) at front) in
      let to : at + (1 + f) ≡ at + 1 + follows h = omega arith in
      let seen : number ≡ count_of before (section_of h) = k ∙ ap (count_of before) s in
      one_more before at (drop at front) h (e ∙ ap whole_head (take_rest front at)) ∙ sym (rw (s, words, seen, far, to))

pub part_length : (front : List ℕ) (at f : ℕ) → f < length (drop at front) → length (take (at + (1 + f) - at) (drop at front)) ≡ 1 + f
part_length front at f h = let n : at + (1 + f) - at ≡ 1 + f = omega arith in rw n (length-take-le (1 + f) (drop at front) (omega arith))
