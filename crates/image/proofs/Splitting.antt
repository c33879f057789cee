-- The items of an image, one behind another, are the image.
use Rattle.std.proofs.Common.{◌≡◌, ℕ, zero, suc, ◌+◌, ◌≤◌, Bool, true, false, cond, eqb, leb, List, [], ◌∷◌, ◌++◌, length, take, drop, Some, None, Option, sym, refl, ap, ◌∙◌, subst, append_assoc, add-zero, arith}
use Rattle.std.proofs.lemmas.List.{take-append-drop, take_all, length-take-le}
use Rattle.std.proofs.lemmas.Bool.{leb-true, le-leb, eqb-true}
use Rattle.image.specs.declared.head.Head.{Head}
use Rattle.image.specs.declared.section.Section.{Section}
use Rattle.image.specs.declared.section.Section.TheVariants.{Channels}
use Rattle.image.specs.declared.counts.Counts.{Counts}
use Rattle.image.specs.declared.rule.LayoutRule.{LayoutRule}
use Rattle.image.specs.declared.rule.LayoutRule.TheVariants.{TooLong, CutShort, NoBlock}
use Rattle.image.specs.Layout.{Stand}
use Rattle.image.specs.Words.{split}
use Rattle.image.specs.Sections.{rank}
use Rattle.image.specs.Heads.{head_of, section_of, follows}
use Rattle.image.specs.Counts.{no_items, with_one}
use Rattle.image.specs.Finding.{Finding, clear, fault, Tests, ◌then◌, broken, at_place, first, walk, arrive}
use Rattle.image.specs.Layout.{stand, outset, tests_of_head, no_such_kind, word_tests, step, after_head, end_tests, onward, layout}
use Rattle.image.specs.Items.{whole_head, pieces_from, reach, pieces}
use Rattle.image.specs.Splits.{words_of, InARow, Numbered, Split}
use Rattle.image.proofs.Reading.{read}

-- ---- a whole item fits its words

module _ (h : Head) (ns : List ℕ) where
  kept : (g : Head) (b : Bool) → leb (follows g) (length ns) ≡ b → cond b (Some g) None ≡ Some h → follows h ≤ length ns
  kept g true t e = let same : g ≡ h = cc in rw (sym same) (leb-true _ _ t)
  kept g false t e = absurd (let z : ◌≡◌ {A = ℕ} 0 1 = cc in omega arith)

  fits : (o : Option Head) → elim o [ None ↦ None | Some g ↦ cond (leb (follows g) (length ns)) (Some g) None ] ≡ Some h → follows h ≤ length ns
  fits None e = absurd (let z : ◌≡◌ {A = ℕ} 0 1 = cc in omega arith)
  fits (Some g) e = kept g (leb (follows g) (length ns)) refl e

  pub whole_fits : (n : ℕ) → whole_head (n ∷ ns) ≡ Some h → follows h ≤ length ns
  whole_fits n e = fits (head_of (split n)) e

-- ---- from the front

pub from_front : (before : Counts) (k place : ℕ) (ns : List ℕ) → (rest : List ℕ) × (words_of (pieces_from before k place ns) ++ rest ≡ drop k ns)
from_front before zero place [] = ([], refl)
from_front before (suc k) place [] = ([], refl)
from_front before (suc k) place (n ∷ ns) = from_front before k (suc place) ns
from_front before zero place (n ∷ ns) = go (whole_head (n ∷ ns)) (λ h. from_front (with_one before (section_of h)) (follows h) (suc place) ns)
  where
    go : (o : Option Head) → ((h : Head) → (rest : List ℕ) × (words_of (pieces_from (with_one before (section_of h)) (follows h) (suc place) ns) ++ rest ≡ drop (follows h) ns)) → (rest : List ℕ) × (words_of (read before place n ns o) ++ rest ≡ n ∷ ns)
    go None more = (n ∷ ns, refl)
    go (Some h) more =
        let r = more h in
        (r.0, ap (λ l. n ∷ l) (append_assoc (take (follows h) ns) (words_of (pieces_from (with_one before (section_of h)) (follows h) (suc place) ns)) r.0 ∙ ap (λ l. take (follows h) ns ++ l) r.1 ∙ take-append-drop (follows h) ns))

-- ---- places and numbers

pub in_a_row : (before : Counts) (k place : ℕ) (ns : List ℕ) → InARow (place + k) (pieces_from before k place ns)
in_a_row before zero place [] = tt
in_a_row before (suc k) place [] = tt
in_a_row before (suc k) place (n ∷ ns) =
    let e : suc place + k ≡ place + suc k = omega arith in subst (λ p. InARow p (pieces_from before k (suc place) ns)) e (in_a_row before k (suc place) ns)
in_a_row before zero place (n ∷ ns) = go (whole_head (n ∷ ns)) refl (λ h. in_a_row (with_one before (section_of h)) (follows h) (suc place) ns)
  where
    go : (o : Option Head) → whole_head (n ∷ ns) ≡ o → ((h : Head) → InARow (suc place + follows h) (pieces_from (with_one before (section_of h)) (follows h) (suc place) ns)) → InARow (place + 0) (read before place n ns o)
    go None e more = tt
    go (Some h) e more =
        let size = length-take-le (follows h) ns (whole_fits h ns n e) in
        let to : suc place + follows h ≡ place + 0 + suc (length (take (follows h) ns)) = omega arith in
        (sym (add-zero place), subst (λ p. InARow p (pieces_from (with_one before (section_of h)) (follows h) (suc place) ns)) to (more h))

pub numbered : (before : Counts) (k place : ℕ) (ns : List ℕ) → Numbered before (pieces_from before k place ns)
numbered before zero place [] = tt
numbered before (suc k) place [] = tt
numbered before (suc k) place (n ∷ ns) = numbered before k (suc place) ns
numbered before zero place (n ∷ ns) = go (whole_head (n ∷ ns)) (λ h. numbered (with_one before (section_of h)) (follows h) (suc place) ns)
  where
    go : (o : Option Head) → ((h : Head) → Numbered (with_one before (section_of h)) (pieces_from (with_one before (section_of h)) (follows h) (suc place) ns)) → Numbered before (read before place n ns o)
    go None more = tt
    go (Some h) more = (refl, more h)

-- ---- the whole of an image without a fault

pub first_clear : {R : Type 0} (x y : Finding R) → (x then y) ≡ clear → x ≡ clear
first_clear clear y e = refl
first_clear (fault r p) y e = absurd (let z : ◌≡◌ {A = ℕ} 0 1 = cc in omega arith)

pub then_clear : {R : Type 0} (x y : Finding R) → (x then y) ≡ clear → y ≡ clear
then_clear clear y e = e
then_clear (fault r p) y e = absurd (let z : ◌≡◌ {A = ℕ} 0 1 = cc in omega arith)

-- the open item's words are there
enough : (s : Stand) (ns : List ℕ) → (arrive word_tests step s ns).left ≡ 0 → s.left ≤ length ns
enough s ns = go ns s.section s.count s.cells s.left
  where
    go : (ns : List ℕ) (x : _) (c m left : ℕ) → (arrive word_tests step (stand x c m left) ns).left ≡ 0 → left ≤ length ns
    go [] x c m left e = omega arith
    go (n ∷ ns) x c m zero e = omega arith
    go (n ∷ ns) x c m (suc left) e = let k = go ns x c m left e in omega arith

-- a head whose tests are clear is a head
module _ (P : Type 0) (place : ℕ) where
  pub headed : (o : Option Head) (tests : Head → Tests LayoutRule) → first place (elim o [ None ↦ no_such_kind | Some h ↦ tests h ]) ≡ clear → ((h : Head) → o ≡ Some h → P) → P
  headed None tests e f = absurd (let z : ◌≡◌ {A = ℕ} 0 1 = cc in omega arith)
  headed (Some h) tests e f = f h refl

whole_head_is : (n : ℕ) (ns : List ℕ) (h : Head) → head_of (split n) ≡ Some h → follows h ≤ length ns → whole_head (n ∷ ns) ≡ Some h
whole_head_is n ns h e l = ap (λ o. elim o [ None ↦ None | Some g ↦ cond (leb (follows g) (length ns)) (Some g) None ]) e ∙ ap (λ b. cond b (Some h) None) (le-leb _ _ l)

after_head_is : (s : Stand) (n : ℕ) (h : Head) → head_of (split n) ≡ Some h → step (stand s.section s.count s.cells 0) n ≡ after_head s h
after_head_is s n h e = ap (λ o. elim o [ None ↦ stand s.section s.count s.cells 0 | Some h ↦ after_head s h ]) e

module _ (n : ℕ) (ns : List ℕ) (before : Counts) (s : Stand) (place : ℕ) (h : Head) where
  -- the item that a head begins, and what is behind it
  pub item_and_rest : head_of (split n) ≡ Some h → follows h ≤ length ns → words_of (pieces_from (with_one before (section_of h)) (follows h) (suc place) ns) ≡ drop (follows h) ns → words_of (pieces_from before 0 place (n ∷ ns)) ≡ n ∷ ns
  item_and_rest e l more =
      ap (λ o. words_of (read before place n ns o)) (whole_head_is n ns h e l)
      ∙ ap (λ ws. n ∷ (take (follows h) ns ++ ws)) more
      ∙ ap (λ ws. n ∷ ws) (take-append-drop (follows h) ns)

pub whole : (ns : List ℕ) (before : Counts) (x : Section) (c m left place : ℕ) → walk word_tests step (stand x c m left) place ns ≡ clear → (arrive word_tests step (stand x c m left) ns).left ≡ 0 → words_of (pieces_from before left place ns) ≡ drop left ns
whole [] before x c m zero place w a = refl
whole [] before x c m (suc left) place w a = refl
whole (n ∷ ns) before x c m (suc left) place w a = whole ns before x c m left (suc place) (then_clear _ _ w) a
whole (n ∷ ns) before x c m zero place w a =
    headed (words_of (pieces_from before 0 place (n ∷ ns)) ≡ n ∷ ns) place (head_of (split n)) (λ h. tests_of_head (stand x c m 0) h (split n)) (first_clear _ _ w)
    (λ h e.
    let s = stand x c m 0 in
    let st = after_head_is s n h e in
    let w2 : walk word_tests step (after_head s h) (suc place) ns ≡ clear = subst (λ t. walk word_tests step t (suc place) ns ≡ clear) st (then_clear _ _ w) in
    let a2 : (arrive word_tests step (after_head s h) ns).left ≡ 0 = subst (λ t. (arrive word_tests step t ns).left ≡ 0) st a in
    item_and_rest n ns before s place h e (enough (after_head s h) ns a2) (whole ns (with_one before (section_of h)) _ _ _ (follows h) (suc place) w2 a2))

-- ---- together

closed : (size : ℕ) (s : Stand) → first size (end_tests s) ≡ clear → s.left ≡ 0
closed size s e = go (eqb s.left 0) refl e
  where
    go : (b : Bool) → eqb s.left 0 ≡ b → at_place size (cond b (broken ((NoBlock, eqb (rank s.section) 5) ∷ [])) (Some CutShort)) ≡ clear → s.left ≡ 0
    go true t e = eqb-true s.left 0 t
    go false t e = absurd (let z : ◌≡◌ {A = ℕ} 0 1 = cc in omega arith)

pub splits : (ns : List ℕ) → Split ns (pieces ns)
splits ns =
    let r = reach ns (layout ns) in
    let f = from_front no_items 0 0 (take r ns) in
    record {
      front = (f.0 ++ drop r ns, sym (append_assoc (words_of (pieces ns)) f.0 (drop r ns)) ∙ ap (λ l. l ++ drop r ns) f.1 ∙ take-append-drop r ns);
      whole = λ e.
          let onwards : onward (length ns) outset 0 ns ≡ clear = then_clear (first 0 ((TooLong, leb (length ns) 2048) ∷ [])) _ e in
          let all : take r ns ≡ ns = ap (λ x. take (reach ns x) ns) e ∙ take_all (length ns) ns (omega arith) in
          ap (λ l. words_of (pieces_from no_items 0 0 l)) all
          ∙ whole ns no_items Channels 0 0 0 0 (first_clear _ _ onwards) (closed (length ns) (arrive word_tests step outset ns) (then_clear (walk word_tests step outset 0 ns) _ onwards));
      places = in_a_row no_items 0 0 (take r ns);
      numbers = numbered no_items 0 0 (take r ns);
    }
