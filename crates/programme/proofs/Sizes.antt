-- The words of each item that is handed out lie within its section's limits: the layout pass found nothing before its end.
use Rattle.std.proofs.Common.{◌≡◌, ℕ, zero, suc, ◌+◌, ◌≤◌, Bool, true, false, cond, leb, List, [], ◌∷◌, length, take, Some, None, Option, sym, refl, ap, ◌∙◌, subst, zero-add, arith}
use Rattle.std.proofs.lemmas.List.{take_all, length-take-le}
use Rattle.std.proofs.lemmas.Bool.{leb-true, and_parts}
use Rattle.image.specs.declared.head.Head.{Head}
use Rattle.image.specs.declared.head.Head.TheVariants.{Channel, Shape, Signature, Tuple, Block}
use Rattle.image.specs.declared.section.Section.{Section}
use Rattle.image.specs.declared.section.Section.TheVariants.{Channels}
use Rattle.image.specs.declared.counts.Counts.{Counts}
use Rattle.image.specs.declared.rule.LayoutRule.{LayoutRule}
use Rattle.image.specs.declared.rule.LayoutRule.TheVariants.{TooLong}
use Rattle.image.specs.Words.{split}
use Rattle.image.specs.Heads.{head_of, section_of, follows}
use Rattle.image.specs.Counts.{no_items, with_one}
use Rattle.image.specs.Finding.{Finding, clear, fault, Tests, ◌then◌, broken, at_place, first, walk, arrive}
use Rattle.image.specs.Layout.{stand, outset, size_fine, between, counted, cells_of, tests_of_head, no_such_kind, word_tests, step, after_head, end_tests, onward, layout}
use Rattle.image.specs.Items.{Piece, pieces_from, reach, pieces}
use Rattle.image.proofs.Reading.{read}
use Rattle.image.proofs.Splitting.{first_clear, then_clear}
use Rattle.rules.specs.LaidOut.{Every}
use Rattle.programme.specs.Lookup.{WithinLimits}

abbrev pub Limited : Piece → Type 0
Limited p = WithinLimits p.section (length p.words)

-- clear tests are kept
abbrev Kept : {R : Type 0} → Tests R → Type 0
Kept [] = Unit {0}
Kept (t ∷ ts) = (t.1 ≡ true) × Kept ts

kept : {R : Type 0} (place : ℕ) (ts : Tests R) → first place ts ≡ clear → Kept ts
kept place [] e = tt
kept {R} place (t ∷ ts) e = go t.1 e (kept place ts)
  where
    go : (b : Bool) → at_place place (cond b (broken ts) (Some t.0)) ≡ clear → (first place ts ≡ clear → Kept ts) → (b ≡ true) × Kept ts
    go true e more = (refl, more e)
    go false e more = absurd (let z : ◌≡◌ {A = ℕ} 0 1 = cc in omega arith)

-- a walk that finds a fault finds nothing in the words before it
module _ {R S A : Type 0} (tests : S → A → Tests R) (next : S → A → S) where
  before_fault : (xs : List A) (s : S) (p q k : ℕ) (r : R) → walk tests next s p xs ≡ fault r q → p + k ≡ q → walk tests next s p (take k xs) ≡ clear
  before_fault [] s p q k r e l = absurd (let z : ◌≡◌ {A = ℕ} 0 1 = cc in omega arith)
  before_fault (x ∷ xs) s p q zero r e l = refl
  before_fault (x ∷ xs) s p q (suc k) r e l = go (broken (tests s x)) e (λ e. before_fault xs (next s x) (suc p) q k r e (omega arith))
    where
      go : (o : Option R) → (at_place p o then walk tests next (next s x) (suc p) xs) ≡ fault r q → (walk tests next (next s x) (suc p) xs ≡ fault r q → walk tests next (next s x) (suc p) (take k xs) ≡ clear) → (at_place p o then walk tests next (next s x) (suc p) (take k xs)) ≡ clear
      go None e more = more e
      go (Some rule) e more = absurd (let z : p ≡ q = cc in omega arith)

-- ---- the words before the first fault

pub front_clear : (ns : List ℕ) → walk word_tests step outset 0 (take (reach ns (layout ns)) ns) ≡ clear
front_clear ns = go (leb (length ns) 2048)
  where
    all : walk word_tests step outset 0 ns ≡ clear → walk word_tests step outset 0 (take (length ns) ns) ≡ clear
    all e = ap (walk word_tests step outset 0) (take_all (length ns) ns (omega arith)) ∙ e

    far : (f : Finding LayoutRule) → walk word_tests step outset 0 ns ≡ f → (o : Option LayoutRule) → walk word_tests step outset 0 (take (reach ns (f then at_place (length ns) o)) ns) ≡ clear
    far clear e None = all e
    far clear e (Some rule) = all e
    far (fault rule q) e o = before_fault word_tests step ns outset 0 q q rule e (zero-add q)

    go : (b : Bool) → walk word_tests step outset 0 (take (reach ns (at_place 0 (cond b None (Some TooLong)) then onward (length ns) outset 0 ns)) ns) ≡ clear
    go true = far (walk word_tests step outset 0 ns) refl (broken (end_tests (arrive word_tests step outset ns)))
    go false = refl

-- ---- sizes

between_is : (low high n : ℕ) → between low high n ≡ true → (low ≤ n) × (n ≤ high)
between_is low high n e = let b = and_parts (leb low n) (leb n high) e in (leb-true low n b.0, leb-true n high b.1)

by_head : (h : Head) → size_fine h ≡ true → WithinLimits (section_of h) (suc (follows h))
by_head (Channel label) e = (omega arith, omega arith)
by_head (Shape cells) e = let b = between_is 1 16 cells e in (omega arith, omega arith)
by_head (Signature context depth) e = let high = leb-true depth 32 e in (omega arith, omega arith)
by_head (Tuple shape cells) e = let b = between_is 1 16 cells e in (omega arith, omega arith)
by_head (Block signature words) e = let b = between_is 1 64 words e in (omega arith, omega arith)

limited : (ns : List ℕ) (before : Counts) (x : Section) (c m left place : ℕ) → walk word_tests step (stand x c m left) place ns ≡ clear → Every Limited (pieces_from before left place ns)
limited [] before x c m zero place w = tt
limited [] before x c m (suc left) place w = tt
limited (n ∷ ns) before x c m (suc left) place w = limited ns before x c m left (suc place) (then_clear _ _ w)
limited (n ∷ ns) before x c m zero place w =
    go (head_of (split n)) (first_clear _ _ w) (then_clear _ _ w)
    (λ h v. limited ns (with_one before (section_of h)) (section_of h) (counted (stand x c m 0) h) (m + cells_of h) (follows h) (suc place) v)
  where
    fit : (h : Head) (b : Bool) → leb (follows h) (length ns) ≡ b → WithinLimits (section_of h) (suc (follows h)) → Every Limited (pieces_from (with_one before (section_of h)) (follows h) (suc place) ns) → Every Limited (read before place n ns (cond b (Some h) None))
    fit h false l size more = tt
    fit h true l size more = (subst (λ k. WithinLimits (section_of h) (suc k)) (sym (length-take-le (follows h) ns (leb-true _ _ l))) size, more)

    go : (o : Option Head) → first place (elim o [ None ↦ no_such_kind | Some h ↦ tests_of_head (stand x c m 0) h (split n) ]) ≡ clear → walk word_tests step (elim o [ None ↦ stand x c m 0 | Some h ↦ after_head (stand x c m 0) h ]) (suc place) ns ≡ clear → ((h : Head) → walk word_tests step (after_head (stand x c m 0) h) (suc place) ns ≡ clear → Every Limited (pieces_from (with_one before (section_of h)) (follows h) (suc place) ns)) → Every Limited (read before place n ns (elim o [ None ↦ None | Some h ↦ cond (leb (follows h) (length ns)) (Some h) None ]))
    go None t v more = tt
    go (Some h) t v more = fit h (leb (follows h) (length ns)) refl (by_head h (kept place (tests_of_head (stand x c m 0) h (split n)) t).1.1.1.0) (more h v)

pub within_limits : (ns : List ℕ) → Every Limited (pieces ns)
within_limits ns = limited (take (reach ns (layout ns)) ns) no_items Channels 0 0 0 0 (front_clear ns)
