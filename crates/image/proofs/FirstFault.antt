-- The layout pass answers the earliest word, and there the lowest number.
use Rattle.std.proofs.Common.{◌≡◌, ℕ, zero, suc, ◌+◌, ◌<◌, ◌≤◌, Bool, true, false, cond, eqb, leb, List, length, get_or, take, Some, None, Option, sym, refl, ap, ◌∙◌, inl, inr, ⊎_elim, zero-add, arith}
use Rattle.std.proofs.lemmas.Bool.{lt-ltb, le-ltb, true≢false}
use Rattle.image.specs.declared.rule.LayoutRule.{LayoutRule}
use Rattle.image.specs.declared.rule.LayoutRule.TheVariants.{TooLong, KindOutOfPlace, FieldNotZero, CutShort, TooManyItems, SizeOutOfRange, TooManyCells, NoBlock}
use Rattle.image.specs.declared.section.Section.{Section}
use Rattle.image.specs.declared.section.Section.TheVariants.{Channels, Shapes, Signatures, Tuples, Blocks}
use Rattle.image.specs.Layout.{Stand}
use Rattle.image.specs.declared.word.Word.{Word}
use Rattle.image.specs.Words.{split}
use Rattle.image.specs.Heads.{head_of}
use Rattle.image.specs.Types.{type_of}
use Rattle.image.specs.Instructions.{instruction_of}
use Rattle.image.specs.Finding.{Finding, clear, fault, Tests, ◌then◌, at_place, arrive}
use Rattle.image.specs.Earliest.{Breaks, EarliestAndLowest}
use Rattle.image.specs.Layout.{number_of, stand, outset, no_such_kind, inner_tests, word_tests, step, end_tests, onward, layout, place_tests, asked_at}
use Rattle.image.proofs.Earliest.{Ascending, FromOn, walked}

abbrev Rising : Tests LayoutRule → Type 0
Rising = Ascending number_of 2

-- where a word is no head, type or instruction, its kind is out of place; else its other tests ascend
by_kind : {A : Type 0} (o : Option A) (tests : A → Tests LayoutRule) → ((x : A) → Rising (tests x)) → Rising (elim o [ None ↦ no_such_kind | Some x ↦ tests x ])
by_kind None tests h = (omega arith, tt)
by_kind (Some x) tests h = h x

inner_rising : (section : Section) (behind : ℕ) (w : Word) → Rising (inner_tests section behind w)
inner_rising Channels behind w = tt
inner_rising Shapes behind w = by_kind (type_of w) _ (λ t. (omega arith, (omega arith, tt)))
inner_rising Signatures behind w = by_kind (type_of w) _ (λ t. (omega arith, (omega arith, tt)))
inner_rising Tuples behind w = tt
inner_rising Blocks behind w = by_kind (instruction_of (eqb behind 0) w) _ (λ i. (omega arith, tt))

word_rising : (s : Stand) (n : ℕ) → Rising (word_tests s n)
word_rising s n = go s.left
  where
    go : (left : ℕ) → Rising (word_tests (stand s.section s.count s.cells left) n)
    go zero = by_kind (head_of (split n)) _ (λ h. (omega arith, (omega arith, (omega arith, (omega arith, (omega arith, tt))))))
    go (suc behind) = inner_rising s.section behind (split n)

end_rising : (s : Stand) → Rising (end_tests s)
end_rising s = (omega arith, (omega arith, tt))

-- the walk asks at each place what is asked there
module _ (ns : List ℕ) where
  at_word : (i : ℕ) → i < length ns → place_tests ns (0 + i) ≡ word_tests (arrive word_tests step outset (take i ns)) (get_or ns i 0)
  at_word i h =
      ap (place_tests ns) (zero-add i)
      ∙ ap (λ b. cond b (word_tests (arrive word_tests step outset (take i ns)) (get_or ns i 0)) (end_tests (arrive word_tests step outset ns))) (lt-ltb i (length ns) h)

  at_end : place_tests ns (length ns) ≡ end_tests (arrive word_tests step outset ns)
  at_end =
      ap (λ b. cond b (word_tests (arrive word_tests step outset (take (length ns) ns)) (get_or ns (length ns) 0)) (end_tests (arrive word_tests step outset ns))) (le-ltb (length ns) (length ns) (omega arith))

  from_front : FromOn number_of (place_tests ns) 0 (length ns) (onward (length ns) outset 0 ns)
  from_front = walked number_of word_tests step end_tests (place_tests ns) 0 2 word_rising end_rising ns outset 0 (length ns) (sym (zero-add (length ns))) at_word at_end

  -- in an image that is not too long nothing more is asked
  module _ (short : leb (length ns) 2048 ≡ true) where
    breaks : (i : ℕ) (rule : LayoutRule) → Breaks (asked_at ns i) rule → Breaks (place_tests ns i) rule
    breaks zero rule b = ⊎_elim (λ e. absurd (true≢false (sym short ∙ e.1))) (λ x. x) b
    breaks (suc i) rule b = b

    breaks_too : (i : ℕ) (rule : LayoutRule) → Breaks (place_tests ns i) rule → Breaks (asked_at ns i) rule
    breaks_too zero rule b = inr b
    breaks_too (suc i) rule b = b

    asked : (f : Finding LayoutRule) → FromOn number_of (place_tests ns) 0 (length ns) f → EarliestAndLowest number_of (asked_at ns) (length ns) f
    asked clear h = λ i l rule b. h i (omega arith) l rule (breaks i rule b)
    asked (fault rule place) h =
        record {
          within = h.within;
          breaks = breaks_too place rule h.breaks;
          earliest = λ i l other b. h.earliest i (omega arith) l other (breaks i other b);
          lowest = λ other b. h.lowest other (breaks place other b);
        }

numbered : (rule : LayoutRule) → 1 ≤ number_of rule
numbered TooLong = omega arith
numbered KindOutOfPlace = omega arith
numbered FieldNotZero = omega arith
numbered CutShort = omega arith
numbered TooManyItems = omega arith
numbered SizeOutOfRange = omega arith
numbered TooManyCells = omega arith
numbered NoBlock = omega arith

pub first_fault : (ns : List ℕ) → EarliestAndLowest number_of (asked_at ns) (length ns) (layout ns)
first_fault ns = go (leb (length ns) 2048) refl
  where
    go : (b : Bool) → leb (length ns) 2048 ≡ b → EarliestAndLowest number_of (asked_at ns) (length ns) (at_place 0 (cond b None (Some TooLong)) then onward (length ns) outset 0 ns)
    go true short = asked ns short (onward (length ns) outset 0 ns) (from_front ns)
    go false long =
        record { within = omega arith; breaks = inl (refl, long); earliest = λ i l. absurd (omega arith); lowest = λ other b. numbered other }
