-- The items of an image section by section: they are the programme's parts, and the n-th of a section is the one of number n.
use Rattle.std.proofs.Common.{◌≡◌, ℕ, zero, suc, ◌+◌, Bool, true, false, cond, ◌&&◌, eqb, List, [], ◌∷◌, map, length, get_or, take, drop, Some, sym, refl, ap, ◌∙◌, subst, add-zero, zero-add, arith}
use Rattle.std.specs.List.{slice_get}
use Rattle.std.specs.Option.{option_map}
use Rattle.std.proofs.lemmas.List.{length-map}
use Rattle.std.proofs.lemmas.Bool.{eq-eqb, ne_eqb, eqb-true}
use Rattle.image.specs.declared.section.Section.{Section}
use Rattle.image.specs.declared.section.Section.TheVariants.{Channels, Shapes, Signatures, Tuples, Blocks}
use Rattle.image.specs.declared.counts.Counts.{Counts}
use Rattle.image.specs.declared.survey.Survey.{Survey}
use Rattle.image.specs.declared.ty.Ty.{Ty}
use Rattle.image.specs.declared.head.Context.{Context}
use Rattle.image.specs.declared.word.Word.{Word}
use Rattle.image.specs.Words.{split}
use Rattle.image.specs.Heads.{context_of}
use Rattle.image.specs.Sections.{rank}
use Rattle.image.specs.Counts.{no_items, count_of, with_one}
use Rattle.image.specs.Items.{Piece, piece, pieces}
use Rattle.image.specs.Splits.{Numbered}
use Rattle.image.specs.Surveys.{nothing_seen, with_item, surveyed}
use Rattle.image.proofs.Splitting.{splits}
use Rattle.rules.specs.Program.{Signature, Tuple, Block, Program}
use Rattle.rules.specs.LaidOut.{Every}
use Rattle.rules.specs.Says.{type_in, body_of, says, with_part, program, program_of}
use Rattle.programme.specs.Lookup.{same_section, nth_piece}
use Rattle.programme.specs.Spelled.{count_in}

-- the items of a section
abbrev pub of_section : Section → List Piece → List Piece
of_section s [] = []
of_section s (p ∷ ps) = cond (same_section p.section s) (p ∷ of_section s ps) (of_section s ps)

each : (P : Section → Type 0) → P Channels → P Shapes → P Signatures → P Tuples → P Blocks → (s : Section) → P s
each P a b c d e Channels = a
each P a b c d e Shapes = b
each P a b c d e Signatures = c
each P a b c d e Tuples = d
each P a b c d e Blocks = e

-- ---- what the items of each section say

abbrev pub head_in : Piece → Word
head_in p = split (get_or p.words 0 0)

abbrev pub behind : Piece → List ℕ
behind p = drop 1 p.words

abbrev pub channel_in : Piece → ℕ
channel_in p = (head_in p).c

abbrev pub shape_from : List ℕ → List Ty
shape_from ns = map type_in ns

abbrev pub shape_in : Piece → List Ty
shape_in p = shape_from (behind p)

abbrev pub signature_from : Context → List ℕ → Signature
signature_from context ns = record { context = context; types = record { registers = map type_in (take 8 ns); slots = map type_in (drop 8 ns) } }

abbrev pub signature_in : Piece → Signature
signature_in p = signature_from (context_of (head_in p)) (behind p)

abbrev pub tuple_from : Word → List ℕ → Tuple
tuple_from head ns = record { shape = head.c; words = ns }

abbrev pub tuple_in : Piece → Tuple
tuple_in p = tuple_from (head_in p) (behind p)

abbrev pub block_from : Word → List ℕ → Block
block_from head ns = record { signature = head.b; body = body_of ns }

abbrev pub block_in : Piece → Block
block_in p = block_from (head_in p) (behind p)

abbrev pub by_sections : List Piece → Program
by_sections ps =
    record {
      channels = map channel_in (of_section Channels ps);
      shapes = map shape_in (of_section Shapes ps);
      signatures = map signature_in (of_section Signatures ps);
      tuples = map tuple_in (of_section Tuples ps);
      blocks = map block_in (of_section Blocks ps);
    }

pub program_is : (ps : List Piece) → program ps ≡ by_sections ps
program_is [] = refl
program_is (p ∷ ps) =
    ap (with_part (says p)) (program_is ps)
    ∙ each (λ s. let q = piece s p.place p.number p.words in with_part (says q) (by_sections ps) ≡ by_sections (q ∷ ps)) refl refl refl refl refl p.section

-- ---- numbers

counted_again : (n : Counts) (s t : Section) → count_of (with_one n s) t ≡ cond (same_section s t) (count_of n t + 1) (count_of n t)
counted_again n =
    each (λ s. (t : Section) → count_of (with_one n s) t ≡ cond (same_section s t) (count_of n t + 1) (count_of n t))
    (each _ refl refl refl refl refl)
    (each _ refl refl refl refl refl)
    (each _ refl refl refl refl refl)
    (each _ refl refl refl refl refl)
    (each _ refl refl refl refl refl)

-- a section by its rank
by_rank : ℕ → Section
by_rank n = get_or (Channels ∷ Channels ∷ Shapes ∷ Signatures ∷ Tuples ∷ Blocks ∷ []) n Channels

by_rank_rank : (s : Section) → by_rank (rank s) ≡ s
unfolding by_rank
by_rank_rank = each _ refl refl refl refl refl

pub same_is : (s t : Section) → same_section s t ≡ true → s ≡ t
same_is s t e = sym (by_rank_rank s) ∙ ap by_rank (eqb-true (rank s) (rank t) e) ∙ by_rank_rank t

-- after so many items, the k-th one more of a section is the k-th that is left of it
numbered_nth : (s : Section) (ps : List Piece) (before : Counts) (k : ℕ) → Numbered before ps → nth_piece s (count_of before s + k) ps ≡ slice_get (of_section s ps) k
numbered_nth s [] before k h = refl
numbered_nth s (p ∷ ps) before k h = go (same_section p.section s) refl k (λ j. numbered_nth s ps (with_one before p.section) j h.1)
  where
    go : (b : Bool) → same_section p.section s ≡ b → (k : ℕ) → ((j : ℕ) → nth_piece s (count_of (with_one before p.section) s + j) ps ≡ slice_get (of_section s ps) j) → cond (b && eqb p.number (count_of before s + k)) (Some p) (nth_piece s (count_of before s + k) ps) ≡ slice_get (cond b (p ∷ of_section s ps) (of_section s ps)) k
    go false e k more =
        let c : count_of (with_one before p.section) s ≡ count_of before s = counted_again before p.section s ∙ ap (λ b. cond b (count_of before s + 1) (count_of before s)) e in
        ap (λ c. nth_piece s (c + k) ps) (sym c) ∙ more k
    go true e zero more =
        let here : p.number ≡ count_of before s + 0 = h.0 ∙ ap (count_of before) (same_is p.section s e) ∙ sym (add-zero (count_of before s)) in
        ap (λ b. cond b (Some p) (nth_piece s (count_of before s + 0) ps)) (eq-eqb p.number (count_of before s + 0) here)
    go true e (suc k) more =
        let c : count_of (with_one before p.section) s ≡ count_of before s + 1 = counted_again before p.section s ∙ ap (λ b. cond b (count_of before s + 1) (count_of before s)) e in
        let here : p.number ≡ count_of before s = h.0 ∙ ap (count_of before) (same_is p.section s e) in
        let far : count_of before s + suc k ≡ count_of (with_one before p.section) s + k = omega arith in
        ap (λ b. cond b (Some p) (nth_piece s (count_of before s + suc k) ps)) (ne_eqb p.number (count_of before s + suc k) (λ z. omega arith))
        ∙ ap (λ n. nth_piece s n ps) far
        ∙ more k

nth_map : {X Y : Type 0} (f : X → Y) (xs : List X) (n : ℕ) → slice_get (map f xs) n ≡ option_map f (slice_get xs n)
nth_map f [] n = refl
nth_map f (x ∷ xs) zero = refl
nth_map f (x ∷ xs) (suc n) = nth_map f xs n

none_before : (s : Section) → count_of no_items s ≡ 0
none_before = each _ refl refl refl refl refl

-- what the item of the section and number n says is what the n-th item of the section says
looked_up : {X : Type 0} (f : Piece → X) (s : Section) (ps : List Piece) (n : ℕ) → Numbered no_items ps → option_map f (nth_piece s n ps) ≡ slice_get (map f (of_section s ps)) n
looked_up f s ps n h =
    let z = none_before s in
    let k : n ≡ count_of no_items s + n = omega arith in
    ap (λ k. option_map f (nth_piece s k ps)) k ∙ ap (option_map f) (numbered_nth s ps no_items n h) ∙ sym (nth_map f (of_section s ps) n)

-- an item that is found is one of the items
pub found_in : (P : Piece → Type 0) (s : Section) (n : ℕ) (ps : List Piece) → Every P ps → (p : Piece) → Some p ≡ nth_piece s n ps → P p
found_in P s n [] h p e = absurd (let z : ◌≡◌ {A = ℕ} 0 1 = cc in omega arith)
found_in P s n (q ∷ ps) h p e = go (same_section q.section s && eqb q.number n) e (found_in P s n ps h.1 p)
  where
    go : (b : Bool) → Some p ≡ cond b (Some q) (nth_piece s n ps) → (Some p ≡ nth_piece s n ps → P p) → P p
    go true e more = let same : q ≡ p = cc in subst P same h.0
    go false e more = more e

-- ---- counts

counted_up : (ps : List Piece) (before : Survey) (s : Section) → count_of (surveyed before ps).counts s ≡ count_of before.counts s + length (of_section s ps)
counted_up [] before s = sym (add-zero (count_of before.counts s))
counted_up (p ∷ ps) before s =
    counted_up ps (with_item before p.section (length p.words)) s
    ∙ ap (λ c. c + length (of_section s ps)) (counted_again before.counts p.section s)
    ∙ go (same_section p.section s)
  where
    go : (b : Bool) → cond b (count_of before.counts s + 1) (count_of before.counts s) + length (of_section s ps) ≡ count_of before.counts s + length (cond b (p ∷ of_section s ps) (of_section s ps))
    go true = omega arith
    go false = refl

pub count_is : (ps : List Piece) (s : Section) → count_of (surveyed nothing_seen ps).counts s ≡ count_in (program ps) s
count_is ps s =
    counted_up ps nothing_seen s
    ∙ ap (λ c. c + length (of_section s ps)) (none_before s)
    ∙ zero-add (length (of_section s ps))
    ∙ each (λ s. length (of_section s ps) ≡ count_in (by_sections ps) s) (sym (length-map _ _)) (sym (length-map _ _)) (sym (length-map _ _)) (sym (length-map _ _)) (sym (length-map _ _)) s
    ∙ ap (λ q. count_in q s) (sym (program_is ps))

-- ---- lookups

module _ {X : Type 0} (list : Program → List X) (f : Piece → X) (s : Section) (lists : (ps : List Piece) → list (by_sections ps) ≡ map f (of_section s ps)) where
  said : (ns : List ℕ) (n : ℕ) → option_map f (nth_piece s n (pieces ns)) ≡ slice_get (list (program_of ns)) n
  said ns n =
      looked_up f s (pieces ns) n (splits ns).numbers ∙ ap (λ l. slice_get l n) (sym (lists (pieces ns))) ∙ ap (λ q. slice_get (list q) n) (sym (program_is (pieces ns)))

pub channel_said : (ns : List ℕ) (n : ℕ) → option_map channel_in (nth_piece Channels n (pieces ns)) ≡ slice_get (program_of ns).channels n
channel_said = said (λ q. q.channels) channel_in Channels (λ ps. refl)

pub shape_said : (ns : List ℕ) (n : ℕ) → option_map shape_in (nth_piece Shapes n (pieces ns)) ≡ slice_get (program_of ns).shapes n
shape_said = said (λ q. q.shapes) shape_in Shapes (λ ps. refl)

pub signature_said : (ns : List ℕ) (n : ℕ) → option_map signature_in (nth_piece Signatures n (pieces ns)) ≡ slice_get (program_of ns).signatures n
signature_said = said (λ q. q.signatures) signature_in Signatures (λ ps. refl)

pub tuple_said : (ns : List ℕ) (n : ℕ) → option_map tuple_in (nth_piece Tuples n (pieces ns)) ≡ slice_get (program_of ns).tuples n
tuple_said = said (λ q. q.tuples) tuple_in Tuples (λ ps. refl)

pub block_said : (ns : List ℕ) (n : ℕ) → option_map block_in (nth_piece Blocks n (pieces ns)) ≡ slice_get (program_of ns).blocks n
block_said = said (λ q. q.blocks) block_in Blocks (λ ps. refl)
