-- A programme within its limits is, in its parts, a row in order and within the limits; and its parts put together are the programme.
use Rattle.std.proofs.Common.{◌≡◌, ℕ, suc, ◌+◌, ◌<◌, ◌≤◌, Bool, true, false, cond, eqb, List, [], ◌∷◌, ◌++◌, map, length, sym, refl, ap, subst, add-zero, add_assoc, arith}
use lib.ListN.{length-map}
use Rattle.std.proofs.lemmas.Bool.{eq-eqb, ne_eqb}
use Rattle.image.specs.declared.section.Section.{Section}
use Rattle.image.specs.declared.section.Section.TheVariants.{Channels, Shapes, Signatures, Tuples, Blocks}
use Rattle.image.specs.declared.ty.Ty.{Ty}
use Rattle.image.specs.Sections.{rank, most}
use Rattle.image.specs.Heads.{section_of}
use Rattle.image.specs.Layout.{cells_of}
use Rattle.rules.specs.Program.{Signature, Tuple, Block, Program}
use Rattle.rules.specs.Says.{Part, a_channel, a_shape, a_signature, a_tuple, a_block, with_part, together}
use Rattle.rules.specs.Written.{head_for, parts_of}
use Rattle.rules.specs.LaidOut.{Every, ShapeLaid, SignatureLaid, TupleLaid, BlockLaid, all_cells, IsLaidOut}
use Rattle.rules.proofs.ItemWords.{PartLaid}
use Rattle.rules.proofs.Rows.{Row}

-- ---- a run of parts of one section

-- how many parts of section z there are so far, where the pass stands in section x with a count
abbrev so_far : Section → ℕ → Section → ℕ
so_far x count z = cond (eqb (rank z) (rank x)) count 0

one_more : (b : Bool) (count : ℕ) → cond b (suc count) 1 ≡ suc (cond b count 0)
one_more true count = refl
one_more false count = refl

abbrev cells_in : List Part → ℕ
cells_in [] = 0
cells_in (y ∷ ys) = cells_of (head_for y) + cells_in ys

-- what is behind a run from section x in section z: the pass then stands in z, or where there is no part still in x
abbrev Behind : Section → Section → ℕ → ℕ → List Part → Type 0
Behind x z size cells rest = (s : Section) (count : ℕ) → rank x ≤ rank s → rank s ≤ rank z → (1 ≤ size → rank z ≤ rank s) → Row s count cells rest

abbrev In : Section → Part → Type 0
In z y = (section_of (head_for y) ≡ z) × PartLaid y

run : (z x : Section) (count cells : ℕ) (ys rest : List Part) → rank x ≤ rank z → Every (In z) ys → so_far x count z + length ys ≤ most z → cells + cells_in ys ≤ 256 → Behind x z (length ys) (cells + cells_in ys) rest → Row x count cells (ys ++ rest)
run z x count cells [] rest o a l k f = subst (λ n. Row x count n rest) (add-zero cells) (f x count (omega arith) o (λ h. absurd (omega arith)))
run z x count cells (y ∷ ys) rest o a l k f =
    let e = a.0.0 in
    let m = cells_of (head_for y) in
    let c = cond (eqb (rank z) (rank x)) (suc count) 1 in
    let ce = one_more (eqb (rank z) (rank x)) count in
    let here : so_far z c z ≡ c = ap (λ b. cond b c 0) (eq-eqb (rank z) (rank z) refl) in
    let more =
    run z z c (cells + m) ys rest (omega arith) a.1 (omega arith) (omega arith)
    (λ s count p q h. subst (λ n. Row s count n rest) (sym (add_assoc cells m (cells_in ys))) (f s count (omega arith) q (λ j. p))) in (
      a.0.1,
      subst (λ (j : Section). (rank x ≤ rank j) × (cond (eqb (rank j) (rank x)) (suc count) 1 ≤ most j) × (cells + m ≤ 256) × Row j (cond (eqb (rank j) (rank x)) (suc count) 1) (cells + m) (ys ++ rest)) (sym e)
          (o, omega arith, omega arith, more),
    )

-- ---- a run of one section's parts of a programme

module _ {A : Type 0} (z : Section) (f : A → Part) (e : (x : A) → section_of (head_for (f x)) ≡ z) (P : A → Type 0) (laid : (x : A) → P x → PartLaid (f x)) where
  in_section : (xs : List A) → Every P xs → Every (In z) (map f xs)
  in_section [] h = tt
  in_section (x ∷ xs) h = ((e x, laid x h.0), in_section xs h.1)

  run_of : (x : Section) (count cells : ℕ) (xs : List A) (rest : List Part) → rank x < rank z → Every P xs → length xs ≤ most z → cells + cells_in (map f xs) ≤ 256 → Behind x z (length xs) (cells + cells_in (map f xs)) rest → Row x count cells (map f xs ++ rest)
  run_of x count cells xs rest o h l k b =
      let m = length-map xs f in
      let n : so_far x count z ≡ 0 = ap (λ b. cond b count 0) (ne_eqb (rank z) (rank x) (λ e. omega arith)) in
      run z x count cells (map f xs) rest (omega arith) (in_section xs h) (omega arith) k (λ s c p q j. b s c p q (λ g. j (omega arith)))

  -- where no part has cells
  module _ (none : (x : A) → cells_of (head_for (f x)) ≡ 0) where
    no_cells : (xs : List A) → cells_in (map f xs) ≡ 0
    no_cells [] = refl
    no_cells (x ∷ xs) = let a = none x in let b = no_cells xs in omega arith

    still : (cells : ℕ) (xs : List A) → cells ≡ cells + cells_in (map f xs)
    still cells xs = let a = no_cells xs in omega arith

    run_plain : (x : Section) (count cells : ℕ) (xs : List A) (rest : List Part) → rank x < rank z → Every P xs → length xs ≤ most z → cells ≤ 256 → Behind x z (length xs) cells rest → Row x count cells (map f xs ++ rest)
    run_plain x count cells xs rest o h l k b =
        run_of x count cells xs rest o h l (subst (λ n. n ≤ 256) (still cells xs) k) (λ s c p q j. subst (λ n. Row s c n rest) (still cells xs) (b s c p q j))

tuple_cells : (ts : List Tuple) → cells_in (map a_tuple ts) ≡ all_cells ts
tuple_cells [] = refl
tuple_cells (t ∷ ts) = ap (λ n. length t.words + n) (tuple_cells ts)

append_nil : {A : Type 0} (xs : List A) → xs ++ [] ≡ xs
append_nil [] = refl
append_nil (x ∷ xs) = ap (λ ys. x ∷ ys) (append_nil xs)

-- ---- section after section, from the last to the first

module _ (ns : List ℕ) (p : Program) (h : IsLaidOut ns p) where
  abbrev from_blocks : List Part
  from_blocks = map a_block p.blocks

  abbrev from_tuples : List Part
  from_tuples = map a_tuple p.tuples ++ from_blocks

  abbrev from_signatures : List Part
  from_signatures = map a_signature p.signatures ++ from_tuples

  abbrev from_shapes : List Part
  from_shapes = map a_shape p.shapes ++ from_signatures

  blocks_row : (x : Section) (count cells : ℕ) → rank x ≤ 4 → cells ≤ 256 → Row x count cells from_blocks
  blocks_row x count cells l k =
      subst (Row x count cells) (append_nil from_blocks)
      (run_plain Blocks a_block (λ x. refl) BlockLaid (λ x h. h) (λ x. refl) x count cells p.blocks [] (omega arith) h.blocks.2 h.blocks.1 k
      (λ s c a b j. let g = j h.blocks.0 in omega arith))

  tuples_row : (x : Section) (count : ℕ) → rank x ≤ 3 → Row x count 0 from_tuples
  tuples_row x count l =
      let e = tuple_cells p.tuples in
      let (few, cells, laid) = h.tuples in
      let k : 0 + cells_in (map a_tuple p.tuples) ≤ 256 = omega arith in
      run_of Tuples a_tuple (λ x. refl) TupleLaid (λ x h. h) x count 0 p.tuples from_blocks (omega arith) laid few k (λ s c a b j. blocks_row s c (0 + cells_in (map a_tuple p.tuples)) b k)

  signatures_row : (x : Section) (count : ℕ) → rank x ≤ 2 → Row x count 0 from_signatures
  signatures_row x count l =
      run_plain Signatures a_signature (λ x. refl) SignatureLaid (λ x h. h) (λ x. refl) x count 0 p.signatures from_tuples (omega arith) h.signatures.1 h.signatures.0 (omega arith)
      (λ s c a b j. tuples_row s c b)

  shapes_row : (x : Section) (count : ℕ) → rank x ≤ 1 → Row x count 0 from_shapes
  shapes_row x count l =
      run_plain Shapes a_shape (λ x. refl) ShapeLaid (λ x h. h) (λ x. refl) x count 0 p.shapes from_signatures (omega arith) h.shapes.1 h.shapes.0 (omega arith)
      (λ s c a b j. signatures_row s c b)

  pub unlaid : Row Channels 0 0 (parts_of p)
  unlaid =
      let m = length-map p.channels a_channel in
      let n = no_cells Channels a_channel (λ x. refl) (λ l. l < 256) (λ x h. h) (λ x. refl) p.channels in
      run Channels Channels 0 0 (map a_channel p.channels) from_shapes (omega arith) (in_section Channels a_channel (λ x. refl) (λ l. l < 256) (λ x h. h) p.channels h.channels.1)
      (let few = h.channels.0 in omega arith) (omega arith)
      (λ s c a b j. subst (λ n. Row s c n from_shapes) (still Channels a_channel (λ x. refl) (λ l. l < 256) (λ x h. h) (λ x. refl) 0 p.channels) (shapes_row s c b))

-- ---- the parts of a programme put together again

abbrev five : List ℕ → List (List Ty) → List Signature → List Tuple → List Block → Program
five cs hs ss ts bs = record { channels = cs; shapes = hs; signatures = ss; tuples = ts; blocks = bs }

blocks_again : (bs : List Block) → together (map a_block bs) ≡ five [] [] [] [] bs
blocks_again [] = refl
blocks_again (b ∷ bs) = ap (with_part (a_block b)) (blocks_again bs)

tuples_again : (ts : List Tuple) (xs : List Part) (bs : List Block) → together xs ≡ five [] [] [] [] bs → together (map a_tuple ts ++ xs) ≡ five [] [] [] ts bs
tuples_again [] xs bs e = e
tuples_again (t ∷ ts) xs bs e = ap (with_part (a_tuple t)) (tuples_again ts xs bs e)

signatures_again : (ss : List Signature) (xs : List Part) (ts : List Tuple) (bs : List Block) → together xs ≡ five [] [] [] ts bs → together (map a_signature ss ++ xs) ≡ five [] [] ss ts bs
signatures_again [] xs ts bs e = e
signatures_again (s ∷ ss) xs ts bs e = ap (with_part (a_signature s)) (signatures_again ss xs ts bs e)

shapes_again : (hs : List (List Ty)) (xs : List Part) (ss : List Signature) (ts : List Tuple) (bs : List Block) → together xs ≡ five [] [] ss ts bs → together (map a_shape hs ++ xs) ≡ five [] hs ss ts bs
shapes_again [] xs ss ts bs e = e
shapes_again (h ∷ hs) xs ss ts bs e = ap (with_part (a_shape h)) (shapes_again hs xs ss ts bs e)

channels_again : (cs : List ℕ) (xs : List Part) (hs : List (List Ty)) (ss : List Signature) (ts : List Tuple) (bs : List Block) → together xs ≡ five [] hs ss ts bs → together (map a_channel cs ++ xs) ≡ five cs hs ss ts bs
channels_again [] xs hs ss ts bs e = e
channels_again (c ∷ cs) xs hs ss ts bs e = ap (with_part (a_channel c)) (channels_again cs xs hs ss ts bs e)

pub together_again : (p : Program) → together (parts_of p) ≡ p
together_again p =
    channels_again p.channels _ p.shapes p.signatures p.tuples p.blocks
    (shapes_again p.shapes _ p.signatures p.tuples p.blocks
    (signatures_again p.signatures _ p.tuples p.blocks (tuples_again p.tuples _ p.blocks (blocks_again p.blocks))))
