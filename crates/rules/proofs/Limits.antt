-- A row of parts in order and within the limits is a programme written down, within its limits.
use Rattle.std.proofs.Common.{◌≡◌, ℕ, suc, ◌+◌, ◌<◌, ◌≤◌, Bool, true, false, cond, eqb, ◌⊎◌, List, [], ◌∷◌, length, get_or, sym, refl, ap, ◌∙◌, subst, inl, inr, arith}
use Rattle.std.proofs.lemmas.Bool.{eqb-true, eqb-false, cases_lt}
use Rattle.image.specs.declared.section.Section.{Section}
use Rattle.image.specs.declared.section.Section.TheVariants.{Channels, Shapes, Signatures, Tuples, Blocks}
use Rattle.image.specs.Sections.{rank, most}
use Rattle.image.specs.Heads.{section_of}
use Rattle.image.specs.Layout.{stand, counted, cells_of}
use Rattle.rules.specs.Program.{Program}
use Rattle.rules.specs.Says.{Part, a_channel, a_shape, a_signature, a_tuple, a_block, no_program, with_part, together}
use Rattle.rules.specs.Written.{head_for, written, parts_of}
use Rattle.rules.specs.LaidOut.{Every, ShapeLaid, SignatureLaid, TupleLaid, BlockLaid, all_cells, IsLaidOut}
use Rattle.rules.proofs.Rows.{Row}

-- ---- how many parts of a section there are

abbrev size_in : Section → Program → ℕ
size_in Channels p = length p.channels
size_in Shapes p = length p.shapes
size_in Signatures p = length p.signatures
size_in Tuples p = length p.tuples
size_in Blocks p = length p.blocks

abbrev Grown : Section → Part → Program → Type 0
Grown z y p = size_in z (with_part y p) ≡ cond (eqb (rank z) (rank (section_of (head_for y)))) (suc (size_in z p)) (size_in z p)

grows : (z : Section) (y : Part) (p : Program) → Grown z y p
grows z (a_channel l) p = elim z as (λ z. Grown z (a_channel l) p) [ Channels ↦ refl | Shapes ↦ refl | Signatures ↦ refl | Tuples ↦ refl | Blocks ↦ refl ]
grows z (a_shape ts) p = elim z as (λ z. Grown z (a_shape ts) p) [ Channels ↦ refl | Shapes ↦ refl | Signatures ↦ refl | Tuples ↦ refl | Blocks ↦ refl ]
grows z (a_signature s) p = elim z as (λ z. Grown z (a_signature s) p) [ Channels ↦ refl | Shapes ↦ refl | Signatures ↦ refl | Tuples ↦ refl | Blocks ↦ refl ]
grows z (a_tuple t) p = elim z as (λ z. Grown z (a_tuple t) p) [ Channels ↦ refl | Shapes ↦ refl | Signatures ↦ refl | Tuples ↦ refl | Blocks ↦ refl ]
grows z (a_block b) p = elim z as (λ z. Grown z (a_block b) p) [ Channels ↦ refl | Shapes ↦ refl | Signatures ↦ refl | Tuples ↦ refl | Blocks ↦ refl ]

nothing : (z : Section) → size_in z no_program ≡ 0
nothing z = elim z as (λ z. size_in z no_program ≡ 0) [ Channels ↦ refl | Shapes ↦ refl | Signatures ↦ refl | Tuples ↦ refl | Blocks ↦ refl ]

-- the room of a section goes by its rank
same_room : (x z : Section) → rank z ≡ rank x → most z ≡ most x
same_room x z e = by_rank z ∙ ap room e ∙ sym (by_rank x)
  where
    room : ℕ → ℕ
    room k = get_or (0 ∷ 16 ∷ 32 ∷ 64 ∷ 64 ∷ 128 ∷ []) k 0

    by_rank : (x : Section) → most x ≡ room (rank x)
    by_rank x = elim x as (λ x. most x ≡ room (rank x)) [ Channels ↦ refl | Shapes ↦ refl | Signatures ↦ refl | Tuples ↦ refl | Blocks ↦ refl ]

-- ---- counts

-- c is the count of the section of rank j with one more, behind so many of the section of rank seen
abbrev Tells : ℕ → ℕ → ℕ → ℕ → Type 0
Tells seen count j c = ((j ≡ seen) × (c ≡ suc count)) ⊎ ((j ≡ seen → ⊥) × (c ≡ 1))

counted_tells : (seen count j : ℕ) → Tells seen count j (cond (eqb j seen) (suc count) 1)
counted_tells seen count j = go (eqb j seen) refl
  where
    go : (b : Bool) → eqb j seen ≡ b → Tells seen count j (cond b (suc count) 1)
    go true e = inl (eqb-true j seen e, refl)
    go false e = inr (eqb-false j seen e, refl)

-- n parts of the section of rank k, at most so many, behind so many of the section of rank seen
record Within (seen count k room n : ℕ) : Type 0 where
  below : k < seen → n ≡ 0
  here : k ≡ seen → count + n ≤ room
  above : seen < k → n ≤ room

within_same : (seen count j k c room n : ℕ) → seen ≤ j → k ≡ j → Tells seen count j c → Within j c k room n → Within seen count k room (suc n)
within_same seen count j k c room n l e t w =
    let h = w.here e in
    record { below = λ b. omega arith; here = λ s. omega arith; above = λ a. omega arith }

within_other : (seen count j k c room n : ℕ) → seen ≤ j → (k ≡ j → ⊥) → (k ≡ seen → count ≤ room) → Within j c k room n → Within seen count k room n
within_other seen count j k c room n l d f w =
    record {
      below = λ b. w.below (omega arith);
      here = λ e. let z : n ≡ 0 = w.below (omega arith) in let g = f e in omega arith;
      above = λ a. go a (cases_lt k j);
    }
  where
    go : seen < k → (k < j) ⊎ (j ≤ k) → n ≤ room
    go a (inl b) = let z = w.below b in omega arith
    go a (inr b) = w.above (omega arith)

row_within : (z x : Section) (count cells : ℕ) (ys : List Part) → (rank z ≡ rank x → count ≤ most z) → Row x count cells ys → Within (rank x) count (rank z) (most z) (size_in z (together ys))
row_within z x count cells [] f r =
    subst (Within (rank x) count (rank z) (most z)) (sym (nothing z)) (record { below = λ b. refl; here = λ e. let g = f e in omega arith; above = λ a. omega arith })
row_within z x count cells (y ∷ ys) f (laid, (o, m, k, r)) =
    let j = section_of (head_for y) in
    let c = counted (stand x count cells 0) (head_for y) in
    let w = row_within z j c (cells + cells_of (head_for y)) ys (λ e. let q = same_room j z e in omega arith) r in
    subst (Within (rank x) count (rank z) (most z)) (sym (grows z y (together ys))) (go (eqb (rank z) (rank j)) refl w)
  where
    go : (b : Bool) → eqb (rank z) (rank (section_of (head_for y))) ≡ b → Within (rank (section_of (head_for y))) (counted (stand x count cells 0) (head_for y)) (rank z) (most z) (size_in z (together ys)) → Within (rank x) count (rank z) (most z) (cond b (suc (size_in z (together ys))) (size_in z (together ys)))
    go true e w = within_same (rank x) count (rank (section_of (head_for y))) (rank z) _ (most z) _ o (eqb-true (rank z) _ e) (counted_tells (rank x) count (rank (section_of (head_for y)))) w
    go false e w = within_other (rank x) count (rank (section_of (head_for y))) (rank z) _ (most z) _ o (eqb-false (rank z) _ e) f w

-- ---- order: the sections before the present one have no more parts

module _ (x : Section) (count cells : ℕ) (ys : List Part) (r : Row x count cells ys) where
  none_before : (z : Section) → rank z < rank x → size_in z (together ys) ≡ 0
  none_before z l = (row_within z x count cells ys (λ e. absurd (omega arith)) r).below l

none : {A : Type 0} (xs : List A) → length xs ≡ 0 → xs ≡ []
none [] e = refl
none (x ∷ xs) e = absurd (omega arith)

order : (x : Section) (count cells : ℕ) (ys : List Part) → Row x count cells ys → ys ≡ parts_of (together ys)
order x count cells [] r = refl
order x count cells (a_channel l ∷ ys) (laid, (o, m, k, r)) = ap (λ zs. a_channel l ∷ zs) (order Channels _ _ ys r)
order x count cells (a_shape ts ∷ ys) (laid, (o, m, k, r)) =
    let q = together ys in
    let c = none q.channels (none_before Shapes _ _ ys r Channels (omega arith)) in
    ap (λ zs. a_shape ts ∷ zs) (order Shapes _ _ ys r) ∙ rw c
order x count cells (a_signature s ∷ ys) (laid, (o, m, k, r)) =
    let q = together ys in
    let c = none q.channels (none_before Signatures _ _ ys r Channels (omega arith)) in
    let h = none q.shapes (none_before Signatures _ _ ys r Shapes (omega arith)) in
    ap (λ zs. a_signature s ∷ zs) (order Signatures _ _ ys r) ∙ rw (c, h)
order x count cells (a_tuple t ∷ ys) (laid, (o, m, k, r)) =
    let q = together ys in
    let c = none q.channels (none_before Tuples _ _ ys r Channels (omega arith)) in
    let h = none q.shapes (none_before Tuples _ _ ys r Shapes (omega arith)) in
    let s = none q.signatures (none_before Tuples _ _ ys r Signatures (omega arith)) in
    ap (λ zs. a_tuple t ∷ zs) (order Tuples _ _ ys r) ∙ rw (c, h, s)
order x count cells (a_block b ∷ ys) (laid, (o, m, k, r)) =
    let q = together ys in
    let c = none q.channels (none_before Blocks _ _ ys r Channels (omega arith)) in
    let h = none q.shapes (none_before Blocks _ _ ys r Shapes (omega arith)) in
    let s = none q.signatures (none_before Blocks _ _ ys r Signatures (omega arith)) in
    let t = none q.tuples (none_before Blocks _ _ ys r Tuples (omega arith)) in
    ap (λ zs. a_block b ∷ zs) (order Blocks _ _ ys r) ∙ rw (c, h, s, t)

-- ---- the rest: all cells, a block, and each part within its limits

total : (x : Section) (count cells : ℕ) (ys : List Part) → cells ≤ 256 → Row x count cells ys → cells + all_cells (together ys).tuples ≤ 256
total x count cells [] l r = omega arith
total x count cells (a_channel c ∷ ys) l (laid, (o, m, k, r)) = let h = total Channels _ _ ys k r in omega arith
total x count cells (a_shape ts ∷ ys) l (laid, (o, m, k, r)) = let h = total Shapes _ _ ys k r in omega arith
total x count cells (a_signature s ∷ ys) l (laid, (o, m, k, r)) = let h = total Signatures _ _ ys k r in omega arith
total x count cells (a_tuple t ∷ ys) l (laid, (o, m, k, r)) = let h = total Tuples _ _ ys k r in omega arith
total x count cells (a_block b ∷ ys) l (laid, (o, m, k, r)) = let h = total Blocks _ _ ys k r in omega arith

some_block : (x : Section) (count cells : ℕ) (ys : List Part) → rank x < 5 → Row x count cells ys → 1 ≤ length (together ys).blocks
some_block x count cells [] l r = absurd (omega arith)
some_block x count cells (a_channel c ∷ ys) l (laid, (o, m, k, r)) = some_block Channels _ _ ys (omega arith) r
some_block x count cells (a_shape ts ∷ ys) l (laid, (o, m, k, r)) = some_block Shapes _ _ ys (omega arith) r
some_block x count cells (a_signature s ∷ ys) l (laid, (o, m, k, r)) = some_block Signatures _ _ ys (omega arith) r
some_block x count cells (a_tuple t ∷ ys) l (laid, (o, m, k, r)) = some_block Tuples _ _ ys (omega arith) r
some_block x count cells (a_block b ∷ ys) l r = omega arith

abbrev AllLaid : Program → Type 0
AllLaid p =
    Every (λ l. l < 256) p.channels × Every ShapeLaid p.shapes × Every SignatureLaid p.signatures × Every TupleLaid p.tuples
    × Every BlockLaid p.blocks

row_all_laid : (x : Section) (count cells : ℕ) (ys : List Part) → Row x count cells ys → AllLaid (together ys)
row_all_laid x count cells [] r = (tt, tt, tt, tt, tt)
row_all_laid x count cells (a_channel c ∷ ys) (y, (o, m, k, r)) = let h = row_all_laid Channels _ _ ys r in ((y, h.0), h.1, h.2, h.3, h.4)
row_all_laid x count cells (a_shape ts ∷ ys) (y, (o, m, k, r)) = let h = row_all_laid Shapes _ _ ys r in (h.0, (y, h.1), h.2, h.3, h.4)
row_all_laid x count cells (a_signature s ∷ ys) (y, (o, m, k, r)) = let h = row_all_laid Signatures _ _ ys r in (h.0, h.1, (y, h.2), h.3, h.4)
row_all_laid x count cells (a_tuple t ∷ ys) (y, (o, m, k, r)) = let h = row_all_laid Tuples _ _ ys r in (h.0, h.1, h.2, (y, h.3), h.4)
row_all_laid x count cells (a_block b ∷ ys) (y, (o, m, k, r)) = let h = row_all_laid Blocks _ _ ys r in (h.0, h.1, h.2, h.3, (y, h.4))

-- ---- together

pub laid : (ns : List ℕ) (ys : List Part) → ns ≡ written ys → length ns ≤ 2048 → Row Channels 0 0 ys → IsLaidOut ns (together ys)
laid ns ys e l r =
    let h = row_all_laid Channels 0 0 ys r in
    record {
      written = e ∙ ap written (order Channels 0 0 ys r);
      short = l;
      channels = ((let q = (row_within Channels Channels 0 0 ys (λ e. omega arith) r).here refl in omega arith), h.0);
      shapes = ((row_within Shapes Channels 0 0 ys (λ e. omega arith) r).above (omega arith), h.1);
      signatures = ((row_within Signatures Channels 0 0 ys (λ e. omega arith) r).above (omega arith), h.2);
      tuples = ((row_within Tuples Channels 0 0 ys (λ e. omega arith) r).above (omega arith), (let q = total Channels 0 0 ys (omega arith) r in omega arith), h.3);
      blocks = (some_block Channels 0 0 ys (omega arith) r, (row_within Blocks Channels 0 0 ys (λ e. omega arith) r).above (omega arith), h.4);
    }
