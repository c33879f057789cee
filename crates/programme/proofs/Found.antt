-- The first of the items to come, where it is the one that is sought.
use Rattle.std.proofs.Common.{◌≡◌, ℕ, cond, eqb, List, [], ◌∷◌, Some, sym, ap, ◌∙◌, arith}
use Rattle.std.proofs.lemmas.Bool.{eq-eqb, and_from}
use Rattle.image.specs.declared.section.Section.{Section}
use Rattle.image.specs.declared.item.Item.{Item}
use Rattle.image.specs.Sections.{rank}
use Rattle.image.specs.Items.{Piece, part_of, item_section}
use Rattle.image.specs.Reader.{shown, handed}
use Rattle.programme.specs.Lookup.{same_section, nth_piece, part_piece}
use Rattle.programme.proofs.Sections.{same_is}

module _ (s : Section) (n : ℕ) where
  pub found_here : (i : Item) (ps : List Piece) → shown (Some i) ≡ handed ps → item_section i ≡ s → (part_of i).number ≡ n → Some (part_piece s (part_of i)) ≡ nth_piece s n ps
  found_here i [] e r k = absurd (let z : ◌≡◌ {A = ℕ} 0 1 = cc in omega arith)
  found_here i (p ∷ ps) e r k =
      let here : part_piece (item_section i) (part_of i) ≡ p = cc in
      let same = eq-eqb (rank (item_section i)) (rank s) (ap rank r) in
      ap (λ t. Some (part_piece t (part_of i))) (sym (same_is (item_section i) s same))
      ∙ sym (ap (λ b. cond b (Some (part_piece (item_section i) (part_of i))) (nth_piece s n ps)) (and_from (same_section (item_section i) s) (eqb (part_of i).number n) same (eq-eqb (part_of i).number n k)))
      ∙ ap (λ p. nth_piece s n (p ∷ ps)) here
