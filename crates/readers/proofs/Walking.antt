-- A tuple among the items to come: the types of its cells stand before those of the others.
use Rattle.std.proofs.Common.{◌≡◌, ℕ, List, [], ◌∷◌, ◌++◌, get_or, Some, sym, ap, ◌∙◌, append_assoc, arith}
use Rattle.image.specs.declared.item.Item.{Item}
use Rattle.image.specs.declared.item.Item.TheVariants.{Tuple}
use Rattle.image.specs.declared.item.Part.{Part}
use Rattle.image.specs.declared.section.Section.TheVariants.{Tuples}
use Rattle.image.specs.declared.ty.Ty.{Ty}
use Rattle.image.specs.Words.{split}
use Rattle.image.specs.Items.{Piece, piece}
use Rattle.image.specs.Reader.{shown, handed, others}
use Rattle.rules.specs.Program.{Program, shape_at, cell_types_of}
use Rattle.rules.specs.Says.{program}

module _ (p : Program) (x : Part) where
  -- the types of a tuple's cells, by its head
  abbrev own_types : List Ty
  own_types = shape_at p (split (get_or x.words.now 0 0)).c

  abbrev types_in : List Piece → List Ty
  types_in ps = cell_types_of p (program ps).tuples

  tuple_first : (ps : List Piece) → shown (Some (Tuple x)) ≡ handed ps → types_in ps ≡ own_types ++ types_in (others ps)
  tuple_first [] e = absurd (let z : ◌≡◌ {A = ℕ} 0 1 = cc in omega arith)
  tuple_first (q ∷ ps) e =
      let same : q ≡ piece Tuples x.place x.number x.words.now = cc in
      ap (λ q. types_in (q ∷ ps)) same

  -- the types made so far with those to come are all, and still are with this tuple's added
  pub tuple_added :
      (i : Item) → i ≡ Tuple x → (ps after : List Piece) → shown (Some i) ≡ handed ps → after ≡ others ps →
      (made types next all : List Ty) → types ≡ own_types → next ≡ made ++ types → made ++ types_in ps ≡ all →
      next ++ types_in after ≡ all
  tuple_added i is ps after e rest made types next all own more inv =
      ap (λ qs. next ++ types_in qs) rest
      ∙ ap (λ l. l ++ types_in (others ps)) (more ∙ ap (λ l. made ++ l) own)
      ∙ append_assoc made own_types (types_in (others ps))
      ∙ ap (λ l. made ++ l) (sym (tuple_first ps (ap (λ i. shown (Some i)) (sym is) ∙ e)))
      ∙ inv
