-- Nothing of an image is skipped. Its items, one behind another, are the image from its front, and where the layout pass finds no
-- fault they are the whole of it.
use Rattle.std.specs.Prelude.{◌≡◌, ℕ, ◌+◌, List, [], ◌∷◌, ◌++◌, length}
use Rattle.image.specs.declared.counts.Counts.{Counts}
use Rattle.image.specs.Counts.{no_items, count_of, with_one}
use Rattle.image.specs.Finding.{clear}
use Rattle.image.specs.Layout.{layout}
use Rattle.image.specs.Items.{Piece}

abbrev pub words_of : List Piece → List ℕ
words_of [] = []
words_of (p ∷ ps) = p.words ++ words_of ps

-- each item stands where those before it end
abbrev pub InARow : ℕ → List Piece → Type 0
InARow place [] = Unit {0}
InARow place (p ∷ ps) = (p.place ≡ place) × InARow (place + length p.words) ps

-- each item has the number of those of its section that came before
abbrev pub Numbered : Counts → List Piece → Type 0
Numbered before [] = Unit {0}
Numbered before (p ∷ ps) = (p.number ≡ count_of before p.section) × Numbered (with_one before p.section) ps

pub record Split (ns : List ℕ) (ps : List Piece) : Type 0 where
  pub front : (rest : List ℕ) × (words_of ps ++ rest ≡ ns)
  pub whole : layout ns ≡ clear → words_of ps ≡ ns
  pub places : InARow 0 ps
  pub numbers : Numbered no_items ps
