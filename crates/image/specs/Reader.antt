-- What a reader of items hands out.
use Rattle.std.specs.Prelude.{◌≡◌, List, [], ◌∷◌, length, drop, Some, None, Option}
use Rattle.image.specs.declared.item.Item.{Item}
use Rattle.image.specs.declared.items.Items.{Items}
use Rattle.image.specs.declared.survey.Survey.{Survey}
use Rattle.image.specs.Surveys.{with_item}
use Rattle.image.specs.Items.{Piece, piece, part_of, item_section, pieces_from}

-- an item without its address
abbrev pub shown : Option Item → Option Piece
shown None = None
shown (Some i) = Some (piece (item_section i) (part_of i).place (part_of i).number (part_of i).words.now)

-- the items that are still to come
abbrev pub to_come : Items → List Piece
to_come r = pieces_from r.seen.counts 0 r.seen.end (drop r.seen.end r.front.now)

-- what is handed out of the items to come, and what is seen then: the first, or none where there are none
abbrev pub handed : List Piece → Option Piece
handed [] = None
handed (p ∷ ps) = Some p

abbrev pub others : List Piece → List Piece
others [] = []
others (p ∷ ps) = ps

abbrev pub seen_with : Survey → Option Piece → Survey
seen_with s None = s
seen_with s (Some p) = with_item s p.section (length p.words)

-- one reading: the first of the items to come is handed out and counted, and the others are still to come
pub record HandsOut (before : Items) (o : Option Item) (after : Items) : Type 0 where
  pub item : shown o ≡ handed (to_come before)
  pub rest : to_come after ≡ others (to_come before)
  pub seen : after.seen ≡ seen_with before.seen (shown o)
