-- Each item that is handed out lies within the image, and has a head.
use Rattle.std.proofs.Common.{ℕ, ◌+◌, ◌≤◌, List, [], ◌∷◌, length, sym, ap, ◌∙◌, arith}
use Rattle.std.proofs.lemmas.List.{length-append}
use Rattle.image.specs.declared.section.Section.{Section}
use Rattle.image.specs.declared.section.Section.TheVariants.{Channels, Shapes, Signatures, Tuples, Blocks}
use Rattle.image.specs.Items.{Piece, pieces}
use Rattle.image.specs.Splits.{words_of, InARow}
use Rattle.image.proofs.Splitting.{splits}
use Rattle.rules.specs.LaidOut.{Every}
use Rattle.programme.specs.Lookup.{WithinLimits}
use Rattle.programme.proofs.Sizes.{Limited, within_limits}

-- an item of an image of so many words
abbrev pub InImage : ℕ → Piece → Type 0
InImage size p = (1 ≤ length p.words) × (p.place + length p.words ≤ size)

headed : (s : Section) (size : ℕ) → WithinLimits s size → 1 ≤ size
headed Channels size h = h.0
headed Shapes size h = let k = h.0 in omega arith
headed Signatures size h = let k = h.0 in omega arith
headed Tuples size h = let k = h.0 in omega arith
headed Blocks size h = let k = h.0 in omega arith

in_row : (size : ℕ) (ps : List Piece) (place : ℕ) → InARow place ps → Every Limited ps → place + length (words_of ps) ≤ size → Every (InImage size) ps
in_row size [] place row limits l = tt
in_row size (p ∷ ps) place row limits l =
    let at = row.0 in
    let both = length-append p.words (words_of ps) in
    ((headed p.section (length p.words) limits.0, omega arith), in_row size ps (place + length p.words) row.1 limits.1 (omega arith))

pub in_image : (ns : List ℕ) → Every (InImage (length ns)) (pieces ns)
in_image ns =
    let front = (splits ns).front in
    let both = sym (length-append (words_of (pieces ns)) front.0) ∙ ap length front.1 in
    in_row (length ns) (pieces ns) 0 (splits ns).places (within_limits ns) (omega arith)
