-- An item that is handed out has a head.
use Rattle.std.proofs.Common.{◌≡◌, ℕ, zero, suc, ◌<◌, List, [], ◌∷◌, length, Some, None, Option, ap, arith}
use Rattle.std.proofs.lemmas.Option.{same_Some}
use Rattle.image.specs.declared.counts.Counts.{Counts}
use Rattle.image.specs.declared.head.Head.{Head}
use Rattle.image.specs.Items.{Piece, whole_head, pieces_from}
use Rattle.image.specs.Reader.{handed}
use Rattle.image.proofs.Reading.{read}

pub handed_some : (before : Counts) (skip place : ℕ) (ns : List ℕ) (p : Piece) → Some p ≡ handed (pieces_from before skip place ns) → 0 < length p.words
handed_some before skip place [] p e = absurd (let z : ◌≡◌ {A = ℕ} 0 1 = cc in omega arith)
handed_some before (suc skip) place (n ∷ ns) p e = handed_some before skip (suc place) ns p e
handed_some before zero place (n ∷ ns) p e = go (whole_head (n ∷ ns)) e
  where
    go : (o : Option Head) → Some p ≡ handed (read before place n ns o) → 0 < length p.words
    go None e = absurd (let z : ◌≡◌ {A = ℕ} 0 1 = cc in omega arith)
    go (Some h) e = omega (arith, ap (λ p. length p.words) (same_Some _ _ e))
