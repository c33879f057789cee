use Rattle.std.proofs.Common.{◌≡◌, ℕ, zero, suc, List, [], ◌∷◌, map, get_or, arith}
use Rattle.std.specs.List.{slice_get}
use Rattle.std.specs.Option.{MatchOption}
use Rattle.std.proofs.lemmas.Grind.{common_steps}
use Rattle.std.proofs.lemmas.Option.{gets}
use Rattle.rules.specs.Says.{type_in}
use Rattle.image.specs.declared.ty.Ty.TheVariants.{Nonsense}
use Rattle.typing.proofs.lookup.type_at.Goals as goal

-- the n-th value as f maps it, with a default
mapped_at : {X Y : Type 0} (f : X → Y) (d : Y) (xs : List X) (n : ℕ) (r : Y) → MatchOption (slice_get xs n) (r ≡ d) (λ x. r ≡ f x) → r ≡ get_or (map f xs) n d
mapped_at f d [] n r e = e
mapped_at f d (x ∷ xs) zero r e = e
mapped_at f d (x ∷ xs) (suc n) r e = mapped_at f d xs n r e

pub returns : goal.returns
returns c =
    let e : c.copied.result ≡ slice_get c.args.words.now c.args.n = grind (arith, common_steps, gets) in
    mapped_at type_in Nonsense c.args.words.now c.args.n c.map_or.result (rw e at c.map_or.ensures)
