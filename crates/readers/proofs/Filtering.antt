-- What a definition keeps of a list by recursion, as a filter of that list.
use Rattle.std.proofs.Common.{◌≡◌, ℕ, List, [], ◌∷◌, Bool, true, false, cond, map, get_or, refl, ap}
use Rattle.std.specs.List.{filter}
use Rattle.image.specs.declared.ty.Sort.TheVariants.{Integer, Pointer, Code}
use Rattle.image.specs.declared.ty.Ty.{Ty}
use Rattle.image.specs.declared.ty.Ty.TheVariants.{Nonsense, Typed}
use Rattle.labels.specs.Meaning.{Meaning}
use Rattle.machine.specs.Cells.{filled_labels}
use Rattle.machine.specs.declared.strike.Strike.{Strike}
use Rattle.rules.specs.Fit.{is_integer}
use Rattle.rules.specs.Program.{Program}
use Rattle.rules.specs.Types.{label_of}
use Rattle.secrecy.specs.Seen.{if_seen, seen}
use Rattle.std.proofs.lemmas.List.Recursion.{same_from_clauses}

pub filled : (ts : List Ty) → map label_of (filter is_integer ts) ≡ filled_labels ts
filled [] = refl
filled (Nonsense ∷ ts) = filled ts
filled (Typed Integer label ∷ ts) = ap (λ ls. label ∷ ls) (filled ts)
filled (Typed (Pointer shape) label ∷ ts) = filled ts
filled (Typed (Code signature) label ∷ ts) = filled ts

kept : (b : Bool) (x : Strike) (xs : List Strike) → cond b (x ∷ xs) xs ≡ if_seen b x xs
kept true x xs = refl
kept false x xs = refl

module _ (m : Meaning) (p : Program) (reader : ℕ) where
  abbrev pub visible : Strike → Bool
  visible x = m.below (get_or p.channels x.channel 0) reader

  pub sighted : (xs : List Strike) → seen m p reader xs ≡ filter visible xs
  sighted = same_from_clauses (seen m p reader) (filter visible) (λ x xs. if_seen (visible x) x xs) refl (λ _ _. refl) (λ x xs. kept (visible x) x (filter visible xs))
