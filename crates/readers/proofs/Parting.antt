-- Two lists of strikes, of which the first records are the same.
use Rattle.std.proofs.Common.{◌≡◌, ℕ, zero, suc, ◌≤◌, ◌<◌, ◌≢◌, List, [], ◌∷◌, ◌++◌, length, take, drop, min, sym, ap, refl, ◌∙◌, inl, inr, arith, subst, Option, Some, None, MatchOption}
use Rattle.std.specs.List.{zip, AllWithin, HoldsAt}
use Rattle.std.proofs.lemmas.List.Prefix.{front_reads}
use Rattle.std.proofs.lemmas.List.{take_all, take-append-drop}
use Rattle.std.proofs.lemmas.Slice.Zip.{length-zip, get_or-zip}
use Rattle.machine.specs.declared.strike.Strike.{Strike}
use Rattle.secrecy.specs.Seen.{Begins, EitherBegins}
use Rattle.readers.specs.Compared.{no_strike, PartAt}

abbrev pub Same : Strike × Strike → Type 0
Same p = p.0 ≡ p.1

abbrev pub Differ : Strike × Strike → Type 0
Differ p = p.0 ≢ p.1

fronts : (xs ys : List Strike) (n : ℕ) → n ≤ length xs → n ≤ length ys → AllWithin Same (zip xs ys) 0 n → take n xs ≡ take n ys
fronts xs ys zero h k a = refl
fronts [] ys (suc n) h k a = absurd (omega arith)
fronts (x ∷ xs) [] (suc n) h k a = absurd (omega arith)
fronts (x ∷ xs) (y ∷ ys) (suc n) h k a =
    ap (λ z. z ∷ take n xs) (a 0 (x, y) (omega arith) (omega arith))
    ∙ ap (λ zs. y ∷ zs) (fronts xs ys n (omega arith) (omega arith) (λ i d l m. a (suc i) d (omega arith) (omega arith)))

module _ (xs ys : List Strike) where
  abbrev n : ℕ
  n = length (zip xs ys)

  -- what a search for a pair that differs finds
  pub found :
      (o : Option ℕ) → MatchOption o (AllWithin Same (zip xs ys) 0 n) (λ at. (at < n) × HoldsAt Differ (zip xs ys) at × AllWithin Same (zip xs ys) 0 at) →
      MatchOption o (take (min (length xs) (length ys)) xs ≡ take (min (length xs) (length ys)) ys) (λ at. PartAt xs ys at)
  found None a = fronts xs ys (min (length xs) (length ys)) (omega arith) (omega arith) (λ k d l m. a k d l (omega (arith, length-zip xs ys)))
  found (Some at) f =
      let first : at < length xs = omega (arith, length-zip xs ys, f.0) in
      let second : at < length ys = omega (arith, length-zip xs ys, f.0) in
      record {
        in_first = first;
        in_second = second;
        before = fronts xs ys at (omega arith) (omega arith) f.2;
        differ = subst Differ (get_or-zip xs ys at (no_strike, no_strike) first second) (f.1 (no_strike, no_strike));
      }

module _ (xs ys : List Strike) (n : ℕ) (e : take n xs ≡ take n ys) where
  -- the first list ends among them
  pub begins_front : length xs ≤ n → Begins xs ys
  begins_front h = (drop n ys, ap (λ l. l ++ drop n ys) (sym (take_all n xs h) ∙ e) ∙ take-append-drop n ys)

  -- both do
  pub same_front : length xs ≤ n → length ys ≤ n → xs ≡ ys
  same_front h k = sym (take_all n xs h) ∙ e ∙ take_all n ys k

-- lists that part begin neither the other
pub neither_begins : (xs ys : List Strike) (at : ℕ) → PartAt xs ys at → EitherBegins xs ys → ⊥
neither_begins xs ys at p (inl b) = p.differ (sym (front_reads no_strike ys xs b.0 (sym b.1) at p.in_first))
neither_begins xs ys at p (inr b) = p.differ (front_reads no_strike xs ys b.0 (sym b.1) at p.in_second)
