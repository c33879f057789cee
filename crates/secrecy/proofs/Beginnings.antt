-- Lists of strikes that begin others, and what a reader sees of them.
use mathlib.Core.Path.{◌≡◌, refl, sym, ap, ◌∙◌}
use mathlib.Core.List.{List, [], ◌∷◌, ◌++◌, append-nil, append_assoc}
use mathlib.Core.Bool.{Bool, true, false}
use Prim.Native.Nat.{ℕ}
use lib.ListN.{get_or}
use lib.Dec.{T}
use Rattle.labels.specs.Meaning.{Meaning}
use Rattle.rules.specs.Program.{Program}
use Rattle.machine.specs.declared.strike.Strike.{Strike}
use Rattle.secrecy.specs.Seen.{Begins, if_seen, seen}

pub begins_none : (ys : List Strike) → Begins [] ys
begins_none ys = (ys, refl)

pub begins_same : {xs ys : List Strike} → xs ≡ ys → Begins xs ys
begins_same {xs} e = ([], append-nil xs ∙ e)

begins_more : (xs ys zs : List Strike) → Begins xs ys → Begins xs (ys ++ zs)
begins_more xs ys zs h = (h.0 ++ zs, sym (append_assoc xs h.0 zs) ∙ ap (λ l. l ++ zs) h.1)

begins_behind : (ws xs ys : List Strike) → Begins xs ys → Begins (ws ++ xs) (ws ++ ys)
begins_behind ws xs ys h = (h.0, append_assoc ws xs h.0 ∙ ap (λ l. ws ++ l) h.1)

-- a strike in front of both, where it is seen
pub begins_struck : (b : Bool) (x : Strike) (xs ys : List Strike) → Begins xs ys → Begins (if_seen b x xs) (if_seen b x ys)
begins_struck true x xs ys h = (h.0, ap {B = List Strike} (λ zs. x ∷ zs) h.1)
begins_struck false x xs ys h = h

pub unseen : (b : Bool) (x : Strike) (xs : List Strike) → (T b → ⊥) → if_seen b x xs ≡ xs
unseen true x xs h = absurd (h tt)
unseen false x xs h = refl

module _ (m : Meaning) (p : Program) (reader : ℕ) where
  abbrev sight : List Strike → List Strike
  sight xs = seen m p reader xs

  seen_append : (xs ys : List Strike) → sight (xs ++ ys) ≡ sight xs ++ sight ys
  seen_append [] ys = refl
  seen_append (x ∷ xs) ys = by_sight (m.below (get_or p.channels x.channel 0) reader) (seen_append xs ys)
    where
      by_sight :
          (b : Bool) → sight (xs ++ ys) ≡ sight xs ++ sight ys → if_seen b x (sight (xs ++ ys)) ≡ if_seen b x (sight xs) ++ sight ys
      by_sight true e = ap {B = List Strike} (λ l. x ∷ l) e
      by_sight false e = e

  -- behind what looks the same
  pub begins_after : (us vs xs ys : List Strike) → sight us ≡ sight vs → Begins (sight xs) (sight ys) → Begins (sight (us ++ xs)) (sight (vs ++ ys))
  begins_after us vs xs ys e h = rw (seen_append us xs, seen_append vs ys, e) (begins_behind (sight vs) (sight xs) (sight ys) h)

  pub begins_longer : (us vs ys : List Strike) → Begins (sight us) (sight vs) → Begins (sight us) (sight (vs ++ ys))
  begins_longer us vs ys h = rw (seen_append vs ys) (begins_more (sight us) (sight vs) (sight ys) h)

  pub same_after : (us vs xs ys : List Strike) → sight us ≡ sight vs → sight xs ≡ sight ys → sight (us ++ xs) ≡ sight (vs ++ ys)
  same_after us vs xs ys e h = rw (seen_append us xs, seen_append vs ys, e, h)
