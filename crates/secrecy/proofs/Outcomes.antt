-- Outcomes as a reader sees them: which look the same, which are silent, and how Alike goes back over a step.
use mathlib.Core.Path.{◌≡◌, refl, sym, ap, ◌∙◌}
use mathlib.Core.List.{List, [], ◌∷◌}
use mathlib.Core.Logic.{inl, inr}
use mathlib.Core.Bool.{Bool, true, false}
use Prim.Native.Nat.{ℕ}
use native.Mathlib.Omega.{arith}
use lib.ListN.{get_or}
use lib.Dec.{T}
use Rattle.machine.specs.declared.strike.Strike.{Strike}
use Rattle.machine.specs.declared.ran.End.TheVariants.{Halted, Spent, Full}
use Rattle.machine.specs.Machine.{Outcome, counted}
use Rattle.secrecy.specs.Seen.{if_seen, seen, Alike}
use Rattle.secrecy.proofs.Setting.{Setting, Seen}
use Rattle.secrecy.proofs.Beginnings.{begins_none, begins_struck, unseen}

pub decide : (b : Bool) → Dec (T b)
decide true = yes tt
decide false = no (λ h. h)

pub spent_not_halted : Spent ≡ Halted → ⊥
spent_not_halted e = let z : ◌≡◌ {A = ℕ} 0 1 = cc in omega arith

pub full_not_halted : Full ≡ Halted → ⊥
full_not_halted e = let z : ◌≡◌ {A = ℕ} 0 1 = cc in omega arith

module _ (w : Setting) where
  abbrev Sight : Outcome → List Strike
  Sight x = seen w.meaning w.program w.reader x.strikes

  abbrev pub Agreed : Outcome → Outcome → Type 0
  Agreed x y = Alike w.meaning w.program w.reader x y

  -- the reader sees the same in both
  pub record Looks (x y : Outcome) : Type 0 where
    pub end : x.end ≡ y.end
    pub cells : x.cells ≡ y.cells
    pub sight : Sight x ≡ Sight y

  -- the reader sees nothing
  pub record Silent (x : Outcome) : Type 0 where
    pub end : x.end ≡ Halted → ⊥
    pub sight : Sight x ≡ []

  pub looks_equal : {x y z : Outcome} → x ≡ y → Looks y z → Looks x z
  looks_equal e h = rw e h

  pub looks_then : {x y z : Outcome} → Looks x y → Looks y z → Looks x z
  looks_then h k = record { end = h.end ∙ k.end; cells = h.cells ∙ k.cells; sight = h.sight ∙ k.sight }

  pub looks_silent : {x y : Outcome} → Looks x y → Silent y → Silent x
  looks_silent h k = record { end = λ e. k.end (sym h.end ∙ e); sight = h.sight ∙ k.sight }

  -- a step that strikes nothing
  pub looks_counted : (x : Outcome) → Looks (counted [] x) x
  looks_counted x = record { end = refl; cells = refl; sight = refl }

  -- a strike that the reader does not see
  pub looks_struck : (s : Strike) (x : Outcome) → (Seen w (get_or w.program.channels s.channel 0) → ⊥) → Looks (counted (s ∷ []) x) x
  looks_struck s x h = record { end = refl; cells = refl; sight = unseen _ s (Sight x) h }

  agreed_turned : {x y : Outcome} → Agreed x y → Agreed y x
  agreed_turned a = record {
    order = elim a.order [ inl h ↦ inr h | inr h ↦ inl h ];
    first_halted = a.second_halted;
    second_halted = a.first_halted;
    both_halted = λ e f. (sym (a.both_halted f e).0, λ i h q. sym ((a.both_halted f e).1 i h q));
  }

  pub agreed_looks : {x x' y y' : Outcome} → Looks x x' → Looks y y' → Agreed x' y' → Agreed x y
  agreed_looks h k a = record {
    order = rw (h.sight, k.sight) a.order;
    first_halted = λ e. rw (h.sight, k.sight) (a.first_halted (sym h.end ∙ e));
    second_halted = λ e. rw (h.sight, k.sight) (a.second_halted (sym k.end ∙ e));
    both_halted = λ e f. let (s, c) = a.both_halted (sym h.end ∙ e) (sym k.end ∙ f) in (h.sight ∙ s ∙ sym k.sight, rw (h.cells, k.cells) c);
  }

  pub agreed_silent : {x : Outcome} (y : Outcome) → Silent x → Agreed x y
  agreed_silent y h = record {
    order = inl (rw h.sight (begins_none (Sight y)));
    first_halted = λ e. absurd (h.end e);
    second_halted = λ e. rw h.sight (begins_none (Sight y));
    both_halted = λ e f. absurd (h.end e);
  }

  pub agreed_silent_after : (x : Outcome) {y : Outcome} → Silent y → Agreed x y
  agreed_silent_after x h = agreed_turned (agreed_silent x h)

  -- one strike, made by both
  pub agreed_struck : (s : Strike) {x y : Outcome} → Agreed x y → Agreed (counted (s ∷ []) x) (counted (s ∷ []) y)
  agreed_struck s {x} {y} a = record {
    order = elim a.order [ inl h ↦ inl (begins_struck b s (Sight x) (Sight y) h) | inr h ↦ inr (begins_struck b s (Sight y) (Sight x) h) ];
    first_halted = λ e. begins_struck b s (Sight y) (Sight x) (a.first_halted e);
    second_halted = λ e. begins_struck b s (Sight x) (Sight y) (a.second_halted e);
    both_halted = λ e f. (ap (λ zs. if_seen b s zs) (a.both_halted e f).0, (a.both_halted e f).1);
  }
    where
      b : Bool
      b = w.meaning.below (get_or w.program.channels s.channel 0) w.reader
