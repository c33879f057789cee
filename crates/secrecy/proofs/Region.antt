-- What one run does between a raise to a label that the reader may not see and the block that the raise names.
use mathlib.Core.Path.{◌≡◌, refl, ap}
use mathlib.Core.List.{List, [], ◌∷◌}
use mathlib.Core.Logic.{◌⊎◌, inl, inr}
use mathlib.Core.Bool.{Bool, true, false, cond}
use Prim.Native.Nat.{ℕ, zero, suc, ◌<◌}
use native.Mathlib.Omega.{arith}
use lib.ListN.{get_or}
use lib.Dec.{eqb}
use Rattle.image.specs.declared.head.Context.{Context}
use Rattle.image.specs.declared.head.Context.TheVariants.{Raised}
use Rattle.image.specs.declared.instruction.Instruction.{Instruction}
use Rattle.image.specs.declared.instruction.Instruction.TheVariants.{Strike as StrikeOn, Branch, Jump, Lower}
use Rattle.rules.specs.Program.{Types}
use Rattle.rules.specs.Types.{level, then_context}
use Rattle.machine.specs.Machine.{State, Outcome, reg_of, next}
use Rattle.machine.specs.Machine.Deed.{goes}
use Rattle.secrecy.proofs.Setting.{Setting, Label, context_at, types_at, words_at, types_after, runs_on, Seen, Described, Stays}
use Rattle.secrecy.proofs.Labels.{seen_down, seen_left}
use Rattle.secrecy.proofs.Outcomes.{spent_not_halted, full_not_halted, Looks, Silent, looks_then, looks_silent, looks_struck}
use Rattle.secrecy.proofs.Steps.{step_looks}
use Rattle.secrecy.proofs.Views.View.{calm, striking, branching, raising}
use Rattle.secrecy.proofs.Blocks.{Landing, landing_described, landing_stays, target, stays_all, stays_then, Walk, block_walk, Within, within_above, Below, within_down}
use Rattle.secrecy.proofs.Blocks.Closing.{jumping, lowering, halting}
use Rattle.secrecy.proofs.Blocks.Walk.{closes, goes_on}
use Rattle.secrecy.proofs.Blocks.Within.{deeper}

module _ (w : Setting) (l n : ℕ) where
  -- what comes of a run from a state, whose outcome is x: it ends and the reader saw nothing, or it gets to the start of block n
  pub data Fate (f : ℕ) (g : Types) (s : State) (x : Outcome) : Type 0 where
    silent : Silent w x → Fate f g s x
    arrives :
        (f' room' : ℕ) (s' : State) → f' < f → Described w (types_at w n) s' → Stays w g s (types_at w n) s' →
        Looks w x (runs_on w f' room' s' (words_at w n)) → Fate f g s x

  -- a context that the raise to l led into, and that no lower has left
  abbrev Inside : Context → Type 0
  Inside k = Within w (Raised l n) k

  -- what is known of every run with fuel f
  abbrev pub Ahead : ℕ → Type 0
  Ahead f = (room : ℕ) (k : Context) (g : Types) (is : List Instruction) (s : State) → Inside k → Described w g s → Walk w k g is → Fate f g s (runs_on w f room s is)

  module _ (known : Label w l) (unseen : Seen w l → ⊥) where
    hidden : {k : Context} → Inside k → Seen w (level k) → ⊥
    hidden {k} d q = unseen (seen_down w l (level k) (within_above w known d) q)

    labelled : {k : Context} → Inside k → Label w (level k)
    labelled {k} d = (w.lawful.outside_below l (level k) (within_above w known d)).1

    -- a step, and what comes of the run after it
    fate_then :
        (f : ℕ) {g g₁ : Types} {s s₁ : State} {x x₁ : Outcome} → Looks w x x₁ → Stays w g s g₁ s₁ → Fate f g₁ s₁ x₁ → Fate (suc f) g s x
    fate_then f h k (silent q) = silent (looks_silent w h q)
    fate_then f h k (arrives f' room' s' lt t st lk) = arrives f' room' s' (omega arith) t (stays_then w k st) (looks_then w h lk)

    module _ (f : ℕ) (ih : Ahead f) where
      -- a step to the start of a block whose context is inside
      fate_landing :
          (room : ℕ) (g : Types) (s : State) (is : List Instruction) (b : ℕ) → next w.program s is ≡ goes (words_at w b) s →
          Landing w g b → Inside (context_at w b) → Described w g s → Fate (suc f) g s (runs_on w (suc f) room s is)
      fate_landing room g s is b e la d t =
          fate_then f (step_looks w f room s s is (words_at w b) e) (landing_stays w la t)
          (ih room (context_at w b) (types_at w b) (words_at w b) s d (landing_described w la t) (block_walk w b la.there))

      fate_lower :
          (room : ℕ) (g : Types) (s : State) (j b : ℕ) → Landing w g b → Described w g s → (Raised l n ≡ Raised j b) ⊎ Below w (Raised l n) j b →
          Fate (suc f) g s (runs_on w (suc f) room s (Lower b ∷ []))
      fate_lower room g s j b la t (inl q) =
          let en : b ≡ n = cc in
          arrives f room s (omega arith) (rw en at (landing_described w la t)) (rw en at (landing_stays w la t))
          (rw (← en) (step_looks w f room s s (Lower b ∷ []) (words_at w b) refl))
      fate_lower room g s j b la t (inr d) = fate_landing room g s (Lower b ∷ []) b refl la d.inside t

      fate_step :
          (room : ℕ) (k : Context) (g : Types) (is : List Instruction) (s : State) → Inside k → Described w g s → Walk w k g is →
          Fate (suc f) g s (runs_on w (suc f) room s is)
      fate_step room k g _ s d t (closes (jumping {a = a} y c e le tf)) =
          let tg = target w s a c y t e tf in
          fate_landing room g s (Jump a ∷ []) (reg_of s a) refl tg.landing (rw tg.context d) t
      fate_step room k g _ s d t (closes (lowering {n = b} j e la)) = fate_lower room g s j b la t (within_down w j b e d)
      fate_step room k g _ s d t (closes (halting e)) = absurd (hidden d (rw e (w.lawful.bottom w.reader w.known)))
      fate_step room k g _ s d t (goes_on {i = i} {j = j} {is = is} (calm c) r) =
          fate_then f (step_looks w f room s (c.to s) (i ∷ (j ∷ is)) (j ∷ is) (c.step s (j ∷ is))) (c.hidden (hidden d) s t)
          (ih room (then_context k i) (types_after w k g i) (j ∷ is) (c.to s) (rw c.stays_in d) (c.described s t) r)
      fate_step room k g _ s d t (goes_on {j = j} {is = is} (striking {c = c} {b = b} x e le) r) = by_room room
        where
          dark : Seen w (get_or w.program.channels c 0) → ⊥
          dark q = hidden d (seen_left w (level k) x (labelled d) (rw e at (t.registers.labels b)) (seen_down w _ _ le q))

          by_room : (room : ℕ) → Fate (suc f) g s (runs_on w (suc f) room s (StrikeOn c b ∷ (j ∷ is)))
          by_room zero = silent (record { end = full_not_halted; sight = refl })
          by_room (suc room) = fate_then f (looks_struck w _ _ dark) (stays_all w g s) (ih room k g (j ∷ is) s d t r)
      fate_step room k g _ s d t (goes_on {j = j} {is = is} (branching {a = a} {b = b} x y c ea eb la lb tf) r) = by_test (eqb (reg_of s a) 0) refl
        where
          goes_to :
              (z : Bool) → eqb (reg_of s a) 0 ≡ z →
              next w.program s (Branch a b ∷ (j ∷ is)) ≡ goes (cond z (j ∷ is) (words_at w (reg_of s b))) s
          goes_to z e = ap (λ z. goes (cond z (j ∷ is) (words_at w (reg_of s b))) s) e

          by_test : (z : Bool) → eqb (reg_of s a) 0 ≡ z → Fate (suc f) g s (runs_on w (suc f) room s (Branch a b ∷ (j ∷ is)))
          by_test true e = fate_then f (step_looks w f room s s (Branch a b ∷ (j ∷ is)) (j ∷ is) (goes_to true e)) (stays_all w g s) (ih room k g (j ∷ is) s d t r)
          by_test false e =
              let tg = target w s b c y t eb tf in
              fate_landing room g s (Branch a b ∷ (j ∷ is)) (reg_of s b) (goes_to false e) tg.landing (rw tg.context d) t
      fate_step room k g _ s d t (goes_on {j = j} {is = is} (raising {l = a} {n = b} la lb le e) r) =
          fate_step room (Raised a b) g (j ∷ is) s (deeper e le d) t r

    pub fate : (f : ℕ) → Ahead f
    fate zero room k g is s d t r = silent (record { end = spent_not_halted; sight = refl })
    fate (suc f) room k g is s d t r = fate_step f (fate f) room k g is s d t r
