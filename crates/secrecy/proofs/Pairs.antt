-- Two runs from states that look the same, in a context that the reader may see, go on looking the same.
use mathlib.Core.Path.{◌≡◌, refl, sym, ap, ◌∙◌}
use mathlib.Core.List.{List, [], ◌∷◌}
use mathlib.Core.Logic.{◌⊎◌, inl, inr}
use mathlib.Core.Bool.{Bool, true, false, cond}
use Prim.Native.Nat.{ℕ, zero, suc, ◌<◌}
use native.Mathlib.Nat.{not-suc-le-zero}
use native.Mathlib.Omega.{arith}
use lib.ListN.{length, get_or}
use lib.Dec.{eqb}
use Rattle.image.specs.declared.ty.Sort.{Sort}
use Rattle.image.specs.declared.ty.Ty.TheVariants.{Typed}
use Rattle.image.specs.declared.head.Context.{Context}
use Rattle.image.specs.declared.head.Context.TheVariants.{Empty, Raised}
use Rattle.image.specs.declared.instruction.Instruction.{Instruction}
use Rattle.image.specs.declared.instruction.Instruction.TheVariants.{Strike as StrikeOn, Branch, Jump, Lower}
use Rattle.rules.specs.Program.{Types}
use Rattle.rules.specs.Types.{level, reg, then_context}
use Rattle.machine.specs.Machine.{State, reg_of, counted, next}
use Rattle.machine.specs.Machine.Deed.{goes}
use Rattle.secrecy.proofs.Setting.{Setting, Label, context_at, types_at, words_at, types_after, runs_on, Seen, low_at, Described, Same}
use Rattle.secrecy.proofs.Labels.{seen_down, seen_right}
use Rattle.secrecy.proofs.Outcomes.{decide, spent_not_halted, full_not_halted, Agreed, looks_struck, agreed_looks, agreed_silent, agreed_silent_after, agreed_struck}
use Rattle.secrecy.proofs.Steps.{step_looks}
use Rattle.secrecy.proofs.Views.View.{calm, striking, branching, raising}
use Rattle.secrecy.proofs.Blocks.{Landing, landing_described, landing_same, target, stays_both, Walk, block_walk, Within, Below, within_down}
use Rattle.secrecy.proofs.Blocks.Closing.{jumping, lowering, halting}
use Rattle.secrecy.proofs.Blocks.Walk.{closes, goes_on}
use Rattle.secrecy.proofs.Blocks.Within.{here, deeper}
use Rattle.secrecy.proofs.Region.{Fate, fate}
use Rattle.secrecy.proofs.Region.Fate.{silent, arrives}

module _ (w : Setting) where
  -- two states of one type, in one context that the reader may see, that look the same
  pub record Pair (k : Context) (g : Types) (s u : State) : Type 0 where
    pub seen : Seen w (level k)
    pub inside : Within w Empty k
    pub first : Described w g s
    pub second : Described w g u
    pub same : Same w g s u

  -- what is known of two runs, the first with less fuel than n
  abbrev pub Paired : ℕ → Type 0
  Paired n =
      (f₁ f₂ room₁ room₂ : ℕ) → f₁ < n → (k : Context) (g : Types) (is : List Instruction) (s u : State) → Pair k g s u → Walk w k g is →
      Agreed w (runs_on w f₁ room₁ s is) (runs_on w f₂ room₂ u is)

  -- a register that the reader may see holds the same in both
  shared :
      {k : Context} {g : Types} {s u : State} {o : Sort} {x : ℕ} (r : ℕ) → Pair k g s u → reg g r ≡ Typed o x → Seen w x → reg_of s r ≡ reg_of u r
  shared r o e h = o.same.registers.same r (low_at w e h)

  pair_label : {k : Context} {g : Types} {s u : State} → Pair k g s u → Label w (level k)
  pair_label {k} o = (w.lawful.outside_below (level k) w.reader o.seen).0

  module _ (n : ℕ) (ih : Paired n) (f₁ f₂ : ℕ) (less : f₁ < n) (room₁ room₂ : ℕ) where
    -- both go to the start of block b
    pair_landing :
        {k : Context} {g : Types} {s u : State} (is : List Instruction) (b : ℕ) → next w.program s is ≡ goes (words_at w b) s →
        next w.program u is ≡ goes (words_at w b) u → Landing w g b → Seen w (level (context_at w b)) →
        Within w Empty (context_at w b) → Pair k g s u → Agreed w (runs_on w (suc f₁) room₁ s is) (runs_on w (suc f₂) room₂ u is)
    pair_landing {s = s} {u = u} is b e₁ e₂ la h d o =
        agreed_looks w (step_looks w f₁ room₁ s s is (words_at w b) e₁) (step_looks w f₂ room₂ u u is (words_at w b) e₂)
        (ih f₁ f₂ room₁ room₂ less (context_at w b) (types_at w b) (words_at w b) s u
        (record { seen = h; inside = d; first = landing_described w la o.first; second = landing_described w la o.second; same = landing_same w la o.same })
        (block_walk w b la.there))

    pair_lower :
        {k : Context} {g : Types} (s u : State) (j b : ℕ) → k ≡ Raised j b → Landing w g b → Pair k g s u → (Empty ≡ Raised j b) ⊎ Below w Empty j b →
        Agreed w (runs_on w (suc f₁) room₁ s (Lower b ∷ [])) (runs_on w (suc f₂) room₂ u (Lower b ∷ []))
    pair_lower s u j b e la o (inl x) = let z : ◌≡◌ {A = ℕ} 0 1 = cc in absurd (omega arith)
    pair_lower s u j b e la o (inr d) = pair_landing (Lower b ∷ []) b refl refl la (seen_down w (level (context_at w b)) j d.under (rw e at o.seen)) d.inside o

    -- both run through a region that the reader may not see
    pair_fates :
        {k : Context} {g : Types} {s u : State} (is : List Instruction) (l b : ℕ) → b < length w.program.blocks → context_at w b ≡ k → Pair k g s u →
        Fate w l b (suc f₁) g s (runs_on w (suc f₁) room₁ s is) → Fate w l b (suc f₂) g u (runs_on w (suc f₂) room₂ u is) →
        Agreed w (runs_on w (suc f₁) room₁ s is) (runs_on w (suc f₂) room₂ u is)
    pair_fates is l b lb e o (silent x) y = agreed_silent w _ x
    pair_fates is l b lb e o (arrives f₁' room₁' s' lt₁ ts st₁ lk₁) (silent y) = agreed_silent_after w _ y
    pair_fates is l b lb e o (arrives f₁' room₁' s' lt₁ ts st₁ lk₁) (arrives f₂' room₂' u' lt₂ tu st₂ lk₂) =
        agreed_looks w lk₁ lk₂
        (ih f₁' f₂' room₁' room₂' (omega arith) (context_at w b) (types_at w b) (words_at w b) s' u'
        (record { seen = rw e o.seen; inside = rw e o.inside; first = ts; second = tu; same = stays_both w o.same st₁ st₂ })
        (block_walk w b lb))

    pair_step :
        (k : Context) (g : Types) (is : List Instruction) (s u : State) → Pair k g s u → Walk w k g is →
        Agreed w (runs_on w (suc f₁) room₁ s is) (runs_on w (suc f₂) room₂ u is)
    pair_step k g _ s u o (closes (jumping {a = a} y c e le tf)) =
        let tg = target w s a c y o.first e tf in
        let to : reg_of s a ≡ reg_of u a = shared a o e (seen_down w y (level k) le o.seen) in
        pair_landing (Jump a ∷ []) (reg_of s a) refl (ap (λ b. goes (words_at w b) u) (sym to)) tg.landing (rw tg.context o.seen) (rw tg.context o.inside) o
    pair_step k g _ s u o (closes (lowering {n = b} j e la)) = pair_lower s u j b e la o (within_down w j b e o.inside)
    pair_step k g _ s u o (closes (halting e)) = record {
      order = inl ([], refl);
      first_halted = λ x. ([], refl);
      second_halted = λ x. ([], refl);
      both_halted = λ x y. (refl, λ c d l. o.same.cells.same c l);
    }
    pair_step k g _ s u o (goes_on {i = i} {j = j} {is = is} (calm c) r) =
        agreed_looks w (step_looks w f₁ room₁ s (c.to s) (i ∷ (j ∷ is)) (j ∷ is) (c.step s (j ∷ is)))
        (step_looks w f₂ room₂ u (c.to u) (i ∷ (j ∷ is)) (j ∷ is) (c.step u (j ∷ is)))
        (ih f₁ f₂ room₁ room₂ less (then_context k i) (types_after w k g i) (j ∷ is) (c.to s) (c.to u)
        (record {
          seen = rw c.stays_in o.seen;
          inside = rw c.stays_in o.inside;
          first = c.described s o.first;
          second = c.described u o.second;
          same = c.same s u o.first o.second o.same;
        })
        r)
    pair_step k g _ s u o (goes_on {j = j} {is = is} (striking {c = c} {b = b} x e le) r) = by_room room₁ room₂
      where
        word : Seen w (get_or w.program.channels c 0) → reg_of s b ≡ reg_of u b
        word m = shared b o e (seen_right w (level k) x (pair_label o) (rw e at (o.first.registers.labels b)) (seen_down w _ _ le m))

        by_sight :
            (p₁ p₂ : ℕ) → Dec (Seen w (get_or w.program.channels c 0)) → Agreed w (runs_on w f₁ p₁ s (j ∷ is)) (runs_on w f₂ p₂ u (j ∷ is)) →
            Agreed w (counted (record { channel = c; word = reg_of s b } ∷ []) (runs_on w f₁ p₁ s (j ∷ is)))
            (counted (record { channel = c; word = reg_of u b } ∷ []) (runs_on w f₂ p₂ u (j ∷ is)))
        by_sight p₁ p₂ (yes m) a = rw (word m) (agreed_struck w (record { channel = c; word = reg_of u b }) a)
        by_sight p₁ p₂ (no m) a = agreed_looks w (looks_struck w _ _ m) (looks_struck w _ _ m) a

        by_room : (room₁ room₂ : ℕ) → Agreed w (runs_on w (suc f₁) room₁ s (StrikeOn c b ∷ (j ∷ is))) (runs_on w (suc f₂) room₂ u (StrikeOn c b ∷ (j ∷ is)))
        by_room zero p₂ = agreed_silent w _ (record { end = full_not_halted; sight = refl })
        by_room (suc p₁) zero = agreed_silent_after w _ (record { end = full_not_halted; sight = refl })
        by_room (suc p₁) (suc p₂) = by_sight p₁ p₂ (decide _) (ih f₁ f₂ p₁ p₂ less k g (j ∷ is) s u o r)
    pair_step k g _ s u o (goes_on {j = j} {is = is} (branching {a = a} {b = b} x y c ea eb la lb tf) r) = by_test (eqb (reg_of s a) 0) refl
      where
        to : reg_of s b ≡ reg_of u b
        to = shared b o eb (seen_down w y (level k) lb o.seen)

        second_test : (z : Bool) → eqb (reg_of s a) 0 ≡ z → eqb (reg_of u a) 0 ≡ z
        second_test z e = rw (shared a o ea (seen_down w x (level k) la o.seen)) at e

        goes_to :
            (t : State) (z : Bool) → eqb (reg_of t a) 0 ≡ z →
            next w.program t (Branch a b ∷ (j ∷ is)) ≡ goes (cond z (j ∷ is) (words_at w (reg_of t b))) t
        goes_to t z e = ap (λ z. goes (cond z (j ∷ is) (words_at w (reg_of t b))) t) e

        by_test :
            (z : Bool) → eqb (reg_of s a) 0 ≡ z →
            Agreed w (runs_on w (suc f₁) room₁ s (Branch a b ∷ (j ∷ is))) (runs_on w (suc f₂) room₂ u (Branch a b ∷ (j ∷ is)))
        by_test true e =
            agreed_looks w (step_looks w f₁ room₁ s s (Branch a b ∷ (j ∷ is)) (j ∷ is) (goes_to s true e))
            (step_looks w f₂ room₂ u u (Branch a b ∷ (j ∷ is)) (j ∷ is) (goes_to u true (second_test true e)))
            (ih f₁ f₂ room₁ room₂ less k g (j ∷ is) s u o r)
        by_test false e =
            let tg = target w s b c y o.first eb tf in
            pair_landing (Branch a b ∷ (j ∷ is)) (reg_of s b) (goes_to s false e)
            (goes_to u false (second_test false e) ∙ ap (λ b. goes (words_at w b) u) (sym to)) tg.landing (rw tg.context o.seen) (rw tg.context o.inside) o
    pair_step k g _ s u o (goes_on {j = j} {is = is} (raising {l = l} {n = b} ll lb le e) r) =
        by_sight (decide _)
        (λ h. pair_step (Raised l b) g (j ∷ is) s u (record { seen = h; inside = deeper e le o.inside; first = o.first; second = o.second; same = o.same }) r)
      where
        by_sight :
            Dec (Seen w l) → (Seen w l → Agreed w (runs_on w (suc f₁) room₁ s (j ∷ is)) (runs_on w (suc f₂) room₂ u (j ∷ is))) →
            Agreed w (runs_on w (suc f₁) room₁ s (j ∷ is)) (runs_on w (suc f₂) room₂ u (j ∷ is))
        by_sight (yes h) low = low h
        by_sight (no h) low =
            pair_fates (j ∷ is) l b lb e o (fate w l b ll h (suc f₁) room₁ (Raised l b) g (j ∷ is) s here o.first r)
            (fate w l b ll h (suc f₂) room₂ (Raised l b) g (j ∷ is) u here o.second r)

  pub paired : (n : ℕ) → Paired n
  paired zero f₁ f₂ room₁ room₂ lt k g is s u o r = absurd (not-suc-le-zero lt)
  paired (suc n) zero f₂ room₁ room₂ lt k g is s u o r = agreed_silent w _ (record { end = spent_not_halted; sight = refl })
  paired (suc n) (suc f₁) zero room₁ room₂ lt k g is s u o r = agreed_silent_after w _ (record { end = spent_not_halted; sight = refl })
  paired (suc n) (suc f₁) (suc f₂) room₁ room₂ lt k g is s u o r = pair_step n (paired n) f₁ f₂ (omega arith) room₁ room₂ k g is s u o r
