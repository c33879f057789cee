-- What is left of a run, put behind what is done of it, is the whole run.
use Rattle.std.proofs.Common.{◌≡◌, ℕ, suc, ◌+◌, ◌-◌, ◌<◌, ◌≤◌, List, [], ◌∷◌, ◌++◌, length, take, drop, set, sym, refl, ap, ◌∙◌, subst, append_assoc, append-nil, zero-add, arith, length-set}
use native.Mathlib.Nat.{sub-zero}
use Rattle.std.proofs.lemmas.List.{take_more_set, drop-set-lt, drop-drop, take-append-drop, length-take-le}
use Rattle.image.specs.declared.instruction.Instruction.{Instruction}
use Rattle.rules.specs.Program.{Program}
use Rattle.machine.specs.declared.strike.Strike.{Strike}
use Rattle.machine.specs.declared.ran.End.{End}
use Rattle.machine.specs.declared.ran.End.TheVariants.{Halted, Spent, Full}
use Rattle.machine.specs.Machine.{State, Outcome, Deed, stops, goes, strikes, counted, proceed, next, run}
use Rattle.machine.specs.Turns.{ComesTo}
use Rattle.machine.specs.Typed.{Ready}

abbrev pub behind : ℕ → List Strike → Outcome → Outcome
behind n xs o = record { end = o.end; steps = n + o.steps; strikes = xs ++ o.strikes; cells = o.cells }

-- n of the fuel is spent, k strikes stand on the strip, and the run goes on from a state at some words
pub record Going (p : Program) (fuel : ℕ) (first : List Strike) (whole : Outcome) (n k : ℕ) (strip : List Strike) (is : List Instruction) (s : State) : Type 0 where
  pub long : length strip ≡ length first
  pub within : k ≤ length strip
  pub rest : drop k strip ≡ drop k first
  pub comes : behind n (take k strip) (run p (fuel - n) (length strip - k) is s) ≡ whole
  pub ready : Ready p s is

behind_counted : (n : ℕ) (xs ys : List Strike) (o : Outcome) → behind n xs (counted ys o) ≡ behind (n + 1) (xs ++ ys) o
behind_counted n xs ys o =
    let one : n + suc o.steps ≡ n + 1 + o.steps = omega arith in
    λ i. record { end = o.end; steps = one i; strikes = sym (append_assoc xs ys o.strikes) i; cells = o.cells }

behind_none : (o : Outcome) → behind 0 [] o ≡ o
behind_none o = λ i. record { end = o.end; steps = zero-add o.steps i; strikes = o.strikes; cells = o.cells }

pub going_start : (p : Program) (fuel : ℕ) (strip : List Strike) (is js : List Instruction) (s t : State) → is ≡ js → s ≡ t → Ready p t js → Going p fuel strip (run p fuel (length strip) js t) 0 0 strip is s
going_start p fuel strip is js s t e f r = record {
  long = refl;
  within = omega arith;
  rest = refl;
  comes =
      behind_none (run p (fuel - 0) (length strip - 0) is s)
      ∙ ap (λ n. run p n (length strip - 0) is s) (sub-zero fuel)
      ∙ ap (λ n. run p fuel n is s) (sub-zero (length strip))
      ∙ ap (λ is. run p fuel (length strip) is s) e
      ∙ ap (run p fuel (length strip) js) f;
  ready = subst (λ is. Ready p s is) (sym e) (subst (λ s. Ready p s js) (sym f) r);
}

drop_on : (k : ℕ) (xs ys : List Strike) → drop k xs ≡ drop k ys → drop (k + 1) xs ≡ drop (k + 1) ys
drop_on k xs ys e = sym (drop-drop 1 k xs) ∙ ap (drop 1) e ∙ drop-drop 1 k ys

module _ {p : Program} {fuel : ℕ} {first : List Strike} {whole : Outcome} {n k : ℕ} {strip : List Strike} {is : List Instruction} {s : State} (g : Going p fuel first whole n k strip is s) where
  -- the run, one deed opened
  opened : n < fuel → (d : Deed) → next p s is ≡ d → behind n (take k strip) (proceed s (run p (fuel - (n + 1))) d (length strip - k)) ≡ whole
  opened h d e =
      let f : fuel - n ≡ suc (fuel - (n + 1)) = omega arith in
      ap (λ d. behind n (take k strip) (proceed s (run p (fuel - (n + 1))) d (length strip - k))) (sym e)
      ∙ ap (λ m. behind n (take k strip) (run p m (length strip - k) is s)) (sym f)
      ∙ g.comes

  pub going_goes : n < fuel → (js : List Instruction) (t : State) → next p s is ≡ goes js t → Ready p t js → Going p fuel first whole (n + 1) k strip js t
  going_goes h js t e r = record {
    long = g.long;
    within = g.within;
    rest = g.rest;
    comes =
        ap (λ xs. behind (n + 1) xs (run p (fuel - (n + 1)) (length strip - k) js t)) (sym (append-nil (take k strip)))
        ∙ sym (behind_counted n (take k strip) [] (run p (fuel - (n + 1)) (length strip - k) js t))
        ∙ opened h (goes js t) e;
    ready = r;
  }

  pub going_strikes : n < fuel → (x : Strike) (js : List Instruction) (t : State) → next p s is ≡ strikes x js t → k < length strip → Ready p t js → Going p fuel first whole (n + 1) (k + 1) (set strip k x) js t
  going_strikes h x js t e some r =
      let room : length strip - k ≡ suc (length (set strip k x) - (k + 1)) = simp length-set (omega arith) in
      record {
        long = simp length-set g.long;
        within = simp length-set (omega arith);
        rest = drop-set-lt (k + 1) strip k x (omega arith) ∙ drop_on k strip first g.rest;
        comes =
            ap (λ xs. behind (n + 1) xs (run p (fuel - (n + 1)) (length (set strip k x) - (k + 1)) js t)) (take_more_set strip k x some)
            ∙ sym (behind_counted n (take k strip) (x ∷ []) (run p (fuel - (n + 1)) (length (set strip k x) - (k + 1)) js t))
            ∙ ap (λ room. behind n (take k strip) (proceed s (run p (fuel - (n + 1))) (strikes x js t) room)) (sym room)
            ∙ opened h (strikes x js t) e;
        ready = r;
      }

  -- nothing more comes
  ended : (e : End) (steps : ℕ) (cells : List ℕ) → record { end = e; steps = steps; strikes = take k strip ++ []; cells = cells } ≡ whole → ComesTo whole (record { end = e; steps = steps; strikes = k }) first strip cells
  ended e steps cells w =
      let front : take k strip ≡ whole.strikes = sym (append-nil (take k strip)) ∙ ap (λ o. o.strikes) w in
      let size : k ≡ length whole.strikes = sym (length-take-le k strip g.within) ∙ ap length front in
      record {
        end = ap (λ o. o.end) w;
        steps = ap (λ o. o.steps) w;
        strikes = size;
        strip = sym (take-append-drop k strip) ∙ ap (λ xs. xs ++ drop k strip) front ∙ ap (λ ys. whole.strikes ++ ys) g.rest ∙ ap (λ m. whole.strikes ++ drop m first) size;
        cells = ap (λ o. o.cells) w;
      }

  pub going_stops : n < fuel → next p s is ≡ stops → (cells : List ℕ) → cells ≡ s.cells → ComesTo whole (record { end = Halted; steps = n + 1; strikes = k }) first strip cells
  going_stops h e cells c = ended Halted (n + 1) cells (ap (λ cs. record { end = Halted; steps = n + 1; strikes = take k strip ++ []; cells = cs }) c ∙ opened h stops e)

  pub going_full : n < fuel → (x : Strike) (js : List Instruction) (t : State) → next p s is ≡ strikes x js t → length strip ≤ k → (cells : List ℕ) → cells ≡ s.cells → ComesTo whole (record { end = Full; steps = n; strikes = k }) first strip cells
  going_full h x js t e full cells c =
      let none : length strip - k ≡ 0 = omega arith in
      let same : n ≡ n + 0 = omega arith in
      ended Full n cells
      (ap (λ cs. record { end = Full; steps = n; strikes = take k strip ++ []; cells = cs }) c
      ∙ ap (λ m. record { end = Full; steps = m; strikes = take k strip ++ []; cells = s.cells }) same
      ∙ ap (λ room. behind n (take k strip) (proceed s (run p (fuel - (n + 1))) (strikes x js t) room)) (sym none)
      ∙ opened h (strikes x js t) e)

  pub going_spent : fuel ≤ n → n ≤ fuel → ComesTo whole (record { end = Spent; steps = fuel; strikes = k }) first strip s.cells
  going_spent h h' =
      let none : fuel - n ≡ 0 = omega arith in
      let same : fuel ≡ n + 0 = omega arith in
      ended Spent fuel s.cells
      (ap (λ m. record { end = Spent; steps = m; strikes = take k strip ++ []; cells = s.cells }) same
      ∙ ap (λ m. behind n (take k strip) (run p m (length strip - k) is s)) (sym none)
      ∙ g.comes)
