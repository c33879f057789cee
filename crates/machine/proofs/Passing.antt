-- Raise words are passed over: they change neither the types nor the deed.
use Rattle.std.proofs.Common.{◌≡◌, ℕ, Bool, true, false, List, [], ◌∷◌, sym, refl, ap, ◌∙◌, subst, arith}
use Rattle.image.specs.declared.head.Context.{Context}
use Rattle.image.specs.declared.instruction.Instruction.{Instruction}
use Rattle.image.specs.declared.instruction.Instruction.TheVariants.{SetNumber, SetTuple, SetBlock, Copy, Add, Subtract, Fetch, Store, Push, Pop, Peek, Poke, Strike, Branch, Raise, Jump, Lower, Halt}
use Rattle.rules.specs.Free.{any_label}
use Rattle.rules.specs.LaidOut.{Every}
use Rattle.rules.specs.Named.{InstructionNamed}
use Rattle.rules.specs.Program.{Types, Program}
use Rattle.rules.specs.Says.{program_of}
use Rattle.rules.specs.Types.{after}
use Rattle.rules.specs.WellTyped.{Checked, last, more}
use Rattle.machine.specs.Machine.{State, next}
use Rattle.machine.specs.Raises.{is_raise, past}
use Rattle.machine.specs.Typed.{StateTyped, Ready}
use Rattle.machine.proofs.Sound.{Sound}
use Rattle.machine.proofs.Keeping.{apart, closing_counts, closing}

pub next_past : (p : Program) (s : State) (is : List Instruction) → next p s is ≡ next p s (past is)
next_past p s [] = refl
next_past p s (SetNumber to value ∷ is) = refl
next_past p s (SetTuple to tuple ∷ is) = refl
next_past p s (SetBlock to block ∷ is) = refl
next_past p s (Copy to from ∷ is) = refl
next_past p s (Add to left right ∷ is) = refl
next_past p s (Subtract to left right ∷ is) = refl
next_past p s (Fetch to pointer n ∷ is) = refl
next_past p s (Store pointer from n ∷ is) = refl
next_past p s (Push count ∷ is) = refl
next_past p s (Pop count ∷ is) = refl
next_past p s (Peek to n ∷ is) = refl
next_past p s (Poke from n ∷ is) = refl
next_past p s (Strike channel from ∷ is) = refl
next_past p s (Branch test to ∷ is) = refl
next_past p s (Raise label postdominator ∷ is) = next_past p s is
next_past p s (Jump to ∷ is) = refl
next_past p s (Lower block ∷ is) = refl
next_past p s (Halt ∷ is) = refl

pub past_first : (is js : List Instruction) (i : Instruction) → past is ≡ i ∷ js → is_raise i ≡ false
past_first [] js i e = absurd (let z : ◌≡◌ {A = ℕ} 0 1 = cc in omega arith)
past_first (j ∷ is) js i e = go (is_raise j) refl e (past_first is js i)
  where
    go : (b : Bool) → is_raise j ≡ b → elim b [ true ↦ past is | false ↦ j ∷ is ] ≡ i ∷ js → (past is ≡ i ∷ js → is_raise i ≡ false) → is_raise i ≡ false
    go true f e again = again e
    go false f e again = let same : j ≡ i = cc in ap is_raise (sym same) ∙ f

module _ {ns : List ℕ} (sound : Sound ns) where
  abbrev prog : Program
  prog = program_of ns

  raise_types : (k : Context) (g : Types) (i : Instruction) → is_raise i ≡ true → after any_label prog k g i ≡ g
  raise_types k g (SetNumber to value) e = apart e
  raise_types k g (SetTuple to tuple) e = apart e
  raise_types k g (SetBlock to block) e = apart e
  raise_types k g (Copy to from) e = apart e
  raise_types k g (Add to left right) e = apart e
  raise_types k g (Subtract to left right) e = apart e
  raise_types k g (Fetch to pointer n) e = apart e
  raise_types k g (Store pointer from n) e = refl
  raise_types k g (Push count) e = apart e
  raise_types k g (Pop count) e = apart e
  raise_types k g (Peek to n) e = apart e
  raise_types k g (Poke from n) e = apart e
  raise_types k g (Strike channel from) e = refl
  raise_types k g (Branch test to) e = refl
  raise_types k g (Raise label postdominator) e = refl
  raise_types k g (Jump to) e = refl
  raise_types k g (Lower block) e = refl
  raise_types k g Halt e = refl

  past_checked : {k : Context} {g : Types} (s : State) {is : List Instruction} → Checked any_label prog k g is → Every (InstructionNamed any_label prog) is → StateTyped prog g s → Ready prog s (past is)
  past_checked s (last {k = k} {g = g} {i = i} c) d t = go (is_raise i) refl
    where
      go : (b : Bool) → is_raise i ≡ b → Ready prog s (elim b [ true ↦ [] | false ↦ i ∷ [] ])
      go true e = apart (sym (closing_counts (closing sound k g i c)) ∙ e)
      go false e = record { context = k; types = g; checked = last c; named = d; typed = t }
  past_checked s (more {k = k} {g = g} {i = i} {j = j} {is = is} a c) d t = go (is_raise i) refl (λ t. past_checked s c d.1 t)
    where
      go : (b : Bool) → is_raise i ≡ b → (StateTyped prog (after any_label prog k g i) s → Ready prog s (past (j ∷ is))) → Ready prog s (elim b [ true ↦ past (j ∷ is) | false ↦ i ∷ (j ∷ is) ])
      go true e again = again (subst (λ g. StateTyped prog g s) (sym (raise_types k g i e)) t)
      go false e again = record { context = k; types = g; checked = more a c; named = d; typed = t }

  pub ready_past : (s : State) (is : List Instruction) → Ready prog s is → Ready prog s (past is)
  ready_past s is r = past_checked s r.checked r.named r.typed
