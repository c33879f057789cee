-- The words that are left of a block: the first of them, and those from the first that is no raise.
use Rattle.std.proofs.Common.{◌≡◌, ℕ, ◌-◌, ◌<◌, eqb, List, [], ◌∷◌, length, get_or, take, drop, sym, refl, ap, ◌∙◌, arith}
use Rattle.std.proofs.lemmas.List.{take_rest}
use Rattle.std.proofs.lemmas.Bool.{ne_eqb}
use Rattle.image.specs.declared.instruction.Instruction.{Instruction}
use Rattle.rules.specs.Program.{Program}
use Rattle.rules.specs.Says.{instruction_in, body_of}
use Rattle.machine.specs.Machine.{State, next}
use Rattle.machine.specs.Raises.{past}
use Rattle.machine.proofs.Passing.{next_past}

-- the first of some words is decoded as the last where no other is behind it
pub first_is : (ns : List ℕ) → 0 < length ns → body_of ns ≡ instruction_in (eqb (length ns) 1) (get_or ns 0 0) ∷ body_of (drop 1 ns)
first_is [] h = absurd (omega arith)
first_is (n ∷ []) h = refl
first_is (n ∷ (m ∷ ns)) h = ap (λ b. instruction_in b n ∷ body_of (m ∷ ns)) (sym (ne_eqb (length (n ∷ (m ∷ ns))) 1 (λ e. omega arith)))

pub some_words : (ns : List ℕ) → (body_of ns ≡ [] → ⊥) → 0 < length ns
some_words [] h = absurd (h refl)
some_words (n ∷ ns) h = omega arith

-- the deed of the words is that of the first that is no raise
pub faced : (p : Program) (s : State) (is : List Instruction) (here : List ℕ) (i : Instruction) → body_of here ≡ past is → body_of here ≡ i ∷ body_of (drop 1 here) → next p s is ≡ next p s (i ∷ body_of (take (length here - 1) (drop 1 here)))
faced p s is here i e f = next_past p s is ∙ ap (next p s) (sym e) ∙ ap (next p s) f ∙ ap (λ ws. next p s (i ∷ body_of ws)) (sym (take_rest here 1))
