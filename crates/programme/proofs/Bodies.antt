-- The instructions of a block, word by word.
use Rattle.std.proofs.Common.{◌≡◌, ℕ, zero, suc, ◌+◌, ◌-◌, ◌<◌, eqb, List, [], ◌∷◌, length, get_or, drop, sym, refl, ap, ◌∙◌, arith}
use Rattle.std.proofs.lemmas.List.{length-drop}
use Rattle.std.proofs.lemmas.Bool.{eq-eqb, ne_eqb}
use Rattle.image.specs.declared.instruction.Instruction.TheVariants.{Halt}
use Rattle.rules.specs.Says.{instruction_in, none_behind, body_of}

pub body_length : (ns : List ℕ) → length (body_of ns) ≡ length ns
body_length [] = refl
body_length (n ∷ ns) = ap suc (body_length ns)

nth_instruction : (ns : List ℕ) (i : ℕ) → i < length ns → get_or (body_of ns) i Halt ≡ instruction_in (none_behind (drop (suc i) ns)) (get_or ns i 0)
nth_instruction [] i h = absurd (omega arith)
nth_instruction (n ∷ ns) zero h = refl
nth_instruction (n ∷ ns) (suc i) h = nth_instruction ns i (omega arith)

last_is : (ns : List ℕ) (i : ℕ) → i < length ns → eqb (i + 1) (length ns) ≡ none_behind (drop (suc i) ns)
last_is ns i h = go (drop (suc i) ns) (length-drop (suc i) ns)
  where
    go : (rest : List ℕ) → length rest ≡ length ns - suc i → eqb (i + 1) (length ns) ≡ none_behind rest
    go [] e = eq-eqb (i + 1) (length ns) (omega arith)
    go (n ∷ rest) e = ne_eqb (i + 1) (length ns) (λ z. omega arith)

pub instruction_at : (ns : List ℕ) (i : ℕ) → i < length ns → instruction_in (eqb (i + 1) (length ns)) (get_or ns i 0) ≡ get_or (body_of ns) i Halt
instruction_at ns i h = ap (λ last. instruction_in last (get_or ns i 0)) (last_is ns i h) ∙ sym (nth_instruction ns i h)
