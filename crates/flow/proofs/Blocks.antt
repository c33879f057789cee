-- The walk through the instructions of a block, one after another, by a meaning and a programme that are those of the pass.
use Rattle.std.proofs.Common.{◌≡◌, ℕ, suc, ◌+◌, ◌<◌, ◌≤◌, eqb, List, ◌∷◌, length, get_or, drop, Some, None, Option, sym, ap, ◌∙◌, arith}
use Rattle.std.proofs.lemmas.List.{drop_more, drop_all}
use Rattle.labels.specs.Meaning.{Meaning}
use Rattle.image.specs.declared.instruction.Instruction.{Instruction}
use Rattle.image.specs.declared.instruction.Instruction.TheVariants.{Halt}
use Rattle.image.specs.Finding.{clear, fault, ◌then◌, broken, at_place}
use Rattle.rules.specs.declared.rule.FlowRule.{FlowRule}
use Rattle.rules.specs.Flow.{state_tests, state_after, body_flow}
use Rattle.rules.specs.Program.{Signature, Program}
use Rattle.rules.specs.Says.{instruction_in, body_of}
use Rattle.programme.proofs.Bodies.{body_length, instruction_at}

module _ (m : Meaning) (p : Program) (ns : List ℕ) (place i : ℕ) (s : Signature) (x : Instruction) where
  -- what is found from the i-th word on, given what it breaks
  turned : (o : Option FlowRule) → i < length ns → x ≡ instruction_in (eqb (i + 1) (length ns)) (get_or ns i 0) → o ≡ broken (state_tests m p s x) → body_flow m p s (place + i) (drop i (body_of ns)) ≡ (at_place (place + i) o then body_flow m p (state_after m p s x) (suc (place + i)) (drop (i + 1) (body_of ns)))
  turned o h is e =
      let there : i < length (body_of ns) = omega (arith, body_length ns) in
      ap (body_flow m p s (place + i)) (drop_more (body_of ns) i Halt there ∙ ap (λ y. y ∷ drop (i + 1) (body_of ns)) (sym (is ∙ instruction_at ns i h)))
      ∙ ap (λ b. at_place (place + i) b then body_flow m p (state_after m p s x) (suc (place + i)) (drop (i + 1) (body_of ns))) (sym e)

  module _ (k : Meaning) (q : Program) (same : k ≡ m) (alike : q ≡ p) (h : i < length ns) (is : x ≡ instruction_in (eqb (i + 1) (length ns)) (get_or ns i 0)) where
    pub more : (t : Signature) → None ≡ broken (state_tests k q s x) → t ≡ state_after k q s x → body_flow m p t (place + (i + 1)) (drop (i + 1) (body_of ns)) ≡ body_flow m p s (place + i) (drop i (body_of ns))
    more t e to =
        let on : place + (i + 1) ≡ suc (place + i) = omega arith in
        let none = rw (same, alike) at e in
        let after = rw (same, alike) at to in
        ap (λ n. body_flow m p t n (drop (i + 1) (body_of ns))) on
        ∙ ap (λ u. body_flow m p u (suc (place + i)) (drop (i + 1) (body_of ns))) after
        ∙ sym (turned None h is none)

    pub found : (rule : FlowRule) → Some rule ≡ broken (state_tests k q s x) → fault rule (place + i) ≡ body_flow m p s (place + i) (drop i (body_of ns))
    found rule e = let some = rw (same, alike) at e in sym (turned (Some rule) h is some)

pub ended : (m : Meaning) (p : Program) (ns : List ℕ) (place i : ℕ) (s : Signature) → length ns ≤ i → clear ≡ body_flow m p s (place + i) (drop i (body_of ns))
ended m p ns place i s h =
    let past : length (body_of ns) ≤ i = omega (arith, body_length ns) in
    sym (ap (body_flow m p s (place + i)) (drop_all i (body_of ns) past))
