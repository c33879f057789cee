-- The words behind a head, each with its finding: the first of these is what the walk over the words finds.
use Rattle.std.proofs.Common.{◌≡◌, ℕ, suc, ◌+◌, eqb, List, [], ◌∷◌, map, length, Option, refl, ap, ◌∙◌, arith}
use Rattle.std.specs.List.{enumerate_from, zip}
use Rattle.std.proofs.lemmas.Bool.{eq-eqb, ne_eqb}
use Rattle.labels.specs.Meaning.{Meaning}
use Rattle.image.specs.Finding.{Finding, ◌then◌, at_place, broken}
use Rattle.rules.specs.declared.rule.NamingRule.{NamingRule}
use Rattle.rules.specs.Program.{Program}
use Rattle.rules.specs.Says.{type_in, instruction_in, none_behind, body_of}
use Rattle.rules.specs.Naming.{type_named, plain_named, instruction_named, types_named, plains_named, instructions_named}
use Rattle.naming.proofs.Chains.{earliest}

-- one finding before others
first_of : {R : Type 0} (o : Option R) (j k : ℕ) (x y : Finding R) → j ≡ k → x ≡ y → (at_place j o then x) ≡ (at_place k o then y)
first_of o j k x y at e = ap (λ j. at_place j o then x) at ∙ ap (λ x. at_place k o then x) e

-- the last of so many words has none behind it
last_is : (i size : ℕ) (ns : List ℕ) → i + suc (length ns) ≡ size → eqb (i + 1) size ≡ none_behind ns
last_is i size [] e = eq-eqb (i + 1) size (omega arith)
last_is i size (n ∷ ns) e = ne_eqb (i + 1) size (λ z. omega arith)

-- the findings at the i-th word behind the head at a place
module _ (m : Meaning) (p : Program) (place : ℕ) where
  abbrev pub type_found : ℕ × ℕ → Finding NamingRule
  type_found q = at_place (place + 1 + q.0) (broken (type_named m p (type_in q.1)))

  pub types_found : (i k : ℕ) (ns : List ℕ) → place + 1 + i ≡ k → earliest type_found (enumerate_from i ns) ≡ types_named m p k (map type_in ns)
  types_found i k [] at = refl
  types_found i k (n ∷ ns) at = first_of _ _ _ _ _ at (types_found (i + 1) (suc k) ns (omega arith))

  -- each with the type word of its cell
  abbrev pub plain_found : ℕ × (ℕ × ℕ) → Finding NamingRule
  plain_found q = at_place (place + 1 + q.0) (broken (plain_named m p (type_in q.1.0) q.1.1))

  pub plains_found : (i k : ℕ) (ts ns : List ℕ) → length ns ≡ length ts → place + 1 + i ≡ k → earliest plain_found (enumerate_from i (zip ts ns)) ≡ plains_named m p (map type_in ts) k ns
  plains_found i k [] [] size at = refl
  plains_found i k [] (n ∷ ns) size at = absurd (omega arith)
  plains_found i k (t ∷ ts) [] size at = refl
  plains_found i k (t ∷ ts) (n ∷ ns) size at = first_of _ _ _ _ _ at (plains_found (i + 1) (suc k) ts ns (omega arith) (omega arith))

  -- in a block of so many instructions
  abbrev pub instruction_found : ℕ → ℕ × ℕ → Finding NamingRule
  instruction_found size q = at_place (place + 1 + q.0) (broken (instruction_named m p (instruction_in (eqb (q.0 + 1) size) q.1)))

  pub instructions_found : (size i k : ℕ) (ns : List ℕ) → i + length ns ≡ size → place + 1 + i ≡ k → earliest (instruction_found size) (enumerate_from i ns) ≡ instructions_named m p k (body_of ns)
  instructions_found size i k [] all at = refl
  instructions_found size i k (n ∷ ns) all at =
      ap (λ b. at_place (place + 1 + i) (broken (instruction_named m p (instruction_in b n))) then earliest (instruction_found size) (enumerate_from (i + 1) ns)) (last_is i size ns all)
      ∙ first_of _ _ _ _ _ at (instructions_found size (i + 1) (suc k) ns (omega arith) (omega arith))
