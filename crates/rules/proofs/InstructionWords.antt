-- Instruction words: one whose layout tests are kept is an instruction written down, and one written down is read back.
use Rattle.std.proofs.Common.{◌≡◌, ℕ, suc, ◌+◌, ◌*◌, ◌/◌, ◌%◌, ◌<◌, ◌≤◌, Bool, true, false, eqb, ◌⊎◌, ◌↔◌, List, [], ◌∷◌, map, length, Some, None, Option, sym, refl, ap, ◌∙◌, subst, ap₂, inl, inr, arith}
use Rattle.std.proofs.lemmas.Bool.{ne_eqb}
use Rattle.image.specs.declared.word.Word.{Word}
use Rattle.image.specs.declared.section.Section.TheVariants.{Blocks}
use Rattle.image.specs.declared.instruction.Instruction.{Instruction}
use Rattle.image.specs.declared.instruction.Instruction.TheVariants.{SetNumber, SetTuple, SetBlock, Copy, Add, Subtract, Fetch, Store, Push, Pop, Peek, Poke, Strike, Branch, Raise, Jump, Lower, Halt}
use Rattle.image.specs.declared.rule.LayoutRule.{LayoutRule}
use Rattle.image.specs.declared.rule.LayoutRule.TheVariants.{FieldNotZero}
use Rattle.image.specs.Words.{split, same}
use Rattle.image.specs.Instructions.{inner_of, closing_of, instruction_of, instruction_word}
use Rattle.image.specs.Finding.{Tests}
use Rattle.image.specs.Layout.{instruction_tests}
use Rattle.rules.specs.Says.{instruction_in, none_behind, body_of}
use Rattle.rules.specs.Written.{joined_word, instruction_written}
use Rattle.rules.specs.LaidOut.{Every, ByteInstruction, Ends, Ended}
use Rattle.rules.proofs.Tests.{Kept}
use Rattle.rules.proofs.Words.{Bytes, Body, joined_split, split_bytes, split_joined, same_refl, same_is, said, says_so}

-- ---- the fields of each

abbrev Small : ℕ → Type 0
Small n = n < 256

zeros : Small 0
zeros = omega arith

first_only : (a : ℕ) → (Small a × Small 0 × Small 0) ↔ Small a
first_only a = (λ h. h.0, λ h. (h, zeros, zeros))

last_only : (c : ℕ) → (Small 0 × Small 0 × Small c) ↔ Small c
last_only c = (λ h. h.2, λ h. (zeros, zeros, h))

but_last : (a b : ℕ) → (Small a × Small b × Small 0) ↔ (Small a × Small b)
but_last a b = (λ h. (h.0, h.1), λ h. (h.0, h.1, zeros))

but_middle : (a c : ℕ) → (Small a × Small 0 × Small c) ↔ (Small a × Small c)
but_middle a c = (λ h. (h.0, h.2), λ h. (h.0, zeros, h.1))

but_first : (b c : ℕ) → (Small 0 × Small b × Small c) ↔ (Small b × Small c)
but_first b c = (λ h. (h.1, h.2), λ h. (zeros, h.0, h.1))

all_three : (a b c : ℕ) → (Small a × Small b × Small c) ↔ (Small a × Small b × Small c)
all_three a b c = (λ h. h, λ h. h)

instruction_bytes : (i : Instruction) → Bytes (instruction_word i) ↔ ByteInstruction i
instruction_bytes (SetNumber to value) = (λ h. let (a, b, c) = h in (a, omega arith), λ h. let (a, b) = h in (a, omega arith, omega arith))
instruction_bytes (SetTuple to tuple) = but_middle to tuple
instruction_bytes (SetBlock to block) = but_middle to block
instruction_bytes (Copy to from) = but_last to from
instruction_bytes (Add to left right) = all_three to left right
instruction_bytes (Subtract to left right) = all_three to left right
instruction_bytes (Fetch to pointer cell) = all_three to pointer cell
instruction_bytes (Store pointer from cell) = all_three pointer from cell
instruction_bytes (Push count) = last_only count
instruction_bytes (Pop count) = last_only count
instruction_bytes (Peek to slot) = but_middle to slot
instruction_bytes (Poke from slot) = but_first from slot
instruction_bytes (Strike channel from) = but_last channel from
instruction_bytes (Branch test target) = but_last test target
instruction_bytes (Raise label postdominator) = but_middle label postdominator
instruction_bytes (Jump target) = first_only target
instruction_bytes (Lower block) = last_only block
instruction_bytes Halt = (λ h. tt, λ h. (zeros, zeros, zeros))

-- ---- each is read back where it may stand, and is none where it may not

abbrev Closing : Instruction → Type 0
Closing i = Ends i × (closing_of (instruction_word i) ≡ Some i) × (inner_of (instruction_word i) ≡ None)

abbrev Inner : Instruction → Type 0
Inner i = (Ends i → ⊥) × (closing_of (instruction_word i) ≡ None) × (inner_of (instruction_word i) ≡ Some i)

sorted : (i : Instruction) → Closing i ⊎ Inner i
sorted (SetNumber to value) = let e : value / 256 * 256 + value % 256 ≡ value = omega arith in inr (λ h. h, refl, ap (λ n. Some (SetNumber to n)) e)
sorted (SetTuple to tuple) = inr (λ h. h, refl, refl)
sorted (SetBlock to block) = inr (λ h. h, refl, refl)
sorted (Copy to from) = inr (λ h. h, refl, refl)
sorted (Add to left right) = inr (λ h. h, refl, refl)
sorted (Subtract to left right) = inr (λ h. h, refl, refl)
sorted (Fetch to pointer cell) = inr (λ h. h, refl, refl)
sorted (Store pointer from cell) = inr (λ h. h, refl, refl)
sorted (Push count) = inr (λ h. h, refl, refl)
sorted (Pop count) = inr (λ h. h, refl, refl)
sorted (Peek to slot) = inr (λ h. h, refl, refl)
sorted (Poke from slot) = inr (λ h. h, refl, refl)
sorted (Strike channel from) = inr (λ h. h, refl, refl)
sorted (Branch test target) = inr (λ h. h, refl, refl)
sorted (Raise label postdominator) = inr (λ h. h, refl, refl)
sorted (Jump target) = inl (tt, refl, refl)
sorted (Lower block) = inl (tt, refl, refl)
sorted Halt = inl (tt, refl, refl)

-- it ends the block where it is the last, and only there
abbrev pub Placed : Bool → Instruction → Type 0
Placed true i = Ends i
Placed false i = Ends i → ⊥

never : (i j : Instruction) (o : Option Instruction) → o ≡ None → o ≡ Some i → ⊥
never i j o e f = let z : ◌≡◌ {A = ℕ} 0 1 = cc in omega arith

well_placed : (last : Bool) (i : Instruction) → instruction_of last (instruction_word i) ≡ Some i → Placed last i
well_placed true i e = go (sorted i)
  where
    go : Closing i ⊎ Inner i → Ends i
    go (inl h) = h.0
    go (inr h) = absurd (never i i (closing_of (instruction_word i)) h.1 e)
well_placed false i e = go (sorted i)
  where
    go : Closing i ⊎ Inner i → Ends i → ⊥
    go (inl h) = absurd (never i i (inner_of (instruction_word i)) h.2 e)
    go (inr h) = h.0

decoded : (last : Bool) (i : Instruction) → Placed last i → instruction_of last (instruction_word i) ≡ Some i
decoded true i p = go (sorted i)
  where
    go : Closing i ⊎ Inner i → closing_of (instruction_word i) ≡ Some i
    go (inl h) = h.1
    go (inr h) = absurd (h.0 p)
decoded false i p = go (sorted i)
  where
    go : Closing i ⊎ Inner i → inner_of (instruction_word i) ≡ Some i
    go (inl h) = absurd (p h.0)
    go (inr h) = h.2

-- ---- one word

abbrev said_instruction : Option Instruction → Instruction
said_instruction o = elim o [ None ↦ Halt | Some i ↦ i ]

abbrev tests_at : Word → Instruction → Tests LayoutRule
tests_at w i = (FieldNotZero, same (instruction_word i) w) ∷ []

module _ (last : Bool) where
  abbrev Fine : Instruction → Type 0
  Fine i = ByteInstruction i × Placed last i

  instruction_read : (n : ℕ) → Kept (instruction_tests last (split n)) → (instruction_written (instruction_in last n) ≡ n) × Fine (instruction_in last n)
  instruction_read n h =
      let (i, e, k) = said (tests_at (split n)) (instruction_of last (split n)) h in
      let s = same_is (instruction_word i) (split n) k.0 in
      let f : instruction_in last n ≡ i = ap said_instruction e in (
        ap instruction_written f ∙ ap joined_word s ∙ joined_split n,
        subst Fine (sym f) ((instruction_bytes i).0 (subst Bytes (sym s) (split_bytes n)), well_placed last i (ap (instruction_of last) s ∙ e)),
      )

  instruction_tested : (i : Instruction) → Fine i → Kept (instruction_tests last (split (instruction_written i)))
  instruction_tested i h =
      let s = split_joined (instruction_word i) ((instruction_bytes i).1 h.0) in
      subst (λ w. Kept (instruction_tests last w)) (sym s)
      (says_so (tests_at (instruction_word i)) (instruction_of last (instruction_word i)) i (decoded last i h.1) (same_refl (instruction_word i), tt))

  instruction_back : (i : Instruction) → Fine i → instruction_in last (instruction_written i) ≡ i
  instruction_back i h =
      ap (λ w. said_instruction (instruction_of last w)) (split_joined (instruction_word i) ((instruction_bytes i).1 h.0)) ∙ ap said_instruction (decoded last i h.1)

-- ---- the words of a block

last_is : (ns : List ℕ) → eqb (length ns) 0 ≡ none_behind ns
last_is [] = refl
last_is (n ∷ ns) = ne_eqb (suc (length ns)) 0 (λ e. omega arith)

at_none : (n : ℕ) (ns : List ℕ) → Kept (instruction_tests (eqb (length ns) 0) (split n)) → Kept (instruction_tests (none_behind ns) (split n))
at_none n ns h = subst (λ b. Kept (instruction_tests b (split n))) (last_is ns) h

pub body_read : (ns : List ℕ) → Body Blocks ns → (ns ≡ map instruction_written (body_of ns)) × Every ByteInstruction (body_of ns)
body_read [] h = (refl, tt)
body_read (n ∷ ns) h =
    let (e, y) = instruction_read (none_behind ns) n (at_none n ns h.0) in
    let (es, ys) = body_read ns h.1 in
    (ap₂ ◌∷◌ (sym e) es, (y.0, ys))

pub body_ended : (ns : List ℕ) → 1 ≤ length ns → Body Blocks ns → Ended (body_of ns)
body_ended [] l h = absurd (omega arith)
body_ended (n ∷ []) l h = (instruction_read true n h.0).1.1
body_ended (n ∷ (k ∷ ns)) l h = ((instruction_read false n (at_none n (k ∷ ns) h.0)).1.1, body_ended (k ∷ ns) (omega arith) h.1)

pub body_tested : (is : List Instruction) → Every ByteInstruction is → Ended is → Body Blocks (map instruction_written is)
body_tested [] h e = tt
body_tested (i ∷ []) h e = (instruction_tested true i (h.0, e), tt)
body_tested (i ∷ (j ∷ is)) h e =
    let ns = map instruction_written (j ∷ is) in
    (subst (λ b. Kept (instruction_tests b (split (instruction_written i)))) (sym (last_is ns)) (instruction_tested false i (h.0, e.0)), body_tested (j ∷ is) h.1 e.1)

pub body_back : (is : List Instruction) → Every ByteInstruction is → Ended is → body_of (map instruction_written is) ≡ is
body_back [] h e = refl
body_back (i ∷ []) h e = ap (λ j. j ∷ []) (instruction_back true i (h.0, e))
body_back (i ∷ (j ∷ is)) h e = ap₂ ◌∷◌ (instruction_back false i (h.0, e.0)) (body_back (j ∷ is) h.1 e.1)
