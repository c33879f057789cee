-- Under the meaning that asks nothing of labels no image is refused by 5 or 10, the two refusals that ask a label kind.
use Rattle.std.proofs.Common.{◌≡◌, ℕ, suc, ◌<◌, Bool, true, false, cond, not, ◌||◌, T, ltb, List, [], ◌∷◌, ◌++◌, map, get_or, drop, Some, refl, subst, arith, nltb→le}
use Rattle.image.specs.declared.ty.Sort.TheVariants.{Integer, Pointer, Code}
use Rattle.image.specs.declared.ty.Ty.{Ty}
use Rattle.image.specs.declared.ty.Ty.TheVariants.{Nonsense, Typed}
use Rattle.image.specs.declared.head.Context.{Context}
use Rattle.image.specs.declared.head.Context.TheVariants.{Empty, Raised}
use Rattle.image.specs.declared.instruction.Instruction.{Instruction}
use Rattle.image.specs.declared.instruction.Instruction.TheVariants.{SetNumber, SetTuple, SetBlock, Copy, Add, Subtract, Fetch, Store, Push, Pop, Peek, Poke, Strike, Branch, Raise, Jump, Lower, Halt}
use Rattle.image.specs.declared.rule.LayoutRule.{LayoutRule}
use Rattle.image.specs.declared.rule.LayoutRule.TheVariants.{TooLong, KindOutOfPlace, FieldNotZero, CutShort, TooManyItems, SizeOutOfRange, TooManyCells, NoBlock}
use Rattle.image.specs.Layout.{number_of, layout}
use Rattle.image.specs.Finding.{Finding, clear, fault, Tests, ◌then◌, broken, at_place, first, walk}
use Rattle.image.specs.Items.{Piece, pieces}
use Rattle.rules.specs.Program.{Types, Signature, Program, shape_at, signature_at, promise}
use Rattle.rules.specs.Says.{Part, a_channel, a_shape, a_signature, a_tuple, a_block, says, program_of}
use Rattle.rules.specs.Types.{reg}
use Rattle.rules.specs.Naming.{naming_number, a_label, type_named, context_named, plain_named, instruction_named, tuple_named, block_named, part_named, naming}
use Rattle.rules.specs.Fit.{same_sort, fit_label, pairwise, same_depth, fit_labels, target}
use Rattle.rules.specs.Flow.{flow_number, transfer_tests, flow_tests, state_tests, state_after, part_flow, flow}
use Rattle.rules.specs.LaidOut.{Every, ByteType, CellType, ByteContext, ByteInstruction}
use Rattle.rules.specs.Verdict.{Pass, Verdict, accepted, refused, in_layout, in_naming, in_flow, answer, naming_of, flow_of, verdict}
use Rattle.rules.specs.Free.{any_label}
use Rattle.rules.proofs.Tests.{both}
use Rattle.rules.proofs.TypeWords.{cell_iff}
use Rattle.rules.proofs.ItemWords.{PartLaid, each, every_join}
use Rattle.rules.proofs.Decides.{parts_laid}

-- a number that is neither 5 nor 10
abbrev Unlabelled : ℕ → Type 0
Unlabelled n = (n ≡ 5 → ⊥) × (n ≡ 10 → ⊥)

-- ---- findings and tests whose broken rules have such numbers

module _ {R : Type 0} (number : R → ℕ) where
  abbrev Plain : Finding R → Type 0
  Plain clear = Unit {0}
  Plain (fault rule place) = Unlabelled (number rule)

  abbrev Fine : Tests R → Type 0
  Fine ts = Every (λ t. T (not t.1) → Unlabelled (number t.0)) ts

  then_plain : (x y : Finding R) → Plain x → Plain y → Plain (x then y)
  then_plain clear y h k = k
  then_plain (fault rule place) y h k = h

  first_plain : (place : ℕ) (ts : Tests R) → Fine ts → Plain (first place ts)
  first_plain place [] h = tt
  first_plain place (t ∷ ts) h = go t.1 h.0 (first_plain place ts h.1)
    where
      go : (b : Bool) → (T (not b) → Unlabelled (number t.0)) → Plain (first place ts) → Plain (at_place place (cond b (broken ts) (Some t.0)))
      go true f k = k
      go false f k = f tt

  -- a walk over elements that are known to be in P
  walk_plain : {S A : Type 0} (P : A → Type 0) (tests : S → A → Tests R) (next : S → A → S) → ((s : S) (x : A) → P x → Fine (tests s x)) → (s : S) (place : ℕ) (xs : List A) → Every P xs → Plain (walk tests next s place xs)
  walk_plain P tests next f s place [] h = tt
  walk_plain P tests next f s place (x ∷ xs) h =
      then_plain (first place (tests s x)) (walk tests next (next s x) (suc place) xs) (first_plain place (tests s x) (f s x h.0)) (walk_plain P tests next f (next s x) (suc place) xs h.1)

any : {A : Type 0} (xs : List A) → Every (λ x. Unit {0}) xs
any [] = tt
any (x ∷ xs) = (tt, any xs)

-- ---- layout

layout_plain : (f : Finding LayoutRule) → Plain number_of f
layout_plain clear = tt
layout_plain (fault TooLong place) = omega arith
layout_plain (fault KindOutOfPlace place) = omega arith
layout_plain (fault FieldNotZero place) = omega arith
layout_plain (fault CutShort place) = omega arith
layout_plain (fault TooManyItems place) = omega arith
layout_plain (fault SizeOutOfRange place) = omega arith
layout_plain (fault TooManyCells place) = omega arith
layout_plain (fault NoBlock place) = omega arith

-- ---- naming

four : Unlabelled 4
four = (λ e. omega arith, λ e. omega arith)

-- a byte is a label
label_fine : (l : ℕ) → l < 256 → T (not (ltb l 256)) → Unlabelled 5
label_fine l h t = let k = nltb→le l 256 t in absurd (omega arith)

module _ (p : Program) where
  type_fine : (t : Ty) → ByteType t → Fine naming_number (type_named any_label p t)
  type_fine Nonsense y = tt
  type_fine (Typed Integer l) y = (label_fine l y, tt)
  type_fine (Typed (Pointer s) l) y = (λ t. four, (label_fine l y.1, tt))
  type_fine (Typed (Code s) l) y = (λ t. four, (label_fine l y.1, tt))

  context_fine : (k : Context) → ByteContext k → Fine naming_number (context_named any_label p k)
  context_fine Empty y = tt
  context_fine (Raised l n) y = (λ t. four, (label_fine l y.0, tt))

  plain_fine : (t : Ty) (n : ℕ) → Fine naming_number (plain_named any_label p t n)
  plain_fine Nonsense n = tt
  plain_fine (Typed Integer l) n = (λ t. omega arith, tt)
  plain_fine (Typed (Pointer s) l) n = (λ t. four, (λ t. omega arith, tt))
  plain_fine (Typed (Code s) l) n = (λ t. four, (λ t. omega arith, tt))

  instruction_fine : (i : Instruction) → ByteInstruction i → Fine naming_number (instruction_named any_label p i)
  instruction_fine (SetNumber to value) y = (λ t. four, tt)
  instruction_fine (SetTuple to tuple) y = (λ t. four, (λ t. four, tt))
  instruction_fine (SetBlock to block) y = (λ t. four, (λ t. four, tt))
  instruction_fine (Copy to from) y = (λ t. four, (λ t. four, tt))
  instruction_fine (Add to left right) y = (λ t. four, (λ t. four, (λ t. four, tt)))
  instruction_fine (Subtract to left right) y = (λ t. four, (λ t. four, (λ t. four, tt)))
  instruction_fine (Fetch to pointer cell) y = (λ t. four, (λ t. four, tt))
  instruction_fine (Store pointer from cell) y = (λ t. four, (λ t. four, tt))
  instruction_fine (Push count) y = tt
  instruction_fine (Pop count) y = tt
  instruction_fine (Peek to slot) y = (λ t. four, tt)
  instruction_fine (Poke from slot) y = (λ t. four, tt)
  instruction_fine (Strike channel from) y = (λ t. four, (λ t. four, tt))
  instruction_fine (Branch test target) y = (λ t. four, (λ t. four, tt))
  instruction_fine (Raise label postdominator) y = (λ t. four, (label_fine label y.0, tt))
  instruction_fine (Jump target) y = (λ t. four, tt)
  instruction_fine (Lower block) y = (λ t. four, tt)
  instruction_fine Halt y = tt

  types_plain : (place : ℕ) (ts : List Ty) → Every ByteType ts → Plain naming_number (walk (λ s t. type_named any_label p t) (λ s t. s) (tt {0}) place ts)
  types_plain place ts h = walk_plain naming_number ByteType (λ s t. type_named any_label p t) (λ s t. s) (λ s t y. type_fine t y) (tt {0}) place ts h

  part_plain : (number place : ℕ) (x : Part) → PartLaid x → Plain naming_number (part_named any_label p number place x)
  part_plain number place (a_channel l) y = first_plain naming_number place (a_label any_label p l ∷ []) (label_fine l y, tt)
  part_plain number place (a_shape ts) y = types_plain (suc place) ts (each CellType ByteType (λ t c. ((cell_iff t).1 c).0) ts y.cells)
  part_plain number place (a_signature s) y =
      then_plain naming_number (first place (context_named any_label p s.context)) _ (first_plain naming_number place (context_named any_label p s.context) (context_fine s.context y.context))
      (types_plain (suc place) (s.types.registers ++ s.types.slots) (every_join ByteType s.types.registers s.types.slots y.registers y.slots))
  part_plain number place (a_tuple t) y =
      then_plain naming_number _ _ (first_plain naming_number place (tuple_named any_label p t) (λ t. four, (λ t. omega arith, tt)))
      (walk_plain naming_number (λ n. Unit {0}) (λ ts n. plain_named any_label p (get_or ts 0 Nonsense) n) (λ ts n. drop 1 ts) (λ ts n h. plain_fine (get_or ts 0 Nonsense) n) (shape_at p t.shape) (suc place) t.words (any t.words))
  part_plain number place (a_block b) y =
      then_plain naming_number _ _ (first_plain naming_number place (block_named any_label p number b) (λ t. four, (λ t. omega arith, tt)))
      (walk_plain naming_number ByteInstruction (λ s i. instruction_named any_label p i) (λ s i. s) (λ s i h. instruction_fine i h) (tt {0}) (suc place) b.body y.bytes)

  naming_plain : (is : List Piece) → Every PartLaid (map says is) → Plain naming_number (naming any_label p is)
  naming_plain [] y = tt
  naming_plain (i ∷ is) y =
      then_plain naming_number (part_named any_label p i.number i.place (says i)) (naming any_label p is) (part_plain i.number i.place (says i) y.0) (naming_plain is y.1)

-- ---- flow

any_fit : (h w : Ty) → T (fit_label any_label h w)
any_fit h Nonsense = tt
any_fit Nonsense (Typed s k) = tt
any_fit (Typed o l) (Typed s k) = go (same_sort o s)
  where
    go : (b : Bool) → T (not b || true)
    go true = tt
    go false = tt

any_pairs : (xs ys : List Ty) → T (pairwise (fit_label any_label) xs ys)
any_pairs xs [] = tt
any_pairs [] (w ∷ ws) = (both (fit_label any_label Nonsense w) (pairwise (fit_label any_label) [] ws)).1 (any_fit Nonsense w, any_pairs [] ws)
any_pairs (x ∷ xs) (w ∷ ws) = (both (fit_label any_label x w) (pairwise (fit_label any_label) xs ws)).1 (any_fit x w, any_pairs xs ws)

any_fits : (g w : Types) → T (not (fit_labels any_label g w)) → ⊥
any_fits g w =
    go (fit_labels any_label g w)
    ((both (pairwise (fit_label any_label) g.registers w.registers) (not (same_depth g w) || pairwise (fit_label any_label) g.slots w.slots)).1
    (any_pairs g.registers w.registers, depth (same_depth g w) (pairwise (fit_label any_label) g.slots w.slots) (any_pairs g.slots w.slots)))
  where
    go : (b : Bool) → T b → T (not b) → ⊥
    go true p q = q
    go false p q = p

    depth : (d s : Bool) → T s → T (not d || s)
    depth true s h = h
    depth false s h = tt

module _ (p : Program) where
  transfer_fine : (k : Context) (g : Types) (s : Signature) → Fine flow_number (transfer_tests any_label p k g s)
  transfer_fine k g s = (λ t. absurd (any_fits g s.types t), (λ t. omega arith, (λ t. omega arith, (λ t. omega arith, tt))))

  flow_fine : (k : Context) (g : Types) (i : Instruction) → Fine flow_number (flow_tests any_label p k g i)
  flow_fine k g (SetNumber to value) = tt
  flow_fine k g (SetTuple to tuple) = tt
  flow_fine k g (SetBlock to block) = tt
  flow_fine k g (Copy to from) = tt
  flow_fine k g (Add to left right) = (λ t. omega arith, (λ t. omega arith, tt))
  flow_fine k g (Subtract to left right) = (λ t. omega arith, (λ t. omega arith, tt))
  flow_fine k g (Fetch to pointer n) = (λ t. omega arith, (λ t. omega arith, tt))
  flow_fine k g (Store pointer from n) = (λ t. omega arith, (λ t. omega arith, (λ t. omega arith, (λ t. absurd t, tt))))
  flow_fine k g (Push count) = (λ t. omega arith, tt)
  flow_fine k g (Pop count) = (λ t. omega arith, tt)
  flow_fine k g (Peek to n) = (λ t. omega arith, tt)
  flow_fine k g (Poke from n) = (λ t. omega arith, tt)
  flow_fine k g (Strike channel from) = (λ t. omega arith, (λ t. absurd t, tt))
  flow_fine k g (Branch test to) = (λ t. omega arith, (λ t. omega arith, (λ t. absurd t, (λ t. absurd t, transfer_fine k g (target p (reg g to))))))
  flow_fine k g (Raise label postdominator) = (λ t. absurd t, (λ t. omega arith, tt))
  flow_fine k g (Jump to) = (λ t. omega arith, (λ t. absurd t, transfer_fine k g (target p (reg g to))))
  flow_fine k g (Lower block) = (λ t. absurd (any_fits g (promise p block).types t), (λ t. omega arith, (λ t. omega arith, (λ t. omega arith, tt))))
  flow_fine k g Halt = (λ t. omega arith, tt)

  part_flow_plain : (place : ℕ) (x : Part) → Plain flow_number (part_flow any_label p place x)
  part_flow_plain place (a_channel l) = tt
  part_flow_plain place (a_shape ts) = tt
  part_flow_plain place (a_signature s) = tt
  part_flow_plain place (a_tuple t) = tt
  part_flow_plain place (a_block b) =
      walk_plain flow_number (λ i. Unit {0}) (state_tests any_label p) (state_after any_label p) (λ s i h. flow_fine s.context s.types i) (signature_at p b.signature) (suc place) b.body (any b.body)

  flow_plain : (is : List Piece) → Plain flow_number (flow any_label p is)
  flow_plain [] = tt
  flow_plain (i ∷ is) = then_plain flow_number (part_flow any_label p i.place (says i)) (flow any_label p is) (part_flow_plain i.place (says i)) (flow_plain is)

-- ---- the verdict

abbrev PlainVerdict : Verdict → Type 0
PlainVerdict accepted = Unit {0}
PlainVerdict (refused pass n place) = Unlabelled n

answer_plain : {R : Type 0} (pass : Pass) (number : R → ℕ) (f : Finding R) (v : Verdict) → Plain number f → (f ≡ clear → PlainVerdict v) → PlainVerdict (answer pass number f v)
answer_plain pass number clear v h k = k refl
answer_plain pass number (fault rule place) v h k = h

verdict_plain : (ns : List ℕ) → PlainVerdict (verdict any_label ns)
verdict_plain ns =
    answer_plain in_layout number_of (layout ns) _ (layout_plain (layout ns))
    (λ l. answer_plain in_naming naming_number (naming_of any_label ns) _ (naming_plain (program_of ns) (pieces ns) (parts_laid ns l))
    (λ n. answer_plain in_flow flow_number (flow_of any_label ns) accepted (flow_plain (program_of ns) (pieces ns)) (λ f. tt)))

pub never_labels : (ns : List ℕ) (pass : Pass) (n place : ℕ) → verdict any_label ns ≡ refused pass n place → Unlabelled n
never_labels ns pass n place e = subst PlainVerdict e (verdict_plain ns)
