-- The naming pass finds no fault exactly where the programme names what is there.
use Rattle.std.proofs.Common.{◌≡◌, ℕ, zero, suc, ◌+◌, ◌<◌, ◌≤◌, Bool, not, ◌&&◌, ◌||◌, T, eqb, ◌↔◌, List, [], ◌∷◌, ◌++◌, length, get_or, drop, sym, refl, subst, add-one, arith}
use Rattle.std.proofs.lemmas.Bool.{ne_eqb}
use Rattle.labels.specs.Meaning.{Meaning}
use Rattle.image.specs.declared.section.Section.{Section}
use Rattle.image.specs.declared.section.Section.TheVariants.{Channels, Shapes, Signatures, Tuples, Blocks}
use Rattle.image.specs.declared.counts.Counts.{Counts}
use Rattle.image.specs.declared.word.Word.{Word}
use Rattle.image.specs.declared.ty.Sort.TheVariants.{Integer, Pointer, Code}
use Rattle.image.specs.declared.ty.Ty.{Ty}
use Rattle.image.specs.declared.ty.Ty.TheVariants.{Nonsense, Typed}
use Rattle.image.specs.declared.head.Context.{Context}
use Rattle.image.specs.declared.head.Context.TheVariants.{Empty, Raised}
use Rattle.image.specs.declared.instruction.Instruction.{Instruction}
use Rattle.image.specs.declared.instruction.Instruction.TheVariants.{SetNumber, SetTuple, SetBlock, Copy, Add, Subtract, Fetch, Store, Push, Pop, Peek, Poke, Strike, Branch, Raise, Jump, Lower, Halt}
use Rattle.image.specs.Words.{split}
use Rattle.image.specs.Finding.{clear, first}
use Rattle.image.specs.Counts.{no_items, count_of, with_one}
use Rattle.image.specs.Items.{Piece}
use Rattle.image.specs.Splits.{Numbered}
use Rattle.rules.specs.Program.{Signature, Block, Program, shape_at, signature_at, tuple_at, block_at, no_block}
use Rattle.rules.specs.Says.{Part, a_channel, a_shape, a_signature, a_tuple, a_block, part_in, says, with_part, program}
use Rattle.rules.specs.Naming.{unraised, no_address, all, starts, may_start, a_label, type_named, context_named, plain_named, instruction_named, tuple_named, block_named, types_named, plains_named, instructions_named, part_named, naming}
use Rattle.rules.specs.LaidOut.{Every}
use Rattle.rules.specs.Named.{TypeNamed, ContextNamed, Plain, InstructionNamed, SignatureNamed, TupleNamed, BlockNamed, NoAddress, Start, Named}
use Rattle.rules.proofs.Tests.{both, lt_iff, eq_iff, iff_same, iff_then, iff_pair, one_rule, two_rules, three_rules, Kept, Passes, then_clear, first_clear, walk_clear}

all_iff : {A : Type 0} (f : A → Bool) (P : A → Type 0) → ((x : A) → T (f x) ↔ P x) → (xs : List A) → T (all f xs) ↔ Every P xs
all_iff f P e [] = iff_same
all_iff f P e (x ∷ xs) = iff_then (both (f x) (all f xs)) (iff_pair (e x) (all_iff f P e xs))

every_append : {A : Type 0} (P : A → Type 0) (xs ys : List A) → Every P (xs ++ ys) ↔ (Every P xs × Every P ys)
every_append P [] ys = (λ h. (tt, h), λ h. h.1)
every_append P (x ∷ xs) ys = (λ h. let (a, b) = (every_append P xs ys).0 h.1 in ((h.0, a), b), λ h. (h.0.0, (every_append P xs ys).1 (h.0.1, h.1)))

-- ---- the start rule

all_three : (x y z : Bool) → T (x && y && z) ↔ (T x × T y × T z)
all_three x y z = (λ h. let (u, c) = (both (x && y) z).0 h in let (a, b) = (both x y).0 u in (a, b, c), λ h. (both (x && y) z).1 ((both x y).1 (h.0, h.1), h.2))

starts_iff : (s : Signature) → T (starts s) ↔ Start s
starts_iff s =
    iff_then (all_three (unraised s.context) (eqb (length s.types.slots) 0) (all no_address s.types.registers)) (
      λ h. record { context = unraised_is s.context h.0; depth = flat.0 h.1; registers = fine.0 h.2 },
      λ h. (rw h.context tt, flat.1 h.depth, fine.1 h.registers),
    )
  where
    unraised_is : (k : Context) → T (unraised k) → k ≡ Empty
    unraised_is Empty h = refl
    unraised_is (Raised l n) h = absurd h

    flat : T (eqb (length s.types.slots) 0) ↔ (length s.types.slots ≡ 0)
    flat = eq_iff (length s.types.slots) 0

    plain : (t : Ty) → T (no_address t) ↔ NoAddress t
    plain Nonsense = iff_same
    plain (Typed Integer l) = iff_same
    plain (Typed (Pointer o) l) = iff_same
    plain (Typed (Code o) l) = iff_same

    fine : T (all no_address s.types.registers) ↔ Every NoAddress s.types.registers
    fine = all_iff no_address NoAddress plain s.types.registers

-- the block of a number starts as it may
abbrev StartsAs : ℕ → Signature → Type 0
StartsAs zero s = Start s
StartsAs (suc n) s = Unit {0}

may_start_iff : (n : ℕ) (s : Signature) → T (may_start n s) ↔ StartsAs n s
may_start_iff zero s = starts_iff s
may_start_iff (suc n) s = (λ h. tt, λ h. subst (λ b. T (not b || starts s)) (sym (ne_eqb (suc n) 0 (λ e. omega arith))) tt)

module _ (m : Meaning) (p : Program) where
  -- ---- one word each

  type_iff : (t : Ty) → Kept (type_named m p t) ↔ TypeNamed m p t
  type_iff Nonsense = iff_same
  type_iff (Typed Integer l) = one_rule (lt_iff l m.count)
  type_iff (Typed (Pointer s) l) = two_rules (lt_iff s (length p.shapes)) (lt_iff l m.count)
  type_iff (Typed (Code s) l) = two_rules (lt_iff s (length p.signatures)) (lt_iff l m.count)

  context_iff : (k : Context) → Kept (context_named m p k) ↔ ContextNamed m p k
  context_iff Empty = iff_same
  context_iff (Raised l n) = two_rules (lt_iff n (length p.blocks)) (lt_iff l m.count)

  plain_iff : (t : Ty) (n : ℕ) → Kept (plain_named m p t n) ↔ Plain m p t n
  plain_iff Nonsense n = iff_same
  plain_iff (Typed Integer l) n = one_rule (eq_iff n 0)
  plain_iff (Typed (Pointer s) l) n = two_rules (lt_iff n (length p.tuples)) (eq_iff (tuple_at p n).shape s)
  plain_iff (Typed (Code s) l) n = two_rules (lt_iff n (length p.blocks)) (eq_iff (block_at p n).signature s)

  instruction_iff : (i : Instruction) → Kept (instruction_named m p i) ↔ InstructionNamed m p i
  instruction_iff (SetNumber to value) = one_rule (lt_iff to 8)
  instruction_iff (SetTuple to tuple) = two_rules (lt_iff to 8) (lt_iff tuple (length p.tuples))
  instruction_iff (SetBlock to block) = two_rules (lt_iff to 8) (lt_iff block (length p.blocks))
  instruction_iff (Copy to from) = two_rules (lt_iff to 8) (lt_iff from 8)
  instruction_iff (Add to left right) = three_rules (lt_iff to 8) (lt_iff left 8) (lt_iff right 8)
  instruction_iff (Subtract to left right) = three_rules (lt_iff to 8) (lt_iff left 8) (lt_iff right 8)
  instruction_iff (Fetch to pointer cell) = two_rules (lt_iff to 8) (lt_iff pointer 8)
  instruction_iff (Store pointer from cell) = two_rules (lt_iff pointer 8) (lt_iff from 8)
  instruction_iff (Push count) = iff_same
  instruction_iff (Pop count) = iff_same
  instruction_iff (Peek to slot) = one_rule (lt_iff to 8)
  instruction_iff (Poke from slot) = one_rule (lt_iff from 8)
  instruction_iff (Strike channel from) = two_rules (lt_iff channel (length p.channels)) (lt_iff from 8)
  instruction_iff (Branch test target) = two_rules (lt_iff test 8) (lt_iff target 8)
  instruction_iff (Raise label postdominator) = two_rules (lt_iff postdominator (length p.blocks)) (lt_iff label m.count)
  instruction_iff (Jump target) = one_rule (lt_iff target 8)
  instruction_iff (Lower block) = one_rule (lt_iff block (length p.blocks))
  instruction_iff Halt = iff_same

  -- ---- the words behind a head

  types_iff : (place : ℕ) (ts : List Ty) → (types_named m p place ts ≡ clear) ↔ Every (TypeNamed m p) ts
  types_iff place ts = iff_then (walk_clear (λ s t. type_named m p t) (λ s t. s) (λ s t. TypeNamed m p t) (λ s t. type_iff t) (tt {0}) place ts) (same ts)
    where
      same : (ts : List Ty) → Passes (λ s t. type_named m p t) (λ s t. s) (λ s t. TypeNamed m p t) (tt {0}) ts ↔ Every (TypeNamed m p) ts
      same [] = iff_same
      same (t ∷ ts) = iff_pair iff_same (same ts)

  instructions_iff : (place : ℕ) (is : List Instruction) → (instructions_named m p place is ≡ clear) ↔ Every (InstructionNamed m p) is
  instructions_iff place is =
      iff_then (walk_clear (λ s i. instruction_named m p i) (λ s i. s) (λ s i. InstructionNamed m p i) (λ s i. instruction_iff i) (tt {0}) place is) (same is)
    where
      same : (is : List Instruction) → Passes (λ s i. instruction_named m p i) (λ s i. s) (λ s i. InstructionNamed m p i) (tt {0}) is ↔ Every (InstructionNamed m p) is
      same [] = iff_same
      same (i ∷ is) = iff_pair iff_same (same is)

  abbrev Plains : List Ty → List ℕ → Type 0
  Plains ts ns = (c : ℕ) → c < length ns → Plain m p (get_or ts c Nonsense) (get_or ns c 0)

  abbrev PlainWalk : List Ty → List ℕ → Type 0
  PlainWalk ts ns = Passes (λ ts n. plain_named m p (get_or ts 0 Nonsense) n) (λ ts n. drop 1 ts) (λ ts n. Plain m p (get_or ts 0 Nonsense) n) ts ns

  getD_rest : (ts : List Ty) (c : ℕ) → get_or (drop 1 ts) c Nonsense ≡ get_or ts (suc c) Nonsense
  getD_rest [] c = refl
  getD_rest (t ∷ ts) c = refl

  plains_there : (ts : List Ty) (ns : List ℕ) → PlainWalk ts ns → Plains ts ns
  plains_there ts [] h c lt = absurd (omega arith)
  plains_there ts (n ∷ ns) h zero lt = h.0
  plains_there ts (n ∷ ns) h (suc c) lt = rw (← getD_rest ts c) (plains_there (drop 1 ts) ns h.1 c (omega arith))

  plains_back : (ts : List Ty) (ns : List ℕ) → Plains ts ns → PlainWalk ts ns
  plains_back ts [] h = tt
  plains_back ts (n ∷ ns) h = (h 0 (omega arith), plains_back (drop 1 ts) ns (λ c lt. rw (getD_rest ts c) (h (suc c) (omega arith))))

  plains_iff : (ts : List Ty) (place : ℕ) (ns : List ℕ) → (plains_named m p ts place ns ≡ clear) ↔ Plains ts ns
  plains_iff ts place ns =
      iff_then (walk_clear (λ ts n. plain_named m p (get_or ts 0 Nonsense) n) (λ ts n. drop 1 ts) (λ ts n. Plain m p (get_or ts 0 Nonsense) n) (λ ts n. plain_iff (get_or ts 0 Nonsense) n) ts place ns)
      (plains_there ts ns, plains_back ts ns)

  -- ---- an item

  abbrev PartHolds : ℕ → Part → Type 0
  PartHolds number (a_channel l) = l < m.count
  PartHolds number (a_shape ts) = Every (TypeNamed m p) ts
  PartHolds number (a_signature s) = SignatureNamed m p s
  PartHolds number (a_tuple t) = TupleNamed m p t
  PartHolds number (a_block b) = BlockNamed m p b × StartsAs number (signature_at p b.signature)

  part_iff : (number place : ℕ) (x : Part) → (part_named m p number place x ≡ clear) ↔ PartHolds number x
  part_iff number place (a_channel l) = iff_then (first_clear place (a_label m p l ∷ [])) (one_rule (lt_iff l m.count))
  part_iff number place (a_shape ts) = types_iff (suc place) ts
  part_iff number place (a_signature s) =
      iff_then (then_clear (first place (context_named m p s.context)) (types_named m p (suc place) (s.types.registers ++ s.types.slots)))
      (iff_then
      (iff_pair (iff_then (first_clear place (context_named m p s.context)) (context_iff s.context))
      (iff_then (types_iff (suc place) (s.types.registers ++ s.types.slots)) (every_append (TypeNamed m p) s.types.registers s.types.slots)))
      (λ h. record { context = h.0; registers = h.1.0; slots = h.1.1 }, λ h. (h.context, (h.registers, h.slots))))
  part_iff number place (a_tuple t) =
      iff_then (then_clear (first place (tuple_named m p t)) (plains_named m p (shape_at p t.shape) (suc place) t.words))
      (iff_then
      (iff_pair
      (iff_then (first_clear place (tuple_named m p t)) (two_rules (lt_iff t.shape (length p.shapes)) (eq_iff (length t.words) (length (shape_at p t.shape)))))
      (plains_iff (shape_at p t.shape) (suc place) t.words))
      (λ h. record { shape = h.0.0; count = h.0.1; words = h.1 }, λ h. ((h.shape, h.count), h.words)))
  part_iff number place (a_block b) =
      iff_then (then_clear (first place (block_named m p number b)) (instructions_named m p (suc place) b.body))
      (iff_then
      (iff_pair
      (iff_then (first_clear place (block_named m p number b)) (two_rules (lt_iff b.signature (length p.signatures)) (may_start_iff number (signature_at p b.signature))))
      (instructions_iff (suc place) b.body))
      (λ h. (record { signature = h.0.0; body = h.1 }, h.0.1), λ h. ((h.0.signature, h.1), h.0.body)))

  -- ---- all items

  abbrev ItemNamed : Piece → Type 0
  ItemNamed i = PartHolds i.number (says i)

  items_iff : (is : List Piece) → (naming m p is ≡ clear) ↔ Every ItemNamed is
  items_iff [] = (λ h. tt, λ h. refl)
  items_iff (i ∷ is) =
      iff_then (then_clear (part_named m p i.number i.place (says i)) (naming m p is)) (iff_pair (part_iff i.number i.place (says i)) (items_iff is))

  -- the first block, after n others
  abbrev FirstStarts : ℕ → List Block → Type 0
  FirstStarts n [] = Unit {0}
  FirstStarts n (b ∷ bs) = StartsAs n (signature_at p b.signature)

  later : (n : ℕ) (bs : List Block) → FirstStarts (n + 1) bs
  later n [] = tt
  later n (b ∷ bs) = rw (add-one n) tt

  -- what the items say together, after n blocks
  abbrev AllHold : ℕ → Program → Type 0
  AllHold n q =
      Every (λ l. l < m.count) q.channels
      × Every (Every (TypeNamed m p)) q.shapes
      × Every (SignatureNamed m p) q.signatures
      × Every (TupleNamed m p) q.tuples
      × Every (BlockNamed m p) q.blocks
      × FirstStarts n q.blocks

  with_item : (before : Counts) (x : Section) (number : ℕ) (w : Word) (ns : List ℕ) (q : Program) → number ≡ count_of before x → (PartHolds number (part_in x w ns) × AllHold (with_one before x).blocks q) ↔ AllHold before.blocks (with_part (part_in x w ns) q)
  with_item before Channels number w ns q e = (λ h. let r = h.1 in ((h.0, r.0), r.1, r.2, r.3, r.4, r.5), λ r. (r.0.0, (r.0.1, r.1, r.2, r.3, r.4, r.5)))
  with_item before Shapes number w ns q e = (λ h. let r = h.1 in (r.0, (h.0, r.1), r.2, r.3, r.4, r.5), λ r. (r.1.0, (r.0, r.1.1, r.2, r.3, r.4, r.5)))
  with_item before Signatures number w ns q e = (λ h. let r = h.1 in (r.0, r.1, (h.0, r.2), r.3, r.4, r.5), λ r. (r.2.0, (r.0, r.1, r.2.1, r.3, r.4, r.5)))
  with_item before Tuples number w ns q e = (λ h. let r = h.1 in (r.0, r.1, r.2, (h.0, r.3), r.4, r.5), λ r. (r.3.0, (r.0, r.1, r.2, r.3.1, r.4, r.5)))
  with_item before Blocks number w ns q e =
      let s = signature_at p w.b in (
        λ h. let r = h.1 in (r.0, r.1, r.2, r.3, (h.0.0, r.4), subst (λ n. StartsAs n s) e h.0.1),
        λ r. ((r.4.0, rw e r.5), (r.0, r.1, r.2, r.3, r.4.1, later before.blocks q.blocks)),
      )

  together_iff : (before : Counts) (is : List Piece) → Numbered before is → Every ItemNamed is ↔ AllHold before.blocks (program is)
  together_iff before [] n = (λ h. (tt, tt, tt, tt, tt, tt), λ h. tt)
  together_iff before (i ∷ is) n =
      iff_then (iff_pair iff_same (together_iff (with_one before i.section) is n.1))
      (with_item before i.section i.number (split (get_or i.words 0 0)) (drop 1 i.words) (program is) n.0)

-- the pass over numbered items, with a block among them, against the rules of the programme that they say
pub naming_decides : (m : Meaning) (is : List Piece) → Numbered no_items is → 1 ≤ length (program is).blocks → (naming m (program is) is ≡ clear) ↔ Named m (program is)
naming_decides m is n some =
    let p = program is in
    iff_then (iff_then (items_iff m p is) (together_iff m p no_items is n)) (
      λ h. record { channels = h.0; shapes = h.1; signatures = h.2; tuples = h.3; blocks = h.4; start = (begin p p.blocks some).0 h.5 },
      λ r. (r.channels, r.shapes, r.signatures, r.tuples, r.blocks, (begin p p.blocks some).1 r.start),
    )
  where
    begin : (p : Program) (bs : List Block) → 1 ≤ length bs → FirstStarts m p 0 bs ↔ Start (signature_at p (get_or bs 0 no_block).signature)
    begin p [] h = absurd (omega arith)
    begin p (b ∷ bs) h = iff_same
