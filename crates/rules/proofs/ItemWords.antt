-- An item whose tests are kept is a part of a programme written down, and a part within its limits passes the tests when it is written.
use Rattle.std.proofs.Common.{◌≡◌, ℕ, zero, suc, ◌+◌, ◌%◌, ◌<◌, ◌≤◌, true, false, cond, T, leb, ◌↔◌, List, [], ◌∷◌, ◌++◌, map, length, take, drop, Some, sym, refl, ap, ◌∙◌, subst, ap₂, arith, le→leb, leb→le, length-append, length-drop, take-append-drop, length-take}
use lib.ListN.{length-map}
use Rattle.std.proofs.lemmas.Bool.{le-leb, lt-leb}
use Rattle.image.specs.declared.section.Section.TheVariants.{Shapes, Signatures, Tuples}
use Rattle.image.specs.declared.head.Context.{Context}
use Rattle.image.specs.declared.head.Context.TheVariants.{Empty, Raised}
use Rattle.image.specs.declared.head.Head.{Head}
use Rattle.image.specs.declared.head.Head.TheVariants.{Channel, Shape, Signature, Tuple, Block}
use Rattle.image.specs.declared.instruction.Instruction.{Instruction}
use Rattle.image.specs.Heads.{context_of, head_of, head_word, section_of, follows}
use Rattle.image.specs.Layout.{between, size_fine}
use Rattle.rules.specs.Program.{Types}
use Rattle.rules.specs.Says.{Part, a_channel, a_shape, a_signature, a_tuple, a_block, type_in, body_of, part_in}
use Rattle.rules.specs.Written.{type_written, instruction_written, head_for, body_written}
use Rattle.rules.specs.LaidOut.{Every, ByteType, CellType, ByteContext, Ended, ShapeLaid, SignatureLaid, TupleLaid, BlockLaid}
use Rattle.rules.proofs.Tests.{both, iff_same}
use Rattle.rules.proofs.Words.{Bytes, Body, body_each}
use Rattle.rules.proofs.TypeWords.{Fine, Tested, types_read, types_tested, types_back, cell_iff, byte_iff}
use Rattle.rules.proofs.InstructionWords.{body_read, body_ended, body_tested, body_back}

abbrev pub PartLaid : Part → Type 0
PartLaid (a_channel l) = l < 256
PartLaid (a_shape ts) = ShapeLaid ts
PartLaid (a_signature s) = SignatureLaid s
PartLaid (a_tuple t) = TupleLaid t
PartLaid (a_block b) = BlockLaid b

-- ---- lists

pub each : {A : Type 0} (P Q : A → Type 0) → ((x : A) → P x → Q x) → (xs : List A) → Every P xs → Every Q xs
each P Q f [] h = tt
each P Q f (x ∷ xs) h = (f x h.0, each P Q f xs h.1)

every_take : {A : Type 0} (P : A → Type 0) (n : ℕ) (xs : List A) → Every P xs → Every P (take n xs)
every_take P zero xs h = tt
every_take P (suc n) [] h = tt
every_take P (suc n) (x ∷ xs) h = (h.0, every_take P n xs h.1)

every_drop : {A : Type 0} (P : A → Type 0) (n : ℕ) (xs : List A) → Every P xs → Every P (drop n xs)
every_drop P zero xs h = h
every_drop P (suc n) [] h = tt
every_drop P (suc n) (x ∷ xs) h = every_drop P n xs h.1

pub every_join : {A : Type 0} (P : A → Type 0) (xs ys : List A) → Every P xs → Every P ys → Every P (xs ++ ys)
every_join P [] ys h k = k
every_join P (x ∷ xs) ys h k = (h.0, every_join P xs ys h.1 k)

pub take_front : {A : Type 0} (xs ys : List A) → take (length xs) (xs ++ ys) ≡ xs
take_front [] ys = refl
take_front (x ∷ xs) ys = ap (λ zs. x ∷ zs) (take_front xs ys)

pub drop_front : {A : Type 0} (xs ys : List A) → drop (length xs) (xs ++ ys) ≡ ys
drop_front [] ys = refl
drop_front (x ∷ xs) ys = drop_front xs ys

-- ---- tests of sizes and bodies

between_is : (low high n : ℕ) → T (between low high n) → (low ≤ n) × (n ≤ high)
between_is low high n h = let (a, b) = (both (leb low n) (leb n high)).0 h in (leb→le low n a, leb→le n high b)

between_from : (low high n : ℕ) → low ≤ n → n ≤ high → T (between low high n)
between_from low high n h k = (both (leb low n) (leb n high)).1 (le→leb low n h, le→leb n high k)

shape_body : (ns : List ℕ) → Body Shapes ns ↔ Every (Tested false) ns
shape_body = body_each Shapes (Tested false) (λ behind n. iff_same)

signature_body : (ns : List ℕ) → Body Signatures ns ↔ Every (Tested true) ns
signature_body = body_each Signatures (Tested true) (λ behind n. iff_same)

tuple_body : (ns : List ℕ) → Body Tuples ns
tuple_body [] = tt
tuple_body (n ∷ ns) = (tt, tuple_body ns)

-- ---- the head of a signature

context_again : (k : Context) (d : ℕ) → context_of (head_word (Signature k d)) ≡ k
context_again Empty d = ap (λ r. cond r (Raised 0 0) Empty) (lt-leb 128 (d % 128) (omega arith))
context_again (Raised l n) d = ap (λ r. cond r (Raised l n) Empty) (le-leb 128 (128 + d % 128) (omega arith))

signature_again : (k : Context) (d : ℕ) → d < 128 → head_of (head_word (Signature k d)) ≡ Some (Signature k d)
signature_again Empty d h = let e : d % 128 % 128 ≡ d = omega arith in ap₂ (λ k d. Some (Signature k d)) (context_again Empty d) e
signature_again (Raised l n) d h = let e : (128 + d % 128) % 128 ≡ d = omega arith in ap₂ (λ k d. Some (Signature k d)) (context_again (Raised l n) d) e

signature_bytes : (k : Context) (d : ℕ) → Bytes (head_word (Signature k d)) ↔ ByteContext k
signature_bytes Empty d = (λ h. tt, λ h. (omega arith, omega arith, omega arith))
signature_bytes (Raised l n) d = (λ h. (h.0, h.1), λ h. (h.0, h.1, omega arith))

-- ---- from words

pub record Read (h : Head) (ns : List ℕ) : Type 0 where
  pub head : head_for (part_in (section_of h) (head_word h) ns) ≡ h
  pub body : ns ≡ body_written (part_in (section_of h) (head_word h) ns)
  pub laid : PartLaid (part_in (section_of h) (head_word h) ns)

pub reads : (h : Head) (ns : List ℕ) → Bytes (head_word h) → T (size_fine h) → Body (section_of h) ns → length ns ≡ follows h → Read h ns
reads (Channel label) [] y s b l = record { head = refl; body = refl; laid = y.2 }
reads (Channel label) (n ∷ ns) y s b l = absurd (omega arith)
reads (Shape cells) ns y s b l =
    let (low, high) = between_is 1 16 cells s in
    let m = length-map ns type_in in
    let (e, f) = types_read false ns ((shape_body ns).0 b) in
    let c : length (map type_in ns) ≡ cells = m ∙ l in
    record {
      head = ap (λ n. Shape n) c;
      body = e;
      laid = record { some = omega arith; few = omega arith; cells = each (Fine false) CellType (λ t. (cell_iff t).0) (map type_in ns) f };
    }
reads (Signature context depth) ns y s b l =
    let low = leb→le depth 32 s in
    let ld = length-drop 8 ns in
    let lt = length-take 8 ns in
    let md = length-map (drop 8 ns) type_in in
    let mt = length-map (take 8 ns) type_in in
    let k = (signature_body ns).0 b in
    let rs = types_read true (take 8 ns) (every_take (Tested true) 8 ns k) in
    let ss = types_read true (drop 8 ns) (every_drop (Tested true) 8 ns k) in
    let d : length (map type_in (drop 8 ns)) ≡ depth = omega arith in
    record {
      head = ap₂ (λ k d. Signature k d) (context_again context depth) d;
      body = sym (take-append-drop 8 ns) ∙ ap₂ ◌++◌ rs.0 ss.0;
      laid = record {
        context = subst ByteContext (sym (context_again context depth)) ((signature_bytes context depth).0 y);
        eight = omega arith;
        depth = omega arith;
        registers = each (Fine true) ByteType (λ t. (byte_iff t).0) (map type_in (take 8 ns)) rs.1;
        slots = each (Fine true) ByteType (λ t. (byte_iff t).0) (map type_in (drop 8 ns)) ss.1;
      };
    }
reads (Tuple shape cells) ns y s b l =
    let (low, high) = between_is 1 16 cells s in
    record { head = ap (λ n. Tuple shape n) l; body = refl; laid = record { shape = y.2; some = omega arith; few = omega arith } }
reads (Block signature words) ns y s b l =
    let (low, high) = between_is 1 64 words s in
    let (e, f) = body_read ns b in
    let m : length (body_of ns) ≡ words = sym (length-map (body_of ns) instruction_written) ∙ ap length (sym e) ∙ l in
    record {
      head = ap (λ n. Block signature n) m;
      body = e;
      laid = record { signature = y.1; few = omega arith; bytes = f; ended = body_ended ns (omega arith) b };
    }

-- ---- to words

pub record Wrote (x : Part) : Type 0 where
  pub bytes : Bytes (head_word (head_for x))
  pub decoded : head_of (head_word (head_for x)) ≡ Some (head_for x)
  pub size : T (size_fine (head_for x))
  pub follow : follows (head_for x) ≡ length (body_written x)
  pub body : Body (section_of (head_for x)) (body_written x)
  pub back : part_in (section_of (head_for x)) (head_word (head_for x)) (body_written x) ≡ x

-- the types of a signature, written and read back
module _ (g : Types) (eight : length g.registers ≡ 8) (rs : Every ByteType g.registers) (ss : Every ByteType g.slots) where
  abbrev front : List ℕ
  front = map type_written g.registers

  abbrev rest : List ℕ
  rest = map type_written g.slots

  front_eight : length front ≡ 8
  front_eight = length-map g.registers type_written ∙ eight

  registers_back : map type_in (take 8 (front ++ rest)) ≡ g.registers
  registers_back = ap (map type_in) (subst (λ n. take n (front ++ rest) ≡ front) front_eight (take_front front rest)) ∙ types_back g.registers rs

  slots_back : map type_in (drop 8 (front ++ rest)) ≡ g.slots
  slots_back = ap (map type_in) (subst (λ n. drop n (front ++ rest) ≡ rest) front_eight (drop_front front rest)) ∙ types_back g.slots ss

  words_long : 8 + length g.slots ≡ length (front ++ rest)
  words_long =
      let a = length-append front rest in
      let b = length-map g.slots type_written in
      let c = front_eight in
      omega arith

  words_tested : Body Signatures (front ++ rest)
  words_tested =
      (signature_body (front ++ rest)).1
      (every_join (Tested true) front rest
      (types_tested true g.registers (each ByteType (Fine true) (λ t. (byte_iff t).1) g.registers rs))
      (types_tested true g.slots (each ByteType (Fine true) (λ t. (byte_iff t).1) g.slots ss)))

some_words : (is : List Instruction) → Ended is → 1 ≤ length is
some_words [] h = absurd h
some_words (i ∷ is) h = omega arith

pub writes : (x : Part) → PartLaid x → Wrote x
writes (a_channel l) h = record { bytes = (omega arith, omega arith, h); decoded = refl; size = tt; follow = refl; body = tt; back = refl }
writes (a_shape ts) h =
    record {
      bytes = (omega arith, omega arith, omega arith);
      decoded = refl;
      size = between_from 1 16 (length ts) h.some h.few;
      follow = sym (length-map ts type_written);
      body = (shape_body (map type_written ts)).1 (types_tested false ts (each CellType (Fine false) (λ t. (cell_iff t).1) ts h.cells));
      back = ap (λ ts. a_shape ts) (types_back ts (each CellType ByteType (λ t c. ((cell_iff t).1 c).0) ts h.cells));
    }
writes (a_signature s) h =
    let k = context_again s.context (length s.types.slots) in
    let r = registers_back s.types h.eight h.registers h.slots in
    let t = slots_back s.types h.eight h.registers h.slots in
    record {
      bytes = (signature_bytes s.context (length s.types.slots)).1 h.context;
      decoded = signature_again s.context (length s.types.slots) (omega arith);
      size = le→leb (length s.types.slots) 32 h.depth;
      follow = words_long s.types h.eight h.registers h.slots;
      body = words_tested s.types h.eight h.registers h.slots;
      back = λ i. a_signature (record { context = k i; types = record { registers = r i; slots = t i } });
    }
writes (a_tuple t) h =
    record {
      bytes = (omega arith, omega arith, h.shape);
      decoded = refl;
      size = between_from 1 16 (length t.words) h.some h.few;
      follow = refl;
      body = tuple_body t.words;
      back = refl;
    }
writes (a_block b) h =
    let e = body_back b.body h.bytes h.ended in
    record {
      bytes = (omega arith, h.signature, omega arith);
      decoded = refl;
      size = between_from 1 64 (length b.body) (some_words b.body h.ended) h.few;
      follow = sym (length-map b.body instruction_written);
      body = body_tested b.body h.bytes h.ended;
      back = λ i. a_block (record { signature = b.signature; body = e i });
    }
