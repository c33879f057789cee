-- What an instruction asks under a label kind it asks without one too: labels are forgotten, and what is left is the same.
use Rattle.std.proofs.Common.{◌≡◌, ℕ, zero, suc, List, [], ◌∷◌, ◌++◌, map, length, get_or, drop, set, replicate, sym, refl, ap, ◌∙◌, ap₂, arith}
use lib.ListN.{length-map, get_or-map}
use Rattle.labels.specs.Meaning.{Meaning}
use Rattle.image.specs.declared.ty.Sort.{Sort}
use Rattle.image.specs.declared.ty.Sort.TheVariants.{Integer, Pointer, Code}
use Rattle.image.specs.declared.ty.Ty.{Ty}
use Rattle.image.specs.declared.ty.Ty.TheVariants.{Nonsense, Typed}
use Rattle.image.specs.declared.head.Context.{Context}
use Rattle.image.specs.declared.instruction.Instruction.{Instruction}
use Rattle.image.specs.declared.instruction.Instruction.TheVariants.{SetNumber, SetTuple, SetBlock, Copy, Add, Subtract, Fetch, Store, Push, Pop, Peek, Poke, Strike, Branch, Raise, Jump, Lower, Halt}
use Rattle.rules.specs.Program.{Types, Signature, Block, Program, signature_at, promise}
use Rattle.rules.specs.Types.{level, reg, slot, set_reg, over, label_of, cell, after, then_context}
use Rattle.rules.specs.LaidOut.{Every}
use Rattle.rules.specs.WellTyped.{Fit, Fits, Transfer, Asks, Closes, Checked, last, more, BlockTyped}
use Rattle.rules.specs.Free.{any_label}

-- ---- types without their labels

abbrev bare : Ty → Ty
bare Nonsense = Nonsense
bare (Typed s l) = Typed s 0

bare_typed : (u : Ty) (s : Sort) → bare u ≡ Typed s 0 → (y : ℕ) × (u ≡ Typed s y)
bare_typed Nonsense s e = let z : ◌≡◌ {A = ℕ} 0 1 = cc in absurd (omega arith)
bare_typed (Typed o y) s e = let q : o ≡ s = cc in (y, ap (λ v. Typed v y) q)

like : (t u : Ty) (s : Sort) (x : ℕ) → bare t ≡ bare u → t ≡ Typed s x → (y : ℕ) × (u ≡ Typed s y)
like t u s x b e = bare_typed u s (sym b ∙ ap bare e)

bare_over : (m : Meaning) (l : ℕ) (t : Ty) → bare (over m l t) ≡ bare t
bare_over m l Nonsense = refl
bare_over m l (Typed s k) = refl

map_set : (f : Ty → Ty) (xs : List Ty) (n : ℕ) (t : Ty) → map f (set xs n t) ≡ set (map f xs) n (f t)
map_set f [] n t = refl
map_set f (x ∷ xs) zero t = refl
map_set f (x ∷ xs) (suc n) t = ap (λ ys. f x ∷ ys) (map_set f xs n t)

map_drop : (f : Ty → Ty) (n : ℕ) (xs : List Ty) → map f (drop n xs) ≡ drop n (map f xs)
map_drop f zero xs = refl
map_drop f (suc n) [] = refl
map_drop f (suc n) (x ∷ xs) = map_drop f n xs

record SameButLabels (g h : Types) : Type 0 where
  registers : map bare g.registers ≡ map bare h.registers
  slots : map bare g.slots ≡ map bare h.slots

same_at : (xs ys : List Ty) (n : ℕ) → map bare xs ≡ map bare ys → bare (get_or xs n Nonsense) ≡ bare (get_or ys n Nonsense)
same_at xs ys n e = sym (get_or-map bare xs n Nonsense) ∙ ap (λ zs. get_or zs n Nonsense) e ∙ get_or-map bare ys n Nonsense

same_set : (xs ys : List Ty) (n : ℕ) (t u : Ty) → map bare xs ≡ map bare ys → bare t ≡ bare u → map bare (set xs n t) ≡ map bare (set ys n u)
same_set xs ys n t u e f = map_set bare xs n t ∙ ap₂ (λ zs v. set zs n v) e f ∙ sym (map_set bare ys n u)

same_push : (n : ℕ) (xs ys : List Ty) → map bare xs ≡ map bare ys → map bare (replicate n Nonsense ++ xs) ≡ map bare (replicate n Nonsense ++ ys)
same_push zero xs ys e = e
same_push (suc n) xs ys e = ap (λ zs. Nonsense ∷ zs) (same_push n xs ys e)

same_length : (xs ys : List Ty) → map bare xs ≡ map bare ys → length xs ≡ length ys
same_length xs ys e = sym (length-map xs bare) ∙ ap length e ∙ length-map ys bare

bare_cell : (p : Program) (t : Ty) (n : ℕ) → cell p t n ≡ cell p (bare t) n
bare_cell p Nonsense n = refl
bare_cell p (Typed Integer l) n = refl
bare_cell p (Typed (Pointer s) l) n = refl
bare_cell p (Typed (Code s) l) n = refl

module _ (m : Meaning) (p : Program) where
  -- ---- what an instruction leaves

  same_over : (l k : ℕ) (t u : Ty) → bare t ≡ bare u → bare (over m l t) ≡ bare (over any_label k u)
  same_over l k t u e = bare_over m l t ∙ e ∙ sym (bare_over any_label k u)

  same_cell : (t u : Ty) (n : ℕ) → bare t ≡ bare u → cell p t n ≡ cell p u n
  same_cell t u n e = bare_cell p t n ∙ ap (λ v. cell p v n) e ∙ sym (bare_cell p u n)

  same_reg : (g h : Types) (r : ℕ) → SameButLabels g h → bare (reg g r) ≡ bare (reg h r)
  same_reg g h r b = same_at g.registers h.registers r b.registers

  put : (g h : Types) (a : ℕ) (t u : Ty) → SameButLabels g h → bare t ≡ bare u → SameButLabels (set_reg g a t) (set_reg h a u)
  put g h a t u b e = record { registers = same_set g.registers h.registers a t u b.registers e; slots = b.slots }

  after_free : (k : Context) (g h : Types) (i : Instruction) → SameButLabels g h → SameButLabels (after m p k g i) (after any_label p k h i)
  after_free k g h (SetNumber to value) b = put g h to _ _ b refl
  after_free k g h (SetTuple to tuple) b = put g h to _ _ b refl
  after_free k g h (SetBlock to block) b = put g h to _ _ b refl
  after_free k g h (Copy to from) b = put g h to _ _ b (same_over (level k) (level k) (reg g from) (reg h from) (same_reg g h from b))
  after_free k g h (Add to left right) b = put g h to _ _ b refl
  after_free k g h (Subtract to left right) b = put g h to _ _ b refl
  after_free k g h (Fetch to pointer n) b =
      put g h to _ _ b (same_over _ (any_label.joined (level k) (label_of (reg h pointer))) (cell p (reg g pointer) n) (cell p (reg h pointer) n) (ap bare (same_cell (reg g pointer) (reg h pointer) n (same_reg g h pointer b))))
  after_free k g h (Store pointer from n) b = b
  after_free k g h (Push count) b = record { registers = b.registers; slots = same_push count g.slots h.slots b.slots }
  after_free k g h (Pop count) b = record { registers = b.registers; slots = map_drop bare count g.slots ∙ ap (drop count) b.slots ∙ sym (map_drop bare count h.slots) }
  after_free k g h (Peek to n) b = put g h to _ _ b (same_over (level k) (level k) (slot g n) (slot h n) (same_at g.slots h.slots n b.slots))
  after_free k g h (Poke from n) b =
      record { registers = b.registers; slots = same_set g.slots h.slots n _ _ b.slots (same_over (level k) (level k) (reg g from) (reg h from) (same_reg g h from b)) }
  after_free k g h (Strike channel from) b = b
  after_free k g h (Branch test to) b = b
  after_free k g h (Raise label postdominator) b = b
  after_free k g h (Jump to) b = b
  after_free k g h (Lower block) b = b
  after_free k g h Halt b = b

  -- ---- what an instruction asks

  fit_free : (t u w : Ty) → bare t ≡ bare u → Fit m t w → Fit any_label u w
  fit_free t u Nonsense b f = tt
  fit_free t u (Typed s k) b f = let (y, e) = like t u s f.0 b f.1 in (y, e, tt)

  fits_free : (g h w : Types) → SameButLabels g h → Fits m g w → Fits any_label h w
  fits_free g h w b f =
      record {
        depth = sym (same_length g.slots h.slots b.slots) ∙ f.depth;
        registers = λ r. fit_free (reg g r) (reg h r) (reg w r) (same_reg g h r b) (f.registers r);
        slots = λ n. fit_free (slot g n) (slot h n) (slot w n) (same_at g.slots h.slots n b.slots) (f.slots n);
      }

  transfer_free : (k : Context) (g h : Types) (s : Signature) → SameButLabels g h → Transfer m k g s → Transfer any_label k h s
  transfer_free k g h s b t = record { context = t.context; types = fits_free g h s.types b t.types }

  module _ (k : Context) (g h : Types) (b : SameButLabels g h) where
    typed_too : (r : ℕ) (s : Sort) (x : ℕ) → reg g r ≡ Typed s x → (y : ℕ) × (reg h r ≡ Typed s y)
    typed_too r s x e = like (reg g r) (reg h r) s x (same_reg g h r b) e

    same_depth_too : length g.slots ≡ length h.slots
    same_depth_too = same_length g.slots h.slots b.slots

    asks_free : (i : Instruction) → Asks m p k g i → Asks any_label p k h i
    asks_free (SetNumber to value) q = tt
    asks_free (SetTuple to tuple) q = tt
    asks_free (SetBlock to block) q = tt
    asks_free (Copy to from) q = tt
    asks_free (Add to left right) (v, w, e, f) = let (x, d) = typed_too left Integer v e in let (y, c) = typed_too right Integer w f in (x, y, d, c)
    asks_free (Subtract to left right) (v, w, e, f) = let (x, d) = typed_too left Integer v e in let (y, c) = typed_too right Integer w f in (x, y, d, c)
    asks_free (Fetch to pointer n) (s, v, e, l) = let (x, d) = typed_too pointer (Pointer s) v e in (s, x, d, l)
    asks_free (Store pointer from n) (s, v, w, z, o, e, l, f, j, q) =
        let (x, d) = typed_too pointer (Pointer s) v e in let (y, c) = typed_too from o w f in (s, x, y, z, o, d, l, c, j, tt)
    asks_free (Push count) q = let e = same_depth_too in omega arith
    asks_free (Pop count) q = let e = same_depth_too in omega arith
    asks_free (Peek to n) q = let e = same_depth_too in omega arith
    asks_free (Poke from n) q = let e = same_depth_too in omega arith
    asks_free (Strike channel from) (v, e, q) = let (x, d) = typed_too from Integer v e in (x, d, tt)
    asks_free (Branch test to) (v, w, s, e, f, q, r, t) =
        let (x, d) = typed_too test Integer v e in let (y, c) = typed_too to (Code s) w f in (x, y, s, d, c, tt, tt, transfer_free k g h (signature_at p s) b t)
    asks_free (Raise label postdominator) q = (tt, q.1)
    asks_free (Jump to) q = q
    asks_free (Lower block) q = q
    asks_free Halt q = q

    closes_free : (i : Instruction) → Closes m p k g i → Closes any_label p k h i
    closes_free (SetNumber to value) q = q
    closes_free (SetTuple to tuple) q = q
    closes_free (SetBlock to block) q = q
    closes_free (Copy to from) q = q
    closes_free (Add to left right) q = q
    closes_free (Subtract to left right) q = q
    closes_free (Fetch to pointer n) q = q
    closes_free (Store pointer from n) q = q
    closes_free (Push count) q = q
    closes_free (Pop count) q = q
    closes_free (Peek to n) q = q
    closes_free (Poke from n) q = q
    closes_free (Strike channel from) q = q
    closes_free (Branch test to) q = q
    closes_free (Raise label postdominator) q = q
    closes_free (Jump to) (w, s, f, q, t) = let (y, c) = typed_too to (Code s) w f in (y, s, c, tt, transfer_free k g h (signature_at p s) b t)
    closes_free (Lower block) (l, e, f) = (l, e, fits_free g h (promise p block).types b f)
    closes_free Halt q = q

  -- ---- blocks

  checked_free : (k : Context) (g h : Types) (is : List Instruction) → SameButLabels g h → Checked m p k g is → Checked any_label p k h is
  checked_free k g h [] b c = elim c [ ]
  checked_free k g h (i ∷ []) b (last c) = last (closes_free k g h b i c)
  checked_free k g h (i ∷ (j ∷ is)) b (more a c) =
      more (asks_free k g h b i a) (checked_free (then_context k i) (after m p k g i) (after any_label p k h i) (j ∷ is) (after_free k g h i b) c)

  pub blocks_free : (bs : List Block) → Every (BlockTyped m p) bs → Every (BlockTyped any_label p) bs
  blocks_free [] h = tt
  blocks_free (b ∷ bs) h =
      let s = signature_at p b.signature in
      (checked_free s.context s.types s.types b.body (record { registers = refl; slots = refl }) h.0, blocks_free bs h.1)
