-- What the iterators over the cells of an image hand out.
use Rattle.std.proofs.Common.{Option, Some, None, Bor, false, sym, ◌≡◌, ℕ, ◌<◌, ◌≤◌, List, ◌∷◌, map, length, get_or, refl, ap, ◌∙◌, subst, zero-add, arith}
use Rattle.std.proofs.Common.{Iter}
use Rattle.std.proofs.iter.Yields.{fronts}
use Rattle.std.proofs.lemmas.Iterator.{YieldsList, YieldsList-from_slice, YieldsList-from_zip, zips}
use Rattle.std.proofs.lemmas.Iterator.Adapters.{YieldsList-from_flat_map}
use Rattle.std.proofs.lemmas.Iterator.Consumers.{YieldsList-from_first, YieldsList-from_shown, YieldsList-so_far, YieldsList-turn, YieldsList-end}
use Rattle.std.specs.Fn.{Called}
use Rattle.std.specs.Iterator.{Yields, YieldsFirstBy}
use Rattle.std.specs.Iterator.Adapters.{flatten_source, flatten_front, flatten_back, flatten_done, flatten_steps, map_source, map_callee, map_steps, zip_first, zip_second, zip_steps}
use denote.Param.Members.{Mut}
use Rattle.std.specs.Iterator.Runs.{Run, EachRunFrom, YieldsRun}
use Rattle.std.specs.List.{zip, enumerate_from}
use Rattle.std.specs.Option.{IsSome}
use Rattle.std.proofs.lemmas.List.{get_or_default}
use Rattle.std.proofs.lemmas.List.FromFn.{length-enumerate_from, get_or-enumerate_from}
use Rattle.std.proofs.lemmas.Slice.Zip.{length-zip, get_or-zip}
use Rattle.std.specs.Slice.Iter.{iter_rest, iter_steps}
use Rattle.std.specs.declared.iter.Flatten.{Flatten}
use Rattle.std.specs.declared.iter.Map.{Map}
use Rattle.std.specs.declared.iter.Zip.{Zip}
use lib.ListN.{length-map, length-take}
use Rattle.image.specs.declared.ty.Ty.{Ty}
use Rattle.image.specs.declared.ty.Ty.TheVariants.{Nonsense}
use Rattle.programme.specs.Spelled.{tuple_spelled}
use Rattle.programme.specs.declared.parts.TupleWords.{TupleWords}
use Rattle.rules.specs.Free.{any_label}
use Rattle.rules.specs.LaidOut.{Every}
use Rattle.rules.specs.Named.{TupleNamed}
use Rattle.rules.specs.Program.{Program, shape_at, cell_types}
use Rattle.rules.specs.Says.{type_in}
use Rattle.machine.specs.Cells.{image_words}
use Rattle.machine.specs.Tuples.{tuples_left}
use Rattle.machine.specs.declared.runnable.tuples.Tuples.{Tuples}
use Rattle.machine.proofs.Laying.{cells_in, in_order}

-- type words, read as the types that they say
types_handed : (s : Iter ℕ) (ts : List Ty) → map type_in (iter_rest s) ≡ ts → YieldsList fronts (λ y. type_in y.now) s ts
types_handed s ts e =
    subst (YieldsList fronts (λ y. type_in y.now) s) e
    (YieldsList-from_shown fronts (λ y. type_in y.now) (λ s. map type_in (iter_rest s)) (λ s t h. length-map (iter_rest s) type_in ∙ h.0) (λ s x t h. ap (map type_in) h) s)

-- with the words beside them
pub cells_handed : (s : Zip (Iter ℕ) (Iter ℕ)) (ts : List Ty) (ws : List ℕ) → map type_in (iter_rest (zip_first s)) ≡ ts → iter_rest (zip_second s) ≡ ws → YieldsList (zips fronts fronts) (λ q. (type_in q.0.now, q.1.now)) s (zip ts ws)
cells_handed s ts ws e f = YieldsList-from_zip (types_handed (zip_first s) ts e) (YieldsList-from_slice ws f)

-- All tuples' cells, where a closure makes each tuple such an iterator. What the call says of each run shows which closure it is.
module _ {F : Type 0} (p : Program) (g : Mut F (TupleWords × Unit {0}) (Zip (Iter ℕ) (Iter ℕ))) (s : Flatten (Map Tuples F) (Zip (Iter ℕ) (Iter ℕ))) where
  abbrev pub all_steps : Flatten (Map Tuples F) (Zip (Iter ℕ) (Iter ℕ)) → Option (Bor ℕ × Bor ℕ) → Flatten (Map Tuples F) (Zip (Iter ℕ) (Iter ℕ)) → Type 0
  all_steps = flatten_steps (map_steps (YieldsFirstBy tuple_spelled tuples_left) g) (λ u j. j ≡ u) (zip_steps iter_steps iter_steps)

  pub all_handed :
      {P : Run all_steps → Type 0} → EachRunFrom all_steps s P →
      {f : F} → map_callee (flatten_source s) ≡ f → flatten_front s ≡ None → flatten_back s ≡ None → flatten_done s ≡ false →
      tuples_left (map_source (flatten_source s)) ≡ p.tuples → Every (TupleNamed any_label p) p.tuples →
      ((x : TupleWords) (u : Zip (Iter ℕ) (Iter ℕ)) (q : F) → Called g f (x, tt) u q → (q ≡ f) × (map type_in (iter_rest (zip_first u)) ≡ shape_at p x.shape) × (iter_rest (zip_second u) ≡ x.words.now)) →
      YieldsList all_steps (λ q. (type_in q.0.now, q.1.now)) s (zip (cell_types p) (image_words p.tuples))
  all_handed runs {f} callee front back done tuples named made =
      subst (YieldsList all_steps (λ q. (type_in q.0.now, q.1.now)) s) (in_order p p.tuples named)
      (YieldsList-from_flat_map g (λ u j. j ≡ u) (zip_steps iter_steps iter_steps) (λ q. (type_in q.0.now, q.1.now)) (cells_in p) f
      (λ x u q k. let m = made x u q k in (m.0, λ j e. subst (λ j. YieldsList (zip_steps iter_steps iter_steps) (λ q. (type_in q.0.now, q.1.now)) j (cells_in p (tuple_spelled x))) (sym e) (cells_handed u (shape_at p x.shape) x.words.now m.1 m.2)))
      (YieldsList-from_first tuple_spelled tuples_left p.tuples tuples) callee front back done)

-- what is read of the n-th of all cells
pub record Read (ts : List Ty) (ws : List ℕ) (n place : ℕ) (ty : Ty) (plain : ℕ) : Type 0 where
  pub inside : n < length ts
  pub at : place ≡ n
  pub type : ty ≡ get_or ts n Nonsense
  pub word : plain ≡ get_or ws n 0

module _ (ts : List Ty) (ws : List ℕ) (many : length ws ≡ length ts) where
  read : (n : ℕ) (c : ℕ × (Ty × ℕ)) → (n < length (enumerate_from 0 (zip ts ws))) × (c ≡ get_or (enumerate_from 0 (zip ts ws)) n c) → Read ts ws n c.0 c.1.0 c.1.1
  read n c h =
      let i : n < length (zip ts ws) = omega (arith, length-enumerate_from 0 (zip ts ws)) in
      let j : n < length ts = omega (arith, length-zip ts ws) in
      let k : n < length ws = omega arith in
      let e = h.1 ∙ get_or-enumerate_from 0 (zip ts ws) n c i in
      let f = ap (λ c. c.1) e ∙ get_or-zip ts ws n c.1 j k in
      record {
        inside = j;
        at = ap (λ c. c.0) e ∙ zero-add n;
        type = ap (λ c. c.0) f ∙ get_or_default ts n c.1.0 Nonsense j;
        word = ap (λ c. c.1) f ∙ get_or_default ws n c.1.1 0 k;
      }

  -- in a loop over the cells with their places: the one that this turn has, and how many there were at the end
  module _ {S : Type 0} {steps : S → Option (ℕ × (Bor ℕ × Bor ℕ)) → S → Type 0} {s : S} (e : YieldsList steps (λ c. (c.0, (type_in c.1.0.now, c.1.1.now))) s (enumerate_from 0 (zip ts ws))) (xs : List (ℕ × (Bor ℕ × Bor ℕ))) {t u : S} (y : Yields steps s xs t) {r : Option (ℕ × (Bor ℕ × Bor ℕ))} where
    pub this_cell : {x : ℕ × (Bor ℕ × Bor ℕ)} → r ≡ Some x → steps t r u → Read ts ws (length xs) x.0 (type_in x.1.0.now) x.1.1.now
    this_cell {x} is h = read (length xs) (x.0, (type_in x.1.0.now, x.1.1.now)) (YieldsList-turn e xs t y r u x is h)

    pub no_cell : r ≡ None → steps t r u → length xs ≡ length ts
    no_cell is h = (YieldsList-end e xs t y r u is h).1 ∙ length-enumerate_from 0 (zip ts ws) ∙ (omega (arith, length-zip ts ws))

-- the next word of a job
pub some_next : (s t : Iter ℕ) (r : Option (Bor ℕ)) → iter_steps s r t → 0 < length (iter_rest s) → IsSome r
some_next s t None h k = absurd (omega (arith, h.0))
some_next s t (Some x) h k = refl

pub next_is : (s t : Iter ℕ) (r : Option (Bor ℕ)) (x : Bor ℕ) → r ≡ Some x → iter_steps s r t → iter_rest s ≡ x.now ∷ iter_rest t
next_is s t r x e h = subst (λ r. iter_steps s r t) e h

-- no run is longer than what there is to hand out
pub run_short : {S A B : Type 0} {steps : S → Option A → S → Type 0} {v : A → B} {s : S} {all : List B} → YieldsList steps v s all → (p : Run steps) → p.from ≡ s → p.len ≤ length all
unfolding YieldsRun
run_short {steps = steps} {v = v} {all = all} e p from =
    let gave = p.gave.0 in
    let so_far = YieldsList-so_far e p.items gave.0 (subst (λ s. Yields steps s p.items gave.0) from gave.1) in
    omega (arith, p.long, ap length so_far, length-map p.items v, length-take (length p.items) all)
