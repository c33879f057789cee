-- The laws of a pair, from those of its parts.
use Rattle.std.specs.Prelude.{◌≡◌, ℕ, ◌+◌, ◌*◌, ◌/◌, ◌%◌, ◌<◌, ◌≤◌, true, T, nat_le, refl}
use Rattle.std.proofs.Common.{sym, ap₂, subst, ◌∙◌, mul_comm, zero-mul, arith, lit<, lit≤}
use Rattle.std.proofs.Math.Nat.{zero-div, zero-mod}
use Rattle.std.proofs.lemmas.Nat.{div-add-mod', div_below, mod_below, div-mul-add, mod-mul-add, mul-add-lt, mul-le}
use Rattle.std.proofs.lemmas.Bool.{cond_both, leb-true}
use Rattle.labels.specs.Meaning.{Meaning, Lawful, both_below}
use Rattle.labels.specs.Pairs.{pair, by_parts, below_by_parts, joined_by_parts, lone}
use Rattle.labels.specs.Within.{Ordered, within_lawful, joined_is, first_label, second_label, both, left, right}

lone_lawful : Lawful lone
lone_lawful = within_lawful 1 (λ _ _. true) (λ _ _. 0) (record {
  some = lit≤ tt;
  few = lit≤ tt;
  reflexive = λ a h. tt;
  antisymmetric = λ a b ha hb p q. omega arith;
  transitive = λ a b c ha hb hc p q. tt;
  bottom = λ a h. tt;
  join_label = λ a b ha hb. lit< tt;
  join_left = λ a b ha hb. tt;
  join_right = λ a b ha hb. tt;
  join_least = λ a b c ha hb hc p q. tt;
})

-- the lowest label joins with itself to itself
zero_joined : (m : Meaning) → Lawful m → m.joined 0 0 ≡ 0
zero_joined m ok =
    let low : T (m.below 0 0) = ok.reflexive 0 ok.some in
    ok.antisymmetric (m.joined 0 0) 0 (ok.join_least 0 0 0 low low)
    (ok.bottom (m.joined 0 0) (ok.join_label 0 0 ok.some ok.some))

module _ (f s : Meaning) (f_ok : Lawful f) (s_ok : Lawful s) where
  -- how many codes the parts make, and the parts of a code
  abbrev codes : ℕ
  codes = f.count * s.count

  abbrev hi : ℕ → ℕ
  hi a = a / s.count

  abbrev lo : ℕ → ℕ
  lo a = a % s.count

  hi_label : (a : ℕ) → a < codes → hi a < f.count
  hi_label a h = div_below a s.count f.count s_ok.some h

  lo_label : (a : ℕ) → lo a < s.count
  lo_label a = mod_below a s.count s_ok.some

  same_parts : (a b : ℕ) → hi a ≡ hi b → lo a ≡ lo b → a ≡ b
  same_parts a b p q =
      sym (div-add-mod' a s.count) ∙ ap₂ (λ (x y : ℕ). x * s.count + y) p q ∙ div-add-mod' b s.count

  -- the order, put together from the parts and taken apart
  put : (a b : ℕ) → T (f.below (hi a) (hi b)) → T (s.below (lo a) (lo b)) → T (below_by_parts f s a b)
  put a b = both (f.below (hi a) (hi b)) (s.below (lo a) (lo b))

  of_hi : (a b : ℕ) → T (below_by_parts f s a b) → T (f.below (hi a) (hi b))
  of_hi a b = left (f.below (hi a) (hi b)) (s.below (lo a) (lo b))

  of_lo : (a b : ℕ) → T (below_by_parts f s a b) → T (s.below (lo a) (lo b))
  of_lo a b = right (f.below (hi a) (hi b)) (s.below (lo a) (lo b))

  -- the parts of a join are the joins of the parts
  abbrev up : ℕ → ℕ → ℕ
  up = joined_by_parts f s

  lo_joined : (a b : ℕ) → s.joined (lo a) (lo b) < s.count
  lo_joined a b = s_ok.join_label (lo a) (lo b) (lo_label a) (lo_label b)

  hi_up : (a b : ℕ) → hi (up a b) ≡ f.joined (hi a) (hi b)
  hi_up a b = div-mul-add (f.joined (hi a) (hi b)) s.count (s.joined (lo a) (lo b)) (lo_joined a b)

  lo_up : (a b : ℕ) → lo (up a b) ≡ s.joined (lo a) (lo b)
  lo_up a b = mod-mul-add (f.joined (hi a) (hi b)) s.count (s.joined (lo a) (lo b)) (lo_joined a b)

  pub up_label : (a b : ℕ) → a < codes → b < codes → up a b < codes
  up_label a b ha hb =
      omega (
        arith,
        mul_comm f.count s.count,
        mul-add-lt (f.joined (hi a) (hi b)) s.count (s.joined (lo a) (lo b)) f.count
            (f_ok.join_label (hi a) (hi b) (hi_label a ha) (hi_label b hb)) (lo_joined a b),
      )

  below_up : (a b c : ℕ) → T (f.below (hi c) (f.joined (hi a) (hi b))) → T (s.below (lo c) (s.joined (lo a) (lo b)))
      → T (below_by_parts f s c (up a b))
  below_up a b c p q =
      put c (up a b) (subst (λ (x : ℕ). T (f.below (hi c) x)) (sym (hi_up a b)) p)
      (subst (λ (x : ℕ). T (s.below (lo c) x)) (sym (lo_up a b)) q)

  up_below : (a b c : ℕ) → T (f.below (f.joined (hi a) (hi b)) (hi c)) → T (s.below (s.joined (lo a) (lo b)) (lo c))
      → T (below_by_parts f s (up a b) c)
  up_below a b c p q =
      put (up a b) c (subst (λ (x : ℕ). T (f.below x (hi c))) (sym (hi_up a b)) p)
      (subst (λ (x : ℕ). T (s.below x (lo c))) (sym (lo_up a b)) q)

  bottom : (a : ℕ) → a < codes → T (below_by_parts f s 0 a)
  bottom a h =
      put 0 a (subst (λ (x : ℕ). T (f.below x (hi a))) (sym (zero-div s.count)) (f_ok.bottom (hi a) (hi_label a h)))
      (subst (λ (x : ℕ). T (s.below x (lo a))) (sym (zero-mod s.count)) (s_ok.bottom (lo a) (lo_label a)))

  parts_ordered : codes ≤ 256 → Ordered codes (below_by_parts f s) up
  parts_ordered fits = record {
    some = mul-le 1 1 f.count s.count f_ok.some s_ok.some;
    few = fits;
    reflexive = λ a h. put a a (f_ok.reflexive (hi a) (hi_label a h)) (s_ok.reflexive (lo a) (lo_label a));
    antisymmetric = λ a b ha hb p q.
        same_parts a b (f_ok.antisymmetric (hi a) (hi b) (of_hi a b p) (of_hi b a q))
        (s_ok.antisymmetric (lo a) (lo b) (of_lo a b p) (of_lo b a q));
    transitive = λ a b c ha hb hc p q.
        put a c (f_ok.transitive (hi a) (hi b) (hi c) (of_hi a b p) (of_hi b c q))
        (s_ok.transitive (lo a) (lo b) (lo c) (of_lo a b p) (of_lo b c q));
    bottom = bottom;
    join_label = up_label;
    join_left = λ a b ha hb.
        below_up a b a (f_ok.join_left (hi a) (hi b) (hi_label a ha) (hi_label b hb))
        (s_ok.join_left (lo a) (lo b) (lo_label a) (lo_label b));
    join_right = λ a b ha hb.
        below_up a b b (f_ok.join_right (hi a) (hi b) (hi_label a ha) (hi_label b hb))
        (s_ok.join_right (lo a) (lo b) (lo_label a) (lo_label b));
    join_least = λ a b c ha hb hc p q.
        up_below a b c (f_ok.join_least (hi a) (hi b) (hi c) (of_hi a c p) (of_hi b c q))
        (s_ok.join_least (lo a) (lo b) (lo c) (of_lo a c p) (of_lo b c q));
  }

  pub pair_lawful : Lawful (pair f s)
  pair_lawful =
      cond_both (nat_le codes 256) (by_parts f s) lone Lawful
      (λ e. within_lawful codes (below_by_parts f s) up (parts_ordered (leb-true codes 256 e)))
      (λ e. lone_lawful)

  zero_up : up 0 0 ≡ 0
  zero_up = simp (zero-div, zero-mod, zero_joined f f_ok, zero_joined s s_ok, zero-mul)

  -- Joining by parts is right for a pair of one label too, and the code that comes out is one byte.
  pub up_is_joined : (a b : ℕ) → T (both_below (pair f s).count a b) → (up a b ≡ (pair f s).joined a b) × (up a b < 256)
  up_is_joined a b h = at a b (first_label (pair f s).count a b h) (second_label (pair f s).count a b h)
    where
      at : (a b : ℕ) → a < (pair f s).count → b < (pair f s).count → (up a b ≡ (pair f s).joined a b) × (up a b < 256)
      at =
          cond_both (nat_le codes 256) (by_parts f s) lone
          (λ m. (a b : ℕ) → a < m.count → b < m.count → (up a b ≡ m.joined a b) × (up a b < 256))
          (λ e a b ha hb. (
            sym (joined_is codes (below_by_parts f s) up a b ha hb),
            omega (arith, up_label a b ha hb, leb-true codes 256 e),
          ))
          (λ e a b ha hb.
          let a_zero : a ≡ 0 = omega arith in
          let b_zero : b ≡ 0 = omega arith in
          rw (a_zero, b_zero, zero_up) (refl, lit< tt))
