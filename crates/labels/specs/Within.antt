-- A kind made by `within` is lawful where its order and its join are lawful on its labels alone: the tests of the range
-- answer for all other codes. Each kind of the crate is made so.
use Rattle.std.specs.Prelude.{◌≡◌, ℕ, ◌<◌, ◌≤◌, Bool, true, false, ◌&&◌, T, nat_lt, refl}
use Rattle.std.proofs.Common.{ltb→lt, lt→ltb}
use Rattle.labels.specs.Meaning.{Meaning, Lawful, both_below, within}
use Rattle.std.proofs.lemmas.Bool.{cond-true, cond-false, le-ltb, and_left, and_right}

pub both : (x y : Bool) → T x → T y → T (x && y)
both true y p q = q
both false y p q = absurd p

pub left : (x y : Bool) → T (x && y) → T x
left true y p = tt
left false y p = p

pub right : (x y : Bool) → T (x && y) → T y
right true y p = p
right false y p = absurd p

is_true : (x : Bool) → T x → x ≡ true
is_true true p = refl
is_true false p = absurd p

-- The laws, of labels alone.
pub record Ordered (n : ℕ) (le : ℕ → ℕ → Bool) (up : ℕ → ℕ → ℕ) : Type 0 where
  pub some : 1 ≤ n
  pub few : n ≤ 256
  pub reflexive : (a : ℕ) → a < n → T (le a a)
  pub antisymmetric : (a b : ℕ) → a < n → b < n → T (le a b) → T (le b a) → a ≡ b
  pub transitive : (a b c : ℕ) → a < n → b < n → c < n → T (le a b) → T (le b c) → T (le a c)
  pub bottom : (a : ℕ) → a < n → T (le 0 a)
  pub join_label : (a b : ℕ) → a < n → b < n → up a b < n
  pub join_left : (a b : ℕ) → a < n → b < n → T (le a (up a b))
  pub join_right : (a b : ℕ) → a < n → b < n → T (le b (up a b))
  pub join_least : (a b c : ℕ) → a < n → b < n → c < n → T (le a c) → T (le b c) → T (le (up a b) c)

pub labels : (n a b : ℕ) → a < n → b < n → T (both_below n a b)
labels n a b ha hb = both (nat_lt a n) (nat_lt b n) (lt→ltb a n ha) (lt→ltb b n hb)

pub first_label : (n a b : ℕ) → T (both_below n a b) → a < n
first_label n a b h = ltb→lt a n (left (nat_lt a n) (nat_lt b n) h)

pub second_label : (n a b : ℕ) → T (both_below n a b) → b < n
second_label n a b h = ltb→lt b n (right (nat_lt a n) (nat_lt b n) h)

module _ (n : ℕ) (le : ℕ → ℕ → Bool) (up : ℕ → ℕ → ℕ) where
  abbrev m : Meaning
  m = within n le up

  put : (a b : ℕ) → a < n → b < n → T (le a b) → T (m.below a b)
  put a b ha hb h = both (both_below n a b) (le a b) (labels n a b ha hb) h

  low : (a b : ℕ) → T (m.below a b) → a < n
  low a b h = first_label n a b (left (both_below n a b) (le a b) h)

  high : (a b : ℕ) → T (m.below a b) → b < n
  high a b h = second_label n a b (left (both_below n a b) (le a b) h)

  got : (a b : ℕ) → T (m.below a b) → T (le a b)
  got a b h = right (both_below n a b) (le a b) h

  -- the join of two labels is what `up` says
  pub joined_is : (a b : ℕ) → a < n → b < n → m.joined a b ≡ up a b
  joined_is a b ha hb = cond-true (both_below n a b) (up a b) 0 (is_true (both_below n a b) (labels n a b ha hb))

  pub within_lawful : Ordered n le up → Lawful (within n le up)
  within_lawful o = record {
    some = o.some;
    few = o.few;
    outside_below = λ a b h. (low a b h, high a b h);
    outside_join_left = λ a b h. cond-false (both_below n a b) (up a b) 0 (and_left (nat_lt a n) (nat_lt b n) (le-ltb a n h));
    outside_join_right = λ a b h. cond-false (both_below n a b) (up a b) 0 (and_right (nat_lt a n) (nat_lt b n) (le-ltb b n h));
    reflexive = λ a h. put a a h h (o.reflexive a h);
    antisymmetric = λ a b p q. o.antisymmetric a b (low a b p) (high a b p) (got a b p) (got b a q);
    transitive = λ a b c p q.
        put a c (low a b p) (high b c q) (o.transitive a b c (low a b p) (high a b p) (high b c q) (got a b p) (got b c q));
    bottom = λ a h. put 0 a o.some h (o.bottom a h);
    join_label = λ a b ha hb. rw joined_is (o.join_label a b ha hb);
    join_left = λ a b ha hb. rw joined_is (put a (up a b) ha (o.join_label a b ha hb) (o.join_left a b ha hb));
    join_right = λ a b ha hb. rw joined_is (put b (up a b) hb (o.join_label a b ha hb) (o.join_right a b ha hb));
    join_least = λ a b c p q. least a b c (low a c p) (low b c q) (high a c p) (got a c p) (got b c q);
  }
    where
      least : (a b c : ℕ) → a < n → b < n → c < n → T (le a c) → T (le b c) → T (m.below (m.joined a b) c)
      least a b c ha hb hc p q =
          rw joined_is (put (up a b) c (o.join_label a b ha hb) hc (o.join_least a b c ha hb hc p q))
