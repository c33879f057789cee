-- Union of sets of bits is associative, so inclusion is an order in which union is the join.
use Rattle.std.specs.Prelude.{◌≡◌, ℕ, zero, suc, ◌/◌, ◌%◌, ◌<◌, T, bit_or, refl}
use Rattle.std.proofs.Common.{sym, ap, ◌∙◌, mod-lt, arith, eqb→eq, lit<, lit≤}
use Rattle.std.proofs.Math.Arith.{bin_ind}
use Rattle.std.specs.Int.Bits.{or_self}
use Rattle.std.proofs.Math.Dec.{eqb_refl}
use Rattle.std.proofs.lemmas.Nat.{div-add-mod', or_shr, or_mod, or_comm, or_lt}
use Rattle.labels.specs.Meaning.{Lawful}
use Rattle.labels.specs.Mastheads.{included, mastheads}
use Rattle.labels.specs.Within.{Ordered, within_lawful}

-- two numbers are equal where their last bits and the rest are
same_bits : (a b : ℕ) → a / 2 ≡ b / 2 → a % 2 ≡ b % 2 → a ≡ b
same_bits a b hi lo = omega (arith, div-add-mod' a 2, div-add-mod' b 2)

bit_assoc : (x y z : ℕ) → x < 2 → y < 2 → z < 2 → bit_or (bit_or x y) z ≡ bit_or x (bit_or y z)
bit_assoc zero y z hx hy hz = refl
bit_assoc (suc zero) zero z hx hy hz = refl
bit_assoc (suc zero) (suc zero) zero hx hy hz = refl
bit_assoc (suc zero) (suc zero) (suc zero) hx hy hz = refl
bit_assoc (suc zero) (suc zero) (suc (suc z)) hx hy hz = omega arith
bit_assoc (suc zero) (suc (suc y)) z hx hy hz = omega arith
bit_assoc (suc (suc x)) y z hx hy hz = omega arith

pub or_assoc : (a b c : ℕ) → bit_or (bit_or a b) c ≡ bit_or a (bit_or b c)
or_assoc =
    bin_ind (λ (n : ℕ). (b c : ℕ) → bit_or (bit_or n b) c ≡ bit_or n (bit_or b c)) (λ b c. refl)
    (λ n ih b c. same_bits (bit_or (bit_or n b) c) (bit_or n (bit_or b c))
    (or_shr (bit_or n b) c 1 ∙ ap (λ (x : ℕ). bit_or x (c / 2)) (or_shr n b 1) ∙ ih (b / 2) (c / 2)
    ∙ sym (or_shr n (bit_or b c) 1 ∙ ap (bit_or (n / 2)) (or_shr b c 1)))
    (or_mod (bit_or n b) c 1 ∙ ap (λ (x : ℕ). bit_or x (c % 2)) (or_mod n b 1)
    ∙ bit_assoc (n % 2) (b % 2) (c % 2) (mod-lt n (lit< tt)) (mod-lt b (lit< tt)) (mod-lt c (lit< tt))
    ∙ sym (or_mod n (bit_or b c) 1 ∙ ap (bit_or (n % 2)) (or_mod b c 1))))

-- an inclusion, told and used as an equation
put : (a b : ℕ) → bit_or a b ≡ b → T (included a b)
put a b e = rw e (eqb_refl b)

got : (a b : ℕ) → T (included a b) → bit_or a b ≡ b
got a b t = eqb→eq (bit_or a b) b t

-- a is in the union of a and b
in_union : (a b : ℕ) → bit_or a (bit_or a b) ≡ bit_or a b
in_union a b = sym (or_assoc a a b) ∙ ap (λ (x : ℕ). bit_or x b) (or_self a)

-- what holds b holds what is in b
in_more : (a b c : ℕ) → bit_or a b ≡ b → bit_or b c ≡ c → bit_or a c ≡ c
in_more a b c p q = ap (bit_or a) (sym q) ∙ sym (or_assoc a b c) ∙ ap (λ (x : ℕ). bit_or x c) p ∙ q

unions : Ordered 16 included bit_or
unions = record {
  some = lit≤ tt;
  few = lit≤ tt;
  reflexive = λ a h. put a a (or_self a);
  antisymmetric = λ a b ha hb p q. sym (got b a q) ∙ or_comm b a ∙ got a b p;
  transitive = λ a b c ha hb hc p q. put a c (in_more a b c (got a b p) (got b c q));
  bottom = λ a h. put 0 a refl;
  join_label = λ a b ha hb. or_lt 4 a b ha hb;
  join_left = λ a b ha hb. put a (bit_or a b) (in_union a b);
  join_right = λ a b ha hb. put b (bit_or a b) (ap (bit_or b) (or_comm a b) ∙ in_union b a ∙ or_comm b a);
  join_least = λ a b c ha hb hc p q.
      put (bit_or a b) c (or_assoc a b c ∙ ap (bit_or a) (got b c q) ∙ got a c p);
}

pub mastheads_lawful : Lawful mastheads
mastheads_lawful = within_lawful 16 included bit_or unions
