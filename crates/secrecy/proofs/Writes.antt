-- What the words that write a register or a slot write: a constant, a word taken over, or what is computed from two registers.
use mathlib.Core.Path.{◌≡◌, refl}
use Prim.Native.Nat.{ℕ}
use lib.ListN.{get_or}
use Rattle.image.specs.declared.ty.Sort.{Sort}
use Rattle.image.specs.declared.ty.Sort.TheVariants.{Integer}
use Rattle.image.specs.declared.ty.Ty.TheVariants.{Typed}
use Rattle.image.specs.declared.head.Context.{Context}
use Rattle.rules.specs.Program.{Types}
use Rattle.rules.specs.Types.{level, reg, slot, over, label_of}
use Rattle.machine.specs.Machine.{State, reg_of}
use Rattle.secrecy.proofs.Setting.{Setting, Holds, join, Label, Seen, low_at, Described}
use Rattle.secrecy.proofs.Labels.{seen_left, seen_right, label_known, labelled_over, low_over, seen_over, holds_over}
use Rattle.secrecy.proofs.Calm.{Write}

module _ (w : Setting) (k : Context) (g : Types) (lk : Label w (level k)) where
  -- a constant, at the context's label
  pub constant : (o : Sort) (n : ℕ) → Holds w.program (Typed o (level k)) n → Write w k g (Typed o (level k)) (λ s. n)
  constant o n h = record { labelled = λ s x. lk; holds = λ s x. h; same = λ s u x y q l. refl; above = λ s x l. l }

  -- the word of register b, taken over
  pub moved : (b : ℕ) → Write w k g (over w.meaning (level k) (reg g b)) (λ s. reg_of s b)
  moved b = record {
    labelled = λ s h. labelled_over w (level k) (reg g b) lk (h.registers.labels b);
    holds = λ s h. holds_over w (level k) (reg g b) (reg_of s b) (h.registers.holds b);
    same = λ s u h j q l. q.registers.same b (low_over w (level k) (reg g b) lk (h.registers.labels b) l);
    above = λ s h l. seen_over w (level k) (reg g b) lk (h.registers.labels b) l;
  }

  -- the word of slot n, taken over
  pub peeked : (n : ℕ) → Write w k g (over w.meaning (level k) (slot g n)) (λ s. get_or s.stack n 0)
  peeked n = record {
    labelled = λ s h. labelled_over w (level k) (slot g n) lk (h.slots.labels n);
    holds = λ s h. holds_over w (level k) (slot g n) (get_or s.stack n 0) (h.slots.holds n);
    same = λ s u h j q l. q.slots.same n (low_over w (level k) (slot g n) lk (h.slots.labels n) l);
    above = λ s h l. seen_over w (level k) (slot g n) lk (h.slots.labels n) l;
  }

  -- what is computed from registers b and c
  pub computed :
      (b c : ℕ) (f : ℕ → ℕ → ℕ) (x y : ℕ) → reg g b ≡ Typed Integer x → reg g c ≡ Typed Integer y →
      Write w k g (Typed Integer (join w (join w (level k) (label_of (reg g b))) (label_of (reg g c)))) (λ s. f (reg_of s b) (reg_of s c))
  computed b c f x y eb ec = record {
    labelled = λ s h. w.lawful.join_label left right (in_left s h) (in_right s h);
    holds = λ s h. tt;
    same = λ s u h j q l.
        let qb : reg_of s b ≡ reg_of u b = q.registers.same b (low_at w eb (rw eb at (seen_b s h l))) in
        let qc : reg_of s c ≡ reg_of u c = q.registers.same c (low_at w ec (rw ec at (seen_right w left right (in_left s h) (in_right s h) l))) in
        cc;
    above = λ s h l. seen_left w (level k) (label_of (reg g b)) lk (in_b s h) (seen_left w left right (in_left s h) (in_right s h) l);
  }
    where
      left : ℕ
      left = join w (level k) (label_of (reg g b))

      right : ℕ
      right = label_of (reg g c)

      in_b : (s : State) → Described w g s → Label w (label_of (reg g b))
      in_b s h = label_known w (reg g b) (h.registers.labels b)

      in_left : (s : State) → Described w g s → Label w left
      in_left s h = w.lawful.join_label (level k) (label_of (reg g b)) lk (in_b s h)

      in_right : (s : State) → Described w g s → Label w right
      in_right s h = label_known w (reg g c) (h.registers.labels c)

      seen_b : (s : State) → Described w g s → Seen w (join w left right) → Seen w (label_of (reg g b))
      seen_b s h l = seen_right w (level k) (label_of (reg g b)) lk (in_b s h) (seen_left w left right (in_left s h) (in_right s h) l)
