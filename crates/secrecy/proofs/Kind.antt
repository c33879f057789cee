-- Stages keep the laws of labels, so a scene can be set in them.
use Prim.Native.Nat.{max}
use native.Mathlib.Nat.{le_antisymm}
use native.Mathlib.Omega.{arith}
use lib.Dec.{leb, le→leb, leb→le}
use Rattle.labels.specs.Meaning.{Lawful}
use Rattle.labels.specs.Stages.{stages}
use Rattle.labels.specs.Within.{within_lawful}

pub stages_lawful : Lawful stages
stages_lawful = within_lawful 16 leb max (record {
  some = omega arith;
  few = omega arith;
  reflexive = λ a h. le→leb a a (omega arith);
  antisymmetric = λ a b ha hb h k. le_antisymm (leb→le a b h) (leb→le b a k);
  transitive = λ a b c ha hb hc h k. le→leb a c (omega (arith, leb→le a b h, leb→le b c k));
  bottom = λ a h. le→leb 0 a (omega arith);
  join_label = λ a b ha hb. omega arith;
  join_left = λ a b ha hb. le→leb a (max a b) (omega arith);
  join_right = λ a b ha hb. le→leb b (max a b) (omega arith);
  join_least = λ a b c ha hb hc h k. le→leb (max a b) c (omega (arith, leb→le a c h, leb→le b c k));
})
