-- The laws of labels, as a reader meets them: what is seen at a join is seen at each side, and what a type taken over or fitted says.
use Prim.Native.Nat.{ℕ}
use lib.Dec.{T}
use Rattle.image.specs.declared.ty.Sort.{Sort}
use Rattle.image.specs.declared.ty.Sort.TheVariants.{Integer, Pointer, Code}
use Rattle.image.specs.declared.ty.Ty.{Ty}
use Rattle.image.specs.declared.ty.Ty.TheVariants.{Nonsense, Typed}
use Rattle.rules.specs.Types.{over, label_of}
use Rattle.rules.specs.WellTyped.{Fit}
use Rattle.secrecy.proofs.Setting.{Setting, Holds, Labelled, join, Label, Seen, Low}

module _ (w : Setting) where
  pub seen_down : (a b : ℕ) → T (w.meaning.below a b) → Seen w b → Seen w a
  seen_down a b h q = w.lawful.transitive a b w.reader h q

  pub seen_left : (a b : ℕ) → Label w a → Label w b → Seen w (join w a b) → Seen w a
  seen_left a b h k q = seen_down a (join w a b) (w.lawful.join_left a b h k) q

  pub seen_right : (a b : ℕ) → Label w a → Label w b → Seen w (join w a b) → Seen w b
  seen_right a b h k q = seen_down b (join w a b) (w.lawful.join_right a b h k) q

  -- the label of a labelled type is a label
  pub label_known : (t : Ty) → Labelled w.meaning t → Label w (label_of t)
  label_known Nonsense h = w.lawful.some
  label_known (Typed s l) h = h

  pub labelled_over : (l : ℕ) (t : Ty) → Label w l → Labelled w.meaning t → Labelled w.meaning (over w.meaning l t)
  labelled_over l Nonsense h k = tt
  labelled_over l (Typed s k) h i = w.lawful.join_label l k h i

  pub low_over : (l : ℕ) (t : Ty) → Label w l → Labelled w.meaning t → Low w (over w.meaning l t) → Low w t
  low_over l Nonsense h k q = q
  low_over l (Typed s k) h i q = seen_right l k h i q

  pub seen_over : (l : ℕ) (t : Ty) → Label w l → Labelled w.meaning t → Low w (over w.meaning l t) → Seen w l
  seen_over l Nonsense h k q = absurd q
  seen_over l (Typed s k) h i q = seen_left l k h i q

  -- what a word must be does not depend on the label
  pub holds_relabelled : (s : Sort) (l k v : ℕ) → Holds w.program (Typed s l) v → Holds w.program (Typed s k) v
  holds_relabelled Integer l k v h = tt
  holds_relabelled (Pointer s) l k v h = h
  holds_relabelled (Code s) l k v h = h

  pub holds_over : (l : ℕ) (t : Ty) (v : ℕ) → Holds w.program t v → Holds w.program (over w.meaning l t) v
  holds_over l Nonsense v h = tt
  holds_over l (Typed s k) v h = holds_relabelled s k (join w l k) v h

  pub holds_fit : (have want : Ty) (v : ℕ) → Fit w.meaning have want → Holds w.program have v → Holds w.program want v
  holds_fit have Nonsense v f h = tt
  holds_fit have (Typed s k) v f h = holds_relabelled s f.0 k v (rw f.1 at h)

  pub low_fit : (have want : Ty) → Fit w.meaning have want → Low w want → Low w have
  low_fit have Nonsense f q = absurd q
  low_fit have (Typed s k) f q = rw f.1 (seen_down f.0 k f.2 q)
