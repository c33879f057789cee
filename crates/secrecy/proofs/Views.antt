-- What each word that is not a block's last does.
use mathlib.Core.Path.{◌≡◌, refl}
use Prim.Native.Nat.{ℕ, ◌+◌, ◌-◌, ◌^◌, ◌%◌, ◌<◌}
use lib.ListN.{length, get_or}
use lib.Dec.{T}
use Rattle.image.specs.declared.ty.Sort.TheVariants.{Integer, Pointer, Code}
use Rattle.image.specs.declared.ty.Ty.TheVariants.{Typed}
use Rattle.image.specs.declared.head.Context.{Context}
use Rattle.image.specs.declared.instruction.Instruction.{Instruction}
use Rattle.image.specs.declared.instruction.Instruction.TheVariants.{SetNumber, SetTuple, SetBlock, Copy, Add, Subtract, Fetch, Store, Push, Pop, Peek, Poke, Strike as StrikeOn, Branch, Raise, Jump, Lower, Halt}
use Rattle.rules.specs.Program.{Types, signature_at, tuple_at, block_at}
use Rattle.rules.specs.Types.{level, reg}
use Rattle.rules.specs.Named.{InstructionNamed}
use Rattle.rules.specs.WellTyped.{Transfer, Asks}
use Rattle.secrecy.proofs.Setting.{Setting, join, Label, context_at}
use Rattle.secrecy.proofs.Calm.{Calm, by_register, by_slot, by_push, by_pop}
use Rattle.secrecy.proofs.Writes.{constant, moved, peeked, computed}
use Rattle.secrecy.proofs.Pointers.{by_fetch, by_store}

module _ (w : Setting) where
  pub data View (k : Context) (g : Types) : Instruction → Type 0 where
    calm : {i : Instruction} → Calm w k g i → View k g i
    striking :
        {c b : ℕ} (x : ℕ) → reg g b ≡ Typed Integer x → T (w.meaning.below (join w (level k) x) (get_or w.program.channels c 0)) →
        View k g (StrikeOn c b)
    branching :
        {a b : ℕ} (x y c : ℕ) → reg g a ≡ Typed Integer x → reg g b ≡ Typed (Code c) y → T (w.meaning.below x (level k)) →
        T (w.meaning.below y (level k)) → Transfer w.meaning k g (signature_at w.program c) →
        View k g (Branch a b)
    raising : {l n : ℕ} → Label w l → n < length w.program.blocks → T (w.meaning.below (level k) l) → context_at w n ≡ k → View k g (Raise l n)

  pub view :
      (k : Context) (g : Types) (i : Instruction) → Label w (level k) → InstructionNamed w.meaning w.program i → Asks w.meaning w.program k g i →
      View k g i
  view k g (SetNumber a n) lk d q = calm (by_register w a (constant w k g lk Integer n tt) (λ s is. refl) refl refl)
  view k g (SetTuple a n) lk d q = calm (by_register w a (constant w k g lk (Pointer (tuple_at w.program n).shape) n (d.1, refl)) (λ s is. refl) refl refl)
  view k g (SetBlock a n) lk d q = calm (by_register w a (constant w k g lk (Code (block_at w.program n).signature) n (d.1, refl)) (λ s is. refl) refl refl)
  view k g (Copy a b) lk d q = calm (by_register w a (moved w k g lk b) (λ s is. refl) refl refl)
  view k g (Add a b c) lk d (x, y, eb, ec) = calm (by_register w a (computed w k g lk b c (λ m n. (m + n) % 2 ^ 32) x y eb ec) (λ s is. refl) refl refl)
  view k g (Subtract a b c) lk d (x, y, eb, ec) = calm (by_register w a (computed w k g lk b c (λ m n. (m + (2 ^ 32 - n)) % 2 ^ 32) x y eb ec) (λ s is. refl) refl refl)
  view k g (Fetch a b c) lk d (s, x, e, j) = calm (by_fetch w k g lk b s x c e j a)
  view k g (Store a b c) lk d (s, x, y, z, o, e, j, ed, ez, le) = calm (by_store w k g lk a s x c e j b y z o ed ez le)
  view k g (Push n) lk d q = calm (by_push w n)
  view k g (Pop n) lk d q = calm (by_pop w n q)
  view k g (Peek a n) lk d q = calm (by_register w a (peeked w k g lk n) (λ s is. refl) refl refl)
  view k g (Poke b n) lk d q = calm (by_slot w b n (moved w k g lk b))
  view k g (StrikeOn c b) lk d (x, e, le) = striking x e le
  view k g (Branch a b) lk d (x, y, c, ea, eb, la, lb, tf) = branching x y c ea eb la lb tf
  view k g (Raise l n) lk d q = raising d.1 d.0 q.0 q.1
  view k g (Jump a) lk d q = absurd q
  view k g (Lower n) lk d q = absurd q
  view k g Halt lk d q = absurd q
