use Rattle.std.proofs.Common.{◌≡◌, ℕ, zero, suc, refl, arith}
use Rattle.image.specs.declared.section.Section.{Section}
use Rattle.image.specs.Words.{split}
use Rattle.image.specs.Layout.{stand, step}
use Rattle.image.specs.Stands.{after_head_word}
use Rattle.image.proofs.stand.Stand.after.Goals as goal

-- with no word of an item to come, a head is wanted
at_head : (section : Section) (count cells left n : ℕ) → left ≡ 0 → step (stand section count cells left) n ≡ after_head_word (stand section count cells left) (split n)
at_head section count cells zero n e = refl
at_head section count cells (suc left) n e = absurd (omega arith)

pub returns-then-self-eq0-clause-stand : goal.returns-then-self-eq0-clause-stand
returns-then-self-eq0-clause-stand c =
    let s = c.args.self in rw (at_head s.section s.count s.cells s.left c.args.raw c.if-self-eq0.true, ← c.from-w.ensures) c.after_head.ensures.stand
