use Rattle.std.proofs.Common.{◌≡◌, ℕ, ◌+◌, ◌*◌, ◌<◌, T, sym, ◌∙◌, subst, arith}
use Rattle.labels.specs.Meaning.{Meaning}
use Rattle.labels.specs.Pairs.{pair, joined_by_parts}
use Rattle.labels.specs.Parts.{up_is_joined}
use Rattle.labels.proofs.pair.PairLabelKind.join.Given as given
use Rattle.labels.proofs.pair.PairLabelKind.join.Goals as goal

module _ (g : given.Over) (c : goal.After-from-2 g) where
  abbrev first : Meaning
  first = g.A.LabelKind.meaning c.args.self.now.first

  abbrev second : Meaning
  second = g.B.LabelKind.meaning c.args.self.now.second

  abbrev code : ℕ
  code = c.from.result * c.count-n.result + c.from-2.result

  -- the code that is made is the join by parts
  made : code ≡ joined_by_parts first second c.args.a c.args.b
  made = cc

  -- which is the join of the pair, and one byte
  right : (joined_by_parts first second c.args.a c.args.b ≡ (pair first second).joined c.args.a c.args.b)
      × (joined_by_parts first second c.args.a c.args.b < 256)
  right =
      up_is_joined first second (g.met.A.LabelKind.lawful c.args.self.now.first)
      (g.met.B.LabelKind.lawful c.args.self.now.second) c.args.a c.args.b
      (subst T (sym c.if-not-are_labels.false ∙ c.are_labels.ensures) tt)

pub overflow_cast-result : goal.overflow_cast-result
overflow_cast-result g c = omega (arith, made g c, (right g c).1)

pub returns : goal.returns
returns g c = made g c ∙ (right g c).0
