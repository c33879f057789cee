use Rattle.std.proofs.Common.{◌≡◌, ◌++◌, map}
use Rattle.rules.specs.Says.{type_in}
use Rattle.rows.specs.Rows.{held}
use Rattle.typing.proofs.state.types_in.Given as goal

-- the words that are still to come, and behind them what the row holds
abbrev pub invariant-loop-word : goal.invariant-loop-word
invariant-loop-word g l = map type_in l.word-iterator.iter.rest.now ++ held l.row ≡ map type_in l.words
