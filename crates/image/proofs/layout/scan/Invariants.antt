use Rattle.std.proofs.Common.{◌≡◌, length, drop}
use Rattle.image.specs.Layout.{outset, onward}
use Rattle.image.specs.Stands.{stood}
use Rattle.image.proofs.layout.scan.Given as goal

-- what is found from here on is what is found in all
abbrev pub invariant-loop-place : goal.invariant-loop-place
invariant-loop-place l = onward (length l.words) (stood l.stand) l.place (drop l.place l.words) ≡ onward (length l.words) outset 0 l.words
