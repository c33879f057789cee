-- What every box keeps: no image, or one that meets each rule that asks no label kind.
use Rattle.std.specs.Prelude.{ℕ, Bool, ◌||◌, List, length, ◌==◌}
use Rattle.rules.specs.Free.{kind_free}

-- no word stands for no image: the layout pass refuses an image of no word
abbrev pub may_keep : List ℕ → Bool
may_keep ns = length ns == 0 || kind_free ns
