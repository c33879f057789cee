-- The settings of a job: how each is written, and the largest number that it takes.
use Rattle.std.specs.Prelude.{ℕ, List, codes}
use Rattle.edition.specs.declared.setting.Setting.{Setting}
use Rattle.edition.specs.declared.setting.Setting.TheVariants.{Fuel, Strip, Sheet, Words}

abbrev pub keyword_of : Setting → List ℕ
keyword_of Fuel = codes "fuel"
keyword_of Strip = codes "strip"
keyword_of Sheet = codes "sheet"
keyword_of Words = codes "words"

-- fuel and words have 32 bits; a strip and a sheet lie in the press memory of 65536 words
abbrev pub limit_of : Setting → ℕ
limit_of Fuel = 4294967295
limit_of Strip = 65536
limit_of Sheet = 65536
limit_of Words = 4294967295
