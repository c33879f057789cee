-- The sentence that shows an error.
use Rattle.std.specs.Prelude.{ℕ, List, ◌++◌, codes, decimal}
use Rattle.edition.specs.declared.errors.Part.{Part}
use Rattle.edition.specs.declared.errors.Part.TheVariants.{Command, Name, Keyword, Number}
use Rattle.edition.specs.declared.errors.LineError.{LineError}
use Rattle.edition.specs.declared.errors.LineError.TheVariants.{Memory, Missing, Unexpected, TooLarge, Surplus}
use Rattle.edition.specs.Settings.{keyword_of}

abbrev pub part_shown : Part → List ℕ
part_shown Command = codes "'load' or 'job'"
part_shown Name = codes "the job's name"
part_shown (Keyword s) = codes "the keyword '" ++ (keyword_of s ++ codes "'")
part_shown (Number s) = codes "a number for '" ++ (keyword_of s ++ codes "', in decimal or as 0x and hexadecimal digits")

abbrev pub placed : ℕ → List ℕ → List ℕ
placed column said = codes "column " ++ (decimal column ++ (codes ": " ++ said))

abbrev pub sentence : LineError → List ℕ
sentence Memory = codes "out of memory"
sentence (Missing column part) = placed column (codes "the line ends, expected " ++ part_shown part)
sentence (Unexpected column part) = placed column (codes "expected " ++ part_shown part)
sentence (TooLarge column s limit) =
    placed column (codes "the number for '" ++ (keyword_of s ++ (codes "' is too large, at most " ++ decimal limit)))
sentence (Surplus column) = placed column (codes "'load' stands alone on its line")
