-- A word of 32 bits in its four bytes: its kind on top, and a, b and c below it.
use Rattle.std.specs.Prelude.{ℕ, ◌/◌, ◌%◌, Bool, ◌&&◌, ◌==◌}
use Rattle.image.specs.declared.word.Word.{Word}

abbrev pub word : ℕ → ℕ → ℕ → ℕ → Word
word kind a b c = record { kind = kind; a = a; b = b; c = c }

abbrev pub split : ℕ → Word
split n = word (n / 16777216) (n / 65536 % 256) (n / 256 % 256) (n % 256)

-- the same bytes in the same places
abbrev pub same : Word → Word → Bool
same v w = v.kind == w.kind && v.a == w.a && v.b == w.b && v.c == w.c
