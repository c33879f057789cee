-- Where the code of the layout pass stands.
use Rattle.std.specs.Prelude.{Some, None}
use Rattle.image.specs.declared.stand.Stand as code
use Rattle.image.specs.declared.word.Word.{Word}
use Rattle.image.specs.Heads.{head_of}
use Rattle.image.specs.Layout.{Stand, stand, after_head}

abbrev pub stood : code.Stand → Stand
stood s = stand s.section s.count s.cells s.left

-- behind a word where a head is wanted
abbrev pub after_head_word : Stand → Word → Stand
after_head_word s w = elim (head_of w) [ None ↦ s | Some h ↦ after_head s h ]
