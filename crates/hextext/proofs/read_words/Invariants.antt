use Rattle.std.proofs.Common.{◌≡◌, ◌+◌, ◌≤◌, drop}
use Rattle.hextext.specs.Text.{onward, reading}
use Rattle.hextext.proofs.read_words.Given as goal

-- what is left of the text reads on to what the text reads
abbrev pub invariant-loop-byte : goal.invariant-loop-byte
invariant-loop-byte l =
    record {
      line : l.state.line ≤ l.byte-index + 1;
      column : l.state.column ≤ l.byte-index + 1;
      reads_on : onward l.words.items l.state (drop l.byte-index l.text) ≡ reading l.text;
    }
