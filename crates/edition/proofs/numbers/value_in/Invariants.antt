use Rattle.std.proofs.Common.{◌≡◌, ◌≤◌, drop}
use Rattle.edition.specs.Numbers.{value_on, capped}
use Rattle.edition.proofs.numbers.value_in.Given as goal

-- the digits that are left go on to the value
abbrev pub invariant-loop-byte : goal.invariant-loop-byte
invariant-loop-byte l =
    (l.value ≤ 4294967296)
    × (capped (value_on l.base l.value (drop l.byte-index l.digits)) ≡ capped (value_on l.base 0 l.digits))
