-- Seven hexadecimal digits have 28 bits.
use Rattle.std.proofs.Common.{ℕ, ◌^◌, ◌<◌, ◌≤◌, arith, lit<}
use native.Mathlib.Nat.{pow-le-pow_right}

pub seven_digits : (n : ℕ) → n < 8 → 16 ^ n ≤ 2 ^ 28
seven_digits n h = pow-le-pow_right (lit< tt) {j = 7} (omega arith)
