-- The n-th of a list as an `Option`, beside its test and its default.
use Rattle.std.proofs.Common.{◌≡◌, ℕ, zero, suc, ◌<◌, ◌≤◌, true, false, ltb, List, [], ◌∷◌, length, get_or, Some, None, arith}
use Rattle.std.specs.List.{slice_get}
use Rattle.std.proofs.lemmas.Bool.{lt-ltb, le-ltb}

module _ {X : Type 0} where
  pub nth_there : (xs : List X) (n : ℕ) (x : X) → Some x ≡ slice_get xs n → n < length xs
  nth_there [] n x e = absurd (let z : ◌≡◌ {A = ℕ} 0 1 = cc in omega arith)
  nth_there (y ∷ xs) zero x e = omega arith
  nth_there (y ∷ xs) (suc n) x e = let h = nth_there xs n x e in omega arith

  pub nth_missing : (xs : List X) (n : ℕ) → None ≡ slice_get xs n → length xs ≤ n
  nth_missing [] n e = omega arith
  nth_missing (y ∷ xs) zero e = absurd (let z : ◌≡◌ {A = ℕ} 0 1 = cc in omega arith)
  nth_missing (y ∷ xs) (suc n) e = let h = nth_missing xs n e in omega arith

  -- with any default
  pub nth_is : (xs : List X) (n : ℕ) (x d : X) → Some x ≡ slice_get xs n → get_or xs n d ≡ x
  nth_is [] n x d e = absurd (let z : ◌≡◌ {A = ℕ} 0 1 = cc in omega arith)
  nth_is (y ∷ xs) zero x d e = cc
  nth_is (y ∷ xs) (suc n) x d e = nth_is xs n x d e

  pub there : (xs : List X) (n : ℕ) (x : X) → Some x ≡ slice_get xs n → ltb n (length xs) ≡ true
  there xs n x e = lt-ltb n (length xs) (nth_there xs n x e)

  pub missing : (xs : List X) (n : ℕ) → None ≡ slice_get xs n → ltb n (length xs) ≡ false
  missing xs n e = le-ltb n (length xs) (nth_missing xs n e)
