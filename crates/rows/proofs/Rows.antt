-- The places in front of a row's values are written.
use Rattle.std.proofs.Common.{◌≡◌, ℕ, ◌-◌, ◌≤◌, List, [], ◌∷◌, ◌++◌, length, take, drop, replicate, refl, ap, ◌∙◌, subst, arith, length-take-le, length-drop}
use Rattle.std.proofs.lemmas.List.{drop_at, drop-drop}
use Rattle.std.specs.List.{FoldsTo, between}
use borrow.Rule.Slice.PartMut.{put_mid}

-- calls that each gave v and changed nothing gave v alone
pub filled : {T F : Type 0} (R : F → T → F → Type 0) (v : T) (f : F) (xs : List T) (last : F) → FoldsTo R f xs last → ((x : T) (q : F) → R f x q → (x ≡ v) × (q ≡ f)) → xs ≡ replicate (length xs) v
filled R v f [] last ran same = refl
filled R v f (x ∷ xs) last ran same =
    let one = same x ran.0 ran.1 in
    let more = filled R v f xs last (subst (λ q. FoldsTo R q xs last) one.1 ran.2) same in
    cc (one.0, more)

-- so many places in front of the values are written
pub pushed : {T : Type 0} (places part : List T) (front count : ℕ) (v : T) → count ≤ front → front ≤ length places → length part ≡ length (between (front - count) front places) → part ≡ replicate (length part) v → drop (front - count) (put_mid (front - count) (front - (front - count)) places part) ≡ replicate count v ++ drop front places
pushed places part front count v room within long same =
    let n = length-drop (front - count) places in
    let all : length part ≡ count = long ∙ length-take-le (front - (front - count)) (drop (front - count) places) (omega arith) ∙ omega arith in
    drop_at (take (front - count) places) _ (front - count) (length-take-le (front - count) places (omega arith))
    ∙ ap (λ xs. part ++ xs) (drop-drop (front - (front - count)) (front - count) places ∙ ap (λ n. drop n places) (omega arith))
    ∙ ap (λ xs. xs ++ drop front places) (same ∙ ap (λ n. replicate n v) all)
