-- An image in which the three passes find nothing may be kept.
use Rattle.std.proofs.Common.{◌≡◌, ℕ, ◌≤◌, Bool, true, false, ◌||◌, eqb, List, length, sym, refl}
use Rattle.labels.specs.Meaning.{Meaning}
use Rattle.image.specs.Finding.{clear}
use Rattle.image.specs.Layout.{layout}
use Rattle.rules.specs.Free.{kind_free}
use Rattle.rules.specs.Verdict.{naming_of, flow_of}
use Rattle.rules.proofs.Decides.{layout_is, all_clear}
use Rattle.rules.proofs.KindFree.{accepted_is_kind_free, kind_free_tested}
use Rattle.press_box.specs.Kept.{may_keep}

pub may_be_kept : (m : Meaning) (ns : List ℕ) → clear ≡ layout ns → clear ≡ naming_of m ns → clear ≡ flow_of m ns → may_keep ns ≡ true
may_be_kept m ns l n f = go (eqb (length ns) 0) ((kind_free_tested ns).1 (accepted_is_kind_free m ns ((all_clear m ns).1 (sym l, (sym n, sym f)))))
  where
    go : (b : Bool) → kind_free ns ≡ true → (b || kind_free ns) ≡ true
    go true k = refl
    go false k = k

pub short : (ns : List ℕ) → clear ≡ layout ns → length ns ≤ 2048
short ns l = (layout_is ns (sym l)).short
