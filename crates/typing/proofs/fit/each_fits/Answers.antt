use Rattle.std.proofs.Common.{◌≡◌, ℕ, ◌+◌, Bool, ◌&&◌, List, [], ◌∷◌, map, get_or, drop, refl, ap, ap₂, sym, ◌∙◌, add-zero, rules}
use Rattle.std.proofs.lemmas.List.{drop-drop, get_or-drop}
use Rattle.std.proofs.lemmas.Iterator.{YieldsList-from_slice}
use Rattle.std.proofs.lemmas.Iterator.Consumers.{YieldsList-from_enumerate}
use Rattle.std.proofs.lemmas.Iterator.Search.{all_from_yields_List}
use Rattle.std.specs.List.{list_all, enumerate_from}
use Rattle.image.specs.declared.ty.Ty.{Ty}
use Rattle.image.specs.declared.ty.Ty.TheVariants.{Nonsense}
use Rattle.rules.specs.Fit.{pairwise}
use Rattle.rules.specs.Says.{type_in}
use Rattle.typing.proofs.fit.each_fits.Goals as goal

module _ (test : Ty → Ty → Bool) where
  first_of : (have : List Ty) (w : Ty) (want : List Ty) → pairwise test have (w ∷ want) ≡ (test (get_or have 0 Nonsense) w && pairwise test (drop 1 have) want)
  first_of [] w want = refl
  first_of (h ∷ have) w want = refl

  -- words with their numbers from i on, each compared with what is there at its number
  numbered : (spell : ℕ → Ty) (have : List Ty) (i : ℕ) (ns : List ℕ) → list_all (λ (p : ℕ × ℕ). test (get_or have p.0 Nonsense) (spell p.1)) (enumerate_from i ns) ≡ pairwise test (drop i have) (map spell ns)
  numbered spell have i [] = refl
  numbered spell have i (n ∷ ns) =
      let here = get_or-drop i have 0 Nonsense ∙ ap (λ k. get_or have k Nonsense) (add-zero i) in
      ap₂ ◌&&◌ (ap (λ t. test t (spell n)) (sym here)) (numbered spell have (i + 1) ns ∙ ap (λ ts. pairwise test ts (map spell ns)) (sym (drop-drop 1 i have)))
      ∙ sym (first_of (drop i have) (spell n) (map spell ns))

pub returns : goal.returns
returns g c test same =
    let have = c.args.have.now in
    let want = c.args.want.now in
    all_from_yields_List (λ p. test (get_or have p.0 Nonsense) (type_in p.1)) _ _ _ c.all.ensures.ran (YieldsList-from_enumerate (YieldsList-from_slice want cc) cc) (λ x b q k. search (rules, same))
    ∙ numbered test type_in have 0 want
