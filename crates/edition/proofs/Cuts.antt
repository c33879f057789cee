-- What the bytes up to the first of another kind make of a line's text and of its fields.
use Rattle.std.proofs.Common.{◌≡◌, ℕ, ◌+◌, ◌-◌, ◌<◌, Bool, true, false, cond, not, List, [], ◌∷◌, ◌++◌, length, take, drop, sym, refl, ap, ◌∙◌, append_assoc, append-nil, add-zero, inl, inr, arith}
use Rattle.std.proofs.lemmas.Bool.{cases_lt}
use Rattle.std.proofs.lemmas.List.{drop-drop}
use Rattle.std.proofs.lemmas.List.Folds.{length-prefix_len}
use Rattle.std.proofs.lemmas.List.Sums.{prefix_len_is, prefix_len_stops, prefix_len-drop_yes, take_while-cons}
use Rattle.std.proofs.Math.ListN.{drop_of_length-le}
use Rattle.std.proofs.Math.Numerals.{one-add}
use Rattle.std.specs.Prelude.{◌==◌, take_while}
use Rattle.std.specs.List.{prefix_len}
use Rattle.edition.specs.Fields.{IsRun, text_of, blank, ended, cut, fields_from}

abbrev pub no_hash : ℕ → Bool
no_hash b = not (b == 35)

abbrev pub ink : ℕ → Bool
ink b = not (blank b)

-- a run of what a test passes ends at the first that it does not pass
pub run_is : {answers : ℕ → Bool → Type 0} (p : ℕ → Bool) → ((b : ℕ) (r : Bool) → answers b r → r ≡ p b) → (bs : List ℕ) (n : ℕ) → IsRun answers bs n → prefix_len p bs ≡ n
run_is p says bs n run = prefix_len_is p bs n 0 run.within (λ i h. sym (says _ _ (run.pass i h))) (λ h. sym (says _ _ (run.stops h)))

-- the text is what stands before the first number sign
pub text_is : (line : List ℕ) → take_while no_hash line ≡ text_of line
text_is [] = refl
text_is (b ∷ bs) =
    take_while-cons no_hash b bs
    ∙ elim (b == 35) as (λ t. cond (not t) (b ∷ take_while no_hash bs) [] ≡ cond t [] (b ∷ text_of bs)) [
      | true ↦ refl
      | false ↦ ap (λ xs. b ∷ xs) (text_is bs)
    ]

module _ (at : ℕ) (part : List ℕ) (b : ℕ) (bs : List ℕ) where
  -- what one byte makes of the fields
  by_byte : (t : Bool) → blank b ≡ t → cut at part (b ∷ bs) ≡ cond t (ended at part) [] ++ cut (at + 1) (cond t [] (part ++ (b ∷ []))) bs
  by_byte t e = ap (λ u. cond u (ended at part) [] ++ cut (at + 1) (cond u [] (part ++ (b ∷ []))) bs) e

-- blanks are passed over, where no field goes on
pub past_blanks : (at : ℕ) (bs : List ℕ) → cut at [] bs ≡ cut (at + prefix_len blank bs) [] (drop (prefix_len blank bs) bs)
past_blanks at [] = ap (λ k. cut k [] []) (sym (add-zero at))
past_blanks at (b ∷ bs) =
    let n = prefix_len blank bs in
    let place : at + 1 + n ≡ at + (1 + n) = omega arith in
    (elim (blank b) as (λ t. blank b ≡ t → cut at [] (b ∷ bs) ≡ cut (at + cond t (1 + n) 0) [] (drop (cond t (1 + n) 0) (b ∷ bs))) [
      | true ↦ λ e. by_byte at [] b bs true e ∙ past_blanks (at + 1) bs ∙ simp one-add (ap (λ k. cut k [] (drop n bs)) (simp one-add at place))
      | false ↦ λ e. ap (λ k. cut k [] (b ∷ bs)) (sym (add-zero at))
    ]) refl

-- a field goes on up to a blank or the end, and ends there
pub past_ink : (at : ℕ) (part bs : List ℕ) → cut at part bs ≡ ended (at + prefix_len ink bs) (part ++ take (prefix_len ink bs) bs) ++ cut (at + prefix_len ink bs) [] (drop (prefix_len ink bs) bs)
past_ink at part [] = simp (add-zero, append-nil)
past_ink at part (b ∷ bs) =
    let n = prefix_len ink bs in
    let place : at + 1 + n ≡ at + (1 + n) = omega arith in
    (elim (blank b) as (λ t. blank b ≡ t → cut at part (b ∷ bs) ≡ ended (at + cond (not t) (1 + n) 0) (part ++ take (cond (not t) (1 + n) 0) (b ∷ bs)) ++ cut (at + cond (not t) (1 + n) 0) [] (drop (cond (not t) (1 + n) 0) (b ∷ bs))) [
      | true ↦ λ e.
          by_byte at part b bs true e
          ∙ ap (λ fs. ended at part ++ fs) (sym (by_byte at [] b bs true e))
          ∙ (λ i. ended (sym (add-zero at) i) (sym (append-nil part) i) ++ cut (sym (add-zero at) i) [] (b ∷ bs))
      | false ↦ λ e.
          by_byte at part b bs false e
          ∙ past_ink (at + 1) (part ++ (b ∷ [])) bs
          ∙ simp one-add (λ i. ended ((simp one-add at place) i) (append_assoc part (b ∷ []) (take n bs) i) ++ cut ((simp one-add at place) i) [] (drop n bs))
    ]) refl

ended_some : (at : ℕ) (part : List ℕ) → 0 < length part → ended at part ≡ record { column = at - length part + 1; bytes = part } ∷ []
ended_some at [] h = absurd (omega arith)
ended_some at (b ∷ bs) h = refl

-- where no field begins behind the blanks, nothing does
nothing_left : (bs : List ℕ) → prefix_len ink (drop (prefix_len blank bs) bs) ≡ 0 → drop (prefix_len blank bs) bs ≡ []
nothing_left bs none =
    let k = prefix_len blank bs in
    elim (cases_lt k (length bs)) [
      | inl h ↦ absurd (omega (arith, prefix_len-drop_yes ink bs k 0 h (ap not (prefix_len_stops blank bs 0 h))))
      | inr h ↦ drop_of_length-le bs h
    ]

module _ (text : List ℕ) (at k n : ℕ) (blanks : prefix_len blank (drop at text) ≡ k) (size : prefix_len ink (drop (at + k) text) ≡ n) where
  behind_blanks : fields_from text at ≡ fields_from text (at + k)
  behind_blanks = past_blanks at (drop at text) ∙ (λ i. cut (at + blanks i) [] (drop (blanks i) (drop at text))) ∙ ap (cut (at + k) []) (drop-drop k at text)

  cut_off : fields_from text at ≡ ended (at + k + n) (take n (drop (at + k) text)) ++ fields_from text (at + k + n)
  cut_off =
      let bs = drop (at + k) text in
      behind_blanks
      ∙ past_ink (at + k) [] bs
      ∙ (λ i. ended (at + k + size i) (take (size i) bs) ++ cut (at + k + size i) [] (drop (size i) bs))
      ∙ ap (λ cs. ended (at + k + n) (take n bs) ++ cut (at + k + n) [] cs) (drop-drop n (at + k) text)

  pub one_field : 0 < n → fields_from text at ≡ record { column = at + k + 1; bytes = take n (drop (at + k) text) } ∷ fields_from text (at + k + n)
  one_field some =
      let bytes = take n (drop (at + k) text) in
      let long : length bytes ≡ n = ap (λ m. length (take m (drop (at + k) text))) (sym size) ∙ length-prefix_len ink (drop (at + k) text) ∙ size in
      let column : at + k + n - length bytes + 1 ≡ at + k + 1 = omega arith in
      cut_off
      ∙ ap (λ fs. fs ++ fields_from text (at + k + n)) (ended_some (at + k + n) bytes (omega arith))
      ∙ ap (λ c. record { column = c; bytes = bytes } ∷ fields_from text (at + k + n)) column

  pub no_field : n ≡ 0 → fields_from text at ≡ []
  no_field none =
      let bs = drop at text in
      let skipped : drop (prefix_len blank bs) bs ≡ drop (at + k) text = ap (λ m. drop m bs) blanks ∙ drop-drop k at text in
      let empty : drop (at + k) text ≡ [] = sym skipped ∙ nothing_left bs (ap (prefix_len ink) skipped ∙ size ∙ none) in
      behind_blanks ∙ ap (cut (at + k) []) empty
