-- What the laws leave no choice of.
use Rattle.std.proofs.Common.{◌≡◌, ℕ, ◌<◌, ◌≤◌, T, sym, ◌∙◌, subst, ⊎_elim, arith}
use Rattle.std.proofs.lemmas.Bool.{cases_lt}
use Rattle.labels.specs.Meaning.{Meaning, Lawful}
use Rattle.labels.specs.Laws.{Flat, FlatHasOneLabel, SameOrder, OrderFixesJoin}

-- with a label 1, the labels 0 and 1 would be each at or below the other, and so the same
pub flat_has_one_label : FlatHasOneLabel
flat_has_one_label m ok flat =
    ⊎_elim
    (λ two. let same = ok.antisymmetric 0 1 (flat 0 1 ok.some two) (flat 1 0 two ok.some) in omega arith)
    (λ few. omega (arith, ok.some))
    (cases_lt 1 m.count)

-- the one label 0 is at or below itself
pub one_label_is_flat : (m : Meaning) → Lawful m → m.count ≡ 1 → Flat m
one_label_is_flat m ok one a b ha hb =
    let same : a ≡ b = omega arith in
    subst (λ (x : ℕ). T (m.below a x)) same (ok.reflexive a ha)

-- on labels, each join is at or above both, so the other, the least such, is at or below it; then they are the same
half : (m n : Meaning) → Lawful m → Lawful n → SameOrder m n → (a b : ℕ) → a < m.count → b < m.count
    → T (m.below (m.joined a b) (n.joined a b))
half m n m_ok n_ok same a b ha hb =
    m_ok.join_least a b (n.joined a b)
    (subst T (sym (same.alike a (n.joined a b))) (n_ok.join_left a b (omega (arith, same.as_many)) (omega (arith, same.as_many))))
    (subst T (sym (same.alike b (n.joined a b))) (n_ok.join_right a b (omega (arith, same.as_many)) (omega (arith, same.as_many))))

flipped : (m n : Meaning) → SameOrder m n → SameOrder n m
flipped m n same = record { as_many = sym same.as_many; alike = λ a b. sym (same.alike a b) }

pub order_fixes_join : OrderFixesJoin
order_fixes_join m n m_ok n_ok same a b =
    ⊎_elim (λ ha. ⊎_elim (λ hb. labels ha hb) right_out (cases_lt b m.count)) left_out (cases_lt a m.count)
  where
    labels : a < m.count → b < m.count → m.joined a b ≡ n.joined a b
    labels ha hb =
        m_ok.antisymmetric (m.joined a b) (n.joined a b) (half m n m_ok n_ok same a b ha hb)
        (subst T (sym (same.alike (n.joined a b) (m.joined a b)))
        (half n m n_ok m_ok (flipped m n same) a b (omega (arith, same.as_many)) (omega (arith, same.as_many))))

    left_out : m.count ≤ a → m.joined a b ≡ n.joined a b
    left_out h = m_ok.outside_join_left a b h ∙ sym (n_ok.outside_join_left a b (omega (arith, same.as_many)))

    right_out : m.count ≤ b → m.joined a b ≡ n.joined a b
    right_out h = m_ok.outside_join_right a b h ∙ sym (n_ok.outside_join_right a b (omega (arith, same.as_many)))
