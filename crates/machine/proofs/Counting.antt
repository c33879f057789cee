-- How many cells there are, and how many of them a job fills.
use Rattle.std.proofs.Common.{sum_by, count_by, take, ◌≡◌, ℕ, zero, suc, ◌+◌, ◌<◌, ◌≤◌, Bool, cond, List, [], ◌∷◌, ◌++◌, length, get_or, drop, sym, refl, ap, ◌∙◌, add-zero, arith, length-append, length-drop}
use Rattle.std.proofs.lemmas.List.{drop_more}
use Rattle.std.proofs.lemmas.List.Sums.{sum_by-cons, sum_by-append, count_by-le-length}
use Rattle.std.proofs.lemmas.List.Recursion.{is_count_by}
use Rattle.image.specs.declared.section.Section.{Section}
use Rattle.image.specs.declared.section.Section.TheVariants.{Channels, Shapes, Signatures, Tuples, Blocks}
use Rattle.image.specs.declared.survey.Survey.{Survey}
use Rattle.image.specs.declared.ty.Sort.TheVariants.{Integer, Pointer, Code}
use Rattle.image.specs.declared.ty.Ty.{Ty}
use Rattle.image.specs.declared.ty.Ty.TheVariants.{Nonsense, Typed}
use Rattle.image.specs.Words.{split}
use Rattle.image.specs.Items.{Piece, pieces}
use Rattle.image.specs.Surveys.{nothing_seen, with_item, surveyed}
use Rattle.labels.specs.Meaning.{Meaning}
use Rattle.rules.specs.Program.{Tuple, Program, shape_at, base_in, cell_types_of, cell_types}
use Rattle.rules.specs.Says.{part_in, with_part, program, program_of}
use Rattle.rules.specs.Fit.{is_integer}
use Rattle.rules.specs.LaidOut.{Every, all_cells}
use Rattle.rules.specs.Named.{TupleNamed}
use Rattle.machine.specs.Cells.{filled_labels, job_labels}
use Rattle.machine.proofs.Sound.{Sound}

-- ---- all cells

surveyed_cells : (ps : List Piece) (s : Survey) → (surveyed s ps).cells ≡ s.cells + all_cells (program ps).tuples
surveyed_cells [] s = sym (add-zero s.cells)
surveyed_cells (q ∷ ps) s = go q.section (surveyed_cells ps)
  where
    go : (x : Section) → ((s : Survey) → (surveyed s ps).cells ≡ s.cells + all_cells (program ps).tuples) → (surveyed (with_item s x (length q.words)) ps).cells ≡ s.cells + all_cells (with_part (part_in x (split (get_or q.words 0 0)) (drop 1 q.words)) (program ps)).tuples
    go Channels more = more (with_item s Channels (length q.words)) ∙ omega arith
    go Shapes more = more (with_item s Shapes (length q.words)) ∙ omega arith
    go Signatures more = more (with_item s Signatures (length q.words)) ∙ omega arith
    go Tuples more = more (with_item s Tuples (length q.words)) ∙ omega (arith, length-drop 1 q.words)
    go Blocks more = more (with_item s Blocks (length q.words)) ∙ omega arith

cells_named : (m : Meaning) (p : Program) (ts : List Tuple) → Every (TupleNamed m p) ts → all_cells ts ≡ length (cell_types_of p ts)
cells_named m p [] h = refl
cells_named m p (t ∷ ts) h = let more = cells_named m p ts h.1 in let here = h.0.count in simp length-append (omega arith)

pub cells_counted : (ns : List ℕ) → Sound ns → (surveyed nothing_seen (pieces ns)).cells ≡ length (cell_types (program_of ns))
cells_counted ns s = let all = surveyed_cells (pieces ns) nothing_seen in let named = cells_named _ (program_of ns) (program_of ns).tuples s.named.tuples in omega arith

pub few_cells : (ns : List ℕ) → Sound ns → length (cell_types (program_of ns)) ≤ 256
few_cells ns s = let named = cells_named _ (program_of ns) (program_of ns).tuples s.named.tuples in omega (arith, s.laid_out.tuples.1)

-- ---- the cells that a job fills

-- one for each integer among the types
pub filled_counted : (ts : List Ty) → length (filled_labels ts) ≡ count_by is_integer ts
filled_counted ts = is_count_by (λ ts. length (filled_labels ts)) is_integer refl first ts
  where
    first : (t : Ty) (ts : List Ty) → length (filled_labels (t ∷ ts)) ≡ cond (is_integer t) (1 + length (filled_labels ts)) (length (filled_labels ts))
    first Nonsense ts = refl
    first (Typed Integer label) ts = omega arith
    first (Typed (Pointer shape) label) ts = refl
    first (Typed (Code signature) label) ts = refl

pub filled_append : (ts us : List Ty) → length (filled_labels (ts ++ us)) ≡ length (filled_labels ts) + length (filled_labels us)
filled_append ts us = simp (filled_counted, sum_by-append)

-- the cells that a job fills, tuple by tuple
pub job_counted : (p : Program) → sum_by (λ t. count_by is_integer (shape_at p t.shape)) p.tuples ≡ length (job_labels p)
job_counted p = go p.tuples
  where
    go : (ts : List Tuple) → sum_by (λ t. count_by is_integer (shape_at p t.shape)) ts ≡ length (filled_labels (cell_types_of p ts))
    go [] = refl
    go (t ∷ ts) =
        sum_by-cons (λ t. count_by is_integer (shape_at p t.shape)) t ts
        ∙ ap (λ n. count_by is_integer (shape_at p t.shape) + n) (go ts)
        ∙ ap (λ n. n + length (filled_labels (cell_types_of p ts))) (sym (filled_counted (shape_at p t.shape)))
        ∙ sym (filled_append (shape_at p t.shape) (cell_types_of p ts))

-- from one cell on
pub filled_at : (ts : List Ty) (n : ℕ) → n < length ts → (b : Bool) → is_integer (get_or ts n Nonsense) ≡ b → length (filled_labels (drop n ts)) ≡ cond b (length (filled_labels (drop (n + 1) ts)) + 1) (length (filled_labels (drop (n + 1) ts)))
filled_at ts n h b e =
    ap (λ us. length (filled_labels us)) (drop_more ts n Nonsense h)
    ∙ grind (arith, filled_counted, sum_by-cons)
    ∙ ap (λ c. cond c (length (filled_labels (drop (n + 1) ts)) + 1) (length (filled_labels (drop (n + 1) ts)))) e

pub few_filled : (ns : List ℕ) → Sound ns → length (job_labels (program_of ns)) ≤ 256
few_filled ns s = omega (arith, filled_counted (cell_types (program_of ns)), count_by-le-length is_integer (cell_types (program_of ns)), few_cells ns s)

-- ---- where a tuple's cells begin

pub base_counted : (ts : List Tuple) (n : ℕ) → sum_by (λ t. length t.words) (take n ts) ≡ base_in ts n
base_counted [] zero = refl
base_counted [] (suc n) = refl
base_counted (t ∷ ts) zero = refl
base_counted (t ∷ ts) (suc n) = sum_by-cons (λ t. length t.words) t (take n ts) ∙ ap (λ k. length t.words + k) (base_counted ts n)

pub base_few : (ts : List Tuple) (n : ℕ) → base_in ts n ≤ all_cells ts
base_few [] n = omega arith
base_few (t ∷ ts) zero = omega arith
base_few (t ∷ ts) (suc n) = let more = base_few ts n in omega arith
