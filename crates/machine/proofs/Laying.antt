-- Cells laid one by one, in the order of their tuples.
use Rattle.std.proofs.Common.{length-append, ◌≡◌, ℕ, suc, ◌+◌, ◌<◌, ◌≤◌, Bool, true, false, cond, List, [], ◌∷◌, ◌++◌, length, get_or, take, drop, set, sym, refl, ap, ◌∙◌, append_assoc, append-nil, add-zero, arith, length-set}
use Rattle.std.specs.List.{zip, flat_map}
use Rattle.std.proofs.lemmas.List.{drop_more, drop_all, drop-drop, get_or-drop, take_more_set, take-append-drop, drop-set-lt}
use Rattle.image.specs.declared.ty.Sort.TheVariants.{Integer, Pointer, Code}
use Rattle.image.specs.declared.ty.Ty.{Ty}
use Rattle.image.specs.declared.ty.Ty.TheVariants.{Nonsense, Typed}
use Rattle.rules.specs.Fit.{is_integer}
use Rattle.rules.specs.Free.{any_label}
use Rattle.rules.specs.LaidOut.{Every}
use Rattle.rules.specs.Named.{TupleNamed}
use Rattle.rules.specs.Program.{Tuple, Program, shape_at, cell_types_of}
use Rattle.machine.specs.Box.{written}
use Rattle.machine.specs.Cells.{filled_labels, image_words, laid}
use Rattle.machine.proofs.Counting.{filled_at}

laid_first : (t : Ty) (ts : List Ty) (ws job : List ℕ) → laid (t ∷ ts) ws job ≡ cond (is_integer t) (get_or job 0 0 ∷ laid ts (drop 1 ws) (drop 1 job)) (get_or ws 0 0 ∷ laid ts (drop 1 ws) job)
laid_first Nonsense ts ws job = refl
laid_first (Typed Integer label) ts ws job = refl
laid_first (Typed (Pointer shape) label) ts ws job = refl
laid_first (Typed (Code signature) label) ts ws job = refl

pub laid_length : (ts : List Ty) (ws job : List ℕ) → length (laid ts ws job) ≡ length ts
laid_length [] ws job = refl
laid_length (Nonsense ∷ ts) ws job = ap suc (laid_length ts (drop 1 ws) job)
laid_length (Typed Integer label ∷ ts) ws job = ap suc (laid_length ts (drop 1 ws) (drop 1 job))
laid_length (Typed (Pointer shape) label ∷ ts) ws job = ap suc (laid_length ts (drop 1 ws) job)
laid_length (Typed (Code signature) label ∷ ts) ws job = ap suc (laid_length ts (drop 1 ws) job)

-- ---- the cells of all tuples, each with its type and the image's word for it

zip_append : {A B : Type 0} (ks ms : List A) (vs ws : List B) → length vs ≡ length ks → zip (ks ++ ms) (vs ++ ws) ≡ zip ks vs ++ zip ms ws
zip_append [] ms [] ws e = refl
zip_append [] ms (v ∷ vs) ws e = absurd (omega arith)
zip_append (k ∷ ks) ms [] ws e = absurd (omega arith)
zip_append (k ∷ ks) ms (v ∷ vs) ws e = ap (λ xs. (k, v) ∷ xs) (zip_append ks ms vs ws (omega arith))

module _ (p : Program) where
  abbrev pub cells_in : Tuple → List (Ty × ℕ)
  cells_in t = zip (shape_at p t.shape) t.words

  pub in_order : (ts : List Tuple) → Every (TupleNamed any_label p) ts → flat_map cells_in ts ≡ zip (cell_types_of p ts) (image_words ts)
  in_order [] h = refl
  in_order (t ∷ ts) h = ap (λ xs. cells_in t ++ xs) (in_order ts h.1) ∙ sym (zip_append (shape_at p t.shape) (cell_types_of p ts) t.words (image_words ts) h.0.count)

  pub as_many : (ts : List Tuple) → Every (TupleNamed any_label p) ts → length (image_words ts) ≡ length (cell_types_of p ts)
  as_many [] h = refl
  as_many (t ∷ ts) h = let more = as_many ts h.1 in let here = h.0.count in simp length-append (omega arith)

-- ---- n of the cells are laid, and these words of the job are left

pub record Laying (ts : List Ty) (plain job first : List ℕ) (n : ℕ) (left sheet : List ℕ) : Type 0 where
  pub long : length sheet ≡ length first
  pub enough : length (filled_labels (drop n ts)) ≤ length left
  pub behind : drop n sheet ≡ drop n first
  pub comes : take n sheet ++ laid (drop n ts) (drop n plain) left ≡ laid ts plain job

module _ {ts : List Ty} {plain job first : List ℕ} {n : ℕ} {left sheet : List ℕ} (l : Laying ts plain job first n left sheet) (room : length ts ≤ length first) where
  -- what comes of the cell at n, where it is an integer's and where it is none
  abbrev opened_as : Bool → List ℕ
  opened_as b =
      cond b (get_or left 0 0 ∷ laid (drop (n + 1) ts) (drop 1 (drop n plain)) (drop 1 left))
      (get_or (drop n plain) 0 0 ∷ laid (drop (n + 1) ts) (drop 1 (drop n plain)) left)

  opened : n < length ts → (b : Bool) → is_integer (get_or ts n Nonsense) ≡ b → take n sheet ++ opened_as b ≡ laid ts plain job
  opened h b e =
      ap (λ c. take n sheet ++ opened_as c) (sym e)
      ∙ ap (λ xs. take n sheet ++ xs) (sym (laid_first (get_or ts n Nonsense) (drop (n + 1) ts) (drop n plain) left))
      ∙ ap (λ us. take n sheet ++ laid us (drop n plain) left) (sym (drop_more ts n Nonsense h))
      ∙ l.comes

  laid_on : n < length ts → (v : ℕ) (rest : List ℕ) → length (filled_labels (drop (n + 1) ts)) ≤ length rest → take n sheet ++ (v ∷ laid (drop (n + 1) ts) (drop 1 (drop n plain)) rest) ≡ laid ts plain job → Laying ts plain job first (n + 1) rest (set sheet n v)
  laid_on h v rest k e =
      let some : n < length sheet = omega (arith, l.long) in
      record {
        long = simp length-set l.long;
        enough = k;
        behind = drop-set-lt (n + 1) sheet n v (omega arith) ∙ sym (drop-drop 1 n sheet) ∙ ap (drop 1) l.behind ∙ drop-drop 1 n first;
        comes =
            ap (λ xs. xs ++ laid (drop (n + 1) ts) (drop (n + 1) plain) rest) (take_more_set sheet n v some)
            ∙ append_assoc (take n sheet) (v ∷ []) (laid (drop (n + 1) ts) (drop (n + 1) plain) rest)
            ∙ ap (λ ws. take n sheet ++ v ∷ laid (drop (n + 1) ts) ws rest) (sym (drop-drop 1 n plain))
            ∙ e;
      }

  -- the cell at n, by the place and the numbers that the code has for it
  pub lay_job : n < length ts → is_integer (get_or ts n Nonsense) ≡ true → (place after v : ℕ) (rest : List ℕ) → place ≡ n → after ≡ n + 1 → left ≡ v ∷ rest → Laying ts plain job first after rest (set sheet place v)
  lay_job h e place after v rest at on f =
      rw (at, on)
      (laid_on h v rest (omega (arith, filled_at ts n h true e, l.enough, ap length f))
      (ap (λ js. take n sheet ++ (get_or js 0 0 ∷ laid (drop (n + 1) ts) (drop 1 (drop n plain)) (drop 1 js))) (sym f) ∙ opened h true e))

  pub lay_plain : n < length ts → is_integer (get_or ts n Nonsense) ≡ false → (place after v : ℕ) → place ≡ n → after ≡ n + 1 → v ≡ get_or plain n 0 → Laying ts plain job first after left (set sheet place v)
  lay_plain h e place after v at on f =
      let front : v ≡ get_or (drop n plain) 0 0 = f ∙ sym (get_or-drop n plain 0 0 ∙ ap (λ k. get_or plain k 0) (add-zero n)) in
      rw (at, on)
      (laid_on h v left (omega (arith, filled_at ts n h false e, l.enough))
      (ap (λ v. take n sheet ++ (v ∷ laid (drop (n + 1) ts) (drop 1 (drop n plain)) left)) front ∙ opened h false e))

  -- an integer cell has a word of the job left for it
  pub some_left : n < length ts → is_integer (get_or ts n Nonsense) ≡ true → 0 < length left
  some_left h e = omega (arith, filled_at ts n h true e, l.enough)

  pub laid_all : n ≡ length ts → sheet ≡ written (laid ts plain job) first
  laid_all h =
      let none = drop_all n ts (omega arith) in
      let all : take n sheet ≡ laid ts plain job =
      sym (append-nil (take n sheet))
      ∙ ap (λ us. take n sheet ++ laid us (drop n plain) left) (sym none)
      ∙ l.comes in
      let size : n ≡ length (laid ts plain job) = h ∙ sym (laid_length ts plain job) in
      sym (take-append-drop n sheet) ∙ ap (λ xs. xs ++ drop n sheet) all ∙ ap (λ xs. laid ts plain job ++ xs) l.behind ∙ ap (λ k. laid ts plain job ++ drop k first) size
