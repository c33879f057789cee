-- Fetch and store: a pointer in a register leads to a cell, whose type is that of the pointer's shape.
use mathlib.Core.Path.{◌≡◌, refl, ap, ◌∙◌}
use mathlib.Core.List.{List}
use Prim.Native.Nat.{ℕ, ◌<◌}
use lib.ListN.{length, get_or, set}
use lib.Dec.{T}
use Rattle.image.specs.declared.ty.Sort.{Sort}
use Rattle.image.specs.declared.ty.Sort.TheVariants.{Pointer}
use Rattle.image.specs.declared.ty.Ty.{Ty}
use Rattle.image.specs.declared.ty.Ty.TheVariants.{Nonsense, Typed}
use Rattle.image.specs.declared.head.Context.{Context}
use Rattle.image.specs.declared.instruction.Instruction.TheVariants.{Fetch, Store}
use Rattle.rules.specs.Program.{Types, shape_at}
use Rattle.rules.specs.Types.{level, reg, over}
use Rattle.machine.specs.Machine.{State, reg_of, with_cells, cell_place}
use Rattle.secrecy.proofs.Lists.{Agree, agree_store, Kept, kept_both, kept_all, kept_store}
use Rattle.secrecy.proofs.Setting.{Setting, Holds, Labelled, join, Label, cells_at, Seen, Open, low_open, low_at, Described, Same}
use Rattle.secrecy.proofs.Labels.{seen_down, seen_left, seen_right, labelled_over, low_over, seen_over, holds_relabelled, holds_over}
use Rattle.secrecy.proofs.Memory.{cell_type}
use Rattle.secrecy.proofs.Banks.{bank_store}
use Rattle.secrecy.proofs.Outcomes.{decide}
use Rattle.secrecy.proofs.Calm.{Calm, Write, by_register}

module _ (w : Setting) (k : Context) (g : Types) (lk : Label w (level k)) where
  -- a pointer of shape s in register b, and place c of what it points to
  module _ (b s x c : ℕ) (e : reg g b ≡ Typed (Pointer s) x) (j : c < length (shape_at w.program s)) where
    -- which cell it leads to, what that cell's type is, and the label of the context and the pointer
    abbrev spot_of : State → ℕ
    spot_of st = cell_place w.program (reg_of st b) c

    abbrev cell_ty : Ty
    cell_ty = get_or (shape_at w.program s) c Nonsense

    abbrev way : ℕ
    way = join w (level k) x

    spot_type : (st : State) → Described w g st → get_or (cells_at w) (spot_of st) Nonsense ≡ cell_ty
    spot_type st h =
        let at : Holds w.program (Typed (Pointer s) x) (reg_of st b) = rw e at (h.registers.holds b) in
        cell_type w (reg_of st b) s c at.0 at.1 j

    in_pointer : (st : State) → Described w g st → Label w x
    in_pointer st h = rw e at (h.registers.labels b)

    in_join : (st : State) → Described w g st → Label w way
    in_join st h = w.lawful.join_label (level k) x lk (in_pointer st h)

    same_spot : (st u : State) → Described w g st → Same w g st u → Seen w way → spot_of st ≡ spot_of u
    same_spot st u h q l = ap (λ r. cell_place w.program r c) (q.registers.same b (low_at w e (seen_right w (level k) x lk (in_pointer st h) l)))

    above_join : (st : State) → Described w g st → Seen w way → Seen w (level k)
    above_join st h l = seen_left w (level k) x lk (in_pointer st h) l

    fetched : Write w k g (over w.meaning way cell_ty) (λ st. get_or st.cells (spot_of st) 0)
    fetched = record {
      labelled = λ st h. labelled_over w way cell_ty (in_join st h) (in_type st h);
      holds = λ st h. holds_over w way cell_ty (get_or st.cells (spot_of st) 0) (rw (spot_type st h) at (h.cells.holds (spot_of st)));
      same = λ st u h i q l.
          let op : Open w cell_ty = low_open w cell_ty (low_over w way cell_ty (in_join st h) (in_type st h) l) in
          q.cells.same (spot_of st) (rw (spot_type st h) op) ∙ ap (λ n. get_or u.cells n 0) (same_spot st u h q (seen_over w way cell_ty (in_join st h) (in_type st h) l));
      above = λ st h l. above_join st h (seen_over w way cell_ty (in_join st h) (in_type st h) l);
    }
      where
        in_type : (st : State) → Described w g st → Labelled w.meaning cell_ty
        in_type st h = rw (spot_type st h) at (h.cells.labels (spot_of st))

    pub by_fetch : (a : ℕ) → Calm w k g (Fetch a b c)
    by_fetch a = by_register w a fetched (λ st is. refl) refl (rw e)

    -- the word of register d, stored there: the cell's label z is at or above that of the context, the pointer and the word
    module _ (d y z : ℕ) (o : Sort) (ed : reg g d ≡ Typed o y) (ez : cell_ty ≡ Typed o z) (le : T (w.meaning.below (join w way y) z)) where
      abbrev stored : State → List ℕ
      stored st = set st.cells (spot_of st) (reg_of st d)

      in_word : (st : State) → Described w g st → Label w y
      in_word st h = rw ed at (h.registers.labels d)

      seen_way : (st : State) → Described w g st → Seen w z → Seen w way
      seen_way st h l = seen_left w way y (in_join st h) (in_word st h) (seen_down w (join w way y) z le l)

      seen_word : (st : State) → Described w g st → Seen w z → Seen w y
      seen_word st h l = seen_right w way y (in_join st h) (in_word st h) (seen_down w (join w way y) z le l)

      -- where the reader does not see the cell, what it sees stays
      kept_stored : (st : State) → Described w g st → (Seen w z → ⊥) → Kept (Open w) (cells_at w) st.cells (cells_at w) (stored st)
      kept_stored st h n = kept_store (cells_at w) st.cells (spot_of st) (reg_of st d) h.cells.count (λ l. n (rw (spot_type st h, ez) at l))

      agree_stored :
          (st u : State) → Described w g st → Described w g u → Same w g st u → Dec (Seen w z) → Agree (Open w) (cells_at w) (stored st) (stored u)
      agree_stored st u h i q (yes l) =
          let place : spot_of st ≡ spot_of u = same_spot st u h q (seen_way st h l) in
          let word : reg_of st d ≡ reg_of u d = q.registers.same d (low_at w ed (seen_word st h l)) in
          rw place (agree_store q.cells (spot_of u) (reg_of st d) (reg_of u d) h.cells.count i.cells.count (λ m. word))
      agree_stored st u h i q (no n) = kept_both q.cells (kept_stored st h n) (kept_stored u i n)

      pub by_store : Calm w k g (Store b d c)
      by_store = record {
        to = λ st. with_cells st (stored st);
        step = λ st is. refl;
        stays_in = refl;
        described = λ st h. record {
          eight = h.eight;
          registers = h.registers;
          slots = h.slots;
          cells = bank_store w h.cells (spot_of st) (reg_of st d) (rw (spot_type st h, ez) (holds_relabelled w o y z (reg_of st d) (rw ed at (h.registers.holds d))));
        };
        same = λ st u h i q. record { registers = q.registers; slots = q.slots; cells = agree_stored st u h i q (decide _) };
        hidden = λ n st h. record {
          registers = kept_all g.registers st.registers;
          slots = kept_all g.slots st.stack;
          cells = kept_stored st h (λ l. n (above_join st h (seen_way st h l)));
        };
      }
