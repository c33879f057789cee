-- Two runs begin together: the first block's signature describes both, and they look the same.
use mathlib.Core.Path.{◌≡◌, refl, sym}
use mathlib.Core.List.{List}
use Prim.Native.Nat.{ℕ, suc, ◌≤◌}
use native.Mathlib.Omega.{arith}
use lib.ListN.{length, get_or, replicate, get_or-eq_default}
use Rattle.image.specs.declared.ty.Ty.TheVariants.{Nonsense}
use Rattle.rules.specs.Types.{slot}
use Rattle.machine.specs.Cells.{cells_for, start}
use Rattle.machine.specs.Box.{Order, outcome}
use Rattle.secrecy.specs.Seen.{SameJobs, Confidential}
use Rattle.secrecy.proofs.Setting.{Setting, context_at, types_at, words_at, Described}
use Rattle.secrecy.proofs.Sound.{signature_sound, start_there, start_holds}
use Rattle.secrecy.proofs.Outcomes.{Agreed}
use Rattle.secrecy.proofs.Cells.{cells_bank, cells_agree}
use Rattle.secrecy.proofs.Blocks.{block_walk}
use Rattle.secrecy.proofs.Blocks.Within.{here}
use Rattle.secrecy.proofs.Pairs.{Pair, paired}

module _ (w : Setting) where
  start_described : (job : List ℕ) → Described w (types_at w 0) (start (cells_for w.program job))
  start_described job =
      let s = signature_sound w 0 (start_there w) in
      record {
        eight = s.eight;
        registers = record { count = sym s.eight; holds = λ r. start_holds w r (get_or (replicate 8 0) r 0); labels = s.registers };
        slots = record { count = sym w.named.start.depth; holds = λ n. rw (no_slots n) tt; labels = s.slots };
        cells = cells_bank w job;
      }
    where
      no_slots : (n : ℕ) → slot (types_at w 0) n ≡ Nonsense
      no_slots n = let past : length (types_at w 0).slots ≤ n = omega (arith, w.named.start.depth) in get_or-eq_default (types_at w 0).slots Nonsense past

  start_pair :
      (xs ys : List ℕ) → SameJobs w.meaning w.program w.reader xs ys →
      Pair w (context_at w 0) (types_at w 0) (start (cells_for w.program xs)) (start (cells_for w.program ys))
  start_pair xs ys h = record {
    seen = rw w.named.start.context (w.lawful.bottom w.reader w.known);
    inside = rw w.named.start.context here;
    first = start_described xs;
    second = start_described ys;
    same = record { registers = record { same = λ r q. refl }; slots = record { same = λ n q. refl }; cells = cells_agree w xs ys h };
  }

  pub runs_alike : (x y : Order) → SameJobs w.meaning w.program w.reader x.job y.job → Agreed w (outcome w.program x) (outcome w.program y)
  runs_alike x y h =
      paired w (suc x.fuel) x.fuel y.fuel (length x.strip) (length y.strip) (omega arith) (context_at w 0) (types_at w 0) (words_at w 0)
      (start (cells_for w.program x.job)) (start (cells_for w.program y.job)) (start_pair x.job y.job h) (block_walk w 0 (start_there w))

pub confidential : Confidential
confidential m law image rules reader known x y h =
    let w : Setting = record {
      meaning = m;
      lawful = law;
      image = image;
      program = rules.programme;
      laid_out = rules.laid_out;
      named = rules.named;
      well_typed = rules.well_typed;
      reader = reader;
      known = known;
    } in
    runs_alike w x y h
