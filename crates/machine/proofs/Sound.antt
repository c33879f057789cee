-- An image that may be run writes down a programme that is laid out, named and well typed, whatever labels mean.
use Rattle.std.proofs.Common.{◌≡◌, ℕ, ◌<◌, true, List, length, sym, subst}
use Rattle.rules.specs.Says.{program_of}
use Rattle.rules.specs.LaidOut.{IsLaidOut}
use Rattle.rules.specs.Named.{Named}
use Rattle.rules.specs.WellTyped.{WellTyped}
use Rattle.rules.specs.Free.{any_label, kind_free}
use Rattle.rules.proofs.Decides.{verdict_decides, one_programme}
use Rattle.rules.proofs.KindFree.{kind_free_tested}

pub record Sound (ns : List ℕ) : Type 0 where
  pub laid_out : IsLaidOut ns (program_of ns)
  pub named : Named any_label (program_of ns)
  pub well_typed : WellTyped any_label (program_of ns)

pub sound : (ns : List ℕ) → kind_free ns ≡ true → Sound ns
sound ns e =
    let r = (verdict_decides any_label ns).0 ((kind_free_tested ns).0 e) in
    let same = sym (one_programme ns r.programme r.laid_out) in
    record { laid_out = subst (IsLaidOut ns) same r.laid_out; named = subst (Named any_label) same r.named; well_typed = subst (WellTyped any_label) same r.well_typed }

-- there is a block to start at
pub some_block : (ns : List ℕ) → kind_free ns ≡ true → 0 < length (program_of ns).blocks
some_block ns e = (sound ns e).laid_out.blocks.0
