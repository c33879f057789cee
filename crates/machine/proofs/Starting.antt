-- The start: block 0 begins with nothing but integers and nonsense, so registers of zero and an empty stack are what its types say.
use Rattle.std.proofs.Common.{ℕ, zero, suc, List, [], ◌∷◌, get_or, replicate, sym, refl, subst}
use Rattle.std.proofs.lemmas.List.{nil_from_length}
use Rattle.image.specs.declared.ty.Sort.TheVariants.{Integer, Pointer, Code}
use Rattle.image.specs.declared.ty.Ty.{Ty}
use Rattle.image.specs.declared.ty.Ty.TheVariants.{Nonsense, Typed}
use Rattle.rules.specs.LaidOut.{Every}
use Rattle.rules.specs.Named.{NoAddress}
use Rattle.rules.specs.Program.{Program, promise}
use Rattle.rules.specs.Says.{program_of}
use Rattle.machine.specs.Cells.{start}
use Rattle.machine.specs.Machine.{body}
use Rattle.machine.specs.Typed.{Holds, AllHold, CellsHold, Ready}
use Rattle.machine.proofs.Sound.{Sound}
use Rattle.machine.proofs.Keeping.{block_named, block_typed, eight_registers}

module _ {ns : List ℕ} (sound : Sound ns) where
  abbrev prog : Program
  prog = program_of ns

  plain : (t : Ty) (v : ℕ) → NoAddress t → Holds prog t v
  plain Nonsense v h = tt
  plain (Typed Integer l) v h = tt
  plain (Typed (Pointer s) l) v h = absurd h
  plain (Typed (Code s) l) v h = absurd h

  plain_all : (ts : List Ty) → Every NoAddress ts → (n v : ℕ) → Holds prog (get_or ts n Nonsense) v
  plain_all [] h n v = tt
  plain_all (t ∷ ts) h zero v = plain t v h.0
  plain_all (t ∷ ts) h (suc n) v = plain_all ts h.1 n v

  pub ready_start : (cells : List ℕ) → CellsHold prog cells → Ready prog (start cells) (body prog 0)
  ready_start cells h =
      let there = sound.laid_out.blocks.0 in
      let e = eight_registers sound 0 there in
      let b = sound.named.start in
      let none = nil_from_length (promise prog 0).types.slots b.depth in
      record {
        context = (promise prog 0).context;
        types = (promise prog 0).types;
        checked = block_typed sound 0 there;
        named = (block_named sound 0 there).body;
        typed = record {
          eight = e;
          registers = record { count = sym e; holds = λ n. plain_all (promise prog 0).types.registers b.registers n (get_or (replicate 8 0) n 0) };
          slots = subst (λ ts. AllHold prog ts []) (sym none) (record { count = refl; holds = λ n. tt });
          cells = h;
        };
      }
