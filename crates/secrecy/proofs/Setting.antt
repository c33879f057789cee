-- What every lemma is about: a lawful kind, a programme that meets every rule, and a reader; and the states that its types describe.
use mathlib.Core.Path.{◌≡◌}
use mathlib.Core.List.{List}
use Prim.Native.Nat.{ℕ, ◌<◌}
use lib.ListN.{length, get_or}
use lib.Dec.{T}
use Rattle.labels.specs.Meaning.{Meaning, Lawful}
use Rattle.image.specs.declared.ty.Sort.{Sort}
use Rattle.image.specs.declared.ty.Sort.TheVariants.{Integer, Pointer, Code}
use Rattle.image.specs.declared.ty.Ty.{Ty}
use Rattle.image.specs.declared.ty.Ty.TheVariants.{Nonsense, Typed}
use Rattle.image.specs.declared.head.Context.{Context}
use Rattle.image.specs.declared.instruction.Instruction.{Instruction}
use Rattle.rules.specs.Program.{Types, Program, tuple_at, block_at, promise, cell_types}
use Rattle.rules.specs.Types.{label_of, after}
use Rattle.rules.specs.LaidOut.{IsLaidOut}
use Rattle.rules.specs.Named.{Named}
use Rattle.rules.specs.WellTyped.{WellTyped}
use Rattle.machine.specs.Machine.{State, Outcome, body, run}
use Rattle.secrecy.proofs.Lists.{Agree, Kept}

pub record Setting : Type 0 where
  pub meaning : Meaning
  pub lawful : Lawful meaning
  pub image : List ℕ
  pub program : Program
  pub laid_out : IsLaidOut image program
  pub named : Named meaning program
  pub well_typed : WellTyped meaning program
  pub reader : ℕ
  pub known : reader < meaning.count

-- ---- words and types

-- a word may stand where this type is
abbrev pub Holds : Program → Ty → ℕ → Type 0
Holds p Nonsense v = Unit {0}
Holds p (Typed Integer label) v = Unit {0}
Holds p (Typed (Pointer shape) label) v = (v < length p.tuples) × ((tuple_at p v).shape ≡ shape)
Holds p (Typed (Code signature) label) v = (v < length p.blocks) × ((block_at p v).signature ≡ signature)

-- a type whose label is a label
abbrev pub Labelled : Meaning → Ty → Type 0
Labelled m Nonsense = Unit {0}
Labelled m (Typed sort label) = label < m.count

-- ---- short names

module _ (w : Setting) where
  abbrev pub join : ℕ → ℕ → ℕ
  join a b = w.meaning.joined a b

  abbrev pub Label : ℕ → Type 0
  Label l = l < w.meaning.count

  -- what the signature of block n says, and its words
  abbrev pub context_at : ℕ → Context
  context_at n = (promise w.program n).context

  abbrev pub types_at : ℕ → Types
  types_at n = (promise w.program n).types

  abbrev pub words_at : ℕ → List Instruction
  words_at n = body w.program n

  -- the types of all cells
  abbrev pub cells_at : List Ty
  cells_at = cell_types w.program

  abbrev pub types_after : Context → Types → Instruction → Types
  types_after k g i = after w.meaning w.program k g i

  -- the run of these words on from a state
  abbrev pub runs_on : ℕ → ℕ → State → List Instruction → Outcome
  runs_on f room s is = run w.program f room is s

-- ---- states

module _ (w : Setting) where
  -- the reader may see what has this label
  abbrev pub Seen : ℕ → Type 0
  Seen l = T (w.meaning.below l w.reader)

  -- a place of this type has a word, and the reader may see it
  abbrev pub Low : Ty → Type 0
  Low Nonsense = ⊥
  Low (Typed s l) = Seen l

  -- the reader may see what a cell of this type holds
  abbrev pub Open : Ty → Type 0
  Open t = Seen (label_of t)

  pub low_open : (t : Ty) → Low t → Open t
  low_open Nonsense h = absurd h
  low_open (Typed s l) h = h

  -- a typed place whose label the reader sees is low
  pub low_at : {t : Ty} {s : Sort} {x : ℕ} → t ≡ Typed s x → Seen x → Low t
  low_at e h = rw e h

  -- a bank: as many words as types, each as its type asks, and every label a label
  pub record Bank (ts : List Ty) (vs : List ℕ) : Type 0 where
    pub count : length vs ≡ length ts
    pub holds : (r : ℕ) → Holds w.program (get_or ts r Nonsense) (get_or vs r 0)
    pub labels : (r : ℕ) → Labelled w.meaning (get_or ts r Nonsense)

  -- a state that the types describe
  pub record Described (g : Types) (s : State) : Type 0 where
    pub eight : length g.registers ≡ 8
    pub registers : Bank g.registers s.registers
    pub slots : Bank g.slots s.stack
    pub cells : Bank (cells_at w) s.cells

  -- two states of one type look the same
  pub record Same (g : Types) (s u : State) : Type 0 where
    pub registers : Agree Low g.registers s.registers u.registers
    pub slots : Agree Low g.slots s.stack u.stack
    pub cells : Agree Open (cells_at w) s.cells u.cells

  -- what the reader may see in the later state was there before
  pub record Stays (g : Types) (s : State) (g' : Types) (s' : State) : Type 0 where
    pub registers : Kept Low g.registers s.registers g'.registers s'.registers
    pub slots : Kept Low g.slots s.stack g'.slots s'.stack
    pub cells : Kept Open (cells_at w) s.cells (cells_at w) s'.cells
