-- The promise: whatever calls two new boxes go through, what a reader can tell of the two after each of them.
use Rattle.std.specs.Prelude.{◌≡◌, List, [], ◌∷◌, ◌++◌, ℕ, ◌<◌, length, take}
use Rattle.labels.specs.Meaning.{Meaning, Lawful}
use Rattle.rules.specs.Program.{Program}
use Rattle.rules.specs.Says.{program_of}
use Rattle.rules.specs.Verdict.{Verdict, accepted, refused as refuses, verdict}
use Rattle.machine.specs.declared.strike.Strike.{Strike}
use Rattle.machine.specs.declared.ran.End.TheVariants.{Halted}
use Rattle.machine.specs.Box.{Model, new_box, loaded, Order, Answer, refused, ended, Exit, ran}
use Rattle.secrecy.specs.Seen.{EitherBegins, seen, SameJobs, SameCells}

-- a call on both boxes: a load with one image, or a run with an order for each
pub data Call : Type 0 where
  loads : List ℕ → Call
  runs : Order → Order → Call

-- ---- one side

-- a box, and its strikes since the latest accepted load
pub record Side : Type 0 where
  pub box : Model
  pub struck : List Strike

abbrev pub new_side : Side
new_side = record { box = new_box; struck = [] }

-- an accepted load begins the list anew, a refused one leaves it
abbrev pub struck_after : Verdict → List Strike → List Strike
struck_after accepted xs = []
struck_after (refuses pass number place) xs = xs

abbrev pub side_loaded : Meaning → List ℕ → Side → Side
side_loaded m image s = record { box = loaded m image s.box; struck = struck_after (verdict m image) s.struck }

-- a run's strikes: the first records of its strip, as many as it answers; a refused run has none
abbrev pub first_records : Answer → List Strike → List Strike
first_records (refused number) strip = []
first_records (ended r) strip = take r.strikes strip

abbrev pub strikes_of : Exit → List Strike
strikes_of e = first_records e.answer e.strip

abbrev pub side_ran : Order → Side → Side
side_ran o s = record { box = (ran s.box o).box; struck = s.struck ++ strikes_of (ran s.box o) }

abbrev pub Halts : Answer → Type 0
Halts (refused number) = ⊥
Halts (ended r) = r.end ≡ Halted

-- the programme of the latest accepted image, whose labels count; an empty box has one with no cells and no channels
abbrev pub program_in : Model → Program
program_in b = program_of b.image

-- ---- both sides, at a label kind and a reader

module _ (m : Meaning) (reader : ℕ) where
  -- Two orders by which the reader may learn nothing: jobs of one length that agree in the words for cells that the reader may see, and
  -- sheets of one length. Fuels, strips and what the sheets hold are free.
  pub record Fair (b : Model) (x y : Order) : Type 0 where
    pub jobs : length x.job ≡ length y.job
    pub sheets : length x.sheet ≡ length y.sheet
    pub words : SameJobs m (program_in b) reader x.job y.job

  -- Two sides go through these calls and come to two others. Refused calls are calls too. Both boxes hold one image, since a load
  -- goes to both, so the first one's labels are the second one's.
  pub data GoThrough : List Call → Side → Side → Side → Side → Type 0 where
    no_call : {x y : Side} → GoThrough [] x y x y
    a_load :
        {image : List ℕ} {calls : List Call} {x y x' y' : Side} → GoThrough calls (side_loaded m image x) (side_loaded m image y) x' y' →
        GoThrough (loads image ∷ calls) x y x' y'
    a_run :
        {a b : Order} {calls : List Call} {x y x' y' : Side} → Fair x.box a b → GoThrough calls (side_ran a x) (side_ran b y) x' y' →
        GoThrough (runs a b ∷ calls) x y x' y'

  -- those of a box's strikes that the reader may see
  abbrev pub sees : Model → List Strike → List Strike
  sees b xs = seen m (program_in b) reader xs

  -- (a) of the strikes since the latest accepted load that the reader may see, one side's are a beginning of the other's
  abbrev pub StrikesInStep : Side → Side → Type 0
  StrikesInStep x y = EitherBegins (sees x.box x.struck) (sees y.box y.struck)

  -- (b) where both runs halted, the strikes that the reader may see are equal, and so are the cells, with which the sheets begin
  abbrev pub HaltsAlike : Exit → Exit → Type 0
  HaltsAlike e f =
      Halts e.answer → Halts f.answer →
      (sees e.box (strikes_of e) ≡ sees f.box (strikes_of f)) × SameCells m (program_in e.box) reader e.sheet f.sheet

  -- (a) of two sides, and (b) of any run that comes next
  pub record KeepsSecret (x y : Side) : Type 0 where
    pub strikes : StrikesInStep x y
    pub next_run : (a b : Order) → Fair x.box a b → HaltsAlike (ran x.box a) (ran y.box b)

-- A kind keeps the promise: whatever calls two new boxes of it go through, both hold after each. Every beginning of a list of calls is
-- a list of calls, so this speaks of the time after each call.
abbrev pub KeepsPromise : Meaning → Type 0
KeepsPromise m =
    (reader : ℕ) → reader < m.count → (calls : List Call) (x y : Side) → GoThrough m reader calls new_side new_side x y → KeepsSecret m reader x y

abbrev pub Promise : Type 0
Promise = (m : Meaning) → Lawful m → KeepsPromise m
