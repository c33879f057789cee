-- What a reader may see. A reader is a label: cells and channels whose label is at or below it are seen, the others are not.
use Rattle.std.specs.Prelude.{◌≡◌, List, [], ◌∷◌, ◌++◌, Bool, true, false, ◌⊎◌, ℕ, ◌<◌, length, get_or, T}
use Rattle.labels.specs.Meaning.{Meaning, Lawful}
use Rattle.image.specs.declared.ty.Ty.TheVariants.{Nonsense}
use Rattle.rules.specs.Program.{Program, cell_types}
use Rattle.rules.specs.Types.{label_of}
use Rattle.rules.specs.Rules.{MeetsEveryRule}
use Rattle.machine.specs.declared.strike.Strike.{Strike}
use Rattle.machine.specs.declared.ran.End.TheVariants.{Halted}
use Rattle.machine.specs.Machine.{Outcome}
use Rattle.machine.specs.Cells.{job_labels}
use Rattle.machine.specs.Box.{Order, outcome}

-- one list is a beginning of another: none, some or all of its first records
abbrev pub Begins : List Strike → List Strike → Type 0
Begins xs ys = (more : List Strike) × (xs ++ more ≡ ys)

-- one of the two is a beginning of the other
abbrev pub EitherBegins : List Strike → List Strike → Type 0
EitherBegins xs ys = Begins xs ys ⊎ Begins ys xs

-- a strike in front of others, where it is seen
abbrev pub if_seen : Bool → Strike → List Strike → List Strike
if_seen true x xs = x ∷ xs
if_seen false x xs = xs

module _ (m : Meaning) (p : Program) (reader : ℕ) where
  -- the strikes on channels that the reader may see, in their order
  abbrev pub seen : List Strike → List Strike
  seen [] = []
  seen (x ∷ xs) = if_seen (m.below (get_or p.channels x.channel 0) reader) x (seen xs)

  -- two jobs agree in each word whose cell the reader may see; a word that has no cell may differ
  abbrev pub SameJobs : List ℕ → List ℕ → Type 0
  SameJobs xs ys = (i : ℕ) → i < length (job_labels p) → T (m.below (get_or (job_labels p) i 0) reader) → get_or xs i 0 ≡ get_or ys i 0

  -- the cells, with which these lists begin, agree where the reader may see them
  abbrev pub SameCells : List ℕ → List ℕ → Type 0
  SameCells xs ys = (i : ℕ) → i < length (cell_types p) → T (m.below (label_of (get_or (cell_types p) i Nonsense)) reader) → get_or xs i 0 ≡ get_or ys i 0

  -- what the reader can tell of two runs of one programme: of the strikes that are seen, one run's are a beginning of the other's; those
  -- of a run that halted are never the shorter ones; and where both halted, strikes and cells are equal
  pub record Alike (x y : Outcome) : Type 0 where
    pub order : EitherBegins (seen x.strikes) (seen y.strikes)
    pub first_halted : x.end ≡ Halted → Begins (seen y.strikes) (seen x.strikes)
    pub second_halted : y.end ≡ Halted → Begins (seen x.strikes) (seen y.strikes)
    pub both_halted : x.end ≡ Halted → y.end ≡ Halted → (seen x.strikes ≡ seen y.strikes) × SameCells x.cells y.cells

-- Two runs of a programme that meets every rule, with jobs that differ only in what the reader may not see, are alike to the reader,
-- whatever fuel and room each has.
abbrev pub Confidential : Type 0
Confidential =
    (m : Meaning) → Lawful m → (image : List ℕ) (rules : MeetsEveryRule m image) (reader : ℕ) → reader < m.count → (x y : Order) →
    SameJobs m rules.programme reader x.job y.job →
    Alike m rules.programme reader (outcome rules.programme x) (outcome rules.programme y)
