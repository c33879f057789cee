-- Two boxes go through the same calls: what each call leaves between them, and so the promise.
use mathlib.Core.Path.{◌≡◌, refl, sym, subst}
use mathlib.Core.List.{List, [], ◌∷◌}
use mathlib.Core.Logic.{inl}
use mathlib.Core.Bool.{Bool, false}
use Prim.Native.Nat.{ℕ, ◌<◌}
use native.Mathlib.Omega.{arith}
use Rattle.labels.specs.Meaning.{Meaning, Lawful}
use Rattle.rules.specs.Program.{Program}
use Rattle.rules.specs.Says.{program_of}
use Rattle.rules.specs.LaidOut.{IsLaidOut}
use Rattle.rules.specs.Named.{Named}
use Rattle.rules.specs.WellTyped.{WellTyped}
use Rattle.rules.specs.Verdict.{Verdict, accepted, refused as refuses, verdict}
use Rattle.rules.specs.Promises.{VerdictDecides, OneProgramme}
use Rattle.machine.specs.declared.strike.Strike.{Strike}
use Rattle.machine.specs.Box.{Model, after_load, Order, Exit, no_words, ran}
use Rattle.secrecy.specs.Seen.{seen, SameCells}
use Rattle.secrecy.specs.Promise.{Call, Side, new_side, struck_after, strikes_of, side_ran, Halts, program_in, Fair, GoThrough, no_call, a_load, a_run, StrikesInStep, HaltsAlike, Promise}
use Rattle.secrecy.proofs.Setting.{Setting}
use Rattle.secrecy.proofs.Lengths.{ran_image}
use Rattle.secrecy.proofs.Pace.{Pace, pace_order, After, pace_ran}
use Rattle.secrecy.proofs.Pace.Pace.{together, first_stopped, second_stopped, both_stopped}

-- ---- what is asked of the verdict

-- an image that is accepted spells a programme that meets every rule
pub record Spells (m : Meaning) (image : List ℕ) : Type 0 where
  pub laid_out : IsLaidOut image (program_of image)
  pub named : Named m (program_of image)
  pub well_typed : WellTyped m (program_of image)

abbrev pub VerdictSound : Type 0
VerdictSound = (m : Meaning) → Lawful m → (image : List ℕ) → verdict m image ≡ accepted → Spells m image

pub judged_soundly : VerdictDecides → OneProgramme → VerdictSound
judged_soundly decides once m law image e =
    let rules = (decides m law image).0 e in
    let same : rules.programme ≡ program_of image = sym (once image rules.programme rules.laid_out) in
    let (l, n, t) = subst (λ p. IsLaidOut image p × Named m p × WellTyped m p) same (rules.laid_out, rules.named, rules.well_typed) in
    record { laid_out = l; named = n; well_typed = t }

module _ (m : Meaning) (law : Lawful m) (reader : ℕ) (known : reader < m.count) where
  abbrev setting : (image : List ℕ) → Spells m image → Setting
  setting image h = record {
    meaning = m;
    lawful = law;
    image = image;
    program = program_of image;
    laid_out = h.laid_out;
    named = h.named;
    well_typed = h.well_typed;
    reader = reader;
    known = known;
  }

  -- an accepted image, which is never empty
  record Accepted (image : List ℕ) : Type 0 where
    spells : Spells m image
    some : no_words image ≡ false

  abbrev KeepsPace : {image : List ℕ} → Accepted image → Model → List Strike → Model → List Strike → Type 0
  KeepsPace {image} h b s c t = Pace (setting image h.spells) b s c t

  -- two sides that have gone through the same calls: both are new, or both hold one accepted image and keep pace
  data Kin : Side → Side → Type 0 where
    both_new : Kin new_side new_side
    holding :
        {image : List ℕ} {z v : Bool} {s t : List Strike} (h : Accepted image) →
        KeepsPace h (record { image = image; stopped = z }) s (record { image = image; stopped = v }) t →
        Kin (record { box = record { image = image; stopped = z }; struck = s }) (record { box = record { image = image; stopped = v }; struck = t })

  kin_of :
      {image : List ℕ} {b c : Model} {s t : List Strike} (h : Accepted image) → KeepsPace h b s c t →
      Kin (record { box = b; struck = s }) (record { box = c; struck = t })
  kin_of h (together e) = holding h (together e)
  kin_of h (first_stopped k) = holding h (first_stopped k)
  kin_of h (second_stopped k) = holding h (second_stopped k)
  kin_of h (both_stopped k) = holding h (both_stopped k)

  kin_strikes : {x y : Side} → Kin x y → StrikesInStep m reader x y
  kin_strikes both_new = inl ([], refl)
  kin_strikes (holding {image = image} h k) = pace_order (setting image h.spells) k

  -- ---- a load

  kin_loaded :
      {x y : Side} (image : List ℕ) (v : Verdict) → (v ≡ accepted → Accepted image) → Kin x y →
      Kin (record { box = after_load v image x.box; struck = struck_after v x.struck })
      (record { box = after_load v image y.box; struck = struck_after v y.struck })
  kin_loaded image accepted h k = holding (h refl) (together refl)
  kin_loaded image (refuses pass number place) h k = k

  -- ---- a run

  -- what a run on both leaves
  record RanBoth (x y : Side) (a b : Order) : Type 0 where
    alike : HaltsAlike m reader (ran x.box a) (ran y.box b)
    kin : Kin (side_ran a x) (side_ran b y)

  -- (b), with the programmes whose labels count
  abbrev HaltsAs : Program → Program → Exit → Exit → Type 0
  HaltsAs p q e f =
      Halts e.answer → Halts f.answer →
      (seen m p reader (strikes_of e) ≡ seen m q reader (strikes_of f)) × SameCells m p reader e.sheet f.sheet

  kin_ran : {x y : Side} → Kin x y → (a b : Order) → Fair m reader x.box a b → RanBoth x y a b
  kin_ran both_new a b fair = record { alike = λ q. absurd q; kin = both_new }
  kin_ran (holding {image = image} {z = z} {v = v} {s = s} {t = t} h k) a b fair = record {
    alike =
        subst (λ i. HaltsAs (program_of i) (program_in f.box) e f) (sym (ran_image p bx a))
        (subst (λ i. HaltsAs p (program_of i) e f) (sym (ran_image p by b)) after.alike);
    kin = kin_of h after.pace;
  }
    where
      p : Program
      p = program_of image

      bx : Model
      bx = record { image = image; stopped = z }

      by : Model
      by = record { image = image; stopped = v }

      e : Exit
      e = ran bx a

      f : Exit
      f = ran by b

      after : After (setting image h.spells) s t e f
      after = pace_ran (setting image h.spells) h.some k a b fair.jobs fair.sheets fair.words

  -- ---- a list of calls

  module _ (judged : VerdictSound) where
    is_accepted : (image : List ℕ) → verdict m image ≡ accepted → Accepted image
    is_accepted image e = record { spells = judged m law image e; some = by_words image e }
      where
        by_words : (image : List ℕ) → verdict m image ≡ accepted → no_words image ≡ false
        by_words [] e = let z : ◌≡◌ {A = ℕ} 0 1 = cc in absurd (omega arith)
        by_words (n ∷ ns) e = refl

    kin_through : {calls : List Call} {x y x' y' : Side} → GoThrough m reader calls x y x' y' → Kin x y → Kin x' y'
    kin_through no_call k = k
    kin_through (a_load {image = image} g) k = kin_through g (kin_loaded image (verdict m image) (is_accepted image) k)
    kin_through (a_run {a = a} {b = b} fair g) k = kin_through g (kin_ran k a b fair).kin

pub promise : VerdictSound → Promise
promise judged m law reader known calls x y g =
    let k = kin_through m law reader known judged g both_new in
    record { strikes = kin_strikes m law reader known k; next_run = λ a b fair. (kin_ran m law reader known k a b fair).alike }
