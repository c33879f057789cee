-- What the model of a box and the promise do not leave open.
use Rattle.std.specs.Prelude.{◌≡◌, List, [], ◌∷◌, ◌≢◌, ℕ, ◌<◌, length}
use Rattle.labels.specs.Meaning.{Meaning, Lawful}
use Rattle.rules.specs.Verdict.{accepted, refused as refuses, in_flow, verdict}
use Rattle.machine.specs.declared.strike.Strike.{Strike}
use Rattle.machine.specs.declared.ran.End.TheVariants.{Halted}
use Rattle.machine.specs.Box.{Model, new_box, after_load, Order, ended, Exit, ran}
use Rattle.secrecy.specs.Promise.{loads, runs, Side, new_side, side_ran, strikes_of, Fair, GoThrough, sees, KeepsSecret}

-- the side of a new box that has let an image in, whatever the verdict
abbrev pub let_in : List ℕ → Side
let_in image = record { box = after_load accepted image new_box; struck = [] }

-- a kind and a reader, an image, and two orders that are fair to a box that has let it in
pub record Scene : Type 0 where
  pub meaning : Meaning
  pub lawful : Lawful meaning
  pub reader : ℕ
  pub known : reader < meaning.count
  pub image : List ℕ
  pub first : Order
  pub second : Order
  pub fair : Fair meaning reader (let_in image).box first second

-- what an order comes to there, and what the reader has seen after it
abbrev pub exit_of : Scene → Order → Exit
exit_of s o = ran (let_in s.image).box o

abbrev pub sight_of : Scene → Order → List Strike
sight_of s o = sees s.meaning s.reader (exit_of s o).box (side_ran o (let_in s.image)).struck

-- The promise is about something: in a history of a load and a run two secrets take a programme through different numbers of steps,
-- both runs halt, and the reader sees a strike.
pub record Lively : Type 0 where
  pub scene : Scene
  pub history :
      GoThrough scene.meaning scene.reader (loads scene.image ∷ runs scene.first scene.second ∷ []) new_side new_side
      (side_ran scene.first (let_in scene.image)) (side_ran scene.second (let_in scene.image))
  pub first_steps : ℕ
  pub second_steps : ℕ
  pub struck : Strike
  pub first_halts : (exit_of scene scene.first).answer ≡ ended (record { end = Halted; steps = first_steps; strikes = 1 })
  pub second_halts : (exit_of scene scene.second).answer ≡ ended (record { end = Halted; steps = second_steps; strikes = 1 })
  pub apart : first_steps ≢ second_steps
  pub first_sees : sight_of scene scene.first ≡ struck ∷ []
  pub second_sees : sight_of scene scene.second ≡ struck ∷ []

-- The promise wants the rules: there is an image that is refused because a label is not under another, and if it were let in, a fair
-- run would break the promise.
pub record Leaky : Type 0 where
  pub scene : Scene
  pub place : ℕ
  pub is_refused : verdict scene.meaning scene.image ≡ refuses in_flow 10 place
  pub broken :
      KeepsSecret scene.meaning scene.reader (side_ran scene.first (let_in scene.image))
      (side_ran scene.second (let_in scene.image)) → ⊥

-- What a run answers and leaves wants the strikes: no box that never strikes runs so.
abbrev pub SilenceBreaks : Type 0
SilenceBreaks =
    (silent : Model → Order → Exit) → ((b : Model) (o : Order) → strikes_of (silent b o) ≡ []) →
    ((b : Model) (o : Order) → silent b o ≡ ran b o) → ⊥

-- A run can write in place: strip and sheet stay as long as they were.
abbrev pub KeepsLengths : Type 0
KeepsLengths = (b : Model) (o : Order) → (length (ran b o).strip ≡ length o.strip) × (length (ran b o).sheet ≡ length o.sheet)
