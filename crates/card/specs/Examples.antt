-- The worked examples: what changes of the card image are refused for, and what runs of the card come to.
use Rattle.std.specs.Prelude.{◌≡◌, List, [], ◌∷◌, ℕ, length, set, replicate}
use Rattle.labels.specs.Stages.{stages}
use Rattle.rules.specs.LaidOut.{Every}
use Rattle.rules.specs.Verdict.{Pass, in_layout, in_naming, in_flow, refused, verdict}
use Rattle.machine.specs.declared.strike.Strike.{Strike}
use Rattle.machine.specs.declared.ran.End.{End}
use Rattle.machine.specs.declared.ran.End.TheVariants.{Halted, Spent, Full}
use Rattle.machine.specs.Box.{new_box, loaded, Order, Exit, ended, stops_box, ran}
use Rattle.card.specs.Card.{card}

-- an image with the pass, the number and the place of its refusal; or a run of the card, with what it gives back
pub data Example : Type 0 where
  refuses : List ℕ → Pass → ℕ → ℕ → Example
  runs : Order → Exit → Example

-- the run is one of a new box for stages that has loaded the card
abbrev pub Holds : Example → Type 0
Holds (refuses image pass number place) = verdict stages image ≡ refused pass number place
Holds (runs order exit) = ran (loaded stages card new_box) order ≡ exit

-- the job 7, 9, with this much fuel and so many records of strip
abbrev pub order : ℕ → ℕ → Order
order fuel room = record { job = 7 ∷ 9 ∷ []; fuel = fuel; strip = replicate room (record { channel = 255; word = 255 }); sheet = 255 ∷ 255 ∷ [] }

-- a run that ends so after so many steps, with these strikes, which take the whole strip; the cells are as they were laid
abbrev pub exit : End → ℕ → List Strike → Exit
exit end steps strikes = record {
  answer = ended (record { end = end; steps = steps; strikes = length strikes });
  box = record { image = card; stopped = stops_box end };
  strip = strikes;
  sheet = 7 ∷ 9 ∷ [];
}

abbrev pub public_strike : Strike
public_strike = record { channel = 0; word = 9 }

abbrev pub secret_strike : Strike
secret_strike = record { channel = 1; word = 7 }

abbrev pub examples : List Example
examples =
    refuses (set card 18 0x21000100) in_layout 2 18
    ∷ refuses (set card 17 0x05000000) in_layout 3 17
    ∷ refuses (set card 18 0x21080000) in_naming 4 18
    ∷ refuses (set card 3 0x11000010) in_naming 5 3
    ∷ refuses (set card 6 0x12000000) in_naming 6 17
    ∷ refuses (set card 15 0x00000001) in_naming 7 15
    ∷ refuses (set card 20 0x2B000200) in_flow 8 20
    ∷ refuses (set card 18 0x28000001) in_flow 9 18
    ∷ refuses (set card 22 0x2B000100) in_flow 10 22
    ∷ refuses (set card 23 0x31000000) in_flow 11 23
    ∷ refuses (set (set (set card 21 0x27000001) 22 0x22010000) 23 0x30010000) in_flow 12 23
    ∷ runs (order 6 2) (exit Halted 6 (public_strike ∷ secret_strike ∷ []))
    ∷ runs (order 5 2) (exit Spent 5 (public_strike ∷ secret_strike ∷ []))
    ∷ runs (order 6 1) (exit Full 4 (public_strike ∷ []))
    ∷ []

-- every worked example comes out as it says
abbrev pub ExamplesHold : Type 0
ExamplesHold = Every Holds examples
