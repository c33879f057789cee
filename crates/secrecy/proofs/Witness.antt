-- The checks on the model and the promise: a scene on a programme in which a secret decides a branch, and one on a programme that leaks.
use mathlib.Core.Path.{◌≡◌, refl, sym, ap, ◌∙◌}
use mathlib.Core.List.{List, [], ◌∷◌}
use mathlib.Core.Logic.{inl, inr}
use Prim.Native.Nat.{ℕ, zero, suc, ◌<◌}
use native.Mathlib.Omega.{arith}
use lib.ListN.{length, get_or}
use lib.Dec.{T}
use Rattle.labels.specs.Stages.{stages}
use Rattle.machine.specs.declared.strike.Strike.{Strike}
use Rattle.machine.specs.Box.{Model, Order}
use Rattle.secrecy.specs.Seen.{EitherBegins}
use Rattle.secrecy.specs.Promise.{strikes_of, Fair, no_call, a_load, a_run}
use Rattle.secrecy.specs.Checks.{let_in, Scene, Lively, Leaky, SilenceBreaks}
use Rattle.secrecy.proofs.Kind.{stages_lawful}

-- A secret decides a branch inside a region raised to label 1; behind it a word that does not depend on the secret is struck.
abbrev secret_branch : List ℕ
secret_branch =
    -- channel 0, which everybody sees; shape 0 has one secret cell
    0x01000000
    ∷ 0x02000001 ∷ 0x11000001
    -- signature 0 has an empty context, signature 1 is raised to label 1 until block 2
    ∷ 0x03000000 ∷ 0x10000000 ∷ 0x10000000 ∷ 0x10000000 ∷ 0x10000000 ∷ 0x10000000 ∷ 0x10000000 ∷ 0x10000000 ∷ 0x10000000
    ∷ 0x03010280 ∷ 0x10000000 ∷ 0x10000000 ∷ 0x10000000 ∷ 0x10000000 ∷ 0x10000000 ∷ 0x10000000 ∷ 0x10000000 ∷ 0x10000000
    -- tuple 0
    ∷ 0x04000100 ∷ 0x00000000
    -- block 0: raise, fetch the secret, go to block 1 if it is not 0, lower to block 2
    ∷ 0x05000006 ∷ 0x2D010002 ∷ 0x21000000 ∷ 0x25010000 ∷ 0x22020001 ∷ 0x2C010200 ∷ 0x31000002
    -- block 1: write a register, lower to block 2
    ∷ 0x05000102 ∷ 0x20030007 ∷ 0x31000002
    -- block 2: strike 42 on channel 0, halt
    ∷ 0x05000003 ∷ 0x2000002A ∷ 0x2B000000 ∷ 0x32000000
    ∷ []

-- A programme that strikes its secret on a channel that everybody sees: block 0 fetches the secret and strikes it.
abbrev leak : List ℕ
leak =
    0x01000000
    ∷ 0x02000001 ∷ 0x11000001
    ∷ 0x03000000 ∷ 0x10000000 ∷ 0x10000000 ∷ 0x10000000 ∷ 0x10000000 ∷ 0x10000000 ∷ 0x10000000 ∷ 0x10000000 ∷ 0x10000000
    ∷ 0x04000100 ∷ 0x00000000
    ∷ 0x05000004 ∷ 0x21010000 ∷ 0x25020100 ∷ 0x2B000200 ∷ 0x32000000
    ∷ []

-- one secret job word, plenty of fuel, a strip of two records and a sheet of two words
abbrev order : ℕ → Order
order secret = record { job = secret ∷ []; fuel = 20; strip = record { channel = 9; word = 9 } ∷ record { channel = 9; word = 9 } ∷ []; sheet = 3 ∷ 4 ∷ [] }

secret_word : (x y i : ℕ) → i < 1 → T (stages.below (get_or (1 ∷ []) i 0) 0) → get_or (x ∷ []) i 0 ≡ get_or (y ∷ []) i 0
secret_word x y zero h q = absurd q
secret_word x y (suc i) h q = refl

-- the secrets 0 and 6, before a reader of label 0
abbrev scene : (image : List ℕ) → Fair stages 0 (let_in image).box (order 0) (order 6) → Scene
scene image fair = record { meaning = stages; lawful = stages_lawful; reader = 0; known = omega arith; image = image; first = order 0; second = order 6; fair = fair }

fair_branch : Fair stages 0 (let_in secret_branch).box (order 0) (order 6)
fair_branch = record { jobs = refl; sheets = refl; words = secret_word 0 6 }

fair_leak : Fair stages 0 (let_in leak).box (order 0) (order 6)
fair_leak = record { jobs = refl; sheets = refl; words = secret_word 0 6 }

pub lively : Lively
lively = record {
  scene = scene secret_branch fair_branch;
  history = a_load (a_run fair_branch no_call);
  first_steps = 8;
  second_steps = 9;
  struck = record { channel = 0; word = 42 };
  first_halts = refl;
  second_halts = refl;
  apart = omega arith;
  first_sees = refl;
  second_sees = refl;
}

-- the word of the first strike of a list
abbrev first_word : List Strike → ℕ
first_word l = (get_or l 0 (record { channel = 0; word = 0 })).word

pub leaky : Leaky
leaky = record {
  scene = scene leak fair_leak;
  place = 17;
  is_refused = refl;
  broken = λ k. apart k.strikes;
}
  where
    struck : ℕ → List Strike
    struck v = record { channel = 0; word = v } ∷ []

    apart : EitherBegins (struck 0) (struck 6) → ⊥
    apart (inl h) = let e : ◌≡◌ {A = ℕ} 0 6 = ap first_word h.1 in omega arith
    apart (inr h) = let e : ◌≡◌ {A = ℕ} 6 0 = ap first_word h.1 in omega arith

pub silence_breaks : SilenceBreaks
silence_breaks mute never same =
    let b : Model = (let_in secret_branch).box in
    let e : ◌≡◌ {A = ℕ} 0 1 = sym (ap length (never b (order 0))) ∙ ap (λ x. length (strikes_of x)) (same b (order 0)) in
    omega arith
