use Rattle.std.proofs.Common.{◌≡◌, ◌+◌, ◌≤◌, ℕ, Bool, true, cond, leb, List, [], ◌∷◌, ◌++◌, map, length, sym, ap, ◌∙◌, arith}
use Rattle.std.proofs.lemmas.Bool.{le-leb}
use Rattle.std.proofs.lemmas.Grind.{common_steps}
use Rattle.std.proofs.lemmas.List.{length-map}
use Rattle.rules.specs.Says.{type_in}
use Rattle.rows.specs.Rows.{held}
use Rattle.typing.proofs.state.types_in.Goals as goal

-- the last of the words that are left goes in front of what the row holds
module _ {X Y : Type 0} (f : X → Y) (rest : List X) (x : X) (row all : List Y) (most : ℕ) (so_far : map f (rest ++ x ∷ []) ++ row ≡ all) (few : length all ≤ most) where
  room : leb (length row + 1) most ≡ true
  room = let n = ap length so_far in le-leb _ _ (grind (arith, common_steps))

  filled_more : (fits : Bool) (y : Y) (new : List Y) → fits ≡ leb (length row + 1) most → y ≡ f x → new ≡ cond fits (y ∷ row) row → map f rest ++ new ≡ all
  filled_more fits y new e same after =
      let more : new ≡ f x ∷ row = after ∙ ap (λ b. cond b (y ∷ row) row) (e ∙ room) ∙ ap (λ z. z ∷ row) same in
      grind (arith, common_steps)

pub loop-word-preserved : goal.loop-word-preserved
loop-word-preserved g c =
    let row = held c.loop-word.row in
    let so_far = ap (λ ws. map type_in ws ++ row) (sym c.in-Some.ensures.steps) ∙ c.loop-word.invariant in
    filled_more type_in c.next.new.self.iter.rest.now c.in-Some.word.now row _ g.row.N so_far (omega (arith, length-map c.args.words.now type_in)) _ _ _ c.push.ensures.room c.type_in.ensures c.push.ensures.after
