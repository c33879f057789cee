use Rattle.std.proofs.Common.{◌≡◌, ◌+◌, ◌<◌, length, drop, sym, refl, ap, ◌∙◌, arith, rules}
use Rattle.std.proofs.lemmas.List.{take_rest}
use Rattle.std.specs.List.{prefix_len}
use Rattle.edition.specs.Fields.{blank, fields_from}
use Rattle.edition.proofs.Cuts.{ink, run_is, one_field, no_field}
use Rattle.edition.proofs.fields.FieldsIterator.next.Goals as goal
use Rattle.edition.proofs.fields.FieldsIterator.next.Goals.{After-run-size}

blanks : (c : After-run-size) → prefix_len blank (drop c.args.self.now.at c.args.self.now.text.now) ≡ c.run.result
blanks c = ap (prefix_len blank) (sym (take_rest c.args.self.now.text.now c.args.self.now.at)) ∙ run_is blank (λ b r h. search rules) _ _ c.run.ensures

size : (c : After-run-size) → prefix_len ink (drop (c.args.self.now.at + c.run.result) c.args.self.now.text.now) ≡ c.run-size.result
size c = ap (prefix_len ink) (sym (take_rest c.args.self.now.text.now (c.args.self.now.at + c.run.result))) ∙ run_is ink (λ b r h. search rules) _ _ c.run-size.ensures

pub returns : goal.returns
returns c =
    let s = c.args.self.now in
    let d = (goal.at.returns c).After-run-size in
    let one = one_field s.text.now s.at c.run.result c.run-size.result (blanks d) (size d) (omega arith) in
    let fewer : length (fields_from s.text.now (s.at + c.run.result + c.run-size.result)) < length (fields_from s.text.now s.at) = omega (arith, ap length one) in
    record { steps = (rw take_rest one, refl); goes = search rules }

pub returns-then-size-eq0 : goal.returns-then-size-eq0
returns-then-size-eq0 c =
    let s = c.args.self.now in
    let d = (goal.at.returns-then-size-eq0 c).After-run-size in
    let none = no_field s.text.now s.at c.run.result c.run-size.result (blanks d) (size d) (omega arith) in
    record { steps = ((none, none), refl); goes = search rules }
