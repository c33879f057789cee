use Rattle.std.proofs.Common.{ℕ, ◌≤◌, length, sym, ap, ◌∙◌, subst, length-take, rules}
use Rattle.rules.specs.Program.{Program}
use Rattle.rules.specs.Says.{program_of}
use Rattle.programme.specs.Spelled.{words_in}
use Rattle.machine.specs.Box.{ran_as}
use Rattle.machine.specs.Typed.{CellsHold}
use Rattle.press_box.specs.Model.{stored}
use Rattle.press_box.specs.Runs.{order}
use Rattle.press_box.proofs.Running.{front, leaves}
use Rattle.press_box.proofs.store.ImageStore.run.Goals as goal

pub run-ran-requires : goal.run-ran-requires
run-ran-requires c =
    let p = program_of (words_in c.of-image.result.image) in
    subst (CellsHold p) (sym (front _ _ _ _ c.lay_cells.ensures.sheet (c.cell_count-cells.ensures.value ∙ sym c.lay_cells.ensures.hold.count))) c.lay_cells.ensures.hold

pub returns : goal.returns
returns c =
    let p = program_of (words_in c.of-image.result.image) in
    let b = stored c.args.self.now in
    let o = order c.args.job.now c.args.fuel c.args.strip.now c.args.sheet.now in
    leaves p b o
    (record {
      count = c.cell_count-cells.ensures.value;
      holds = c.lay_cells.ensures.hold;
      front_laid = c.lay_cells.ensures.sheet;
      length_kept = c.run-ran.auto.cells;
      stops = c.stops_box-self.ensures;
      comes = c.run-ran.ensures;
    })
    (record {
      holds_image = search (rules, length-take);
      free = c.if-self.false;
      job = c.if-job-job_length.false ∙ c.job_length.ensures.value;
      room = subst (λ (n : ℕ). n ≤ length c.args.sheet.now) c.cell_count-cells.ensures.value c.if-sheet-cells.false;
    }) ∙
    ap (λ (q : Program). ran_as q b o) (ap program_of (c.of-image.ensures ∙ c.image.ensures.value))
