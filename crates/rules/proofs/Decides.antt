-- An image is accepted exactly where it meets every rule.
use Rattle.std.proofs.Common.{◌≡◌, ℕ, suc, ◌↔◌, List, [], ◌∷◌, map, length, take, sym, refl, ap, ◌∙◌, subst, arith}
use Rattle.std.proofs.lemmas.List.{take_all}
use Rattle.labels.specs.Meaning.{Meaning}
use Rattle.image.specs.declared.section.Section.TheVariants.{Channels}
use Rattle.image.specs.Counts.{no_items}
use Rattle.image.specs.Finding.{Finding, clear, fault}
use Rattle.image.specs.Layout.{outset, layout, number_of}
use Rattle.image.specs.Items.{Piece, pieces_from, reach, pieces}
use Rattle.image.proofs.Splitting.{splits}
use Rattle.rules.specs.Program.{Block, Program, signature_at}
use Rattle.rules.specs.Says.{Part, a_channel, a_shape, a_signature, a_tuple, a_block, says, with_part, together, program, program_of}
use Rattle.rules.specs.Written.{parts_of}
use Rattle.rules.specs.Naming.{naming_number}
use Rattle.rules.specs.Flow.{flow, part_flow, flow_number}
use Rattle.rules.specs.LaidOut.{Every, Ended, BlockLaid, IsLaidOut}
use Rattle.rules.specs.Named.{Named}
use Rattle.rules.specs.WellTyped.{BlockTyped, WellTyped}
use Rattle.rules.specs.Rules.{MeetsEveryRule}
use Rattle.rules.specs.Verdict.{Pass, Verdict, accepted, in_layout, in_naming, in_flow, answer, naming_of, flow_of, verdict}
use Rattle.rules.proofs.Tests.{iff_same, iff_then, iff_pair, then_clear}
use Rattle.rules.proofs.Flowing.{clear_checked, checked_clear}
use Rattle.rules.proofs.Names.{naming_decides}
use Rattle.rules.proofs.ItemWords.{PartLaid}
use Rattle.rules.proofs.Rows.{Good, layout_iff, parts_in, good_row, row_laid, row_good, row_parts}
use Rattle.rules.proofs.Limits.{laid}
use Rattle.rules.proofs.Runs.{unlaid, together_again}

-- ---- the layout pass

all_pieces : (ns : List ℕ) → layout ns ≡ clear → pieces ns ≡ pieces_from no_items 0 0 ns
all_pieces ns e = ap (λ f. pieces_from no_items 0 0 (take (reach ns f) ns)) e ∙ ap (pieces_from no_items 0 0) (take_all (length ns) ns (omega arith))

pub layout_is : (ns : List ℕ) → layout ns ≡ clear → IsLaidOut ns (program_of ns)
layout_is ns e =
    let (l, g) = (layout_iff ns).0 e in
    let (w, r) = good_row (length ns) Channels 0 0 no_items 0 ns (omega arith) g in
    subst (λ is. IsLaidOut ns (program is)) (sym (all_pieces ns e)) (laid ns (parts_in no_items 0 ns) w l r)

pub parts_laid : (ns : List ℕ) → layout ns ≡ clear → Every PartLaid (map says (pieces ns))
parts_laid ns e =
    let r = (good_row (length ns) Channels 0 0 no_items 0 ns (omega arith) ((layout_iff ns).0 e).1).1 in
    subst (λ is. Every PartLaid (map says is)) (sym (all_pieces ns e)) (row_laid Channels 0 0 (parts_in no_items 0 ns) r)

pub layout_from : (ns : List ℕ) (p : Program) → IsLaidOut ns p → layout ns ≡ clear
layout_from ns p h = (layout_iff ns).1 (h.short, subst (Good outset) (sym h.written) (row_good Channels 0 0 (parts_of p) (unlaid ns p h)))

pub one_programme : (ns : List ℕ) (p : Program) → IsLaidOut ns p → program_of ns ≡ p
one_programme ns p h =
    ap program (all_pieces ns (layout_from ns p h))
    ∙ ap (λ ns. together (parts_in no_items 0 ns)) h.written
    ∙ ap together (row_parts Channels 0 0 no_items 0 (parts_of p) (unlaid ns p h))
    ∙ together_again p

pub layout_decides : (ns : List ℕ) → (layout ns ≡ clear) ↔ IsLaidOut ns (program_of ns)
layout_decides ns = (layout_is ns, layout_from ns (program_of ns))

-- ---- the naming pass over the items of an image

pub names_decided : (m : Meaning) (ns : List ℕ) → layout ns ≡ clear → (naming_of m ns ≡ clear) ↔ Named m (program_of ns)
names_decided m ns l = naming_decides m (pieces ns) (splits ns).numbers (layout_is ns l).blocks.0

-- ---- the flow pass over items

module _ (m : Meaning) (p : Program) where
  abbrev BlockEnded : Block → Type 0
  BlockEnded b = Ended b.body

  flow_is : (is : List Piece) → flow m p is ≡ clear → Every BlockEnded (program is).blocks → Every (BlockTyped m p) (program is).blocks
  flow_is [] e h = tt
  flow_is (i ∷ is) e h = let (a, b) = (then_clear (part_flow m p i.place (says i)) (flow m p is)).0 e in go (says i) a h (flow_is is b)
    where
      go : (x : Part) → part_flow m p i.place x ≡ clear → Every BlockEnded (with_part x (program is)).blocks → (Every BlockEnded (program is).blocks → Every (BlockTyped m p) (program is).blocks) → Every (BlockTyped m p) (with_part x (program is)).blocks
      go (a_channel l) a h f = f h
      go (a_shape ts) a h f = f h
      go (a_signature s) a h f = f h
      go (a_tuple t) a h f = f h
      go (a_block b) a h f = (clear_checked m p (signature_at p b.signature) (suc i.place) b.body a h.0, f h.1)

  flow_from : (is : List Piece) → Every (BlockTyped m p) (program is).blocks → flow m p is ≡ clear
  flow_from [] h = refl
  flow_from (i ∷ is) h = (then_clear (part_flow m p i.place (says i)) (flow m p is)).1 (go (says i) h (flow_from is))
    where
      go : (x : Part) → Every (BlockTyped m p) (with_part x (program is)).blocks → (Every (BlockTyped m p) (program is).blocks → flow m p is ≡ clear) → (part_flow m p i.place x ≡ clear) × (flow m p is ≡ clear)
      go (a_channel l) h f = (refl, f h)
      go (a_shape ts) h f = (refl, f h)
      go (a_signature s) h f = (refl, f h)
      go (a_tuple t) h f = (refl, f h)
      go (a_block b) h f = ((checked_clear m p (signature_at p b.signature).context (signature_at p b.signature).types (suc i.place) b.body h.0).0, f h.1)

all_ended : (bs : List Block) → Every BlockLaid bs → Every (λ b. Ended b.body) bs
all_ended [] h = tt
all_ended (b ∷ bs) h = (h.0.ended, all_ended bs h.1)

-- ---- all three

accepted_iff : {R : Type 0} (pass : Pass) (number : R → ℕ) (f : Finding R) (v : Verdict) → (answer pass number f v ≡ accepted) ↔ ((f ≡ clear) × (v ≡ accepted))
accepted_iff pass number clear v = (λ e. (refl, e), λ h. h.1)
accepted_iff pass number (fault rule place) v =
    (λ e. let z : ◌≡◌ {A = ℕ} 0 1 = cc in absurd (omega arith), λ h. let z : ◌≡◌ {A = ℕ} 0 1 = (let q = h.0 in cc) in absurd (omega arith))

pub all_clear : (m : Meaning) (ns : List ℕ) → (verdict m ns ≡ accepted) ↔ ((layout ns ≡ clear) × ((naming_of m ns ≡ clear) × (flow_of m ns ≡ clear)))
all_clear m ns =
    iff_then (accepted_iff in_layout number_of (layout ns) _)
    (iff_pair iff_same
    (iff_then (accepted_iff in_naming naming_number (naming_of m ns) _)
    (iff_pair iff_same (iff_then (accepted_iff in_flow flow_number (flow_of m ns) accepted) (λ h. h.0, λ h. (h, refl))))))

-- no law of the kind is needed
pub verdict_decides : (m : Meaning) (ns : List ℕ) → (verdict m ns ≡ accepted) ↔ MeetsEveryRule m ns
verdict_decides m ns = (there, back)
  where
    there : verdict m ns ≡ accepted → MeetsEveryRule m ns
    there e =
        let (l, (n, f)) = (all_clear m ns).0 e in
        let h = layout_is ns l in
        record {
          programme = program_of ns;
          laid_out = h;
          named = (names_decided m ns l).0 n;
          well_typed = flow_is m (program_of ns) (pieces ns) f (all_ended (program_of ns).blocks h.blocks.2);
        }

    back : MeetsEveryRule m ns → verdict m ns ≡ accepted
    back r =
        let l = layout_from ns r.programme r.laid_out in
        let e = sym (one_programme ns r.programme r.laid_out) in
        (all_clear m ns).1 (l, ((names_decided m ns l).1 (subst (Named m) e r.named), flow_from m (program_of ns) (pieces ns) (subst (WellTyped m) e r.well_typed)))
