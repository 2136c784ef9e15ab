use Rattle.std.proofs.Common.{◌∙◌, ℕ, ◌+◌, ◌*◌, drop, refl, sym, ap, arith}
use Rattle.std.proofs.lemmas.List.{length-drop, drop-drop}
use Rattle.ats_proof.specs.Reading.{section_size, section_leaves_size, section_slots_place, id_size, id_in, doc_size, doc_in}
use Rattle.ats_proof.proofs.Taking.{first_fits, parts_more, total_fixed}
use Rattle.ats_proof.proofs.Documents.{slots_start, first_section_rises}
use Rattle.ats_proof.proofs.docs.DocsView.cut.Goals as goal

pub counted_leaves_size-size-requires : goal.counted_leaves_size-size-requires
counted_leaves_size-size-requires c =
    let view = c.args.self.now in
    omega (arith, first_fits (section_size view.present) view.left view.sections.now c.requires view.fits)

pub number_2-requires : goal.number_2-requires
number_2-requires c =
    let view = c.args.self.now in
    omega (arith, first_fits (section_size view.present) view.left view.sections.now c.requires view.fits)

pub split_at-requires : goal.split_at-requires
split_at-requires c =
    let view = c.args.self.now in
    omega (arith, first_fits (section_size view.present) view.left view.sections.now c.requires view.fits)

pub split_at-requires-2 : goal.split_at-requires-2
split_at-requires-2 c =
    let view = c.args.self.now in
    omega (arith, c.counted_leaves_size-size.ensures, first_fits (section_size view.present) view.left view.sections.now c.requires view.fits)

pub counted_digests_2-requires : goal.counted_digests_2-requires
counted_digests_2-requires c =
    let view = c.args.self.now in
    let bytes = view.sections.now in
    rw (c.split_at-2.ensures.back, c.counted_leaves_size-size.ensures)
    (omega (arith, first_fits (section_size view.present) view.left bytes c.requires view.fits, length-drop (section_leaves_size bytes) bytes))

pub invariant_of-leaves : goal.invariant_of-leaves
invariant_of-leaves c =
    let view = c.args.self.now in
    let bytes = view.sections.now in
    record {
      fits = rw (c.from.ensures, c.number_2.ensures, c.split_at.ensures.back) (omega (arith, first_fits (section_size view.present) view.left bytes c.requires view.fits, length-drop 2 bytes));
      rises = rw (c.from.ensures, c.number_2.ensures, c.split_at.ensures.back) (first_section_rises view.present view.left bytes c.requires view.rise);
    }

pub split_at-requires-3 : goal.split_at-requires-3
split_at-requires-3 c =
    let view = c.args.self.now in
    let bytes = view.sections.now in
    let slots = slots_start bytes c.split_at-2.result.1.now c.counted_digests_2.result.1.now (c.split_at-2.ensures.back ∙ ap (λ (n : ℕ). drop n bytes) c.counted_leaves_size-size.ensures) c.counted_digests_2.ensures.rest in
    let threes = total_fixed 3 (λ b. b) view.present (drop (section_slots_place bytes) bytes) in
    rw slots (omega (arith, first_fits (section_size view.present) view.left bytes c.requires view.fits, threes, length-drop (section_slots_place bytes) bytes))

pub returns-clause-doc : goal.returns-clause-doc
returns-clause-doc c =
    let view = c.args.self.now in
    rw (c.number_4.ensures, parts_more id_size id_in view.left view.ids.now c.requires) refl

pub returns-clause-leaf : goal.returns-clause-leaf
returns-clause-leaf c =
    let view = c.args.self.now in
    rw (parts_more doc_size doc_in view.left view.leaves.now c.requires) refl

pub returns-clause-rest : goal.returns-clause-rest
returns-clause-rest c =
    let view = c.args.self.now in
    let bytes = view.sections.now in
    let slots = slots_start bytes c.split_at-2.result.1.now c.counted_digests_2.result.1.now (c.split_at-2.ensures.back ∙ ap (λ (n : ℕ). drop n bytes) c.counted_leaves_size-size.ensures) c.counted_digests_2.ensures.rest in
    let threes = total_fixed 3 (λ b. b) view.present (drop (section_slots_place bytes) bytes) in
    c.split_at-3.ensures.back ∙ ap (drop (view.present * 3)) slots ∙ drop-drop (view.present * 3) (section_slots_place bytes) bytes
    ∙ ap (λ (n : ℕ). drop (section_slots_place bytes + n) bytes) (sym threes)
