use Rattle.std.proofs.Common.{◌-◌, ◌<◌, Some, ap, arith}
use Rattle.std.proofs.lemmas.List.{length-drop}
use Rattle.ats_proof.specs.Reading.{section_size, section_in, id_size, id_in, doc_size, doc_in}
use Rattle.ats_proof.proofs.Taking.{rest_fits, parts_more, parts_passed}
use Rattle.ats_proof.proofs.Documents.{rest_sections_rise}
use Rattle.ats_proof.proofs.docs.DocsView.next.Goals as goal

pub invariant_of-self : goal.invariant_of-self
invariant_of-self c =
    let view = c.args.self.now in
    let some : 0 < view.left = omega (arith, c.if-self-eq0.false) in
    record {
      ids_space = rw c.split_at.ensures.back (omega (arith, some, view.ids_space, length-drop 4 view.ids.now));
      leaves_space = rw c.split_at-2.ensures.back (omega (arith, some, view.leaves_space, length-drop 36 view.leaves.now));
      fits = rw c.cut.ensures.rest (rest_fits (section_size view.present) view.left view.sections.now some view.fits);
      rise = rw c.cut.ensures.rest (rest_sections_rise view.present view.left view.sections.now some view.rise);
    }

pub returns-clause-section : goal.returns-clause-section
returns-clause-section c =
    let view = c.args.self.now in
    let some : 0 < view.left = omega (arith, c.if-self-eq0.false) in
    rw (parts_more (section_size view.present) (section_in view.present) view.left view.sections.now some) (ap Some c.cut.ensures.section)

pub returns-clause-passed_ids : goal.returns-clause-passed_ids
returns-clause-passed_ids c =
    let view = c.args.self.now in
    parts_passed id_size id_in view.left (view.left - 1) view.ids.now c.split_at.result.1.now (omega (arith, c.if-self-eq0.false)) c.split_at.ensures.back

pub returns-clause-passed_leaves : goal.returns-clause-passed_leaves
returns-clause-passed_leaves c =
    let view = c.args.self.now in
    parts_passed doc_size doc_in view.left (view.left - 1) view.leaves.now c.split_at-2.result.1.now (omega (arith, c.if-self-eq0.false)) c.split_at-2.ensures.back

pub returns-clause-passed_sections : goal.returns-clause-passed_sections
returns-clause-passed_sections c =
    let view = c.args.self.now in
    parts_passed (section_size view.present) (section_in view.present) view.left (view.left - 1) view.sections.now c.cut.result.1.now (omega (arith, c.if-self-eq0.false)) c.cut.ensures.rest
