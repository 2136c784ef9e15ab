-- The places of the met ids and the documents of a view.
use Rattle.std.proofs.Common.{◌≡◌, ◌≢◌, ◌∙◌, ℕ, Bool, true, false, ◌+◌, ◌*◌, ◌≤◌, List, length, drop, Some, None, refl, sym, ap, ap₂, subst, arith}
use Rattle.std.proofs.lemmas.List.{length-drop, drop-drop}
use Rattle.ats_doctree.specs.declared.doc_leaf.DocLeaf.{DocLeaf}
use Rattle.ats_proof.specs.declared.view.ProofView.TheInside.{Inside}
use Rattle.ats_proof.specs.Parts.{parts_in, total_size, counted_in}
use Rattle.ats_proof.specs.Value.{TermsSection, Documents, Proof, present_in}
use Rattle.ats_proof.specs.Reading.{digest_size, digest_in, id_size, id_in, doc_size, doc_in, section_size, section_in, slots_in, met_in, is_tra, met_place, docs_place, doc_digests_place, sections_place, answer_place, documents_in, proof_in}
use Rattle.ats_proof.specs.Runs.{sections_rise}
use Rattle.ats_proof.specs.Inner.Told.{IsPlaced}
use Rattle.ats_proof.proofs.InRange.{in_range}
use Rattle.ats_proof.proofs.Runs.{length-parts}
use Rattle.ats_proof.proofs.Taking.{total_fixed}

module _ (view : Inside) (placed : IsPlaced view.bytes.now view.tra view.begun view.ended view.docs) where
  pub ids_start : drop (view.begun.met_at + 4) view.bytes.now ≡ drop 4 (drop (met_place view.bytes.now) view.bytes.now)
  ids_start = ap (λ (n : ℕ). drop (n + 4) view.bytes.now) placed.first.met_at ∙ sym (drop-drop 4 (met_place view.bytes.now) view.bytes.now)

  pub ids_space : view.begun.met * 4 ≤ length (drop (view.begun.met_at + 4) view.bytes.now)
  ids_space =
      let bytes = view.bytes.now in
      let fours = total_fixed 4 (λ b. b) (met_in bytes) (drop 4 (drop (met_place bytes) bytes)) in
      omega (arith, placed.first.met, placed.first.met_at, fours, placed.space.docs, length-drop (view.begun.met_at + 4) bytes)

  pub ids_shown : parts_in id_size id_in view.begun.met (drop (view.begun.met_at + 4) view.bytes.now) ≡ (proof_in view.bytes.now).met
  ids_shown = ap₂ (λ n xs. parts_in id_size id_in n xs) placed.first.met ids_start

  pub ids_count : length (proof_in view.bytes.now).met ≡ view.begun.met
  ids_count =
      let bytes = view.bytes.now in
      length-parts id_size id_in (met_in bytes) (drop 4 (drop (met_place bytes) bytes)) ∙ sym placed.first.met

tra_alone : (tra : Bool) (bytes : List ℕ) → documents_in tra bytes ≢ None → tra ≡ true
tra_alone true bytes some = refl
tra_alone false bytes some = absurd (some refl)

-- a view of a proof that shows documents knows it
pub knows_documents : (view : Inside) (placed : IsPlaced view.bytes.now view.tra view.begun view.ended view.docs) (proof : Proof)
    → proof_in view.bytes.now ≡ proof → proof.docs ≢ None → view.tra ≡ true
knows_documents view placed proof same some =
    tra_alone view.tra view.bytes.now (λ none. some (ap (λ (p : Proof). p.docs) (sym same) ∙ ap (λ (t : Bool). documents_in t view.bytes.now) (sym placed.same) ∙ none))

module _ (view : Inside) (placed : IsPlaced view.bytes.now view.tra view.begun view.ended view.docs) (tra : view.tra ≡ true) where
  is_true : is_tra view.bytes.now ≡ true
  is_true = sym placed.same ∙ tra

  pub answer_space : answer_place true view.bytes.now ≤ length view.bytes.now
  answer_space =
      let h : answer_place (is_tra view.bytes.now) view.bytes.now ≤ length view.bytes.now = omega (arith, placed.space.answer) in
      subst (λ (t : Bool). answer_place t view.bytes.now ≤ length view.bytes.now) is_true h

  leaves_start : drop view.docs view.bytes.now ≡ drop (docs_place view.bytes.now) view.bytes.now
  leaves_start = ap (λ (n : ℕ). drop n view.bytes.now) placed.docs_at

  pub leaves_space : view.begun.met * 36 ≤ length (drop view.docs view.bytes.now)
  leaves_space =
      let bytes = view.bytes.now in
      let wide = total_fixed 36 (λ b. b) (met_in bytes) (drop (docs_place bytes) bytes) in
      rw leaves_start (omega (arith, placed.first.met, wide, answer_space, length-drop (docs_place bytes) bytes))

  pub digests_start : drop view.ended.doc_digests view.bytes.now ≡ drop (doc_digests_place view.bytes.now) view.bytes.now
  digests_start = ap (λ (n : ℕ). drop n view.bytes.now) (placed.rest.doc_digests tra)

  sections_start : drop view.ended.sections view.bytes.now ≡ drop (sections_place view.bytes.now) view.bytes.now
  sections_start = ap (λ (n : ℕ). drop n view.bytes.now) (placed.rest.sections tra)

  pub sections_fit : total_size (section_size view.begun.present) view.begun.met (drop view.ended.sections view.bytes.now) ≤ length (drop view.ended.sections view.bytes.now)
  sections_fit = rw (sections_start, placed.first.met, placed.first.present) (omega (arith, answer_space, length-drop (sections_place view.bytes.now) view.bytes.now))

  shown_rise : sections_rise (present_in (slots_in view.bytes.now)) (met_in view.bytes.now) (drop (sections_place view.bytes.now) view.bytes.now)
  shown_rise i section within = (((in_range view.bytes.now (proof_in view.bytes.now) placed.spelled).shown _ (ap (λ (t : Bool). documents_in t view.bytes.now) is_true)).sections i section within).rises

  pub rise : sections_rise view.begun.present view.begun.met (drop view.ended.sections view.bytes.now)
  rise = rw (sections_start, placed.first.met, placed.first.present) shown_rise

  sections_shown : parts_in (section_size view.begun.present) (section_in view.begun.present) view.begun.met (drop view.ended.sections view.bytes.now)
      ≡ parts_in (section_size (present_in (slots_in view.bytes.now))) (section_in (present_in (slots_in view.bytes.now))) (met_in view.bytes.now) (drop (sections_place view.bytes.now) view.bytes.now)
  sections_shown =
      ap (λ p. parts_in (section_size p) (section_in p) view.begun.met (drop view.ended.sections view.bytes.now)) placed.first.present
      ∙ ap₂ (λ n xs. parts_in (section_size (present_in (slots_in view.bytes.now))) (section_in (present_in (slots_in view.bytes.now))) n xs) placed.first.met sections_start

  -- the documents are their parts, as a view of them keeps these
  pub documents_shown : (leaves : List DocLeaf) (digests : List (List ℕ)) (sections : List TermsSection) → leaves ≡ parts_in doc_size doc_in view.begun.met (drop view.docs view.bytes.now)
      → digests ≡ counted_in 4 digest_size digest_in (drop view.ended.doc_digests view.bytes.now)
      → sections ≡ parts_in (section_size view.begun.present) (section_in view.begun.present) view.begun.met (drop view.ended.sections view.bytes.now)
      → documents_in (is_tra view.bytes.now) view.bytes.now ≡ (let docs : Documents = record { leaves = leaves; digests = digests; sections = sections } in Some docs)
  documents_shown leaves digests sections own_leaves own_digests own_sections =
      let l = own_leaves ∙ ap₂ (λ n xs. parts_in doc_size doc_in n xs) placed.first.met leaves_start in
      let d = own_digests ∙ ap (counted_in 4 digest_size digest_in) digests_start in
      let s = own_sections ∙ sections_shown in
      let same : documents_in true view.bytes.now ≡ (let docs : Documents = record { leaves = leaves; digests = digests; sections = sections } in Some docs) =
      λ i. let docs : Documents = record { leaves = sym l i; digests = sym d i; sections = sym s i } in Some docs in
      ap (λ (t : Bool). documents_in t view.bytes.now) is_true ∙ same
