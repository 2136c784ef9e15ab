-- The rules of what a proof shows, apart from those of the rows: a proof without rows can break no rule of theirs but the
-- last.
use Rattle.std.proofs.Common.{◌≡◌, ◌⊎◌, ℕ, List, [], ◌∷◌, length, length-append, Option, Some, None, refl, ap, inl, inr, arith}
use Rattle.ats_base.specs.Rules.{AllHold, IsFirstFault}
use Rattle.ats_proof.specs.Value.{Documents, Proof}
use Rattle.ats_refusal.specs.declared.proof.Refusal.{Refusal}
use Rattle.ats_refusal.specs.declared.proof.Refusal.TheVariants.{AnswerOut, AnswerRepeated, NotSettled}
use Rattle.ats_client.specs.Accepts.{section_rules, row_rule, settled_rule, shown_rules, AcceptsShown, IsFirstShownRefusal, Accepts, IsFirstRefusal}
use Rattle.ats_client.specs.Documents.{IsDocsRootFault, IsDocumentsFault, document_rules, present_numbers}
use Rattle.ats_client.specs.Groups.{IsListsFault, IsRowsFault, IsSettledFault, IsAnswerSettled, list_rules}
use Rattle.ats_client.specs.Bracketing.{bounds_of}
use Rattle.ats_client.specs.Presented.{lanes_of}
use Rattle.ats_client.proofs.TwoRuns.{first_hold, both_hold, first_in_front, first_or_second, none_first}

module _ (H : List ℕ → List ℕ) (root : List ℕ) (query : List (List ℕ × ℕ)) (proof : Proof) where
  -- ---- a section is never called unsettled

  no_docs : (docs : Option Documents) → IsDocsRootFault H proof.header proof.met docs NotSettled → ⊥
  no_docs None fault = fault
  no_docs (Some docs) fault = fault

  no_list : IsListsFault H query proof NotSettled → ⊥
  no_list fault = none_first (list_rules H proof.format proof.met fault.one) NotSettled ((λ f. f), ((λ f. f), tt)) fault.fault

  no_document : IsDocumentsFault H query proof NotSettled → ⊥
  no_document fault = none_first (document_rules H query (present_numbers proof) fault.one) NotSettled ((λ f. f), ((λ f. f), tt)) fault.fault

  pub never_unsettled : IsFirstFault (section_rules H root query proof) NotSettled → ⊥
  never_unsettled =
      none_first (section_rules H root query proof) NotSettled
      ((λ f. f), ((λ f. f), ((λ f. f), (no_list, ((λ f. f), (no_docs proof.docs, (no_document, tt)))))))

  -- ---- a proof without rows

  no_row : length proof.answer ≡ 0 → (refusal : Refusal) → IsRowsFault proof.met proof.answer refusal → ⊥
  no_row none (AnswerOut row) fault = omega (arith, none, ap length fault.stands, length-append fault.before (fault.index ∷ fault.after))
  no_row none (AnswerRepeated row) fault = omega (arith, none, ap length fault.stands, length-append fault.before (fault.index ∷ fault.after))
  no_row none _ fault = fault

  unsettled : (r : ℕ) (refusal : Refusal) → IsSettledFault (bounds_of proof) (lanes_of query proof) proof.met proof.answer r refusal → refusal ≡ NotSettled
  unsettled r NotSettled fault = refl
  unsettled r _ fault = absurd fault

  only_unsettled : (r : ℕ) → length proof.answer ≡ 0 → (refusal : Refusal) → IsFirstFault (row_rule proof ∷ settled_rule query r proof ∷ []) refusal → refusal ≡ NotSettled
  only_unsettled r none refusal (inl rows) = absurd (no_row none refusal rows)
  only_unsettled r none refusal (inr later) = elim later.1 [
    | inl settled ↦ unsettled r refusal settled
    | inr last ↦ absurd last.1
  ]

  -- what the check of a proof without rows says of its sections
  pub refused_sections : (r : ℕ) → length proof.answer ≡ 0 → (refusal : Refusal) → IsFirstRefusal H root query r proof refusal
      → IsFirstFault (section_rules H root query proof) refusal ⊎ (AllHold (section_rules H root query proof) × (refusal ≡ NotSettled))
  refused_sections r none refusal is = elim (first_or_second (section_rules H root query proof) (row_rule proof ∷ settled_rule query r proof ∷ []) refusal is.first) [
    | inl first ↦ inl first
    | inr rows ↦ inr (rows.0, only_unsettled r none refusal rows.1)
  ]

  pub shown_sections : AcceptsShown H root query proof → AllHold (section_rules H root query proof)
  shown_sections shown = first_hold (section_rules H root query proof) (row_rule proof ∷ []) shown.holds

  pub accepted_shown : (r : ℕ) → Accepts H root query r proof → AcceptsShown H root query proof
  accepted_shown r accepts = record { holds = first_hold (shown_rules H root query proof) (settled_rule query r proof ∷ []) accepts.holds }

  -- the first refusal before the settling is that of the check
  pub refused_shown : (r : ℕ) (refusal : Refusal) → IsFirstShownRefusal H root query proof refusal → IsFirstRefusal H root query r proof refusal
  refused_shown r refusal is = record { first = first_in_front (shown_rules H root query proof) (settled_rule query r proof ∷ []) refusal is.first }

  -- what holds before the settling, and then that, are all rules
  pub settled_accepts : (r : ℕ) → AcceptsShown H root query proof → IsAnswerSettled (bounds_of proof) (lanes_of query proof) proof.met proof.answer r → Accepts H root query r proof
  settled_accepts r shown settled = record { holds = both_hold (shown_rules H root query proof) (settled_rule query r proof ∷ []) shown.holds (settled, tt) }

  pub accepts_settled : (r : ℕ) → Accepts H root query r proof → IsAnswerSettled (bounds_of proof) (lanes_of query proof) proof.met proof.answer r
  accepts_settled r accepts = accepts.holds.1.1.1.1.1.1.1.1.0

  pub accepted_sections : (r : ℕ) → Accepts H root query r proof → AllHold (section_rules H root query proof)
  accepted_sections r accepts = shown_sections (accepted_shown r accepts)
