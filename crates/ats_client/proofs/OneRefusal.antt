-- A proof has at most one first refusal, and none if it is accepted.
use Rattle.std.proofs.Common.{◌≡◌, ◌∙◌, ℕ, List, [], ◌∷◌, true, Result, Ok, Err, refl, sym, ap, inl, inr}
use Rattle.std.specs.Result.{is_ok, IfErr}
use Rattle.ats_bound.specs.Cut.{ShownLane, IsMet}
use Rattle.ats_bound.specs.Schedule.{Bounding}
use Rattle.ats_proof.specs.Value.{Proof}
use Rattle.ats_refusal.specs.declared.proof.Refusal.{Refusal}
use Rattle.ats_refusal.specs.declared.proof.Refusal.TheVariants.{OtherRoot, SlotCount, DictMisfit, DictRoot, SlotWrong, Unmet, AnswerOut, AnswerRepeated, NotSettled}
use Rattle.ats_client.specs.Bracketing.{bounds_of}
use Rattle.ats_client.specs.Presented.{lanes_of}
use Rattle.ats_client.specs.Groups.{IsOpeningFault, dict_digest, IsDictFault, IsSlotsFault, IsSlotRight, IsMetFault, IsRowsFault, IsSettledFault, met_at}
use Rattle.ats_client.specs.Accepts.{section_rules, row_rule, settled_rule, shown_rules, rules, AcceptsShown, IsFirstShownRefusal, Accepts, IsFirstRefusal}
use Rattle.ats_client.proofs.Exact.{IsDigestFault, digest_exact, not_opened, not_slots, not_met, not_rows, not_settled}
use Rattle.ats_client.proofs.Least.{one_least}
use Rattle.ats_client.proofs.OneListFault.{not_lists, one_out, one_again, out_or_again, one_lists}
use Rattle.ats_client.proofs.OneDocumentFault.{docs_exact, not_documents, one_documents}
use Rattle.ats_client.proofs.TwoRuns.{exact_both}
use Rattle.ats_base.specs.Rules.{AllHold, IsFirstFault}
use Rattle.ats_base.proofs.Public.{AreExact, not_all_hold, one_first}

one_opening : (H : List ℕ → List ℕ) (root : List ℕ) (query : List (List ℕ × ℕ)) (proof : Proof) (a b : Refusal)
    → IsOpeningFault H root query proof a → IsOpeningFault H root query proof b → a ≡ b
one_opening H root query proof OtherRoot OtherRoot is also = refl
one_opening H root query proof OtherRoot (SlotCount shown) is also = absurd (is also.0)
one_opening H root query proof OtherRoot _ is also = absurd also
one_opening H root query proof (SlotCount shown) OtherRoot is also = absurd (also is.0)
one_opening H root query proof (SlotCount shown) (SlotCount other) is also = ap SlotCount (is.1 ∙ sym also.1)
one_opening H root query proof (SlotCount shown) _ is also = absurd also
one_opening H root query proof _ b is also = absurd is

dictionary_fault : (H : List ℕ → List ℕ) (proof : Proof) (refusal : Refusal) → IsDictFault H proof refusal
    → IsDigestFault DictMisfit DictRoot (dict_digest H proof) proof.header.dict_root refusal
dictionary_fault H proof DictMisfit fault = inl (refl, fault)
dictionary_fault H proof DictRoot fault = inr (refl, fault)
dictionary_fault H proof _ fault = absurd fault

one_slot : (query : List (List ℕ × ℕ)) (proof : Proof) (a b : Refusal) → IsSlotsFault query proof a → IsSlotsFault query proof b → a ≡ b
one_slot query proof (SlotWrong term) (SlotWrong other) is also = ap SlotWrong (one_least (IsSlotRight query proof) term other is.wrong also.wrong is.before also.before)
one_slot query proof (SlotWrong term) _ is also = absurd also
one_slot query proof _ b is also = absurd is

one_unmet : (lanes : List ShownLane) (met : List ℕ) (a b : Refusal) → IsMetFault lanes met a → IsMetFault lanes met b → a ≡ b
one_unmet lanes met (Unmet index) (Unmet other) is also = ap Unmet (one_least (λ i. IsMet lanes (met_at met i)) index other is.unmet also.unmet is.before also.before)
one_unmet lanes met (Unmet index) _ is also = absurd also
one_unmet lanes met _ b is also = absurd is

one_row : (met answer : List ℕ) (a b : Refusal) → IsRowsFault met answer a → IsRowsFault met answer b → a ≡ b
one_row met answer (AnswerOut row) (AnswerOut other) is also = ap AnswerOut (one_out _ answer row other is also)
one_row met answer (AnswerOut row) (AnswerRepeated other) is also = absurd (out_or_again _ answer row other is also)
one_row met answer (AnswerOut row) _ is also = absurd also
one_row met answer (AnswerRepeated row) (AnswerOut other) is also = absurd (out_or_again _ answer other row also is)
one_row met answer (AnswerRepeated row) (AnswerRepeated other) is also = ap AnswerRepeated (one_again _ answer row other is also)
one_row met answer (AnswerRepeated row) _ is also = absurd also
one_row met answer _ b is also = absurd is

one_settled : (bounds : Bounding) (lanes : List ShownLane) (met answer : List ℕ) (r : ℕ) (a b : Refusal) → IsSettledFault bounds lanes met answer r a → IsSettledFault bounds lanes met answer r b → a ≡ b
one_settled bounds lanes met answer r NotSettled NotSettled is also = refl
one_settled bounds lanes met answer r NotSettled _ is also = absurd also
one_settled bounds lanes met answer r _ b is also = absurd is

-- each group of rules fails in one way, and does then not hold
exact_sections : (H : List ℕ → List ℕ) (root : List ℕ) (query : List (List ℕ × ℕ)) (proof : Proof) → AreExact (section_rules H root query proof)
exact_sections H root query proof =
    let lanes : List ShownLane = lanes_of query proof in (
      record { breaks = not_opened H root query proof; one = one_opening H root query proof },
      (
        digest_exact DictMisfit DictRoot (dict_digest H proof) proof.header.dict_root (IsDictFault H proof) (dictionary_fault H proof),
        (
          record { breaks = not_slots query proof; one = one_slot query proof },
          (
            record { breaks = not_lists H query proof; one = one_lists H query proof },
            (
              record { breaks = not_met lanes proof.met; one = one_unmet lanes proof.met },
              (
                docs_exact H proof.header proof.met proof.docs,
                (record { breaks = not_documents H query proof; one = one_documents H query proof }, tt),
              ),
            ),
          ),
        ),
      ),
    )

pub exact_shown : (H : List ℕ → List ℕ) (root : List ℕ) (query : List (List ℕ × ℕ)) (proof : Proof) → AreExact (shown_rules H root query proof)
exact_shown H root query proof =
    exact_both (section_rules H root query proof) (row_rule proof ∷ []) (exact_sections H root query proof)
    (record { breaks = not_rows proof.met proof.answer; one = one_row proof.met proof.answer }, tt)

exact : (H : List ℕ → List ℕ) (root : List ℕ) (query : List (List ℕ × ℕ)) (r : ℕ) (proof : Proof) → AreExact (rules H root query r proof)
exact H root query r proof =
    let lanes : List ShownLane = lanes_of query proof in
    exact_both (shown_rules H root query proof) (settled_rule query r proof ∷ []) (exact_shown H root query proof)
    (record { breaks = not_settled (bounds_of proof) lanes proof.met proof.answer r; one = one_settled (bounds_of proof) lanes proof.met proof.answer r }, tt)

-- the rules of what a proof shows: one fails first, and then not all hold
pub one_section : (H : List ℕ → List ℕ) (root : List ℕ) (query : List (List ℕ × ℕ)) (proof : Proof) (a b : Refusal)
    → IsFirstFault (section_rules H root query proof) a → IsFirstFault (section_rules H root query proof) b → a ≡ b
one_section H root query proof a b is also = one_first (section_rules H root query proof) a b (exact_sections H root query proof) is also

pub section_rules_do_not_hold : (H : List ℕ → List ℕ) (root : List ℕ) (query : List (List ℕ × ℕ)) (proof : Proof) (refusal : Refusal)
    → IsFirstFault (section_rules H root query proof) refusal → AllHold (section_rules H root query proof) → ⊥
section_rules_do_not_hold H root query proof refusal is hold = not_all_hold (section_rules H root query proof) refusal (exact_sections H root query proof) is hold

pub one_refusal : (H : List ℕ → List ℕ) (root : List ℕ) (query : List (List ℕ × ℕ)) (r : ℕ) (proof : Proof) (a b : Refusal)
    → IsFirstRefusal H root query r proof a → IsFirstRefusal H root query r proof b → a ≡ b
one_refusal H root query r proof a b is also = one_first (rules H root query r proof) a b (exact H root query r proof) is.first also.first

-- a proof that is accepted is not refused
pub not_both : (H : List ℕ → List ℕ) (root : List ℕ) (query : List (List ℕ × ℕ)) (r : ℕ) (proof : Proof) (refusal : Refusal)
    → Accepts H root query r proof → IsFirstRefusal H root query r proof refusal → ⊥
not_both H root query r proof refusal accepts is = not_all_hold (rules H root query r proof) refusal (exact H root query r proof) is.first accepts.holds

-- the same before the settling
pub one_shown_refusal : (H : List ℕ → List ℕ) (root : List ℕ) (query : List (List ℕ × ℕ)) (proof : Proof) (a b : Refusal)
    → IsFirstShownRefusal H root query proof a → IsFirstShownRefusal H root query proof b → a ≡ b
one_shown_refusal H root query proof a b is also = one_first (shown_rules H root query proof) a b (exact_shown H root query proof) is.first also.first

pub not_both_shown : (H : List ℕ → List ℕ) (root : List ℕ) (query : List (List ℕ × ℕ)) (proof : Proof) (refusal : Refusal)
    → AcceptsShown H root query proof → IsFirstShownRefusal H root query proof refusal → ⊥
not_both_shown H root query proof refusal accepts is = not_all_hold (shown_rules H root query proof) refusal (exact_shown H root query proof) is.first accepts.holds

-- a proof that is accepted has a result that is no refusal
pub shown_accepted : (H : List ℕ → List ℕ) (root : List ℕ) (query : List (List ℕ × ℕ)) (proof : Proof) (result : Result ℕ Refusal)
    → IfErr result (λ refusal. IsFirstShownRefusal H root query proof refusal) → AcceptsShown H root query proof → is_ok result ≡ true
shown_accepted H root query proof (Ok threshold) refused accepts = refl
shown_accepted H root query proof (Err refusal) refused accepts = absurd (not_both_shown H root query proof refusal accepts refused)
