-- A group of rules that fails does not hold.
use Rattle.std.proofs.Common.{◌≡◌, ◌⊎◌, ◌<◌, ◌≤◌, ◌∙◌, ℕ, List, ◌∷◌, ◌++◌, length, true, nat_eq, cond, Option, Some, None, inl, inr, sym, ap, subst, arith}
use Rattle.std.proofs.lemmas.Bool.Decides.{nat_tests}
use Rattle.std.proofs.lemmas.List.Sums.{sum_by-append}
use Rattle.ats_impact.specs.Rank.{times}
use Rattle.ats_bound.proofs.Public.{times-cons}
use Rattle.ats_bound.specs.Cut.{ShownLane}
use Rattle.ats_bound.specs.Schedule.{Bounding}
use Rattle.ats_proof.specs.Value.{Proof}
use Rattle.ats_refusal.specs.declared.proof.Refusal.{Refusal}
use Rattle.ats_refusal.specs.declared.proof.Refusal.TheVariants.{OtherRoot, SlotCount, SlotWrong, IndexOut, Repeated, Unmet, AnswerOut, AnswerRepeated, NotSettled}
use Rattle.ats_client.specs.Presented.{Presented}
use Rattle.ats_client.specs.Indexes.{AreNames, IsOut, IsAgain}
use Rattle.ats_client.specs.Groups.{IsOther, IsOpened, IsOpeningFault, AreSlotsRight, IsSlotsFault, IsEntryFault, AreAllMet, IsMetFault, AreRowsRight, IsRowsFault, IsAnswerSettled, IsSettledFault, indexes_of}
use Rattle.ats_base.specs.Rules.{Group}
use Rattle.ats_base.proofs.Public.{IsExact, all_middle}

-- ---- one digest, which is missing or another one if the group fails

abbrev pub IsDigestFault : Refusal → Refusal → Option (List ℕ) → List ℕ → Refusal → Type 0
IsDigestFault misfit differs digest root refusal = ((refusal ≡ misfit) × (digest ≡ None)) ⊎ ((refusal ≡ differs) × IsOther digest root)

module _ (misfit differs : Refusal) (digest : Option (List ℕ)) (root : List ℕ) where
  missing_or_other : digest ≡ None → IsOther digest root → ⊥
  missing_or_other none other = let some = other.rebuilt in cc

  not_digest : (refusal : Refusal) → IsDigestFault misfit differs digest root refusal → digest ≡ Some root → ⊥
  not_digest refusal (inl fault) is = let none = fault.1 in cc
  not_digest refusal (inr fault) is = let rebuilt = fault.1.rebuilt in fault.1.differs (cc)

  one_digest : (a b : Refusal) → IsDigestFault misfit differs digest root a → IsDigestFault misfit differs digest root b → a ≡ b
  one_digest a b (inl is) (inl also) = is.0 ∙ sym also.0
  one_digest a b (inl is) (inr also) = absurd (missing_or_other is.1 also.1)
  one_digest a b (inr is) (inl also) = absurd (missing_or_other also.1 is.1)
  one_digest a b (inr is) (inr also) = is.0 ∙ sym also.0

  pub digest_exact : (fault : Refusal → Type 0) → ((refusal : Refusal) → fault refusal → IsDigestFault misfit differs digest root refusal)
      → IsExact (let group : Group Refusal = record { holds = digest ≡ Some root; fault = fault } in group)
  digest_exact fault reads = record {
    breaks = λ refusal fails. not_digest refusal (reads refusal fails);
    one = λ a b is also. one_digest a b (reads a is) (reads b also);
  }

-- ---- the other groups

-- no list of names has an index that is not below the number of met documents, or one that occurs before it
pub out_in : (met : ℕ) (before : List ℕ) (index : ℕ) (after : List ℕ) → met ≤ index → AreNames met (before ++ index ∷ after) → ⊥
out_in met before index after out names =
    let inside : index < met = all_middle (λ index. index < met) before index after names.inside in
    omega (arith, out, inside)

pub again_in : (met : ℕ) (before : List ℕ) (index : ℕ) (after : List ℕ) → 1 ≤ times index before → AreNames met (before ++ index ∷ after) → ⊥
again_in met before index after again names =
    let all = sum_by-append (λ y. cond (nat_eq y index) 1 0) before (index ∷ after) in
    let step = times-cons index index after in
    let same : nat_eq index index ≡ true = grind (arith, nat_tests) in
    let one : ◌≡◌ {A = ℕ} (cond (nat_eq index index) 1 0) 1 = ap (λ b. cond b 1 0) same in
    omega (arith, all, step, one, names.once index, again)

not_out : (met : ℕ) (indexes : List ℕ) (place : ℕ) → IsOut met indexes place → AreNames met indexes → ⊥
not_out met indexes place fault names = out_in met fault.before fault.index fault.after fault.out (subst (AreNames met) fault.stands names)

not_again : (met : ℕ) (indexes : List ℕ) (place : ℕ) → IsAgain met indexes place → AreNames met indexes → ⊥
not_again met indexes place fault names = again_in met fault.before fault.index fault.after fault.again (subst (AreNames met) fault.stands names)

pub not_opened : (H : List ℕ → List ℕ) (root : List ℕ) (query : List (List ℕ × ℕ)) (proof : Proof) (refusal : Refusal) → IsOpeningFault H root query proof refusal → IsOpened H root query proof → ⊥
not_opened H root query proof OtherRoot fault opened = fault opened.commits
not_opened H root query proof (SlotCount shown) fault opened = fault.2 (fault.1 ∙ opened.slots)
not_opened H root query proof _ fault opened = fault

pub not_slots : (query : List (List ℕ × ℕ)) (proof : Proof) (refusal : Refusal) → IsSlotsFault query proof refusal → AreSlotsRight query proof → ⊥
not_slots query proof (SlotWrong term) fault right = fault.wrong (right term fault.inside)
not_slots query proof _ fault right = fault

pub not_entries : (met : ℕ) (one : Presented) (refusal : Refusal) → IsEntryFault met one refusal → AreNames met (indexes_of one.prefix.entries) → ⊥
not_entries met one (IndexOut term entry) fault names = not_out met (indexes_of one.prefix.entries) entry fault.1 names
not_entries met one (Repeated term entry) fault names = not_again met (indexes_of one.prefix.entries) entry fault.1 names
not_entries met one _ fault names = fault

pub not_met : (lanes : List ShownLane) (met : List ℕ) (refusal : Refusal) → IsMetFault lanes met refusal → AreAllMet lanes met → ⊥
not_met lanes met (Unmet index) fault all = fault.unmet (all index fault.inside)
not_met lanes met _ fault all = fault

pub not_rows : (met answer : List ℕ) (refusal : Refusal) → IsRowsFault met answer refusal → AreRowsRight met answer → ⊥
not_rows met answer (AnswerOut row) fault right = not_out (length met) answer row fault right
not_rows met answer (AnswerRepeated row) fault right = not_again (length met) answer row fault right
not_rows met answer _ fault right = fault

pub not_settled : (bounds : Bounding) (lanes : List ShownLane) (met answer : List ℕ) (r : ℕ) (refusal : Refusal) → IsSettledFault bounds lanes met answer r refusal → IsAnswerSettled bounds lanes met answer r → ⊥
not_settled bounds lanes met answer r NotSettled fault settled = fault settled
not_settled bounds lanes met answer r _ fault settled = fault
