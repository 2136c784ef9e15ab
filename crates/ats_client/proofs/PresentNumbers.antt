-- The numbers of the present terms, from slots and from the present terms themselves.
use Rattle.std.proofs.Common.{◌≡◌, ◌∙◌, ◌<◌, ◌≤◌, ◌+◌, ℕ, cond, List, [], ◌∷◌, length, map, drop, refl, sym, ap, subst, inl, inr, arith}
use Rattle.std.specs.List.{All}
use Rattle.std.proofs.lemmas.Bool.{cases_Bool}
use Rattle.std.proofs.lemmas.List.{length-map}
use Rattle.std.proofs.lemmas.List.Elements.{All-nil, All-cons}
use Rattle.std.proofs.lemmas.Simd.{map-map}
use Rattle.ats_proof.specs.declared.record.Slot.{Slot}
use Rattle.ats_proof.specs.Value.{ShownEntry, Prefix, Proof, present_in}
use Rattle.ats_client.specs.declared.kept_terms.PresentTerm.{PresentTerm}
use Rattle.ats_client.specs.Documents.{present_from, present_numbers}
use Rattle.ats_client.specs.Presented.{Presented, presented_from, presented}
use Rattle.ats_client.specs.Inner.KeptTerms.{kept_term, kept_terms, numbers_of}
use Rattle.ats_client.proofs.HeadlineTerms.{kind_absent, kind_present}
use Rattle.ats_client.proofs.TermsLeft.{each_by}

present_numbered : (dict : List ShownEntry) (n : ℕ) (query : List (List ℕ × ℕ)) (slots : List Slot) (lists : List Prefix) → length slots ≡ length query
    → map (λ (one : Presented). one.number) (presented_from dict n query slots lists) ≡ present_from n slots
present_numbered dict n [] [] lists size = refl
present_numbered dict n [] (slot ∷ slots) lists size = absurd (omega (arith, size))
present_numbered dict n (pair ∷ query) [] lists size = absurd (omega (arith, size))
present_numbered dict n (pair ∷ query) (slot ∷ slots) lists size =
    let fewer : length slots ≡ length query = omega (arith, size) in
    elim (cases_Bool slot.present) [
      | inl is ↦ rw is (ap (λ (ns : List ℕ). n ∷ ns) (present_numbered dict (n + 1) query slots (drop 1 lists) fewer))
      | inr absent ↦ rw absent (present_numbered dict (n + 1) query slots lists fewer)
    ]

numbers_counted : (n : ℕ) (slots : List Slot) → length (present_from n slots) ≡ present_in slots
numbers_counted n [] = refl
numbers_counted n (slot ∷ slots) =
    let rest : List ℕ = present_from (n + 1) slots in
    let later : length rest ≡ present_in slots = numbers_counted (n + 1) slots in
    elim (cases_Bool slot.present) [
      | inl is ↦
          let one : length (present_from n (slot ∷ slots)) ≡ 1 + length rest = ap (λ b. length (cond b (n ∷ rest) rest)) is ∙ omega arith in
          one ∙ ap (λ k. 1 + k) later ∙ kind_present slot slots (present_in (slot ∷ slots)) is refl
      | inr absent ↦
          let same : length (present_from n (slot ∷ slots)) ≡ length rest = ap (λ b. length (cond b (n ∷ rest) rest)) absent in
          same ∙ later ∙ kind_absent slot slots (present_in (slot ∷ slots)) absent refl
    ]

numbers_within : (n most : ℕ) (slots : List Slot) → n + length slots ≤ most → All (λ number. number < most) (present_from n slots)
numbers_within n most [] fits = All-nil (λ number. number < most)
numbers_within n most (slot ∷ slots) fits =
    let later = numbers_within (n + 1) most slots (omega (arith, fits)) in
    elim (cases_Bool slot.present) [
      | inl is ↦ rw is (All-cons (λ number. number < most) n (present_from (n + 1) slots) (omega (arith, fits)) later)
      | inr absent ↦ rw absent later
    ]

module _ (query : List (List ℕ × ℕ)) (proof : Proof) (size : length proof.slots ≡ length query) where
  -- the present terms have the numbers of the slots that say that a term is present
  pub presented_numbers : map (λ (one : Presented). one.number) (presented query proof) ≡ present_numbers proof
  presented_numbers = present_numbered proof.dict 0 query proof.slots proof.lists size

  -- the kept terms have the numbers of the slots that say that a term is present
  pub kept_numbers : numbers_of (kept_terms query proof) ≡ present_numbers proof
  kept_numbers =
      map-map (λ (term : PresentTerm). term.number) (kept_term proof.header.documents) (presented query proof)
      ∙ presented_numbers

  -- there is one for each such slot
  pub kept_count : length (kept_terms query proof) ≡ present_in proof.slots
  kept_count =
      sym (length-map (kept_terms query proof) (λ (term : PresentTerm). term.number)) ∙ ap length kept_numbers ∙ numbers_counted 0 proof.slots

  -- each is the number of a term of the query
  pub kept_within : All (λ (term : PresentTerm). term.number < length query) (kept_terms query proof)
  kept_within =
      each_by (λ number. number < length query) (λ (term : PresentTerm). term.number) (kept_terms query proof)
      (subst (All (λ number. number < length query)) (sym kept_numbers) (numbers_within 0 (length query) proof.slots (omega (arith, size))))
