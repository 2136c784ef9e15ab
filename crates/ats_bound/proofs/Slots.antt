-- Each document has one slot.
use Rattle.std.proofs.Common.{◌≡◌, ◌≢◌, ◌<◌, ◌+◌, ◌++◌, ◌∷◌, [], ℕ, List, length, set, sym, ap, ◌∙◌, arith, inl, inr, length-append, length-set, get_or-set_same, get_or-set_other}
use Rattle.std.specs.Option.{MatchOption}
use Rattle.std.specs.declared.option.Option.{Option}
use Rattle.std.specs.declared.option.Option.TheVariants.{None, Some}
use Rattle.std.proofs.lemmas.Bool.{cases_eq, cases_lt}
use Rattle.std.proofs.lemmas.List.{get_or_append_left}
use Rattle.std.proofs.Math.Seq.{get_or-append_seam}
use Rattle.ats_bound.specs.declared.met_documents.Met.{Met}
use Rattle.ats_bound.specs.Inner.MetDocuments.{AreOnce, AreSlots, met_at}

abbrev nothing : Met
nothing = record { doc = 0; lo = 0; named = 0 }

pub slot_found : (met : List Met) (slots : ℕ → Option ℕ) (doc : ℕ) (found : Option ℕ) → AreSlots met slots → found ≡ slots doc
    → MatchOption found ((slot : ℕ) → slot < length met → (met_at met slot).doc ≢ doc) (λ slot. (slot < length met) × ((met_at met slot).doc ≡ doc))
slot_found met slots doc None are is = λ slot inside same.
    let here : slots doc ≡ Some slot = ap slots (sym same) ∙ are.each slot inside in
    absurd (cc)
slot_found met slots doc (Some slot) are is = are.found doc slot (sym is)

pub slots_once : (met : List Met) (slots : ℕ → Option ℕ) → AreSlots met slots → AreOnce met
slots_once met slots are i j less inside same =
    let here : slots (met_at met i).doc ≡ Some i = are.each i (omega (arith, less, inside)) in
    let there : slots (met_at met j).doc ≡ Some j = are.each j inside in
    let both : Some i ≡ Some j = sym here ∙ ap slots same ∙ there in
    let is : i ≡ j = cc in
    omega (arith, less, is)

-- a document more takes the next slot
pub slots_after : (met : List Met) (m : Met) (slots after : ℕ → Option ℕ) → AreSlots met slots → ((slot : ℕ) → slot < length met → (met_at met slot).doc ≢ m.doc)
    → after m.doc ≡ Some (length met) → ((doc : ℕ) → doc ≢ m.doc → after doc ≡ slots doc) → AreSlots (met ++ m ∷ []) after
slots_after met m slots after are fresh here others =
    let size : length (met ++ m ∷ []) ≡ length met + 1 = length-append met (m ∷ []) in
    let last : met_at (met ++ m ∷ []) (length met) ≡ m = get_or-append_seam met m [] nothing in
    record {
      found = λ doc slot is. elim (cases_eq doc m.doc) [
        | inl same ↦
            let both : Some slot ≡ Some (length met) = sym is ∙ ap after same ∙ here in
            let place : slot ≡ length met = cc in
            (omega (arith, size, place), ap (λ n. (met_at (met ++ m ∷ []) n).doc) place ∙ ap (λ (x : Met). x.doc) last ∙ sym same)
        | inr other ↦
            let before = are.found doc slot (sym (others doc other) ∙ is) in
            (omega (arith, size, before.0), ap (λ (x : Met). x.doc) (get_or_append_left met (m ∷ []) nothing slot before.0) ∙ before.1)
      ];
      each = λ slot inside. elim (cases_lt slot (length met)) [
        | inl before ↦
            let is : met_at (met ++ m ∷ []) slot ≡ met_at met slot = get_or_append_left met (m ∷ []) nothing slot before in
            ap (λ (x : Met). after x.doc) is ∙ others (met_at met slot).doc (fresh slot before) ∙ are.each slot before
        | inr past ↦
            let place : slot ≡ length met = omega (arith, past, inside, size) in
            ap (λ n. after (met_at (met ++ m ∷ []) n).doc) place ∙ ap (λ (x : Met). after x.doc) last ∙ here ∙ ap (λ n. Some n) (sym place)
      ];
    }

-- what else is known of a document changes no slot
pub slots_set : (met : List Met) (m : Met) (slot : ℕ) (slots : ℕ → Option ℕ) → AreSlots met slots → slot < length met → m.doc ≡ (met_at met slot).doc → AreSlots (set met slot m) slots
slots_set met m slot slots are inside same =
    let size : length (set met slot m) ≡ length met = length-set met slot m in
    let docs : (i : ℕ) → (met_at (set met slot m) i).doc ≡ (met_at met i).doc = λ i. elim (cases_eq i slot) [
      | inl here ↦ ap (λ n. (met_at (set met slot m) n).doc) here ∙ ap (λ (x : Met). x.doc) (get_or-set_same met slot m nothing inside) ∙ same ∙ ap (λ n. (met_at met n).doc) (sym here)
      | inr other ↦ ap (λ (x : Met). x.doc) (get_or-set_other met slot i m nothing other)
    ] in
    record {
      found = λ doc i is.
          let before = are.found doc i is in
          (omega (arith, size, before.0), docs i ∙ before.1);
      each = λ i low. ap slots (docs i) ∙ are.each i (omega (arith, size, low));
    }
