-- What is known of the met documents after one more entry.
use Rattle.std.proofs.Common.{◌≡◌, ◌≢◌, ◌<◌, ◌≤◌, ◌+◌, ◌||◌, ◌++◌, ◌∷◌, [], ℕ, Bool, true, false, nat_eq, List, length, map, set, get_or, refl, sym, ap, ap₂, subst, ◌∙◌, arith, inl, inr, length-append, length-set, get_or-set_same, get_or-set_other}
use Rattle.std.specs.List.{list_any}
use Rattle.std.proofs.lemmas.Bool.{cases_Bool, cases_eq, cases_lt}
use Rattle.std.proofs.lemmas.List.{get_or_append_left, get_or_default}
use Rattle.std.proofs.lemmas.List.Folds.{list_any-append, list_any_at, list_any_none}
use Rattle.std.proofs.Math.Seq.{get_or-append_seam, map-set_same}
use Rattle.ats_bound.specs.declared.met_documents.Met.{Met}
use Rattle.ats_bound.specs.Cut.{ShownLane, lo_of, names}
use Rattle.ats_bound.specs.Schedule.{most_gain}
use Rattle.ats_bound.specs.Inner.Cursors.{named_by}
use Rattle.ats_bound.specs.Inner.MetDocuments.{AreMetDocuments, IsKnown, IsUnmet, Meets, met_at, more_of}
use Rattle.ats_bound.proofs.Entered.{Enters, none_named, or_none}
use Rattle.ats_bound.proofs.One.{other_doc}

abbrev nothing : Met
nothing = record { doc = 0; lo = 0; named = 0 }

abbrev has_doc : ℕ → Met → Bool
has_doc q m = nat_eq m.doc q

-- lists of the same documents pass the same test of documents
same_docs : (q : ℕ) (xs ys : List Met) → map (λ (m : Met). m.doc) xs ≡ map (λ (m : Met). m.doc) ys → list_any (has_doc q) xs ≡ list_any (has_doc q) ys
same_docs q [] [] same = refl
same_docs q [] (y ∷ ys) same = absurd (cc)
same_docs q (x ∷ xs) [] same = absurd (cc)
same_docs q (x ∷ xs) (y ∷ ys) same =
    let first : x.doc ≡ y.doc = cc in
    let rest : map (λ (m : Met). m.doc) xs ≡ map (λ (m : Met). m.doc) ys = cc in
    ap (λ d. nat_eq d q || list_any (has_doc q) xs) first ∙ ap (λ b. nat_eq y.doc q || b) (same_docs q xs ys rest)

module _ (all after : List ShownLane) (met : List Met) (doc gain digit : ℕ) (known : AreMetDocuments all met) (enters : Enters all after doc gain digit)
    (little : gain ≤ most_gain) (some : 1 ≤ digit) where
  -- nothing more is known of another document
  unchanged : (m : Met) → m.doc ≢ doc → IsKnown all m → IsKnown after m
  unchanged m differ is =
      let same = enters.others m.doc differ in
      record { lo = is.lo ∙ sym same.0; named = is.named ∙ sym same.1; few = is.few }

  slot_after : (slot : ℕ) → slot < length met → (met_at met slot).doc ≡ doc → AreMetDocuments after (set met slot (more_of (met_at met slot) gain digit))
  slot_after slot inside is_doc =
      let m : Met = met_at met slot in
      let more : Met = more_of m gain digit in
      let size : length (set met slot more) ≡ length met = length-set met slot more in
      let here : met_at (set met slot more) slot ≡ more = get_or-set_same met slot more nothing inside in
      let docs : (i : ℕ) → (met_at (set met slot more) i).doc ≡ (met_at met i).doc = λ i. elim (cases_eq i slot) [
        | inl same ↦ ap (λ n. (met_at (set met slot more) n).doc) same ∙ ap (λ (x : Met). x.doc) here ∙ ap (λ n. (met_at met n).doc) (sym same)
        | inr other ↦ ap (λ (x : Met). x.doc) (get_or-set_other met slot i more nothing other)
      ] in
      record {
        once = λ i j less low same. known.once i j less (omega (arith, low, size)) (sym (docs i) ∙ same ∙ docs j);
        named = λ q.
            same_docs q (set met slot more) met (map-set_same (λ (x : Met). x.doc) met slot more nothing refl) ∙ known.named q
            ∙ elim (cases_Bool (nat_eq doc q)) [
              | inl yes_doc ↦
                  let there : nat_eq m.doc q ≡ true = ap (λ n. nat_eq n q) is_doc ∙ yes_doc in
                  let found : list_any (names q) all ≡ true = sym (known.named q) ∙ list_any_at (has_doc q) met slot nothing inside there in
                  found ∙ sym (ap (λ b. b || nat_eq doc q) found)
              | inr other ↦ sym (ap (λ b. list_any (names q) all || b) other ∙ or_none (list_any (names q) all))
            ]
            ∙ sym (enters.any q);
        each = λ i low. elim (cases_eq i slot) [
          | inl same ↦
              let was : IsKnown all m = known.each slot inside in
              let is : IsKnown after more = record {
                lo = ap (λ n. n + gain) was.lo ∙ ap (λ n. lo_of all n + gain) is_doc ∙ sym enters.lo ∙ ap (lo_of after) (sym is_doc);
                named = ap (λ n. n + digit) was.named ∙ ap (λ n. named_by all n + digit) is_doc ∙ sym enters.named ∙ ap (named_by after) (sym is_doc);
                few = omega (arith, was.few, little, some);
              } in
              subst (IsKnown after) (sym (ap (λ n. met_at (set met slot more) n) same ∙ here)) is
          | inr other ↦
              let same : met_at (set met slot more) i ≡ met_at met i = get_or-set_other met slot i more nothing other in
              let before : i < length met = omega (arith, low, size) in
              let differ : (met_at met i).doc ≢ doc = λ e. elim (cases_lt i slot) [
                | inl less ↦ known.once i slot less inside (e ∙ sym is_doc)
                | inr le ↦ known.once slot i (omega (arith, le, other)) before (is_doc ∙ sym e)
              ] in
              subst (IsKnown after) (sym same) (unchanged (met_at met i) differ (known.each i before))
        ];
      }

  fresh_after : IsUnmet met doc → AreMetDocuments after (met ++ record { doc = doc; lo = gain; named = digit } ∷ [])
  fresh_after unmet =
      let new : Met = record { doc = doc; lo = gain; named = digit } in
      let size : length (met ++ new ∷ []) ≡ length met + 1 = length-append met (new ∷ []) in
      let last : met_at (met ++ new ∷ []) (length met) ≡ new = get_or-append_seam met new [] nothing in
      let front : (i : ℕ) → i < length met → met_at (met ++ new ∷ []) i ≡ met_at met i = λ i low. get_or_append_left met (new ∷ []) nothing i low in
      let out : list_any (names doc) all ≡ false = sym (known.named doc) ∙ list_any_none (has_doc doc) met (λ i d low.
      other_doc (get_or met i d).doc doc (λ e. unmet i low (ap (λ (x : Met). x.doc) (get_or_default met i nothing d low) ∙ e))) in
      let none = none_named all doc out in
      record {
        once = λ i j less low same.
            let here : i < length met = omega (arith, less, low, size) in
            elim (cases_lt j (length met)) [
              | inl before ↦ known.once i j less before (sym (ap (λ (x : Met). x.doc) (front i here)) ∙ same ∙ ap (λ (x : Met). x.doc) (front j before))
              | inr past ↦
                  let place : j ≡ length met = omega (arith, past, low, size) in
                  unmet i here (sym (ap (λ (x : Met). x.doc) (front i here)) ∙ same ∙ ap (λ n. (met_at (met ++ new ∷ []) n).doc) place ∙ ap (λ (x : Met). x.doc) last)
            ];
        named = λ q. list_any-append (has_doc q) met (new ∷ []) ∙ ap₂ (λ a b. a || b) (known.named q) (or_none (nat_eq doc q)) ∙ sym (enters.any q);
        each = λ i low. elim (cases_lt i (length met)) [
          | inl before ↦ subst (IsKnown after) (sym (front i before)) (unchanged (met_at met i) (unmet i before) (known.each i before))
          | inr past ↦
              let place : i ≡ length met = omega (arith, past, low, size) in
              let is : IsKnown after new = record {
                lo = omega (arith, enters.lo, none.0);
                named = omega (arith, enters.named, none.1);
                few = omega (arith, little, some);
              } in
              subst (IsKnown after) (sym (ap (λ n. met_at (met ++ new ∷ []) n) place ∙ last)) is
        ];
      }

  pub known_after : (later : List Met) → Meets met later doc gain digit → AreMetDocuments after later
  known_after later meets = elim meets [
    | inl found ↦ subst (AreMetDocuments after) (sym found.3) (slot_after found.0 found.1 found.2)
    | inr new ↦ subst (AreMetDocuments after) (sym new.1) (fresh_after new.0)
  ]
