-- The scores of texts are sums over their lists.
use Rattle.std.proofs.Common.{◌≡◌, ◌<◌, ◌+◌, ◌*◌, ℕ, Bool, true, false, nat_eq, nat_lt, cond, List, [], ◌∷◌, length, map, refl, sym, ap, subst, ◌∙◌, inl, inr, arith}
use Rattle.std.specs.List.{sum_by, filter, range_with_len}
use Rattle.std.proofs.Math.Nat.{add-mul}
use Rattle.std.proofs.lemmas.Bool.{cases_order, cases_Bool}
use Rattle.std.proofs.lemmas.Bool.Decides.{nat_tests}
use Rattle.std.proofs.lemmas.List.Sums.{sum_by-cons}
use Rattle.std.proofs.lemmas.List.Sorted.{sum_by-IsPermutation}
use Rattle.ats_impact.specs.Rank.{times}
use Rattle.ats_impact.specs.Score.{coefficient, part, score}
use Rattle.ats_postings.specs.Postings.{count_in, posting, postings, postings_of_run, text_of}
use Rattle.ats_postings.specs.Lists.{list}
use Rattle.ats_postings.proofs.Public.{list_is_sorted}
use Rattle.ats_bound.specs.Ranked.{impact_in}
use Rattle.ats_bound.proofs.Lanes.{share}
use Rattle.ats_bound.proofs.Places.{times-cons, range_once, range_has}

-- a value that counts at one number counts as often as that number occurs
weighted : (doc v : ℕ) (numbers : List ℕ) → sum_by (λ x. cond (nat_eq x doc) v 0) numbers ≡ times doc numbers * v
weighted doc v [] = omega arith
weighted doc v (x ∷ numbers) =
    let step = sum_by-cons (λ m. cond (nat_eq m doc) v 0) x numbers in
    let rest = weighted doc v numbers in
    elim (cases_Bool (nat_eq x doc)) [
      | inl same ↦
          let value : cond (nat_eq x doc) v 0 ≡ v = ap (λ b. cond b v 0) same in
          let count : times doc (x ∷ numbers) ≡ 1 + times doc numbers = times-cons doc x numbers ∙ ap (λ b. cond b 1 0 + times doc numbers) same in
          let scale : times doc (x ∷ numbers) * v ≡ 1 * v + times doc numbers * v = ap (λ m. m * v) count ∙ add-mul 1 (times doc numbers) v in
          omega (arith, step, value, rest, scale)
      | inr other ↦
          let value : cond (nat_eq x doc) v 0 ≡ 0 = ap (λ b. cond b v 0) other in
          let count : times doc (x ∷ numbers) ≡ 0 + times doc numbers = times-cons doc x numbers ∙ ap (λ b. cond b 1 0 + times doc numbers) other in
          let scale : times doc (x ∷ numbers) * v ≡ 0 * v + times doc numbers * v = ap (λ m. m * v) count ∙ add-mul 0 (times doc numbers) v in
          omega (arith, step, value, rest, scale)
    ]

module _ (texts : List (List ℕ)) (term : List ℕ) (doc : ℕ) where
  abbrev pub has : ℕ → Bool
  has x = nat_lt 0 (count_in texts term x)

  -- the term's impact in the document, or 0
  abbrev pub own : ℕ
  own = cond (has doc) (posting texts term doc).impact 0

  counted : (x : ℕ) → has x ≡ true → share doc (posting texts term x) ≡ cond (nat_eq x doc) own 0
  unfolding posting
  counted x is = elim (cases_order x doc) [
    | inl same ↦
        let yes : nat_eq x doc ≡ true = grind (arith, nat_tests) in
        let here : has doc ≡ true = subst (λ (d : ℕ). has d ≡ true) same is in
        rw (yes, here) (ap (λ d. (posting texts term d).impact) same)
    | inr other ↦
        let no : nat_eq x doc ≡ false = grind (arith, nat_tests) in
        rw no refl
  ]

  uncounted : (x : ℕ) → has x ≡ false → cond (nat_eq x doc) own 0 ≡ 0
  uncounted x is = elim (cases_order x doc) [
    | inl same ↦
        let yes : nat_eq x doc ≡ true = grind (arith, nat_tests) in
        let here : has doc ≡ false = subst (λ (d : ℕ). has d ≡ false) same is in
        rw (yes, here) refl
    | inr other ↦
        let no : nat_eq x doc ≡ false = grind (arith, nat_tests) in
        rw no refl
  ]

  gathered : (docs : List ℕ) → impact_in doc (map (posting texts term) (filter has docs)) ≡ sum_by (λ x. cond (nat_eq x doc) own 0) docs
  gathered [] = refl
  gathered (x ∷ docs) =
      let value = sum_by-cons (λ m. cond (nat_eq m doc) own 0) x docs in
      let first = sum_by-cons (share doc) (posting texts term x) (map (posting texts term) (filter has docs)) in
      elim (cases_Bool (has x)) [
        | inl is ↦ rw is (omega (arith, value, first, counted x is, gathered docs))
        | inr is ↦ rw is (omega (arith, value, uncounted x is, gathered docs))
      ]

  pub listed : doc < length texts → impact_in doc (list texts term) ≡ own
  unfolding postings_of_run
  listed low =
      let n : ℕ = length texts in
      let once : times doc (range_with_len 0 n) ≡ 1 = omega (arith, range_once doc 0 n, range_has doc n low) in
      let same : impact_in doc (list texts term) ≡ impact_in doc (postings texts term) =
      sum_by-IsPermutation (share doc) (postings texts term) (list texts term) (list_is_sorted texts term).same in
      let all : impact_in doc (postings texts term) ≡ times doc (range_with_len 0 n) * own = gathered (range_with_len 0 n) ∙ weighted doc own (range_with_len 0 n) in
      omega (arith, same, rw once at all)

-- what a term of the query adds
part_listed : (texts : List (List ℕ)) (doc : ℕ) (pair : List ℕ × ℕ) → doc < length texts
    → part texts (text_of texts doc) pair ≡ coefficient texts pair * impact_in doc (list texts pair.0)
unfolding part posting
part_listed texts doc pair low =
    let is = listed texts pair.0 doc low in
    elim (cases_Bool (nat_lt 0 (count_in texts pair.0 doc))) [
      | inl here ↦ rw (is, here) refl
      | inr out ↦ rw (is, out) (omega arith)
    ]

-- the score of a document is a sum over the lists of the query's terms
pub score_listed : (texts : List (List ℕ)) (query : List (List ℕ × ℕ)) (doc : ℕ) → doc < length texts
    → score texts query (text_of texts doc) ≡ sum_by (λ pair. coefficient texts pair * impact_in doc (list texts pair.0)) query
score_listed texts [] doc low = refl
score_listed texts (pair ∷ query) doc low =
    sum_by-cons (part texts (text_of texts doc)) pair query
    ∙ ap (λ n. n + score texts query (text_of texts doc)) (part_listed texts doc pair low)
    ∙ ap (λ n. coefficient texts pair * impact_in doc (list texts pair.0) + n) (score_listed texts query doc low)
    ∙ sym (sum_by-cons (λ p. coefficient texts p * impact_in doc (list texts p.0)) pair query)
