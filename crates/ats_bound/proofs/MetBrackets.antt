-- The brackets of what is known are those of the cut.
use Rattle.std.proofs.Common.{◌≡◌, ◌≢◌, ◌<◌, ◌≤◌, ◌||◌, ℕ, suc, Bool, true, false, nat_eq, cond, List, [], ◌∷◌, length, map, get_or, refl, sym, ap, ◌∙◌, arith, inl, inr}
use Rattle.std.specs.Prelude.{leb, count_by}
use Rattle.std.specs.List.{All, list_any, remove, sum_by}
use Rattle.std.specs.List.Sorted.{IsPermutation, IsSorted}
use Rattle.std.proofs.lemmas.Bool.{cases_eq, cases_lt, eqb-true}
use Rattle.std.proofs.lemmas.List.{get_or-map, get_or_default, length-map}
use Rattle.std.proofs.lemmas.List.Elements.{All-head, All-map, All-tail}
use Rattle.std.proofs.lemmas.List.Folds.{Any-from_list_any, list_any_at}
use Rattle.std.proofs.lemmas.List.Sums.{sum_by-cons}
use Rattle.std.proofs.lemmas.List.Sorted.{All-permutation, IsNonDecreasingBy-from_sort, IsPermutation-map, IsPermutation-remove, list_any-IsPermutation, sum_by-IsPermutation}
use Rattle.ats_impact.specs.Rank.{times}
use Rattle.ats_bound.specs.declared.bracket.Bracket.{Bracket}
use Rattle.ats_bound.specs.declared.met_documents.Met.{Met}
use Rattle.ats_bound.specs.Inner.Best.{count_at_least}
use Rattle.ats_bound.specs.Cut.{ShownLane, bracket, lo_of}
use Rattle.ats_bound.specs.Inner.MetDocuments.{AreMetDocuments, AreOnce, IsKnown, lows, met_at}
use Rattle.ats_bound.specs.Inner.Placed.{doc_cmp}
use Rattle.ats_bound.specs.Schedule.{AreBracketsOf, has_bracket}
use Rattle.ats_bound.specs.Settled.{HaveDistinctDocs, bracket_at}
use Rattle.ats_bound.proofs.One.{Rise, other_doc, risen_are_distinct, same_doc}
use Rattle.ats_bound.proofs.Places.{position_of, stands_twice, times-cons, times_same}

abbrev nothing : Met
nothing = record { doc = 0; lo = 0; named = 0 }

abbrev none : Bracket
none = record { doc = 0; lo = 0; hi = 0 }

-- the brackets of what is known, slot by slot
abbrev pub brackets_of : List ShownLane → List Met → List Bracket
brackets_of lanes met = map (λ (m : Met). bracket lanes m.doc) met

has_of : (lanes : List ShownLane) (doc : ℕ) (met : List Met) → has_bracket doc (brackets_of lanes met) ≡ list_any (λ (m : Met). nat_eq m.doc doc) met
has_of lanes doc [] = refl
has_of lanes doc (m ∷ met) = ap (λ b. nat_eq m.doc doc || b) (has_of lanes doc met)

abbrev docs : List Bracket → List ℕ
docs brackets = map (λ (b : Bracket). b.doc) brackets

docs_of : (lanes : List ShownLane) (met : List Met) → docs (brackets_of lanes met) ≡ map (λ (m : Met). m.doc) met
docs_of lanes [] = refl
docs_of lanes (m ∷ met) = ap (λ rest. m.doc ∷ rest) (docs_of lanes met)

tail_once : (m : Met) (met : List Met) → AreOnce (m ∷ met) → AreOnce met
tail_once m met once i j less inside = once (suc i) (suc j) (omega (arith, less)) (omega (arith, inside))

once_times : (met : List Met) → AreOnce met → (n : ℕ) → times n (map (λ (m : Met). m.doc) met) ≤ 1
once_times [] once n = omega arith
once_times (m ∷ met) once n =
    let all : List ℕ = map (λ (m : Met). m.doc) met in
    let later : times n all ≤ 1 = once_times met (tail_once m met once) n in
    elim (cases_eq m.doc n) [
      | inl same ↦ elim (cases_lt 0 (times n all)) [
        | inl some ↦
            let found = position_of n all some in
            let low : found.0 < length met = omega (arith, found.1, length-map met (λ (m : Met). m.doc)) in
            let there : (met_at met found.0).doc ≡ n = sym (get_or-map (λ (m : Met). m.doc) met found.0 nothing 0 low) ∙ found.2 in
            absurd (once 0 (suc found.0) (omega arith) (omega (arith, low)) (same ∙ sym there))
        | inr none ↦ omega (arith, times_same n m.doc all same, none)
      ]
      | inr differ ↦ omega (arith, times-cons n m.doc all, ap {A = Bool} {B = ℕ} (λ b. cond b 1 0) (other_doc m.doc n differ), later)
    ]

pub known_distinct : (lanes : List ShownLane) (met : List Met) → AreOnce met → HaveDistinctDocs (brackets_of lanes met)
known_distinct lanes met once n = rw (docs_of lanes met) (once_times met once n)

permuted_distinct : (xs ys : List Bracket) → IsPermutation xs ys → HaveDistinctDocs xs → HaveDistinctDocs ys
permuted_distinct xs ys same distinct n =
    omega (arith, distinct n, sum_by-IsPermutation (λ x. cond (nat_eq x n) 1 0) (docs xs) (docs ys) (IsPermutation-map (λ (b : Bracket). b.doc) xs ys same))

-- sorted by document, brackets of distinct documents rise
distinct_rise : (brackets : List Bracket) → HaveDistinctDocs brackets → IsSorted doc_cmp brackets → Rise brackets
distinct_rise brackets distinct ordered i j less inside =
    let size : length (docs brackets) ≡ length brackets = length-map brackets (λ (b : Bracket). b.doc) in
    let at : (k : ℕ) → k < length brackets → get_or (docs brackets) k 0 ≡ (bracket_at brackets k).doc = λ k low. get_or-map (λ (b : Bracket). b.doc) brackets k none 0 low in
    let no_less : (bracket_at brackets i).doc ≤ (bracket_at brackets j).doc = IsNonDecreasingBy-from_sort (λ (b : Bracket). b.doc) brackets ordered i j none (omega (arith, less)) inside in
    let differ : (bracket_at brackets i).doc ≢ (bracket_at brackets j).doc = λ same.
    let twice = stands_twice (docs brackets) i j less (omega (arith, inside, size)) (at i (omega (arith, less, inside)) ∙ same ∙ sym (at j inside)) in
    omega (arith, twice, distinct (get_or (docs brackets) j 0)) in
    omega (arith, no_less, differ)

-- sorted by document they are those of the cut
pub sorted_are_brackets : (lanes : List ShownLane) (met : List Met) (brackets : List Bracket) → AreMetDocuments lanes met → IsPermutation (brackets_of lanes met) brackets → IsSorted doc_cmp brackets
    → AreBracketsOf lanes brackets
sorted_are_brackets lanes met brackets known same ordered = record {
  rise = distinct_rise brackets (permuted_distinct (brackets_of lanes met) brackets same (known_distinct lanes met known.once)) ordered;
  met = λ doc. sym (list_any-IsPermutation (λ (b : Bracket). nat_eq b.doc doc) (brackets_of lanes met) brackets same) ∙ has_of lanes doc met ∙ known.named doc;
  each = All-permutation (λ (b : Bracket). b ≡ bracket lanes b.doc) _ _ same (All-map (λ (b : Bracket). b ≡ bracket lanes b.doc) (λ (m : Met). bracket lanes m.doc) met (λ i d inside. refl));
}

-- ---- brackets of the same documents, in whatever order, have one sum

has_none : (q : ℕ) (xs : List Bracket) → times q (docs xs) ≡ 0 → has_bracket q xs ≡ false
has_none q [] is = refl
has_none q (b ∷ xs) is = elim (cases_eq b.doc q) [
  | inl same ↦ absurd (omega (arith, times_same q b.doc (docs xs) same, is))
  | inr differ ↦
      let no : nat_eq b.doc q ≡ false = other_doc b.doc q differ in
      ap (λ t. t || has_bracket q xs) no ∙ has_none q xs (omega (arith, times-cons q b.doc (docs xs), is))
]

module _ (f : Bracket → ℕ) (bounds : ℕ → Bracket) where
  same_sum : (xs ys : List Bracket) → HaveDistinctDocs xs → HaveDistinctDocs ys → ((q : ℕ) → has_bracket q xs ≡ has_bracket q ys)
      → All (λ (b : Bracket). b ≡ bounds b.doc) xs → All (λ (b : Bracket). b ≡ bounds b.doc) ys → sum_by f xs ≡ sum_by f ys
  same_sum [] [] one two same first second = refl
  same_sum [] (b ∷ ys) one two same first second =
      let clash : false ≡ true = same b.doc ∙ ap (λ t. t || has_bracket b.doc ys) (same_doc b.doc b.doc refl) in
      absurd (cc)
  same_sum (a ∷ xs) ys one two same first second =
      let here : has_bracket a.doc ys ≡ true = sym (same a.doc) ∙ ap (λ t. t || has_bracket a.doc xs) (same_doc a.doc a.doc refl) in
      let any = Any-from_list_any (λ (b : Bracket). nat_eq b.doc a.doc) ys here in
      let b : Bracket = any.1 in
      let rest : List Bracket = remove ys any.0 in
      let moved : IsPermutation ys (b ∷ rest) = IsPermutation-remove ys any.0 b any.2 (sym any.3) in
      let is_doc : b.doc ≡ a.doc = eqb-true _ _ any.4 in
      let distinct : HaveDistinctDocs (b ∷ rest) = permuted_distinct ys (b ∷ rest) moved two in
      let all : All (λ (b : Bracket). b ≡ bounds b.doc) (b ∷ rest) = All-permutation (λ (b : Bracket). b ≡ bounds b.doc) ys (b ∷ rest) moved second in
      let b_is : b ≡ bounds b.doc = All-head (λ (b : Bracket). b ≡ bounds b.doc) b rest all in
      let a_is : a ≡ bounds a.doc = All-head (λ (b : Bracket). b ≡ bounds b.doc) a xs first in
      let value : f b ≡ f a = ap f (b_is ∙ ap bounds is_doc ∙ sym a_is) in
      let total : sum_by f (b ∷ rest) ≡ sum_by f ys = sum_by-IsPermutation f ys (b ∷ rest) moved in
      let later : sum_by f xs ≡ sum_by f rest =
      same_sum xs rest
      (λ n. omega (arith, times-cons n a.doc (docs xs), one n))
      (λ n. omega (arith, times-cons n b.doc (docs rest), distinct n))
      (λ q. elim (cases_eq a.doc q) [
        | inl is_q ↦
            let first_gone : times q (docs xs) ≡ 0 = omega (arith, times_same q a.doc (docs xs) is_q, one q) in
            let second_gone : times q (docs rest) ≡ 0 = omega (arith, times_same q b.doc (docs rest) (is_doc ∙ is_q), distinct q) in
            has_none q xs first_gone ∙ sym (has_none q rest second_gone)
        | inr differ ↦
            let no_a : nat_eq a.doc q ≡ false = other_doc a.doc q differ in
            let no_b : nat_eq b.doc q ≡ false = other_doc b.doc q (λ e. differ (sym is_doc ∙ e)) in
            sym (ap (λ t. t || has_bracket q xs) no_a) ∙ same q ∙ list_any-IsPermutation (λ (b : Bracket). nat_eq b.doc q) ys (b ∷ rest) moved ∙ ap (λ t. t || has_bracket q rest) no_b
      ])
      (All-tail (λ (b : Bracket). b ≡ bounds b.doc) a xs first)
      (All-tail (λ (b : Bracket). b ≡ bounds b.doc) b rest all) in
      omega (arith, sum_by-cons f a xs, sum_by-cons f b rest, total, value, later)

count_lows : (t : ℕ) (lanes : List ShownLane) (met : List Met) → ((slot : ℕ) → slot < length met → IsKnown lanes (met_at met slot)) → count_by (λ (b : Bracket). leb t b.lo) (brackets_of lanes met) ≡ count_at_least t (lows met)
count_lows t lanes [] each = refl
count_lows t lanes (m ∷ met) each =
    let here : m.lo ≡ lo_of lanes m.doc = (each 0 (omega arith)).lo in
    let later = count_lows t lanes met (λ slot inside. each (suc slot) (omega (arith, inside))) in
    omega (
      arith,
      sum_by-cons (λ (b : Bracket). cond (leb t b.lo) 1 0) (bracket lanes m.doc) (brackets_of lanes met),
      sum_by-cons (λ x. cond (leb t x) 1 0) m.lo (lows met),
      ap {A = ℕ} {B = ℕ} (λ n. cond (leb t n) 1 0) here,
      later,
    )

-- what is summed over the brackets of the cut is summed over the slots
pub sums_agree : (f : Bracket → ℕ) (lanes : List ShownLane) (met : List Met) (brackets : List Bracket) → AreMetDocuments lanes met → AreBracketsOf lanes brackets
    → sum_by f brackets ≡ sum_by f (brackets_of lanes met)
sums_agree f lanes met brackets known are =
    same_sum f (bracket lanes) brackets (brackets_of lanes met)
    (risen_are_distinct brackets are.rise) (known_distinct lanes met known.once)
    (λ q. are.met q ∙ sym (known.named q) ∙ sym (has_of lanes q met))
    are.each (All-map (λ (b : Bracket). b ≡ bracket lanes b.doc) (λ (m : Met). bracket lanes m.doc) met (λ i d inside. refl))

-- as many brackets of the cut as lower bounds that are known reach a number
pub counts_agree : (t : ℕ) (lanes : List ShownLane) (met : List Met) (brackets : List Bracket) → AreMetDocuments lanes met → AreBracketsOf lanes brackets
    → count_by (λ (b : Bracket). leb t b.lo) brackets ≡ count_at_least t (lows met)
counts_agree t lanes met brackets known are =
    sums_agree (λ (b : Bracket). cond (leb t b.lo) 1 0) lanes met brackets known are ∙ count_lows t lanes met known.each

-- the bracket of what a slot knows is among the brackets of the cut
pub bracket_of_slot : (lanes : List ShownLane) (met : List Met) (brackets : List Bracket) (slot : ℕ) → AreMetDocuments lanes met → AreBracketsOf lanes brackets → slot < length met
    → (i : ℕ) × (i < length brackets) × (bracket_at brackets i ≡ bracket lanes (met_at met slot).doc)
bracket_of_slot lanes met brackets slot known are inside =
    let doc : ℕ = (met_at met slot).doc in
    let here : has_bracket doc brackets ≡ true = are.met doc ∙ sym (known.named doc) ∙ list_any_at (λ (m : Met). nat_eq m.doc doc) met slot nothing inside (same_doc doc doc refl) in
    let any = Any-from_list_any (λ (b : Bracket). nat_eq b.doc doc) brackets here in
    let there : bracket_at brackets any.0 ≡ any.1 = get_or_default brackets any.0 none any.1 any.2 ∙ any.3 in
    let is : bracket_at brackets any.0 ≡ bracket lanes (bracket_at brackets any.0).doc = are.each any.0 none any.2 in
    (any.0, any.2, is ∙ ap (bracket lanes) (ap (λ (b : Bracket). b.doc) there ∙ eqb-true _ _ any.4))
