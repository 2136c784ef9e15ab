-- With known scores the chosen answer is settled exactly if the necessary test passes.
use Rattle.std.proofs.Common.{◌≡◌, ◌≢◌, ◌<◌, ◌≤◌, ◌↔◌, ◌+◌, ◌-◌, ◌^◌, ℕ, zero, suc, leb, Bool, List, [], ◌∷◌, length, map, take, drop, set, get_or, refl, sym, subst, ap, ◌∙◌, inl, inr, arith, length-take, length-drop, length-set, get_or-set_other}
use Rattle.ats_impact.specs.Rank.{times}
use Rattle.std.specs.List.{All, count_by, range_with_len}
use Rattle.std.proofs.lemmas.List.Elements.{All-head, All-tail}
use Rattle.std.specs.List.Sorted.{IsPermutation, IsSorted}
use Rattle.std.specs.Bool.{IsTrue}
use Rattle.std.specs.Map.{values_of}
use Rattle.std.proofs.lemmas.Bool.{cases_lt, le-leb, leb-true}
use Rattle.std.proofs.lemmas.List.{ext_get_or, get_or_default, get_or-map, get_or-take, get_or-drop, length-map}
use Rattle.std.proofs.lemmas.List.FromFn.{get_or-range_with_len, length-range_with_len}
use Rattle.std.proofs.lemmas.List.Sums.{count_by-le-length, sum_by-cons, sum_by-take-drop}
use Rattle.std.proofs.lemmas.List.Sorted.{IsPermutation-map, length_permutation}
use Rattle.ats_bound.specs.declared.bracket.Bracket.{Bracket}
use Rattle.ats_bound.specs.Inner.Best.{AreBest, count_at_least}
use Rattle.ats_bound.specs.Cursors.{Stage, shown_on}
use Rattle.ats_bound.specs.Cut.{threshold}
use Rattle.ats_bound.specs.Schedule.{AreBracketsBy, Bounding}
use Rattle.ats_bound.specs.Scored.{exact}
use Rattle.ats_bound.specs.Inner.Scored.{AreScored, exact_brackets}
use Rattle.ats_bound.specs.QuickTest.{PassesQuickTest, TellsSettled}
use Rattle.ats_bound.specs.Settled.{AreDistinct, ArePicks, IsSettled, bracket_at, last_row, row}
use Rattle.ats_bound.specs.Chosen.{AreBrackets, IsChosen, place_cmp}
use Rattle.ats_bound.proofs.Kept.{count_cons, count_permuted, count_set, count_none, reached, reached_no, reached_yes}
use Rattle.ats_bound.proofs.One.{one_bracketing}
use Rattle.ats_bound.proofs.Places.{stands, times-cons, times_same}
use Rattle.ats_bound.proofs.Exactly.{lows_are, scored_proper}
use Rattle.ats_bound.proofs.Chain.{chosen_are_picks, even_settled, falls}

-- of numbers that fall, those from place r - 1 on are low if the one there is
pub few_reach : (least : ℕ) (xs : List ℕ) (k : ℕ) → ((i j : ℕ) → i < j → j < length xs → get_or xs j 0 ≤ get_or xs i 0) → k < length xs → get_or xs k 0 < least
    → count_at_least least xs ≤ k
few_reach least xs k fall inside low =
    let split = sum_by-take-drop (reached least) xs k in
    let none : count_at_least least (drop k xs) ≡ 0 = count_none least (drop k xs) (λ i within.
    let here : get_or (drop k xs) i 0 ≡ get_or xs (k + i) 0 = get_or-drop k xs i 0 in
    let there : k + i < length xs = omega (arith, within, length-drop k xs) in
    elim (cases_lt 0 i) [
      | inl more ↦ omega (arith, here, fall k (k + i) (omega (arith, more)) there, low)
      | inr same ↦ let is : k + i ≡ k = omega (arith, same) in omega (arith, here, ap (λ n. get_or xs n 0) is, low)
    ]) in
    omega (arith, split, none, count_by-le-length (λ x. leb least x) (take k xs), length-take k xs)

-- values at distinct places of a list that are at least `least` are counted there
distinct_reach : (least : ℕ) (places xs : List ℕ) → 1 ≤ least → AreDistinct places → All (λ (p : ℕ). (p < length xs) × (least ≤ get_or xs p 0)) places
    → length places ≤ count_at_least least xs
distinct_reach least [] xs some distinct each = omega arith
distinct_reach least (p ∷ places) xs some distinct each =
    let Here : ℕ → Type 0 = λ p. (p < length xs) × (least ≤ get_or xs p 0) in
    let first : Here p = All-head Here p places each in
    let later : All Here places = All-tail Here p places each in
    let rest : length places ≤ count_at_least least (set xs p 0) = distinct_reach least places (set xs p 0) some (λ n. omega (arith, times-cons n p places, distinct n)) (λ i d inside.
    let q : ℕ = get_or places i d in
    let differ : q ≢ p = λ e.
    let same : get_or places i 0 ≡ p = get_or_default places i 0 d inside ∙ e in
    let again : 1 ≤ times p places = subst (λ (n : ℕ). 1 ≤ times n places) same (stands places i inside) in
    omega (arith, distinct p, times_same p p places refl, again) in
    let is : Here q = later i d inside in
    (omega (arith, is.0, length-set xs p 0), omega (arith, is.1, get_or-set_other xs p q 0 0 differ))) in
    omega (arith, rest, count_set least xs p 0 first.0, reached_yes least (get_or xs p 0) first.1, reached_no least 0 some)

-- a count of brackets is one of their lower bounds
pub count_lows : (least : ℕ) (brackets : List Bracket) → count_by (λ (b : Bracket). leb least b.lo) brackets ≡ count_at_least least (map (λ (b : Bracket). b.lo) brackets)
count_lows least [] = refl
count_lows least (b ∷ brackets) =
    omega (
      arith,
      sum_by-cons (λ (b : Bracket). reached least b.lo) b brackets,
      count_cons least b.lo (map (λ (b : Bracket). b.lo) brackets),
      count_lows least brackets,
    )

module _ (brackets : List Bracket) (picks : List ℕ) (threshold r : ℕ) (proper : AreBrackets brackets) (inside : ArePicks brackets picks) (settled : IsSettled brackets picks threshold r) where
  pick_inside : (k : ℕ) → k < length picks → get_or picks k 0 < length brackets
  pick_inside k low = inside k 0 low

  -- each row is no lower than the last
  rows_high : (m k : ℕ) → (k + m) + 1 ≡ length picks → threshold ≤ (last_row brackets picks).lo → threshold ≤ (row brackets picks k).lo
  rows_high zero k end high =
      let is : k ≡ length picks - 1 = omega (arith, end) in
      rw is high
  rows_high (suc m) k end high =
      let next : (row brackets picks (k + 1)).hi ≤ (row brackets picks k).lo = settled.falling k (omega (arith, end)) in
      let there : (row brackets picks (k + 1)).lo ≤ (row brackets picks (k + 1)).hi = proper (get_or picks (k + 1) 0) (record { doc = 0; lo = 0; hi = 0 }) (pick_inside (k + 1) (omega (arith, end))) in
      omega (arith, next, there, rows_high m (k + 1) (omega (arith, end)) high)

  -- what is settled passes the necessary test
  pub settled_passes : PassesQuickTest brackets threshold r
  settled_passes = elim settled.whole [
    | inr all_of ↦ inl (all_of.1)
    | inl full ↦ elim (cases_lt 0 threshold) [
      | inr none ↦ inl (omega (arith, none))
      | inl more ↦ elim (cases_lt 0 r) [
        | inr none ↦ inr (omega (arith, none))
        | inl some ↦
            let lo : Bracket → ℕ = λ b. b.lo in
            let high : threshold ≤ (last_row brackets picks).lo = settled.unmet (omega (arith, full, some)) more in
            let each : All (λ (p : ℕ). (p < length (map lo brackets)) × (threshold ≤ get_or (map lo brackets) p 0)) picks = λ i d low.
            let is : get_or picks i d ≡ get_or picks i 0 = get_or_default picks i d 0 low in
            let here : get_or picks i 0 < length brackets = pick_inside i low in
            let there : get_or (map lo brackets) (get_or picks i 0) 0 ≡ (row brackets picks i).lo = get_or-map lo brackets (get_or picks i 0) (record { doc = 0; lo = 0; hi = 0 }) 0 here in
            rw is (omega (arith, here, length-map brackets lo), omega (arith, there, rows_high (length picks - i - 1) i (omega (arith, low)) high)) in
            inr (omega (arith, full, count_lows threshold brackets, distinct_reach threshold picks (map lo brackets) more settled.once each))
      ]
    ]
  ]

-- brackets in the order of the chosen answer
module _ (brackets : List Bracket) (all : List ℕ) (same : IsPermutation (range_with_len 0 (length brackets)) all) (ordered : IsSorted (place_cmp brackets) all) where
  abbrev low : ℕ → ℕ
  low i = (bracket_at brackets i).lo

  abbrev n : ℕ
  n = length brackets

  -- their lower bounds
  abbrev pub lows : List ℕ
  lows = map low all

  size : length all ≡ n
  size = length_permutation (range_with_len 0 n) all same ∙ length-range_with_len 0 n

  pub lows_size : length lows ≡ n
  lows_size = length-map all low ∙ size

  pub lows_at : (k : ℕ) → k < n → get_or lows k 0 ≡ low (get_or all k 0)
  lows_at k inside = get_or-map low all k 0 0 (omega (arith, inside, size))

  in_order : map low (range_with_len 0 n) ≡ map (λ (b : Bracket). b.lo) brackets
  in_order =
      let lo : Bracket → ℕ = λ b. b.lo in
      let first : length (map low (range_with_len 0 n)) ≡ n = length-map (range_with_len 0 n) low ∙ length-range_with_len 0 n in
      ext_get_or 0 (map low (range_with_len 0 n)) (map lo brackets) (first ∙ sym (length-map brackets lo)) (λ i inside.
      let within : i < n = omega (arith, inside, first) in
      let place : get_or (range_with_len 0 n) i 0 ≡ i = omega (arith, get_or-range_with_len 0 n i 0 within) in
      get_or-map low (range_with_len 0 n) i 0 0 (omega (arith, within, length-range_with_len 0 n)) ∙ ap low place ∙ sym (get_or-map lo brackets i (record { doc = 0; lo = 0; hi = 0 }) 0 within))

  pub counted : (least : ℕ) → count_at_least least lows ≡ count_by (λ (b : Bracket). leb least b.lo) brackets
  counted least = count_permuted least (map low (range_with_len 0 n)) lows (IsPermutation-map low (range_with_len 0 n) all same) ∙ ap (count_at_least least) in_order ∙ sym (count_lows least brackets)

  pub fall : (i j : ℕ) → i < j → j < length lows → get_or lows j 0 ≤ get_or lows i 0
  fall i j less inside =
      let there : j < n = omega (arith, inside, lows_size) in
      rw (lows_at j there, lows_at i (omega (arith, less, there))) (falls brackets all ordered i j less (omega (arith, there, size))).0

  module _ (r threshold : ℕ) (some : 1 ≤ r) (even : (i : ℕ) → i < length brackets → (bracket_at brackets i).hi ≤ (bracket_at brackets i).lo) where
    last_is : r ≤ n → (last_row brackets (take r all)).lo ≡ get_or lows (r - 1) 0
    last_is enough =
        let count : length (take r all) ≡ r = omega (arith, length-take r all, size, enough) in
        let place : get_or (take r all) (length (take r all) - 1) 0 ≡ get_or all (r - 1) 0 = ap (λ m. get_or (take r all) (m - 1) 0) count ∙ get_or-take r all (r - 1) 0 (omega (arith, some)) in
        ap low place ∙ sym (lows_at (r - 1) (omega (arith, some, enough)))

    pub exact_settles : PassesQuickTest brackets threshold r → IsSettled brackets (take r all) threshold r
    exact_settles passes = elim passes [
      | inl none ↦ rw none (even_settled brackets r all even same ordered)
      | inr many ↦
          let base : IsSettled brackets (take r all) 0 r = even_settled brackets r all even same ordered in
          let enough : r ≤ n = omega (arith, many, counted threshold, count_by-le-length (λ x. leb threshold x) lows, lows_size) in
          let high : threshold ≤ get_or lows (r - 1) 0 = elim (cases_lt (get_or lows (r - 1) 0) threshold) [
            | inl less ↦ absurd (omega (arith, some, many, counted threshold, few_reach threshold lows (r - 1) fall (omega (arith, some, enough, lows_size)) less))
            | inr le ↦ le
          ] in
          record {
            once = base.once;
            most = base.most;
            whole = inl (omega (arith, length-take r all, size, enough));
            falling = base.falling;
            rest = base.rest;
            unmet = λ rows more. omega (arith, high, last_is enough);
          }
    ]

-- no rows are settled
none_settled : (brackets : List Bracket) (threshold : ℕ) (all : List ℕ) → IsSettled brackets (take 0 all) threshold 0
none_settled brackets threshold all = record {
  once = λ n. omega arith;
  most = omega arith;
  whole = inl refl;
  falling = λ k low. absurd (omega (arith, low));
  rest = λ i out some. absurd (omega (arith, some));
  unmet = λ some more. absurd (omega (arith, some));
}

-- with known scores the chosen answer is settled exactly if the test passes
pub exact_settled : (brackets : List Bracket) (r threshold : ℕ) (picks : List ℕ) → AreBrackets brackets → ((i : ℕ) → i < length brackets → (bracket_at brackets i).hi ≤ (bracket_at brackets i).lo)
    → IsChosen brackets r picks → PassesQuickTest brackets threshold r ↔ IsSettled brackets picks threshold r
exact_settled brackets r threshold picks proper even chosen = (
  λ passes. rw (chosen.first) (elim (cases_lt 0 r) [
    | inl some ↦ exact_settles brackets chosen.all chosen.same chosen.ordered r threshold some even passes
    | inr none ↦ let is : 0 ≡ r = omega (arith, none) in subst (λ (m : ℕ). IsSettled brackets (take m chosen.all) threshold m) is (none_settled brackets threshold chosen.all)
  ]),
  λ settled. settled_passes brackets picks threshold r proper (chosen_are_picks brackets r picks chosen) settled,
)

-- ---- what a walk with known scores returns

pub even_brackets : (scores : List (ℕ × ℕ)) (i : ℕ) → i < length (exact_brackets scores) → (bracket_at (exact_brackets scores) i).hi ≤ (bracket_at (exact_brackets scores) i).lo
even_brackets scores i inside =
    let f : ℕ × ℕ → Bracket = λ pair. exact pair.0 pair.1 in
    let is = get_or-map f scores i (0, 0) (record { doc = 0; lo = 0; hi = 0 }) (omega (arith, inside, length-map scores f)) in
    omega (arith, ap (λ (b : Bracket). b.lo) is, ap (λ (b : Bracket). b.hi) is)

-- a count of their brackets is one of the scores
pub count_scores : (least : ℕ) (scores : List (ℕ × ℕ)) → count_by (λ (b : Bracket). leb least b.lo) (exact_brackets scores) ≡ count_at_least least (values_of scores)
count_scores least scores = count_lows least (exact_brackets scores) ∙ ap (count_at_least least) (lows_are scores)

-- the result of the necessary test reports whether an answer is settled
pub tells_settled : (stage : Stage) (rows : ℕ) (scores : List (ℕ × ℕ)) (kept : List ℕ) (answer : Bool) → AreScored stage rows scores kept
    → (IsTrue answer ↔ PassesQuickTest (exact_brackets scores) (threshold (shown_on stage)) rows)
    → (bounds : Bounding) → AreBracketsBy bounds (shown_on stage) (exact_brackets scores) → TellsSettled bounds stage.lanes rows stage.cut answer
tells_settled stage rows scores kept answer are quick bounds of =
    let threshold_here : ℕ = threshold (shown_on stage) in
    record {
      chosen = λ brackets picks others chosen.
          let same : exact_brackets scores ≡ brackets = one_bracketing bounds (shown_on stage) (exact_brackets scores) brackets of others in
          let both = exact_settled (exact_brackets scores) rows threshold_here picks (scored_proper scores) (even_brackets scores) (rw same chosen) in
          rw (← same) ((λ t. both.0 (quick.0 t)), (λ settled. quick.1 (both.1 settled)));
      any = λ can.
          let same : can.brackets ≡ exact_brackets scores = one_bracketing bounds (shown_on stage) can.brackets (exact_brackets scores) can.bounded of in
          let inside : ArePicks (exact_brackets scores) can.answer = subst (λ (bs : List Bracket). ArePicks bs can.answer) same can.inside in
          let settled : IsSettled (exact_brackets scores) can.answer threshold_here rows = subst (λ (bs : List Bracket). IsSettled bs can.answer threshold_here rows) same can.settled in
          quick.1 (settled_passes (exact_brackets scores) can.answer threshold_here rows (scored_proper scores) inside settled);
    }

-- if the threshold is not 0, the smallest of the scores that rows can have decides
pub next_answers : (stage : Stage) (rows : ℕ) (scores : List (ℕ × ℕ)) (kept : List ℕ) (threshold next : ℕ) → AreScored stage rows scores kept
    → ((all : List ℕ) (t : ℕ) → AreBest kept all → 1 ≤ t → t < 2 ^ 64 → (t ≤ next) ↔ (length kept ≤ count_at_least t all + 1)) → threshold < 2 ^ 64 → (threshold ≡ 0 → ⊥)
    → IsTrue (leb threshold next) ↔ PassesQuickTest (exact_brackets scores) threshold rows
next_answers stage rows scores kept threshold next are tells low more =
    let both = tells (values_of scores) threshold are.best (omega (arith, more)) low in
    let lows : count_by (λ (b : Bracket). leb threshold b.lo) (exact_brackets scores) ≡ count_at_least threshold (values_of scores) =
    count_scores threshold scores in (
      λ holds. inr (omega (arith, both.0 (leb-true threshold next holds), lows, are.size)),
      λ passes. elim passes [ inl none ↦ absurd (more none) | inr many ↦ le-leb threshold next (both.1 (omega (arith, many, lows, are.size))) ],
    )

pub zero_answers : (rows threshold : ℕ) (brackets : List Bracket) → threshold ≡ 0 → (answer : Bool) → IsTrue answer → IsTrue answer ↔ PassesQuickTest brackets threshold rows
zero_answers rows threshold brackets none answer holds = (λ _. inl none, λ _. holds)
