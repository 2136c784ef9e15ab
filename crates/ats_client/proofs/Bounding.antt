-- What the marks of the met documents say of their brackets, and so whether an answer is settled.
use Rattle.std.proofs.Common.{◌≡◌, ◌⊎◌, ◌<◌, ◌≤◌, ◌+◌, ◌-◌, ◌^◌, ℕ, zero, suc, nat_lt, false, List, ◌∷◌, length, get_or, sym, ap, subst, ◌∙◌, inl, inr, arith, add-one}
use Rattle.std.specs.List.{All, sum_by, range_with_len}
use Rattle.std.proofs.lemmas.Bool.{cases_order, cases_lt}
use Rattle.std.proofs.lemmas.List.{length-map, get_or-map}
use Rattle.std.proofs.lemmas.List.Elements.{All-cons}
use Rattle.std.proofs.lemmas.List.Sums.{sum_by-cons}
use Rattle.ats_impact.specs.Rank.{times}
use Rattle.ats_bound.specs.declared.bracket.Bracket.{Bracket}
use Rattle.ats_bound.specs.declared.work.Mark.{Mark}
use Rattle.ats_bound.specs.Work.{mark_at}
use Rattle.ats_bound.specs.Cut.{ShownLane, threshold as threshold_of}
use Rattle.ats_bound.specs.Schedule.{Bounding}
use Rattle.ats_bound.specs.Settled.{AreDistinct, bracket_at, row, last_row}
use Rattle.ats_bound.proofs.Public.{counted_places, few_places, times_same, times_other}
use Rattle.ats_client.specs.Inner.Bounds.{upper, AreBelow, row_mark, lower_before, AreFalling, AreOthersWithin}
use Rattle.ats_client.specs.Groups.{met_at, brackets_of, AreRowsRight, IsAnswerSettled}
use Rattle.ats_client.specs.Marked.{AreMarks, AreNoted}
use Rattle.ats_client.proofs.Named.{any_is_times, any_none}

-- ---- as many distinct numbers below n as there are

many : (numbers : List ℕ) (a n : ℕ) → ((i : ℕ) → i < a + n → 1 ≤ times i numbers) → n ≤ sum_by (λ i. times i numbers) (range_with_len a n)
many numbers a zero each = omega arith
many numbers a (suc n) each =
    let later = many numbers (a + 1) n (λ i less. each i (omega (arith, less))) in
    omega (arith, sum_by-cons (λ i. times i numbers) a (range_with_len (a + 1) n), each a (omega arith), later)

-- if each number below n is in the list, the list has at least n numbers
pub all_fill : (n : ℕ) (numbers : List ℕ) → All (λ m. m < n) numbers → ((i : ℕ) → i < n → 1 ≤ times i numbers) → n ≤ length numbers
all_fill n numbers inside each = omega (arith, counted_places n numbers inside, many numbers 0 n (λ i less. each i (omega (arith, less))))

-- a list of as many distinct numbers below n has each
pub fill_all : (n : ℕ) (numbers : List ℕ) → All (λ m. m < n) numbers → AreDistinct numbers → n ≤ length numbers → (i : ℕ) → i < n → 1 ≤ times i numbers
fill_all n numbers inside once full i low = elim (cases_order (times i numbers) 0) [
  | inl none ↦
      let all : All (λ m. m < n) (i ∷ numbers) = All-cons (λ m. m < n) i numbers low inside in
      let apart : (m : ℕ) → times m (i ∷ numbers) ≤ 1 =
      λ m. elim (cases_order i m) [
        | inl same ↦ omega (arith, times_same m i numbers same, ap (λ x. times x numbers) same, none)
        | inr other ↦ omega (arith, times_other m i numbers other, once m)
      ] in
      absurd (omega (arith, few_places n (i ∷ numbers) all apart, full))
  | inr other ↦ elim other [ inl less ↦ absurd (omega (arith, less)) | inr some ↦ omega (arith, some) ]
]

-- ---- the bounds of the rows

pub last_is : (marks : List Mark) (answer : List ℕ) (n : ℕ) → 0 < n → lower_before marks answer n ≡ (row_mark marks answer (n - 1)).lo
last_is marks answer zero some = absurd (omega (arith, some))
last_is marks answer (suc n) some =
    let e : suc n - 1 ≡ n = omega arith in
    ap (λ k. (row_mark marks answer k).lo) (sym e)

module _ (bounds : Bounding) (lanes : List ShownLane) (met : List ℕ) (marks : List Mark) (threshold : ℕ) (are : AreMarks bounds lanes met marks) (rests : threshold ≡ threshold_of lanes) where
  -- the upper end of a bracket, by the mark of its document
  pub upper_is : (i : ℕ) → i < length met → (bounds lanes (met_at met i)).hi ≡ upper threshold (mark_at marks i)
  upper_is i inside = omega (arith, (are.each i inside).most, rests)

  pub held_within : (i : ℕ) → i < length met → (mark_at marks i).held ≤ threshold
  held_within i inside = omega (arith, (are.each i inside).within, rests)

  -- the marks are below the threshold
  pub below : threshold < 2 ^ 48 → AreBelow threshold marks
  below small = record {
    threshold_small = small;
    small = λ i inside. (are.each i (omega (arith, inside, are.size))).small;
    held = λ i inside. held_within i (omega (arith, inside, are.size));
  }

  abbrev brackets : List Bracket
  brackets = brackets_of bounds lanes met

  bracket_is : (i : ℕ) → i < length met → bracket_at brackets i ≡ bounds lanes (met_at met i)
  bracket_is i inside = get_or-map (bounds lanes) met i 0 (record { doc = 0; lo = 0; hi = 0 }) inside

  upper_at : (i : ℕ) → i < length met → (bracket_at brackets i).hi ≡ upper threshold (mark_at marks i)
  upper_at i inside = ap (λ (b : Bracket). b.hi) (bracket_is i inside) ∙ upper_is i inside

  lower_at : (i : ℕ) → i < length met → (bracket_at brackets i).lo ≡ (mark_at marks i).lo
  lower_at i inside = ap (λ (b : Bracket). b.lo) (bracket_is i inside) ∙ sym (are.each i inside).least

  module _ (answer : List ℕ) (right : AreRowsRight met answer) (noted : AreNoted answer marks) (small : threshold < 2 ^ 48) where
    abbrev n : ℕ
    n = length answer

    low : (k : ℕ) → k < n → get_or answer k 0 < length met
    low k inside = right.inside k 0 inside

    row_upper : (k : ℕ) → k < n → (row brackets answer k).hi ≡ upper threshold (row_mark marks answer k)
    row_upper k inside = upper_at (get_or answer k 0) (low k inside)

    row_lower : (k : ℕ) → k < n → (row brackets answer k).lo ≡ (row_mark marks answer k).lo
    row_lower k inside = lower_at (get_or answer k 0) (low k inside)

    last_lower : 0 < n → (last_row brackets answer).lo ≡ lower_before marks answer n
    last_lower some = row_lower (n - 1) (omega (arith, some)) ∙ sym (last_is marks answer n some)

    count : length brackets ≡ length met
    count = length-map met (bounds lanes)

    high : (i : ℕ) → i < length met → upper threshold (mark_at marks i) ≤ 2 ^ 64 - 1
    high i inside = omega (arith, (are.each i inside).small, small)

    -- a document is outside the answer if its mark notes no row
    outside_if : (i : ℕ) → i < length met → (mark_at marks i).row ≡ false → times i answer ≡ 0
    outside_if i inside free = any_none i answer (sym (noted i (omega (arith, inside, are.size))) ∙ free)

    free_if : (i : ℕ) → i < length met → times i answer ≡ 0 → (mark_at marks i).row ≡ false
    free_if i inside none = noted i (omega (arith, inside, are.size)) ∙ (any_is_times i answer ∙ ap (λ x. nat_lt 0 x) none)

    -- what the marks say is enough
    pub settles : (r : ℕ) → n ≤ r → ((n ≡ r) ⊎ ((length met ≤ n) × (threshold ≡ 0))) → AreFalling threshold marks answer n
        → threshold ≤ lower_before marks answer n → AreOthersWithin threshold marks (lower_before marks answer n) → IsAnswerSettled bounds lanes met answer r
    settles r most whole falling unmet rest = record {
      once = right.once;
      most = most;
      whole = elim whole [
        | inl full ↦ inl full
        | inr all ↦ inr (λ i inside. fill_all (length met) answer right.inside right.once all.0 i (omega (arith, inside, count)), sym rests ∙ all.1)
      ];
      falling = λ k inside.
          let next : upper threshold (row_mark marks answer (suc k)) ≤ (row_mark marks answer k).lo = falling (suc k) (omega (arith, inside)) in
          let hi : (row brackets answer (suc k)).hi ≡ upper threshold (row_mark marks answer (suc k)) = row_upper (suc k) (omega (arith, inside)) in
          let le : (row brackets answer (suc k)).hi ≤ (row brackets answer k).lo = omega (arith, next, hi, row_lower k (omega (arith, inside))) in
          subst (λ (j : ℕ). (row brackets answer j).hi ≤ (row brackets answer k).lo) (sym (add-one k)) le;
      rest = λ i outside some.
          let inside : i < length met = omega (arith, outside.0, count) in
          let free : (mark_at marks i).row ≡ false = free_if i inside outside.1 in
          omega (arith, rest i (omega (arith, inside, are.size)) free, upper_at i inside, last_lower some);
      unmet = λ some _. omega (arith, unmet, rests, last_lower some);
    }

    none_before : n ≤ 0 → lower_before marks answer n ≡ 2 ^ 64 - 1
    none_before none =
        let empty : n ≡ 0 = omega (arith, none) in
        ap (lower_before marks answer) empty

    -- and needed
    module _ (r : ℕ) (settled : IsAnswerSettled bounds lanes met answer r) where
      pub says_whole : (n ≡ r) ⊎ ((length met ≤ n) × (threshold ≡ 0))
      says_whole = elim settled.whole [
        | inl full ↦ inl full
        | inr all ↦ inr (all_fill (length met) answer right.inside (λ i inside. all.0 i (omega (arith, inside, count))), rests ∙ all.1)
      ]

      pub says_falling : AreFalling threshold marks answer n
      says_falling zero inside = high (get_or answer 0 0) (low 0 inside)
      says_falling (suc k) inside =
          let next : (row brackets answer (suc k)).hi ≤ (row brackets answer k).lo =
          subst (λ (j : ℕ). (row brackets answer j).hi ≤ (row brackets answer k).lo) (add-one k) (settled.falling k (omega (arith, inside))) in
          omega (arith, next, row_upper (suc k) inside, row_lower k (omega (arith, inside)))

      pub says_unmet : threshold ≤ lower_before marks answer n
      says_unmet = elim (cases_lt 0 n) [
        | inl some ↦
            elim (cases_lt 0 threshold) [
              | inl more ↦ omega (arith, settled.unmet some (omega (arith, more, rests)), rests, last_lower some)
              | inr none ↦ omega (arith, none)
            ]
        | inr none ↦ omega (arith, none_before none, small)
      ]

      pub says_others : AreOthersWithin threshold marks (lower_before marks answer n)
      says_others i in_marks free =
          let inside : i < length met = omega (arith, in_marks, are.size) in
          elim (cases_lt 0 n) [
            | inl some ↦
                omega (arith, settled.rest i (omega (arith, inside, count), outside_if i inside free) some, upper_at i inside, last_lower some)
            | inr none ↦ omega (arith, none_before none, high i inside)
          ]
