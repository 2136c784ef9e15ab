-- How often places occur in an answer.
use Rattle.std.proofs.Common.{◌≡◌, ◌⊎◌, ◌<◌, ◌≤◌, ◌+◌, ℕ, zero, suc, true, false, cond, nat_eq, List, [], ◌∷◌, length, get_or, refl, sym, ap, take, ◌∙◌, inl, inr, arith, zero-add}
use Rattle.std.specs.List.{All, sum_by, range_with_len}
use Rattle.std.proofs.lemmas.Bool.{cases_order}
use Rattle.std.proofs.lemmas.Bool.Decides.{nat_tests}
use Rattle.std.proofs.lemmas.List.Elements.{All-head, All-tail}
use Rattle.std.proofs.lemmas.List.FromFn.{length-range_with_len, get_or-range_with_len}
use Rattle.std.proofs.lemmas.List.Sums.{sum_by-cons, sum_by-le, sum_by-take-le, sum_by_more}
use Rattle.ats_impact.specs.Rank.{times}

pub times-cons : (n m : ℕ) (numbers : List ℕ) → times n (m ∷ numbers) ≡ cond (nat_eq m n) 1 0 + times n numbers
times-cons n m numbers = sum_by-cons (λ x. cond (nat_eq x n) 1 0) m numbers

pub times_same : (n m : ℕ) (numbers : List ℕ) → m ≡ n → times n (m ∷ numbers) ≡ 1 + times n numbers
times_same n m numbers is =
    let yes : nat_eq m n ≡ true = grind (arith, nat_tests) in
    times-cons n m numbers ∙ ap (λ b. cond b 1 0 + times n numbers) yes

pub times_other : (n m : ℕ) (numbers : List ℕ) → ((m < n) ⊎ (n < m)) → times n (m ∷ numbers) ≡ times n numbers
times_other n m numbers other =
    let no : nat_eq m n ≡ false = grind (arith, nat_tests) in
    times-cons n m numbers ∙ ap (λ b. cond b 1 0 + times n numbers) no ∙ zero-add (times n numbers)

sum_both : (f g h : ℕ → ℕ) (numbers : List ℕ) → ((n : ℕ) → h n ≡ f n + g n) → sum_by h numbers ≡ sum_by f numbers + sum_by g numbers
sum_both f g h [] both = refl
sum_both f g h (n ∷ numbers) both =
    omega (arith, sum_by-cons f n numbers, sum_by-cons g n numbers, sum_by-cons h n numbers, both n, sum_both f g h numbers both)

one_before : (m a n : ℕ) → m < a → sum_by (λ i. cond (nat_eq m i) 1 0) (range_with_len a n) ≡ 0
one_before m a zero low = refl
one_before m a (suc n) low =
    let no : nat_eq m a ≡ false = grind (arith, nat_tests) in
    let step = sum_by-cons (λ i. cond (nat_eq m i) 1 0) a (range_with_len (a + 1) n) in
    omega (arith, rw no at step, one_before m (a + 1) n (omega arith))

one_inside : (m a n : ℕ) → a ≤ m → m < a + n → sum_by (λ i. cond (nat_eq m i) 1 0) (range_with_len a n) ≡ 1
one_inside m a zero low high = absurd (omega arith)
one_inside m a (suc n) low high =
    let step = sum_by-cons (λ i. cond (nat_eq m i) 1 0) a (range_with_len (a + 1) n) in
    elim (cases_order m a) [
      | inl is ↦
          let yes : nat_eq m a ≡ true = grind (arith, nat_tests) in
          omega (arith, rw yes at step, one_before m (a + 1) n (omega arith))
      | inr other ↦
          let no : nat_eq m a ≡ false = grind (arith, nat_tests) in
          let later : a < m = elim other [ inl less ↦ absurd (omega arith) | inr more ↦ more ] in
          omega (arith, rw no at step, one_inside m (a + 1) n (omega arith) (omega (arith, high)))
    ]

none_at_all : (n : ℕ) (range : List ℕ) → sum_by (λ i. times i []) range ≡ 0
none_at_all n [] = refl
none_at_all n (i ∷ range) = omega (arith, sum_by-cons (λ i. times i []) i range, none_at_all n range)

-- numbers below n, counted number by number
pub counted_places : (n : ℕ) (numbers : List ℕ) → All (λ m. m < n) numbers → sum_by (λ i. times i numbers) (range_with_len 0 n) ≡ length numbers
counted_places n [] inside = none_at_all n (range_with_len 0 n)
counted_places n (m ∷ numbers) inside =
    let low : m < n = All-head (λ m. m < n) m numbers inside in
    omega (
      arith,
      sum_both (λ i. cond (nat_eq m i) 1 0) (λ i. times i numbers) (λ i. times i (m ∷ numbers)) (range_with_len 0 n) (λ i. times-cons i m numbers),
      one_inside m 0 n (omega arith) (omega (arith, low)),
      counted_places n numbers (All-tail (λ m. m < n) m numbers inside),
    )

-- distinct numbers below n are at most n
pub few_places : (n : ℕ) (numbers : List ℕ) → All (λ m. m < n) numbers → ((i : ℕ) → times i numbers ≤ 1) → length numbers ≤ n
few_places n numbers inside once =
    omega (
      arith,
      counted_places n numbers inside,
      length-range_with_len 0 n,
      sum_by-le (λ i. times i numbers) 1 (range_with_len 0 n) (λ k d within. once (get_or (range_with_len 0 n) k d)),
    )

-- a list that counts for something has an element that does
pub some_place : (numbers range : List ℕ) → 0 < sum_by (λ i. times i numbers) range
    → (k : ℕ) × (k < length range) × (1 ≤ times (get_or range k 0) numbers)
some_place numbers [] some = absurd (omega arith)
some_place numbers (i ∷ range) some =
    let step = sum_by-cons (λ i. times i numbers) i range in
    elim (cases_order (times i numbers) 0) [
      | inl none ↦
          let found = some_place numbers range (omega (arith, some, step)) in
          (suc found.0, omega (arith, found.1), found.2)
      | inr other ↦ (0, omega arith, elim other [ inl less ↦ absurd (omega arith) | inr more ↦ omega (arith, more) ])
    ]

-- a number of the list occurs in it
pub stands : (numbers : List ℕ) (k : ℕ) → k < length numbers → 1 ≤ times (get_or numbers k 0) numbers
stands [] k inside = absurd (omega arith)
stands (m ∷ numbers) zero inside =
    omega (arith, times_same m m numbers refl)
stands (m ∷ numbers) (suc k) inside =
    omega (arith, times-cons (get_or numbers k 0) m numbers, stands numbers k (omega arith))

-- what occurs in a list has a position there
pub position_of : (n : ℕ) (numbers : List ℕ) → 1 ≤ times n numbers → (k : ℕ) × (k < length numbers) × (get_or numbers k 0 ≡ n)
position_of n [] some = absurd (omega arith)
position_of n (m ∷ numbers) some =
    elim (cases_order m n) [
      | inl is ↦ (0, omega arith, is)
      | inr other ↦
          let found = position_of n numbers (omega (arith, some, times_other n m numbers other)) in
          (suc found.0, omega (arith, found.1), found.2)
    ]

-- a number at two positions occurs twice
pub stands_twice : (numbers : List ℕ) (j k : ℕ) → j < k → k < length numbers → get_or numbers j 0 ≡ get_or numbers k 0 → 2 ≤ times (get_or numbers k 0) numbers
stands_twice [] j k less inside same = absurd (omega arith)
stands_twice (m ∷ numbers) j zero less inside same = absurd (omega arith)
stands_twice (m ∷ numbers) zero (suc k) less inside same =
    let n : ℕ = get_or numbers k 0 in
    omega (arith, times_same n m numbers same, stands numbers k (omega arith))
stands_twice (m ∷ numbers) (suc j) (suc k) less inside same =
    omega (arith, times-cons (get_or numbers k 0) m numbers, stands_twice numbers j k (omega arith) (omega arith) same)

range_past : (i a n : ℕ) → i < a → times i (range_with_len a n) ≡ 0
range_past i a zero low = refl
range_past i a (suc n) low =
    omega (arith, times_other i a (range_with_len (a + 1) n) (inr low), range_past i (a + 1) n (omega arith))

-- no number occurs twice in a range
pub range_once : (i a n : ℕ) → times i (range_with_len a n) ≤ 1
range_once i a zero = omega arith
range_once i a (suc n) =
    elim (cases_order a i) [
      | inl is ↦ omega (arith, times_same i a (range_with_len (a + 1) n) is, range_past i (a + 1) n (omega arith))
      | inr other ↦ omega (arith, times_other i a (range_with_len (a + 1) n) other, range_once i (a + 1) n)
    ]

-- each number below n occurs in the range
pub range_has : (i n : ℕ) → i < n → 1 ≤ times i (range_with_len 0 n)
range_has i n low =
    let is : get_or (range_with_len 0 n) i 0 ≡ 0 + i = get_or-range_with_len 0 n i 0 low in
    let inside : i < length (range_with_len 0 n) = omega (arith, length-range_with_len 0 n) in
    rw (is, zero-add) at (stands (range_with_len 0 n) i inside)

-- the range has numbers below n
pub range_below : (n : ℕ) → All (λ i. i < n) (range_with_len 0 n)
range_below n k d inside =
    let low : k < n = omega (arith, length-range_with_len 0 n) in
    omega (arith, get_or-range_with_len 0 n k d low)

times_more : (n : ℕ) (numbers : List ℕ) (k : ℕ) → k < length numbers → times n (take (k + 1) numbers) ≡ times n (take k numbers) + cond (nat_eq (get_or numbers k 0) n) 1 0
times_more n numbers k inside = sum_by_more (λ x. cond (nat_eq x n) 1 0) numbers k 0 inside

-- one more number that does not occur before keeps the first numbers distinct
pub distinct_more : (numbers : List ℕ) (k : ℕ) → k < length numbers → ((n : ℕ) → times n (take k numbers) ≤ 1)
    → times (get_or numbers k 0) (take k numbers) ≡ 0 → (n : ℕ) → times n (take (k + 1) numbers) ≤ 1
distinct_more numbers k inside once none n =
    let m : ℕ = get_or numbers k 0 in
    let step = times_more n numbers k inside in
    elim (cases_order m n) [
      | inl is ↦
          let yes : nat_eq m n ≡ true = grind (arith, nat_tests) in
          let nowhere : times n (take k numbers) ≡ 0 = ap (λ x. times x (take k numbers)) (sym is) ∙ none in
          omega (arith, rw yes at step, nowhere)
      | inr other ↦
          let no : nat_eq m n ≡ false = grind (arith, nat_tests) in
          omega (arith, rw no at step, once n)
    ]

-- a number that occurs before occurs twice
pub twice_before : (numbers : List ℕ) (k : ℕ) → k < length numbers → 1 ≤ times (get_or numbers k 0) (take k numbers) → 2 ≤ times (get_or numbers k 0) numbers
twice_before numbers k inside before =
    let m : ℕ = get_or numbers k 0 in
    let yes : nat_eq m m ≡ true = grind (arith, nat_tests) in
    omega (arith, rw yes at (times_more m numbers k inside), before, sum_by-take-le (λ x. cond (nat_eq x m) 1 0) numbers (k + 1))
