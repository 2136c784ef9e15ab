-- The first elements of a list that rises strictly, from some of its elements.
use Rattle.std.proofs.Common.{◌≡◌, ◌∙◌, ◌⊎◌, ◌+◌, ◌<◌, ◌≤◌, ℕ, zero, suc, Bool, true, false, cond, List, [], ◌∷◌, ◌++◌, length, take, get_or, refl, sym, ap, ap₂, subst, inl, inr, arith}
use Rattle.std.specs.List.{All, AllByRecursion, Contains, IsDistinct, count_by}
use Rattle.std.specs.List.Sorted.{IsStrictlySortedBy}
use Rattle.std.specs.Cmp.{IsTotalOrder}
use Rattle.std.specs.Ordering.{is_lt, ordering_reverse}
use Rattle.std.specs.declared.cmp.Ordering.{Ordering}
use Rattle.std.specs.declared.cmp.Ordering.TheVariants.{Less, Greater}
use Rattle.std.proofs.lemmas.Bool.{cases_lt}
use Rattle.std.proofs.lemmas.List.{get_or-take, get_or_default, length-take}
use Rattle.std.proofs.lemmas.List.Elements.{All-cons, All-from_recursion, All-head, All-tail, recursion_from_All}
use Rattle.std.proofs.lemmas.List.Sums.{sum_by-cons}
use Rattle.std.proofs.lemmas.Map.Keys.{IsDistinct-cons, IsDistinct-from_apart, IsDistinct-head, IsDistinct-tail, Less-from_sorted, apart_from_distinct, sorted_head, sorted_tail}

-- ---- counts

count_step : {X : Type 0} (p : X → Bool) (x : X) (xs : List X) → count_by p (x ∷ xs) ≡ cond (p x) 1 0 + count_by p xs
count_step p x xs = sum_by-cons (λ y. cond (p y) 1 0) x xs

count_none : {X : Type 0} (p : X → Bool) (xs : List X) → All (λ x. p x ≡ false) xs → count_by p xs ≡ 0
count_none p [] each = refl
count_none p (x ∷ xs) each =
    let here : cond (p x) 1 0 ≡ cond false 1 0 = ap (λ b. let n : ℕ = cond b 1 0 in n) (All-head (λ y. p y ≡ false) x xs each) in
    omega (arith, here, count_step p x xs, count_none p xs (All-tail (λ y. p y ≡ false) x xs each))

count_all : {X : Type 0} (p : X → Bool) (xs : List X) → All (λ x. p x ≡ true) xs → count_by p xs ≡ length xs
count_all p [] each = refl
count_all p (x ∷ xs) each =
    let here : cond (p x) 1 0 ≡ cond true 1 0 = ap (λ b. let n : ℕ = cond b 1 0 in n) (All-head (λ y. p y ≡ true) x xs each) in
    omega (arith, here, count_step p x xs, count_all p xs (All-tail (λ y. p y ≡ true) x xs each))

one_at_most : (b : Bool) → cond b 1 0 ≤ 1
one_at_most true = omega arith
one_at_most false = omega arith

count_tail : {X : Type 0} (p : X → Bool) (x : X) (xs : List X) (r : ℕ) → suc r ≤ count_by p (x ∷ xs) → r ≤ count_by p xs
count_tail p x xs r many = omega (arith, many, count_step p x xs, one_at_most (p x))

-- ---- distinct elements

module _ {X : Type 0} (e : X → X → Bool) where
  pub distinct_take : (xs : List X) (r : ℕ) → IsDistinct e xs → IsDistinct e (take r xs)
  distinct_take xs r distinct = IsDistinct-from_apart e (take r xs) (λ i j d low inside.
      let within : j < r = omega (arith, inside, length-take r xs) in
      let there : j < length xs = omega (arith, inside, length-take r xs) in
      let first : get_or (take r xs) i d ≡ get_or xs i d = get_or-take r xs i d (omega (arith, low, within)) in
      let second : get_or (take r xs) j d ≡ get_or xs j d = get_or-take r xs j d within in
      ap₂ e first second ∙ apart_from_distinct e xs i j d distinct low there)

  both_recursion : (P : X → Type 0) (xs ys : List X) → AllByRecursion P xs → AllByRecursion P ys → AllByRecursion P (xs ++ ys)
  both_recursion P [] ys first second = second
  both_recursion P (x ∷ xs) ys (here, first) second = (here, both_recursion P xs ys first second)

  pub distinct_both : (xs ys : List X) → IsDistinct e xs → IsDistinct e ys → All (λ x. All (λ y. e x y ≡ false) ys) xs → IsDistinct e (xs ++ ys)
  distinct_both [] ys first second cross = second
  distinct_both (x ∷ xs) ys first second cross =
      let Apart : X → Type 0 = λ z. All (λ y. e z y ≡ false) ys in
      IsDistinct-cons e x (xs ++ ys)
      (both_recursion (λ y. e x y ≡ false) xs ys (IsDistinct-head e x xs first) (recursion_from_All (λ y. e x y ≡ false) ys (All-head Apart x xs cross)))
      (distinct_both xs ys (IsDistinct-tail e x xs first) second (All-tail Apart x xs cross))

-- ---- the first elements

less_back : (o p : Ordering) → o ≡ ordering_reverse p → p ≡ Less → is_lt o ≡ false
less_back o p is less = let back : o ≡ Greater = is ∙ ap ordering_reverse less in ap is_lt back

module _ {X : Type 0} (R : X → X → Ordering) (total : IsTotalOrder R) where
  -- whether y comes before x
  abbrev pub ahead : X → X → Bool
  ahead x y = is_lt (R y x)

  never : (x : X) → R x x ≡ Less → ⊥
  never x is = absurd (let clash : true ≡ false = sym (ap is_lt is) ∙ less_back (R x x) (R x x) (total.antisymm x x) is in cc)

  after_head : (x : X) (xs : List X) → IsStrictlySortedBy R (x ∷ xs) → All (λ y. R x y ≡ Less) xs
  after_head x xs rises = All-from_recursion (λ y. R x y ≡ Less) xs (sorted_head R x xs rises)

  at_contained : (P : X → Type 0) (xs : List X) (x : X) → All P xs → Contains xs x → P x
  at_contained P xs x each (k, low, same) = subst P same (each k x low)

  contained_tail : (x : X) (xs : List X) (y : X) → R x y ≡ Less → Contains (x ∷ xs) y → Contains xs y
  contained_tail x xs y less (zero, low, same) = absurd (never y (subst (λ (z : X). R z y ≡ Less) same less))
  contained_tail x xs y less (suc k, low, same) = (k, omega (arith, low), same)

  contained_more : (x : X) (xs : List X) (y : X) → Contains xs y → Contains (x ∷ xs) y
  contained_more x xs y (k, low, same) = (suc k, omega (arith, low), same)

  -- nothing of what rises after x comes before it
  none_ahead : (x : X) (xs : List X) → All (λ y. R x y ≡ Less) xs → count_by (ahead x) xs ≡ 0
  none_ahead x xs each = count_none (ahead x) xs (λ k d low. less_back (R (get_or xs k d) x) (R x (get_or xs k d)) (total.antisymm (get_or xs k d) x) (each k d low))

  not_contained : (x : X) (xs : List X) → All (λ y. R x y ≡ Less) xs → Contains xs x → ⊥
  not_contained x xs each there = never x (at_contained (λ y. R x y ≡ Less) xs x each there)

  -- each element is in some or has r of them before it
  abbrev pub Reach : List X → List X → ℕ → Type 0
  Reach whole some r = (x : X) → Contains whole x → Contains some x ⊎ (r ≤ count_by (ahead x) some)

  module _ (f : X) (whole : List X) (s : X) (some : List X) (r : ℕ) (rises : IsStrictlySortedBy R (f ∷ whole)) (also : IsStrictlySortedBy R (s ∷ some))
      (each : All (Contains (f ∷ whole)) (s ∷ some)) (reach : Reach (f ∷ whole) (s ∷ some) (suc r))
      (rest : All (Contains whole) some → Reach whole some r → take r some ≡ take r whole) where
    same_head : f ≡ s → take (suc r) (s ∷ some) ≡ take (suc r) (f ∷ whole)
    same_head is =
        let above : All (λ y. R s y ≡ Less) some = after_head s some also in
        let higher : All (λ y. R f y ≡ Less) whole = after_head f whole rises in
        let there : All (Contains whole) some = λ k d low.
        contained_tail f whole (get_or some k d) (subst (λ (z : X). R z (get_or some k d) ≡ Less) (sym is) (above k d low)) (All-tail (Contains (f ∷ whole)) s some each k d low) in
        let next : Reach whole some r = λ x inside.
        elim (reach x (contained_more f whole x inside)) [
          | inl found ↦ inl (contained_tail s some x (subst (λ (z : X). R z x ≡ Less) is (at_contained (λ y. R f y ≡ Less) whole x higher inside)) found)
          | inr many ↦ inr (count_tail (ahead x) s some r many)
        ] in
        ap₂ (λ (x : X) (xs : List X). x ∷ xs) (sym is) (rest there next)

    -- what comes first of all is among those, or r is 0
    later_head : R f s ≡ Less → take (suc r) (s ∷ some) ≡ take (suc r) (f ∷ whole)
    later_head less =
        let above : All (λ y. R f y ≡ Less) (s ∷ some) =
        All-cons (λ y. R f y ≡ Less) s some less (λ k d low. total.trans f s (get_or some k d) less (after_head s some also k d low)) in
        elim (reach f (0, omega arith, refl)) [
          | inl found ↦ absurd (not_contained f (s ∷ some) above found)
          | inr many ↦ absurd (omega (arith, many, none_ahead f (s ∷ some) above))
        ]

    either_head : Contains (f ∷ whole) s → take (suc r) (s ∷ some) ≡ take (suc r) (f ∷ whole)
    either_head (zero, low, is) = same_head is
    either_head (suc k, low, is) = later_head (at_contained (λ y. R f y ≡ Less) whole s (after_head f whole rises) (k, omega (arith, low), is))

  -- then the first r of all are the first r of those
  pub same_first : (whole some : List X) (r : ℕ) → IsStrictlySortedBy R whole → IsStrictlySortedBy R some → All (Contains whole) some → Reach whole some r
      → take r some ≡ take r whole
  same_first whole some zero rises also each reach = refl
  same_first [] [] (suc r) rises also each reach = refl
  same_first [] (s ∷ some) (suc r) rises also each reach = absurd (let there : Contains [] s = All-head (Contains []) s some each in omega (arith, there.1))
  same_first (f ∷ whole) [] (suc r) rises also each reach = elim (reach f (0, omega arith, refl)) [
    | inl there ↦ absurd (omega (arith, there.1))
    | inr many ↦ absurd (omega (arith, many))
  ]
  same_first (f ∷ whole) (s ∷ some) (suc r) rises also each reach =
      either_head f whole s some r rises also each reach (same_first whole some r (sorted_tail R f whole rises) (sorted_tail R s some also))
      (All-head (Contains (f ∷ whole)) s some each)

  -- an element of a list that rises is among its first r, or comes after these
  pub reached : (xs : List X) (r : ℕ) → IsStrictlySortedBy R xs → Reach xs (take r xs) r
  reached xs r rises x (k, low, is) = elim (cases_lt k r) [
    | inl first ↦ inl (k, omega (arith, length-take r xs, low, first), get_or-take r xs k x first ∙ is)
    | inr past ↦
        let size : length (take r xs) ≡ r = omega (arith, length-take r xs, low, past) in
        let before : All (λ y. ahead x y ≡ true) (take r xs) = λ i d inside.
        let at : get_or (take r xs) i d ≡ get_or xs i x =
        get_or-take r xs i d (omega (arith, inside, size)) ∙ get_or_default xs i d x (omega (arith, inside, size, low, past)) in
        let less : R (get_or xs i x) (get_or xs k x) ≡ Less = Less-from_sorted R xs i k x rises (omega (arith, inside, size, past)) low in
        ap₂ (λ (y z : X). is_lt (R y z)) at (sym is) ∙ ap is_lt less in
        inr (omega (arith, count_all (ahead x) (take r xs) before, size))
  ]
