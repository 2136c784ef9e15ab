-- Indexes that name met documents, each at most once, and the first that breaks this.
use Rattle.std.proofs.Common.{◌≡◌, ◌<◌, ◌≤◌, ◌+◌, ◌∙◌, ◌||◌, ◌∷◌, ◌++◌, ℕ, suc, true, false, nat_eq, nat_lt, List, [], length, take, drop, get_or, slice_get, Some, refl, sym, ap, subst, arith, inl, inr, length-take}
use Rattle.std.specs.List.{list_any}
use Rattle.std.proofs.Math.Seq.{split_at}
use Rattle.std.proofs.lemmas.Bool.{cases_order}
use Rattle.std.proofs.lemmas.Bool.Decides.{nat_tests}
use Rattle.std.proofs.lemmas.List.Elements.{All-more}
use Rattle.std.proofs.lemmas.Option.{get_or_from_slice_get, slice_get_within}
use Rattle.ats_impact.specs.Rank.{times}
use Rattle.ats_bound.proofs.Public.{times_same, times_other, distinct_more}
use Rattle.ats_client.specs.Indexes.{AreNames, IsOut, IsAgain}

-- whether a number is in a list, and how often
pub any_is_times : (i : ℕ) (rows : List ℕ) → list_any (λ index. nat_eq index i) rows ≡ nat_lt 0 (times i rows)
any_is_times i [] = refl
any_is_times i (m ∷ rows) =
    let later = any_is_times i rows in
    elim (cases_order m i) [
      | inl is ↦
          let yes : nat_eq m i ≡ true = grind (arith, nat_tests) in
          let some : nat_lt 0 (times i (m ∷ rows)) ≡ true = grind (arith, nat_tests, times_same i m rows is) in
          ap (λ b. b || list_any (λ index. nat_eq index i) rows) yes ∙ sym some
      | inr other ↦
          let no : nat_eq m i ≡ false = elim other [ inl less ↦ grind (arith, nat_tests, less) | inr more ↦ grind (arith, nat_tests, more) ] in
          ap (λ b. b || list_any (λ index. nat_eq index i) rows) no ∙ (later ∙ ap (λ n. nat_lt 0 n) (sym (times_other i m rows other)))
    ]

pub any_some : (i : ℕ) (rows : List ℕ) → list_any (λ index. nat_eq index i) rows ≡ true → 1 ≤ times i rows
any_some i rows seen =
    let some : nat_lt 0 (times i rows) ≡ true = sym (any_is_times i rows) ∙ seen in
    grind (arith, nat_tests)

pub any_none : (i : ℕ) (rows : List ℕ) → list_any (λ index. nat_eq index i) rows ≡ false → times i rows ≡ 0
any_none i rows unseen =
    let none : nat_lt 0 (times i rows) ≡ false = sym (any_is_times i rows) ∙ unseen in
    grind (arith, nat_tests)

stands_at : (xs : List ℕ) (i x : ℕ) → slice_get xs i ≡ Some x → xs ≡ take i xs ++ x ∷ drop (suc i) xs
stands_at xs i x is = subst (λ y. xs ≡ take i xs ++ y ∷ drop (suc i) xs) (get_or_from_slice_get xs i x 0 is) (split_at xs i 0 (slice_get_within xs i x is))

pub out_at : (met : ℕ) (xs : List ℕ) (i x : ℕ) → slice_get xs i ≡ Some x → AreNames met (take i xs) → met ≤ x → IsOut met xs i
out_at met xs i x is names out =
    let inside : i < length xs = slice_get_within xs i x is in
    record { before = take i xs; index = x; after = drop (suc i) xs; stands = stands_at xs i x is; place_of = omega (arith, length-take i xs, inside); names = names; out = out }

pub again_at : (met : ℕ) (xs : List ℕ) (i x : ℕ) → slice_get xs i ≡ Some x → AreNames met (take i xs) → x < met → 1 ≤ times x (take i xs) → IsAgain met xs i
again_at met xs i x is names within again =
    let inside : i < length xs = slice_get_within xs i x is in
    record { before = take i xs; index = x; after = drop (suc i) xs; stands = stands_at xs i x is; place_of = omega (arith, length-take i xs, inside); names = names; inside = within; again = again }

pub names_more : (met : ℕ) (xs : List ℕ) (i x : ℕ) → slice_get xs i ≡ Some x → AreNames met (take i xs) → x < met → times x (take i xs) ≡ 0 → AreNames met (take (i + 1) xs)
names_more met xs i x is names within none =
    let inside : i < length xs = slice_get_within xs i x is in
    let here : get_or xs i 0 ≡ x = get_or_from_slice_get xs i x 0 is in
    record {
      inside = All-more (λ index. index < met) xs i 0 inside names.inside (subst (λ y. y < met) (sym here) within);
      once = distinct_more xs i inside names.once (ap (λ y. times y (take i xs)) here ∙ none);
    }
