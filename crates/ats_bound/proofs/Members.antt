-- The numbers of a list, and of what is left if each occurs once.
use Rattle.std.proofs.Common.{◌≡◌, ℕ, Bool, true, nat_eq, List, get_or, sym, subst, ◌∙◌, inl, inr}
use Rattle.std.specs.List.{Contains, dedup, list_any}
use Rattle.std.proofs.lemmas.Bool.{cases_Bool, eqb-true, eq-eqb}
use Rattle.std.proofs.lemmas.List.Folds.{Any-from_list_any, list_any_at}
use Rattle.std.proofs.lemmas.List.Kept.{Contains-dedup_nat, Contains-from_dedup}

-- whether a number is one of the list's
abbrev pub has : ℕ → List ℕ → Bool
has n numbers = list_any (λ m. nat_eq m n) numbers

pub has_contained : (n : ℕ) (xs : List ℕ) → Contains xs n → has n xs ≡ true
has_contained n xs is = list_any_at (λ m. nat_eq m n) xs is.0 n is.1 (eq-eqb _ _ is.2)

pub contained_has : (n : ℕ) (xs : List ℕ) → has n xs ≡ true → Contains xs n
contained_has n xs is =
    let any = Any-from_list_any (λ m. nat_eq m n) xs is in
    let same : any.1 ≡ n = eqb-true _ _ any.4 in
    (any.0, any.2, subst (λ m. get_or xs any.0 m ≡ m) same any.3)

pub has_deduped : (n : ℕ) (xs : List ℕ) → has n (dedup nat_eq xs) ≡ has n xs
has_deduped n xs = elim (cases_Bool (has n xs)) [
  | inl is ↦ has_contained n (dedup nat_eq xs) (Contains-dedup_nat xs n (contained_has n xs is)) ∙ sym is
  | inr not ↦ elim (cases_Bool (has n (dedup nat_eq xs))) [
    | inl is ↦
        let back = has_contained n xs (Contains-from_dedup nat_eq xs n (contained_has n (dedup nat_eq xs) is)) in
        is ∙ sym back
    | inr none ↦ none ∙ sym not
  ]
]
