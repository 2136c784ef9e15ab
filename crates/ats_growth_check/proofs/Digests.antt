-- Lists of digests in the other direction.
use Rattle.std.proofs.Common.{◌≡◌, ℕ, zero, suc, ◌+◌, List, [], ◌∷◌, ◌++◌, take, drop, reverse, Some, refl, sym, ◌∙◌, ap, subst, slice_get}
use Rattle.std.specs.List.{All}
use Rattle.std.proofs.Math.Numerals.{one-add}
use Rattle.std.proofs.lemmas.List.{reverse-append}
use Rattle.std.proofs.lemmas.List.Elements.{All-nil, All-cons, All-head, All-tail, All-append}

pub reverse-first : {A : Type 0} (x : A) (xs : List A) → reverse (x ∷ xs) ≡ reverse xs ++ x ∷ []
reverse-first x xs = reverse-append (x ∷ []) xs

-- the last element comes first
pub reverse-last : {A : Type 0} (xs : List A) (x : A) → reverse (xs ++ x ∷ []) ≡ x ∷ reverse xs
reverse-last xs x = reverse-append xs (x ∷ [])

pub All-reverse : {A : Type 0} (P : A → Type 0) (xs : List A) → All P xs → All P (reverse xs)
All-reverse P [] all = all
All-reverse P (x ∷ xs) all =
    subst (λ ys. All P ys) (sym (reverse-first x xs))
    (All-append P (reverse xs) (x ∷ []) (All-reverse P xs (All-tail P x xs all)) (All-cons P x [] (All-head P x xs all) (All-nil P)))

take-more : (c : ℕ) (ds : List (List ℕ)) (y : List ℕ) → slice_get (drop c ds) 0 ≡ Some y → take (1 + c) ds ≡ take c ds ++ y ∷ []
take-more c ds y is = subst (λ (k : ℕ). take k ds ≡ take c ds ++ y ∷ []) (sym (one-add c)) (at c ds is)
  where
    at : (c : ℕ) (ds : List (List ℕ)) → slice_get (drop c ds) 0 ≡ Some y → take (suc c) ds ≡ take c ds ++ y ∷ []
    at zero [] is = absurd (cc)
    at zero (d ∷ ds) is = let e : d ≡ y = cc in ap (λ (x : List ℕ). x ∷ []) e
    at (suc c) [] is = absurd (cc)
    at (suc c) (d ∷ ds) is = ap (λ (rest : List (List ℕ)). d ∷ rest) (at c ds is)

-- one digest more, from the last to the first
pub one-more : (c : ℕ) (ds : List (List ℕ)) (y : List ℕ) → slice_get (drop c ds) 0 ≡ Some y → reverse (take (1 + c) ds) ≡ y ∷ reverse (take c ds)
one-more c ds y is = ap reverse (take-more c ds y is) ∙ reverse-last (take c ds) y

pub drop-more : (c : ℕ) (ds : List (List ℕ)) → drop 1 (drop c ds) ≡ drop (1 + c) ds
drop-more c ds = subst (λ (k : ℕ). drop 1 (drop c ds) ≡ drop k ds) (sym (one-add c)) (at c ds)
  where
    at : (c : ℕ) (ds : List (List ℕ)) → drop 1 (drop c ds) ≡ drop (suc c) ds
    at zero [] = refl
    at zero (d ∷ ds) = refl
    at (suc c) [] = refl
    at (suc c) (d ∷ ds) = at c ds
