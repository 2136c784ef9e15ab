-- What a parallel map over the places of a list collects.
use Rattle.std.proofs.Common.{◌≡◌, ◌≤◌, ◌-◌, ℕ, zero, suc, List, [], ◌∷◌, ◌++◌, length, get_or, take, map, Ok, Err, IfOk, refl, ap, sym, ◌∙◌, add-one, arith}
use Rattle.std.specs.Prelude.{MatchResult}
use Rattle.std.specs.List.{AllZip, range_with_len}
use Rattle.std.specs.declared.result.Result.{Result}
use Rattle.std.proofs.Math.Seq.{take-suc}
use Rattle.std.proofs.lemmas.List.{map-append, take_all}
use Rattle.std.proofs.lemmas.List.FromFn.{map-range_with_len_more}
use Rattle.rayon.specs.Numbers.{nat_range}

-- results without an error are the values of the inputs
unpacked : {X Y : Type 0} (E : Type 0) (f : X → Y) (asked : List X) (ys : List Y) → AllZip (λ x (r : Result Y E). IfOk r (λ y. y ≡ f x)) asked (map Ok ys) → ys ≡ map f asked
unpacked E f [] [] each = refl
unpacked E f [] (y ∷ ys) each = absurd each
unpacked E f (x ∷ asked) [] each = absurd each
unpacked E f (x ∷ asked) (y ∷ ys) each = λ i. each.0 i ∷ unpacked E f asked ys each.1 i

module _ {X Y : Type 0} (f : X → Y) (d : X) (xs : List X) where
  abbrev value_at : ℕ → Y
  value_at i = f (get_or xs i d)

  at_places : (n : ℕ) → n ≤ length xs → map value_at (range_with_len 0 n) ≡ map f (take n xs)
  at_places zero within = refl
  at_places (suc n) within =
      ap (λ (k : ℕ). map value_at (range_with_len 0 k)) (sym (add-one n))
      ∙ map-range_with_len_more value_at 0 n n (omega arith)
      ∙ ap (λ (ys : List Y). ys ++ f (get_or xs n d) ∷ []) (at_places n (omega (arith, within)))
      ∙ sym (map-append f (take n xs) (get_or xs n d ∷ []))
      ∙ ap (map f) (sym (take-suc xs n d (omega (arith, within))))

  -- the values at all places, in order, if no result is an error
  pub collected : {V E : Type 0} (items : V → List Y) (bad : E → Type 0) (places : List ℕ) (answers : List (Result Y E)) (made : Result V E)
      → places ≡ nat_range 0 (length xs) → AllZip (λ i r. IfOk r (λ y. y ≡ f (get_or xs i d))) places answers
      → MatchResult made (λ v. (ys : List Y) × (answers ≡ map Ok ys) × (items v ≡ ys)) bad → IfOk made (λ v. items v ≡ map f xs)
  collected {E = E} items bad places answers (Ok v) all each found =
      let whole : length xs - 0 ≡ length xs = omega arith in
      found.2
      ∙ unpacked E value_at places found.0 (rw found.1 at each)
      ∙ ap (map value_at) (all ∙ ap (range_with_len 0) whole)
      ∙ at_places (length xs) (omega arith)
      ∙ ap (map f) (take_all (length xs) xs (omega arith))
  collected items bad places answers (Err e) all each found = tt
