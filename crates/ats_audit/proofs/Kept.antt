-- A relation of two lists, pair by pair, if the second list has no error.
use Rattle.std.proofs.Common.{◌≡◌, List, [], ◌∷◌, IfOk, map, subst}
use Rattle.std.specs.Prelude.{Ok}
use Rattle.std.specs.List.{AllZip}
use Rattle.std.specs.declared.result.Result.{Result}

module _ {X Y : Type 0} (E : Type 0) (R : X → Y → Type 0) where
  kept : (xs : List X) (ys : List Y) → AllZip (λ x (r : Result Y E). IfOk r (R x)) xs (map Ok ys) → AllZip R xs ys
  kept [] [] h = tt
  kept [] (y ∷ ys) h = absurd h
  kept (x ∷ xs) [] h = absurd h
  kept (x ∷ xs) (y ∷ ys) h = (h.0, kept xs ys h.1)

module _ {X Y E : Type 0} (R : X → Y → Type 0) where
  -- no result is an error
  pub all_there : (xs : List X) (ys : List Y) (answers : List (Result Y E)) → answers ≡ map Ok ys
      → AllZip (λ x r. IfOk r (R x)) xs answers → AllZip R xs ys
  all_there xs ys answers is h = kept E R xs ys (subst (AllZip (λ x (r : Result Y E). IfOk r (R x)) xs) is h)
