-- A writer after more bytes were appended.
use Rattle.std.proofs.Common.{◌≡◌, ◌+◌, ◌≤◌, ◌<◌, ◌^◌, ◌++◌, ℕ, List, length, Option, Some, None, nat_lt, refl, ap, arith}
use Rattle.std.specs.Prelude.{if◌then◌else◌}
use Rattle.std.proofs.lemmas.Bool.Decides.{nat_tests}
use Rattle.ats_proof.specs.Written.{Written, after, joined}
use Rattle.ats_catalog_proof.specs.Inner.Kept.{IsKept}

-- past the limit nothing is kept
pub after_beyond : (limit asked : ℕ) (kept : Option (List ℕ)) (more : List ℕ) → limit < asked + length more
    → after (record { limit = limit; asked = asked; kept = kept }) more ≡ record { limit = limit; asked = asked + length more; kept = None }
unfolding after
after_beyond limit asked kept more over =
    let test : (if nat_lt limit (asked + length more) then None else joined kept more) ≡ None = grind (arith, nat_tests) in
    ap (λ (k : Option (List ℕ)). let w : Written = record { limit = limit; asked = asked + length more; kept = k } in w) test

-- within the limit the bytes follow the others
pub after_within : (limit asked : ℕ) (bytes more : List ℕ) → asked + length more ≤ limit
    → after (record { limit = limit; asked = asked; kept = Some bytes }) more
    ≡ record { limit = limit; asked = asked + length more; kept = Some (bytes ++ more) }
unfolding after
after_within limit asked bytes more fits =
    let test : (if nat_lt limit (asked + length more) then None else Some (bytes ++ more)) ≡ Some (bytes ++ more) = grind (arith, nat_tests) in
    ap (λ (k : Option (List ℕ)). let w : Written = record { limit = limit; asked = asked + length more; kept = k } in w) test

-- bytes that all fit are kept
pub none_kept : (asked n : ℕ) (kept : Option (List ℕ)) → IsKept asked kept → ((bytes : List ℕ) → kept ≡ Some bytes → ⊥) → asked + n ≤ 2 ^ 28 → ⊥
none_kept asked n None holds not fits = omega arith
none_kept asked n (Some bytes) holds not fits = not bytes refl
