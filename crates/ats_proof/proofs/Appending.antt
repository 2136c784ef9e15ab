-- A writer after more bytes were appended.
use Rattle.std.proofs.Common.{◌≡◌, ◌+◌, ◌≤◌, ◌<◌, ◌++◌, ℕ, List, length, Option, Some, None, nat_lt, refl, sym, ap, ap₂, inl, inr, arith, length-append}
use Rattle.std.specs.Prelude.{if◌then◌else◌}
use Rattle.std.proofs.lemmas.Bool.Decides.{nat_tests}
use Rattle.std.proofs.lemmas.Bool.{cases_lt}
use Rattle.ats_proof.specs.Written.{Written, writing, after, joined}
use Rattle.ats_proof.specs.Inner.Written.{Holds}

-- past the limit nothing is kept
pub after_beyond : (limit asked : ℕ) (kept : Option (List ℕ)) (more : List ℕ) → limit < asked + length more
    → after (record { limit = limit; asked = asked; kept = kept }) more ≡ record { limit = limit; asked = asked + length more; kept = None }
unfolding after
after_beyond limit asked kept more over =
    let test : (if nat_lt limit (asked + length more) then None else joined kept more) ≡ None = grind (arith, nat_tests) in
    ap (λ (k : Option (List ℕ)). let w : Written = record { limit = limit; asked = asked + length more; kept = k } in w) test

-- within the limit the bytes follow the others
pub after_within : (limit asked : ℕ) (bytes more : List ℕ) → asked + length more ≤ limit
    → after (record { limit = limit; asked = asked; kept = Some bytes }) more
    ≡ record { limit = limit; asked = asked + length more; kept = Some (bytes ++ more) }
unfolding after
after_within limit asked bytes more fits =
    let test : (if nat_lt limit (asked + length more) then None else Some (bytes ++ more)) ≡ Some (bytes ++ more) = grind (arith, nat_tests) in
    ap (λ (k : Option (List ℕ)). let w : Written = record { limit = limit; asked = asked + length more; kept = k } in w) test

-- bytes that all fit are kept
pub none_kept : (limit asked n : ℕ) (kept : Option (List ℕ)) → Holds limit asked kept → ((bytes : List ℕ) → kept ≡ Some bytes → ⊥) → asked + n ≤ limit → ⊥
none_kept limit asked n None holds not fits = omega arith
none_kept limit asked n (Some bytes) holds not fits = not bytes refl

-- bytes that are appended after some follow them
pub after-writing : (limit : ℕ) (bytes more : List ℕ) → after (writing limit bytes) more ≡ writing limit (bytes ++ more)
unfolding after
after-writing limit bytes more =
    let sum : length bytes + length more ≡ length (bytes ++ more) = sym (length-append bytes more) in
    let kept : (if nat_lt limit (length bytes + length more) then None else joined (if nat_lt limit (length bytes) then None else Some bytes) more)
    ≡ (if nat_lt limit (length (bytes ++ more)) then None else Some (bytes ++ more)) =
    elim (cases_lt limit (length bytes + length more)) [
      | inl over ↦ (grind (arith, nat_tests))
      | inr fits ↦ (grind (arith, nat_tests))
    ] in
    ap₂ (λ (n : ℕ) (k : Option (List ℕ)). let w : Written = record { limit = limit; asked = n; kept = k } in w) sum kept
