-- A comparer, from its start to its result.
use Rattle.std.proofs.Common.{◌≡◌, ◌+◌, ◌<◌, ◌≤◌, ◌∙◌, ℕ, Bool, List, [], ◌++◌, true, false, nat_lt, length, drop, refl, sym, ap, subst, arith, append_assoc, length-append}
use Rattle.std.specs.Prelude.{nat_eq}
use Rattle.std.specs.List.{common_prefix_len}
use Rattle.std.proofs.lemmas.List.{append-nil, append_cancel_left, drop-drop}
use Rattle.std.proofs.lemmas.List.Sums.{common_prefix_len-le}
use borrow.Author.Tests.{ltb-true, ltb-false}
use Rattle.ats_index.specs.Inner.Comparing.{IsCompared}
use Rattle.ats_index.specs.LoadFaults.{IsDifference}
use Rattle.ats_index.proofs.CommonPrefix.{shared, whole, all_common, more_same, more_other}

-- a difference that was seen stays
pub stays : (bytes : List ℕ) (same : ℕ) (front piece : List ℕ) → IsCompared bytes same true front → IsCompared bytes same true (front ++ piece)
stays bytes same front piece seen more = subst (λ others. IsDifference bytes others same) (sym (append_assoc front piece more)) (seen (piece ++ more))

module _ (bytes : List ℕ) (same : ℕ) (front piece : List ℕ) (so_far : IsCompared bytes same false front) (n : ℕ) (is : n ≡ common_prefix_len nat_eq (drop same bytes) piece) where
  the_length : length piece ≤ n → n ≤ length piece → length piece ≡ n
  the_length least most = omega arith

  -- the piece follows
  pub goes_on : length piece ≤ n → n ≤ length piece → IsCompared bytes (same + n) false (front ++ piece)
  goes_on least most =
      let left : List ℕ = drop same bytes in
      let next : left ≡ piece ++ drop (length piece) left = all_common left piece (omega (arith, is)) in
      let passed : drop (length piece) left ≡ drop (same + n) bytes =
      drop-drop (length piece) same bytes ∙ ap (λ k. drop (same + k) bytes) (the_length least most) in (
        omega (arith, so_far.0, length-append front piece),
        so_far.1 ∙ ap (λ xs. front ++ xs) (next ∙ ap (λ xs. piece ++ xs) passed) ∙ sym (append_assoc front piece (drop (same + n) bytes)),
      )

  -- the piece differs
  pub is_seen : n < length piece → IsCompared bytes (same + n) true (front ++ piece)
  is_seen short more =
      let left : List ℕ = drop same bytes in
      let few : common_prefix_len nat_eq left piece < length piece = omega (arith, is) in
      let joined : (front ++ piece) ++ more ≡ front ++ (piece ++ more) = append_assoc front piece more in
      record {
        other = λ equal. more_other left piece more few (append_cancel_left front left (piece ++ more) (sym so_far.1 ∙ equal ∙ joined));
        prefix = omega (
          arith,
          so_far.0,
          is,
          more_same left piece more few,
          shared front left (piece ++ more),
          ap (λ xs. common_prefix_len nat_eq xs ((front ++ piece) ++ more)) so_far.1,
          ap (λ ys. common_prefix_len nat_eq (front ++ left) ys) joined,
        );
      }

  put_more : (less : Bool) → nat_lt n (length piece) ≡ less → IsCompared bytes (same + n) less (front ++ piece)
  put_more true test = is_seen (ltb-true n (length piece) test)
  put_more false test = goes_on (ltb-false n (length piece) test) (omega (arith, is, (common_prefix_len-le nat_eq (drop same bytes) piece).1))

  -- a piece more
  pub put_next : IsCompared bytes (same + n) (nat_lt n (length piece)) (front ++ piece)
  put_next = put_more (nat_lt n (length piece)) refl

-- a difference that was seen
pub tells_seen : (bytes : List ℕ) (same : ℕ) (differs : Bool) (others : List ℕ) → IsCompared bytes same differs others → differs ≡ true → IsDifference bytes others same
tells_seen bytes same differs others compared seen =
    let always = subst (λ differs. IsCompared bytes same differs others) seen compared in
    subst (λ all. IsDifference bytes all same) (append-nil others) (always [])

-- bytes that are left are the difference
pub tells_left : (bytes : List ℕ) (same : ℕ) (differs : Bool) (others : List ℕ) → IsCompared bytes same differs others → differs ≡ false → same < length bytes
    → IsDifference bytes others same
tells_left bytes same differs others compared none left =
    let so_far : IsCompared bytes same false others = subst (λ differs. IsCompared bytes same differs others) none compared in
    record {
      other = λ equal. omega (arith, so_far.0, ap (λ (xs : List ℕ). length xs) equal);
      prefix = so_far.0 ∙ sym (whole others (drop same bytes)) ∙ ap (λ xs. common_prefix_len nat_eq xs others) (sym so_far.1);
    }
