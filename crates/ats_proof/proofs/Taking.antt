-- Taking parts from the front of a run, and reading one of a run of one size.
use Rattle.std.proofs.Common.{◌≡◌, ◌∙◌, ℕ, zero, suc, ◌+◌, ◌-◌, ◌*◌, ◌<◌, ◌≤◌, List, ◌∷◌, length, drop, slice_get, slice_index, Some, zero-mul, sym, ap, subst, arith}
use Rattle.std.specs.List.{All, AllByRecursion}
use Rattle.std.specs.List.Sorted.{IsStrictlyIncreasing}
use Rattle.std.proofs.lemmas.List.{drop-drop, length-take-le, length-drop}
use Rattle.std.proofs.lemmas.List.Elements.{All-from_recursion}
use Rattle.ats_proof.specs.Parts.{number_in, parts_in, total_size, counted_size}
use Rattle.ats_proof.specs.Reading.{digest_size, digest_in, posting_size}

module _ {X : Type 0} (size : List ℕ → ℕ) (read : List ℕ → X) where
  pub parts_more : (n : ℕ) (bytes : List ℕ) → 0 < n → parts_in size read n bytes ≡ read bytes ∷ parts_in size read (n - 1) (drop (size bytes) bytes)
  parts_more zero bytes some = absurd (omega (arith, some))
  parts_more (suc n) bytes some = let e : n ≡ suc n - 1 = omega arith in ap (λ (k : ℕ). read bytes ∷ parts_in size read k (drop (size bytes) bytes)) e

  -- the parts left after the first
  pub parts_passed : (n m : ℕ) (bytes rest : List ℕ) → m + 1 ≡ n → rest ≡ drop (size bytes) bytes → parts_in size read m rest ≡ drop 1 (parts_in size read n bytes)
  parts_passed n m bytes rest count is =
      let e : suc m ≡ n = omega (arith, count) in
      subst (λ (k : ℕ). parts_in size read m rest ≡ drop 1 (parts_in size read k bytes)) e (ap (parts_in size read m) is)

  pub total_more : (n : ℕ) (bytes : List ℕ) → 0 < n → total_size size n bytes ≡ size bytes + total_size size (n - 1) (drop (size bytes) bytes)
  total_more zero bytes some = absurd (omega (arith, some))
  total_more (suc n) bytes some = let e : n ≡ suc n - 1 = omega arith in ap (λ (k : ℕ). size bytes + total_size size k (drop (size bytes) bytes)) e

module _ {X : Type 0} (k : ℕ) (read : List ℕ → X) where
  pub total_fixed : (n : ℕ) (bytes : List ℕ) → total_size (λ _. k) n bytes ≡ n * k
  total_fixed zero bytes = sym (zero-mul k)
  total_fixed (suc n) bytes = let h = total_fixed n (drop k bytes) in omega (arith, h)

  pub part_at : (n i : ℕ) (bytes : List ℕ) → i < n → slice_get (parts_in (λ _. k) read n bytes) i ≡ Some (read (drop (k * i) bytes))
  part_at zero i bytes within = absurd (omega (arith, within))
  part_at (suc n) zero bytes within = let e : 0 ≡ k * 0 = omega arith in ap (λ (j : ℕ). Some (read (drop j bytes))) e
  part_at (suc n) (suc i) bytes within =
      let e : k + k * i ≡ k * suc i = omega arith in
      part_at n i (drop k bytes) (omega (arith, within)) ∙ ap (λ (xs : List ℕ). Some (read xs)) (drop-drop (k * i) k bytes) ∙ ap (λ (j : ℕ). Some (read (drop j bytes))) e

sized : (n : ℕ) (bytes : List ℕ) → n * 32 ≤ length bytes → AllByRecursion (λ d. length d ≡ 32) (parts_in digest_size digest_in n bytes)
sized zero bytes fits = tt
sized (suc n) bytes fits = (length-take-le 32 bytes (omega (arith, fits)), sized n (drop 32 bytes) (omega (arith, fits, length-drop 32 bytes)))

pub digests-sized : (n : ℕ) (bytes : List ℕ) → n * 32 ≤ length bytes → All (λ d. length d ≡ 32) (parts_in digest_size digest_in n bytes)
digests-sized n bytes fits = All-from_recursion (λ d. length d ≡ 32) _ (sized n bytes fits)

module _ (size : List ℕ → ℕ) (n : ℕ) (bytes : List ℕ) (some : 0 < n) (fits : total_size size n bytes ≤ length bytes) where
  pub first_fits : size bytes ≤ length bytes
  first_fits = let e = total_more size (λ b. b) n bytes some in omega (arith, e, fits)

  pub rest_fits : total_size size (n - 1) (drop (size bytes) bytes) ≤ length (drop (size bytes) bytes)
  rest_fits = let e = total_more size (λ b. b) n bytes some in omega (arith, e, fits, length-drop (size bytes) bytes)

-- the rest of rising numbers
pub increasing-tail : (p : ℕ) (ps : List ℕ) → IsStrictlyIncreasing (p ∷ ps) → IsStrictlyIncreasing ps
increasing-tail p ps rises k below =
    let e : suc k + 1 ≡ suc (k + 1) = omega arith in
    subst (λ (j : ℕ). slice_index ps k < slice_index (p ∷ ps) j) e (rises (suc k) (omega (arith, below)))

-- the bytes after the entries of a prefix
pub after_postings : (bytes : List ℕ) → drop (number_in 4 bytes * 6) (drop 4 bytes) ≡ drop (counted_size 4 posting_size bytes) bytes
after_postings bytes = drop-drop (number_in 4 bytes * 6) 4 bytes ∙ ap (λ (n : ℕ). drop (4 + n) bytes) (sym (total_fixed 6 (λ b. b) (number_in 4 bytes) (drop 4 bytes)))

-- ---- going along a run, part by part

-- `left` of the parts in the bytes are left, and the rest has room for them
pub record IsAlong (size : List ℕ → ℕ) (count : ℕ) (bytes : List ℕ) (left : ℕ) (rest : List ℕ) : Type 0 where
  pub fits : total_size size left rest ≤ length rest
  pub same : length bytes + total_size size left rest ≡ length rest + total_size size count bytes

pub along_more : (size : List ℕ → ℕ) (count : ℕ) (bytes : List ℕ) (left : ℕ) (rest : List ℕ) → 0 < left → IsAlong size count bytes left rest → IsAlong size count bytes (left - 1) (drop (size rest) rest)
along_more size count bytes left rest some is =
    let e = total_more size (λ b. b) left rest some in
    record {
      fits = rest_fits size left rest some is.fits;
      same = omega (arith, is.same, is.fits, e, length-drop (size rest) rest);
    }
