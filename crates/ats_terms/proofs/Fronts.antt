-- Terms that are compared by the numbers of their first bytes.
use Rattle.std.proofs.Common.{◌≡◌, ◌≢◌, ◌<◌, ◌≤◌, ◌+◌, ◌-◌, ◌*◌, ◌%◌, ◌^◌, ℕ, min, take, drop, zero, suc, List, [], ◌∷◌, ◌++◌, length, get_or, replicate, refl, sym, ap, ap₂, subst, ◌∙◌, inl, inr, arith}
use Rattle.std.specs.Ordering.{nat_cmp, ordering_reverse}
use Rattle.std.specs.declared.cmp.Ordering.{Ordering}
use Rattle.std.specs.declared.cmp.Ordering.TheVariants.{Less, Equal, Greater}
use Rattle.std.proofs.lemmas.Bool.{cases_lt}
use Rattle.std.proofs.lemmas.Bool.Decides.{nat_tests}
use Rattle.std.proofs.lemmas.Cmp.{nat_cmp_total, nat_list_cmp_total, tied_itself}
use Rattle.std.proofs.lemmas.List.{get_or_default, same_lists}
use Rattle.byteorder.specs.Endian.{big_number}
use Rattle.ats_terms.specs.Front.{front, AreBytes}
use Rattle.ats_terms.specs.Query.{byte_cmp}

-- the number depends only on the first bytes
front_by : (n : ℕ) (x y : List ℕ) → ((i : ℕ) → i < n → get_or x i 0 ≡ get_or y i 0) → front n x ≡ front n y
unfolding front
front_by zero x y same = refl
front_by (suc n) x y same =
    ap₂ (λ (f b : ℕ). f * 256 + b) (front_by n x y (λ i inside. same i (omega arith))) (same n (omega arith))

zeros_after : (term : List ℕ) (n i : ℕ) → get_or (term ++ replicate n 0) i 0 ≡ get_or term i 0
zeros_after [] zero i = refl
zeros_after [] (suc n) zero = refl
zeros_after [] (suc n) (suc i) = zeros_after [] n i
zeros_after (b ∷ term) n zero = refl
zeros_after (b ∷ term) n (suc i) = zeros_after term n i

-- zeros after a term change nothing
pub front_padded : (n m : ℕ) (term : List ℕ) → front n (term ++ replicate m 0) ≡ front n term
front_padded n m term = front_by n (term ++ replicate m 0) term (λ i inside. zeros_after term m i)

-- the number of 8 bytes is the one that is read
pub front_read : (term : List ℕ) → big_number 8 term ≡ front 8 term
unfolding front
front_read term = omega arith

-- the number of 4 to 7 bytes joins that of the first 4 with that of the last 4, without those that are among the first
pub front_joined : (term : List ℕ) (first last : ℕ) → AreBytes term → 4 ≤ length term → length term < 8
    → first ≡ big_number 4 term → last ≡ big_number 4 (take (length term - (length term - 4)) (drop (length term - 4) term))
    → first * 2 ^ 32 % 2 ^ 64 + last * 2 ^ (8 * (8 - length term)) % 2 ^ 64 % 2 ^ 32 ≡ front 8 term
unfolding front
front_joined [] first last bytes some few is rest = absurd (omega arith)
front_joined (a ∷ []) first last bytes some few is rest = absurd (omega arith)
front_joined (a ∷ b ∷ []) first last bytes some few is rest = absurd (omega arith)
front_joined (a ∷ b ∷ c ∷ []) first last bytes some few is rest = absurd (omega arith)
front_joined (a ∷ b ∷ c ∷ d ∷ []) first last bytes some few is rest = omega (arith, is, rest, bytes 0, bytes 1, bytes 2, bytes 3)
front_joined (a ∷ b ∷ c ∷ d ∷ e ∷ []) first last bytes some few is rest = omega (arith, is, rest, bytes 0, bytes 1, bytes 2, bytes 3, bytes 4)
front_joined (a ∷ b ∷ c ∷ d ∷ e ∷ f ∷ []) first last bytes some few is rest = omega (arith, is, rest, bytes 0, bytes 1, bytes 2, bytes 3, bytes 4, bytes 5)
front_joined (a ∷ b ∷ c ∷ d ∷ e ∷ f ∷ g ∷ []) first last bytes some few is rest = omega (arith, is, rest, bytes 0, bytes 1, bytes 2, bytes 3, bytes 4, bytes 5, bytes 6)
front_joined (a ∷ b ∷ c ∷ d ∷ e ∷ f ∷ g ∷ h ∷ more) first last bytes some few is rest = absurd (omega arith)

-- terms with the same number have the same first bytes
same_bytes : (n : ℕ) (x y : List ℕ) → AreBytes x → AreBytes y → front n x ≡ front n y → (i : ℕ) → i < n → get_or x i 0 ≡ get_or y i 0
unfolding front
same_bytes zero x y xs ys same i inside = absurd (omega arith)
same_bytes (suc n) x y xs ys same i inside =
    let sum : front n x * 256 + get_or x n 0 ≡ front n y * 256 + get_or y n 0 = same in
    elim (cases_lt i n) [
      | inl before ↦ same_bytes n x y xs ys (omega (arith, sum, xs n, ys n)) i before
      | inr last ↦
          let here : i ≡ n = omega arith in
          rw here (omega (arith, sum, xs n, ys n))
    ]

-- the first byte that differs decides
first_less : (n : ℕ) (x y : List ℕ) → ((i : ℕ) → i < n → get_or x i 0 ≡ get_or y i 0) → get_or x n 0 < get_or y n 0 → byte_cmp x y ≡ Less
first_less n [] [] same less = absurd (omega (arith, less))
first_less n [] (b ∷ y) same less = refl
first_less n (a ∷ x) [] same less = absurd (omega (arith, less))
first_less zero (a ∷ x) (b ∷ y) same less =
    let below : nat_cmp a b ≡ Less = grind (arith, nat_tests) in
    rw below refl
first_less (suc n) (a ∷ x) (b ∷ y) same less =
    let head : a ≡ b = same 0 (omega arith) in
    let tied : nat_cmp a b ≡ Equal = subst (λ c. nat_cmp a c ≡ Equal) head (tied_itself nat_cmp_total a) in
    rw tied (first_less n x y (λ i inside. same (suc i) (omega arith)) less)

pub front_less : (n : ℕ) (x y : List ℕ) → AreBytes x → AreBytes y → front n x < front n y → byte_cmp x y ≡ Less
unfolding front
front_less zero x y xs ys less = let none : 0 < 0 = less in absurd (omega (arith, none))
front_less (suc n) x y xs ys less =
    let sum : front n x * 256 + get_or x n 0 < front n y * 256 + get_or y n 0 = less in
    elim (cases_lt (front n x) (front n y)) [
      | inl before ↦ front_less n x y xs ys before
      | inr not_before ↦
          let same : front n x ≡ front n y = omega (arith, sum, xs n, ys n) in
          first_less n x y (same_bytes n x y xs ys same) (omega (arith, sum, same))
    ]

-- if the numbers differ, the terms compare as they do
pub front_decides : (n : ℕ) (x y : List ℕ) → AreBytes x → AreBytes y → (o : Ordering) → o ≡ nat_cmp (front n x) (front n y) → o ≢ Equal
    → o ≡ byte_cmp x y
front_decides n x y xs ys Less is other =
    let below : front n x < front n y = grind (arith, nat_tests) in
    sym (front_less n x y xs ys below)
front_decides n x y xs ys Equal is other = absurd (other refl)
front_decides n x y xs ys Greater is other =
    let above : front n y < front n x = grind (arith, nat_tests) in
    sym (nat_list_cmp_total.antisymm x y ∙ ap ordering_reverse (front_less n y x ys xs above))

suc_cmp : (m k : ℕ) → nat_cmp (suc m) (suc k) ≡ nat_cmp m k
suc_cmp m k = grind (arith, nat_tests)

-- if one term begins with the other, the shorter comes first
by_length : (x y : List ℕ) → ((i : ℕ) → i < length x → i < length y → get_or x i 0 ≡ get_or y i 0) → nat_cmp (length x) (length y) ≡ byte_cmp x y
by_length [] [] same = refl
by_length [] (b ∷ y) same =
    let below : nat_cmp 0 (suc (length y)) ≡ Less = grind (arith, nat_tests) in
    below
by_length (a ∷ x) [] same =
    let above : nat_cmp (suc (length x)) 0 ≡ Greater = grind (arith, nat_tests) in
    above
by_length (a ∷ x) (b ∷ y) same =
    let head : a ≡ b = same 0 (omega arith) (omega arith) in
    let tied : nat_cmp a b ≡ Equal = subst (λ c. nat_cmp a c ≡ Equal) head (tied_itself nat_cmp_total a) in
    rw tied (suc_cmp (length x) (length y) ∙ by_length x y (λ i inside within. same (suc i) (omega arith) (omega arith)))

-- if the numbers are equal and one term has at most n bytes, the lengths compare as the terms do
pub length_decides : (n : ℕ) (x y : List ℕ) → AreBytes x → AreBytes y → front n x ≡ front n y → min (length x) (length y) ≤ n
    → nat_cmp (length x) (length y) ≡ byte_cmp x y
length_decides n x y xs ys same few =
    by_length x y (λ i inside within. same_bytes n x y xs ys same i (omega arith))

-- terms of at most n bytes with the same number and the same length are equal
pub front_tells : (n : ℕ) (x y : List ℕ) → AreBytes x → AreBytes y → length x ≤ n → length x ≡ length y → front n x ≡ front n y → x ≡ y
front_tells n x y xs ys few size same = same_lists x y size (λ k d inside.
    get_or_default x k d 0 inside ∙ same_bytes n x y xs ys same k (omega arith) ∙ sym (get_or_default y k d 0 (omega arith)))
