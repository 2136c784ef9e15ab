-- How the words of a trial follow one another.
use Rattle.std.proofs.Common.{◌≡◌, ◌≢◌, ◌<◌, ◌≤◌, ◌+◌, ◌*◌, ◌/◌, ◌%◌, ◌++◌, ℕ, zero, suc, List, [], ◌∷◌, codes, decimal, length, refl, sym, ◌∙◌, ap, ap₂, arith, add-zero, add-suc, append-nil, append_assoc}
use Rattle.std.specs.List.{All, flat_map, join_by, range_with_len}
use Rattle.std.proofs.lemmas.Fmt.{length-decimal-le}
use Rattle.std.proofs.lemmas.List.{length-append, map-id}
use Rattle.std.proofs.lemmas.List.Sums.{sum_by-le}
use Rattle.std.proofs.lemmas.Grind.{flat_map-append}
use Rattle.std.proofs.lemmas.List.FromFn.{get_or-map-range_with_len, length-map-range_with_len, map-range_with_len_more}
use Rattle.std.proofs.Math.Nat.{div-lt_iff_lt-mul, mod-lt, mul-le-mul}
use Rattle.ats_impact.specs.Limits.{AreWithin}
use Rattle.ats_impact.specs.Trial.{next, number_at, draw, word_number, word, joined_words, trial_text, first_texts, trial_texts, trial_query}

pub number_at-zero : (x : ℕ) → number_at x 0 ≡ x
unfolding number_at
number_at-zero x = refl

pub number_at-one : (x : ℕ) → number_at x 1 ≡ next x
unfolding number_at
number_at-one x = refl

pub number_at-two : (x : ℕ) → number_at x 2 ≡ next (next x)
unfolding number_at
number_at-two x = refl

-- the numbers from the j-th on are a sequence that begins there
pub number_at-add : (x j k : ℕ) → number_at (number_at x j) k ≡ number_at x (j + k)
unfolding number_at
number_at-add x j zero = ap (number_at x) (sym (add-zero j))
number_at-add x j (suc k) = ap next (number_at-add x j k) ∙ ap (number_at x) (sym (add-suc j k))

-- and so are the words
pub word_number-from : (x j i : ℕ) → word_number (number_at x (2 * j)) i ≡ word_number x (j + i)
word_number-from x j i =
    let first : number_at (number_at x (2 * j)) (2 * i + 1) ≡ number_at x (2 * (j + i) + 1) =
    number_at-add x (2 * j) (2 * i + 1) ∙ ap (number_at x) (omega arith) in
    let second : number_at (number_at x (2 * j)) (2 * i + 2) ≡ number_at x (2 * (j + i) + 2) =
    number_at-add x (2 * j) (2 * i + 2) ∙ ap (number_at x) (omega arith) in
    rw (first, second) refl

word-from : (x j i : ℕ) → word (number_at x (2 * j)) i ≡ word x (j + i)
word-from x j i = rw (word_number-from x j i) refl

range_more : (a n : ℕ) → range_with_len a (n + 1) ≡ range_with_len a n ++ (a + n) ∷ []
range_more a n =
    sym (map-id (range_with_len a (n + 1))) ∙ map-range_with_len_more (λ (k : ℕ). k) a n (a + n) refl
    ∙ ap (λ ks. ks ++ (a + n) ∷ []) (map-id (range_with_len a n))

pub joined_none : (x j : ℕ) → joined_words x j 0 ≡ []
unfolding joined_words
joined_none x j = refl

pub joined_one : (x j : ℕ) → joined_words x j 1 ≡ word x j
unfolding joined_words
joined_one x j = append-nil (word x j)

-- one word more
pub joined_more : (x j n : ℕ) → joined_words x j (suc n + 1) ≡ joined_words x j (suc n) ++ (codes " " ++ word x (j + suc n))
unfolding joined_words
joined_more x j n =
    let f : ℕ → List ℕ = λ i. codes " " ++ word x i in
    let longer : suc n + 1 ≡ suc (suc n) = omega arith in
    let shorter : suc n ≡ n + 1 = omega arith in
    let last : (j + 1) + n ≡ j + suc n = omega arith in
    let more : flat_map f (range_with_len (j + 1) (suc n)) ≡ flat_map f (range_with_len (j + 1) n) ++ f (j + suc n) =
    ap (λ k. flat_map f (range_with_len (j + 1) k)) shorter ∙ ap (flat_map f) (range_more (j + 1) n)
    ∙ flat_map-append f (range_with_len (j + 1) n) (((j + 1) + n) ∷ [])
    ∙ ap (λ ws. flat_map f (range_with_len (j + 1) n) ++ ws) (append-nil (f ((j + 1) + n)) ∙ ap f last) in
    ap (λ k. join_by (word x) (codes " ") (range_with_len j k)) longer
    ∙ ap (λ ws. word x j ++ ws) more ∙ sym (append_assoc (word x j) (flat_map f (range_with_len (j + 1) n)) (f (j + suc n)))

shifted : (x j a n : ℕ) → flat_map (λ i. codes " " ++ word (number_at x (2 * j)) i) (range_with_len a n) ≡ flat_map (λ i. codes " " ++ word x i) (range_with_len (j + a) n)
shifted x j a zero = refl
shifted x j a (suc n) =
    let next : (j + a) + 1 ≡ j + (a + 1) = omega arith in
    ap₂ (λ (w ws : List ℕ). codes " " ++ w ++ ws) (word-from x j a)
    (shifted x j (a + 1) n ∙ ap (λ k. flat_map (λ i. codes " " ++ word x i) (range_with_len k n)) (sym next))

-- the words from the j-th on are the first of the sequence that begins there
pub joined_from : (x j n : ℕ) → joined_words (number_at x (2 * j)) 0 n ≡ joined_words x j n
unfolding joined_words
joined_from x j zero = refl
joined_from x j (suc n) =
    let none : j + 0 ≡ j = omega arith in
    ap₂ (λ (w ws : List ℕ). w ++ ws) (word-from x j 0 ∙ ap (word x) none)
    (shifted x j 1 n)

pub texts_none : (number : ℕ) → first_texts number 0 ≡ []
unfolding first_texts
texts_none number = refl

-- one text more
pub texts_more : (number i : ℕ) → first_texts number (i + 1) ≡ first_texts number i ++ trial_text number i ∷ []
unfolding first_texts
texts_more number i = map-range_with_len_more (trial_text number) 0 i i (omega arith)

-- ---- the steps of loops

-- one word further
pub moved_more : (x i s t : ℕ) → s ≡ number_at x (2 * i) → t ≡ number_at s 2 → t ≡ number_at x (2 * (i + 1))
moved_more x i s t at next = next ∙ ap (λ y. number_at y 2) at ∙ number_at-add x (2 * i) 2 ∙ ap (number_at x) (omega arith)

-- the next word, by its number
pub word_next : (x i s n : ℕ) → s ≡ number_at x (2 * i) → n ≡ word_number s 0 → codes "w" ++ decimal n ≡ word x i
word_next x i s n at is =
    let here : i + 0 ≡ i = omega arith in
    ap (λ k. codes "w" ++ decimal k) (is ∙ ap (λ y. word_number y 0) at ∙ word_number-from x i 0 ∙ ap (word_number x) here)

-- the first word has no space before it
pub joined_first : (x i : ℕ) (text word_text : List ℕ) → i ≡ 0 → text ≡ joined_words x 0 i → word_text ≡ word x i → text ++ word_text ≡ joined_words x 0 (i + 1)
joined_first x zero text word_text none so is = ap₂ (λ (a b : List ℕ). a ++ b) (so ∙ joined_none x 0) is ∙ sym (joined_one x 0)
joined_first x (suc i) text word_text none so is = absurd (omega (arith, none))

-- each later word follows a space
pub joined_later : (x i : ℕ) (text word_text : List ℕ) → i ≢ 0 → text ≡ joined_words x 0 i → word_text ≡ codes " " ++ word x i → text ++ word_text ≡ joined_words x 0 (i + 1)
joined_later x zero text word_text some so is = absurd (some refl)
joined_later x (suc i) text word_text some so is =
    let here : 0 + suc i ≡ suc i = omega arith in
    ap₂ (λ (a b : List ℕ). a ++ b) so (is ∙ ap (λ k. codes " " ++ word x k) (sym here)) ∙ sym (joined_more x 0 i)

-- three words after those of the texts and of i queries
pub drawn_query : (number i s t : ℕ) (text : List ℕ) → s ≡ number → t ≡ number_at s (2 * (2000 * 50 + 3 * i)) → text ≡ joined_words t 0 3 → text ≡ trial_query number i
drawn_query number i s t text from at is =
    is ∙ ap (λ y. joined_words y 0 3) (at ∙ ap (λ y. number_at y (2 * (2000 * 50 + 3 * i))) from) ∙ joined_from number (100000 + 3 * i) 3

-- 50 words after those of i texts
pub drawn_text : (number i s t : ℕ) (text : List ℕ) → s ≡ number_at number (2 * (50 * i)) → t ≡ number_at s (2 * 50) → text ≡ joined_words s 0 50
    → (text ≡ trial_text number i) × (t ≡ number_at number (2 * (50 * (i + 1))))
drawn_text number i s t text at moved is = (
  is ∙ ap (λ y. joined_words y 0 50) at ∙ joined_from number (50 * i) 50,
  moved ∙ ap (λ y. number_at y 100) at ∙ number_at-add number (2 * (50 * i)) 100 ∙ ap (number_at number) (omega arith),
)

-- ---- how long the texts are

scaled : (p q : ℕ) → p < 1000 → q < 1000 → p * q / 1000 < 1000
scaled p q small little =
    let few : 0 < 1000 = omega arith in
    let product : p * q ≤ 999 * 999 = mul-le-mul {n₁ = p} {m₁ = q} {n₂ = 999} {m₂ = 999} (omega (arith, small)) (omega (arith, little)) in
    (div-lt_iff_lt-mul {k = 1000} {x = p * q} {y = 1000} few).1 (omega (arith, product))

pub word_small : (x j : ℕ) → word_number x j < 1000
word_small x j =
    let few : 0 < 1000 = omega arith in
    scaled (draw x (2 * j + 1) % 1000) (draw x (2 * j + 2) % 1000) (mod-lt (draw x (2 * j + 1)) few) (mod-lt (draw x (2 * j + 2)) few)

word_short : (x j : ℕ) → length (word x j) ≤ 4
word_short x j =
    let small = word_small x j in
    omega (arith, length-append (codes "w") (decimal (word_number x j)), length-decimal-le 3 (word_number x j) (omega arith) small (omega (arith, small)))

spaced_short : (x a n : ℕ) → length (flat_map (λ i. codes " " ++ word x i) (range_with_len a n)) ≤ 5 * n
spaced_short x a zero = omega arith
spaced_short x a (suc n) =
    let rest : List ℕ = flat_map (λ i. codes " " ++ word x i) (range_with_len (a + 1) n) in
    omega (arith, length-append (codes " " ++ word x a) rest, length-append (codes " ") (word x a), word_short x a, spaced_short x (a + 1) n)

joined_short : (x j n : ℕ) → length (joined_words x j n) ≤ 5 * n
unfolding joined_words
joined_short x j zero = omega arith
joined_short x j (suc n) =
    let rest : List ℕ = flat_map (λ i. codes " " ++ word x i) (range_with_len (j + 1) n) in
    omega (arith, length-append (word x j) rest, word_short x j, spaced_short x (j + 1) n)

first_many : (number count : ℕ) → length (first_texts number count) ≡ count
unfolding first_texts
first_many number count = length-map-range_with_len (trial_text number) 0 count

first_short : (number count : ℕ) → All (λ text. length text ≤ 250) (first_texts number count)
unfolding first_texts
first_short number count k d inside =
    let low : k < count = omega (arith, inside, length-map-range_with_len (trial_text number) 0 count) in
    omega (arith, ap (λ (text : List ℕ). length text) (get_or-map-range_with_len (trial_text number) 0 count k k d low (omega arith)), joined_short number (50 * k) 50)

-- the texts of a trial are within the limits of a collection
pub trial_within : (number : ℕ) → AreWithin (trial_texts number)
trial_within number =
    let texts : List (List ℕ) = trial_texts number in
    let many = first_many number 2000 in
    let short = first_short number 2000 in
    record {
      some = omega (arith, many);
      few = omega (arith, many);
      short = λ k d inside. omega (arith, short k d inside);
      small = omega (arith, many, sum_by-le (λ (text : List ℕ). length text) 250 texts short);
    }
