-- The first leaves of a list, shown: their positions are 0, 1, 2 and so on.
use Rattle.std.proofs.Common.{◌≡◌, ℕ, zero, suc, ◌+◌, ◌-◌, ◌<◌, ◌≤◌, List, [], ◌∷◌, ◌++◌, length, false, refl, sym, ◌∙◌, ap, arith, inl, inr, None, subst}
use Rattle.std.specs.List.{range_with_len}
use Rattle.std.specs.List.Sorted.{IsStrictlyIncreasing}
use Rattle.std.specs.Option.{is_none}
use Rattle.std.proofs.lemmas.Bool.{cond-true, cond-false, cases_lt, eq-eqb, ne_eqb, lt-ltb, and_from}
use Rattle.std.proofs.lemmas.List.{length-map}
use Rattle.std.proofs.lemmas.List.FromFn.{get_or-range_with_len, length-range_with_len}
use Rattle.ats_tree.specs.Shown.{Shown, positions_of, shown_at, places}
use Rattle.ats_tree.specs.Part.{RisesFrom, shown_from}
use Rattle.ats_tree.specs.Inner.Part.{RisesWithin}
use Rattle.ats_tree.proofs.Public.{IsFront, front-nil}

pub front-length : (a n : ℕ) (shown : List Shown) → positions_of shown ≡ range_with_len a n → length shown ≡ n
front-length a n shown is = sym (length-map shown (λ s. s.0)) ∙ ap length is ∙ length-range_with_len a n

pub front-rises : (a n : ℕ) (shown : List Shown) → positions_of shown ≡ range_with_len a n → RisesFrom a shown
front-rises a n [] is = tt
front-rises a zero (s ∷ rest) is = absurd (cc)
front-rises a (suc n) (s ∷ rest) is =
    let first : s.0 ≡ a = cc
    in let later : positions_of rest ≡ range_with_len (a + 1) n = cc
    in let low : a ≤ s.0 = omega arith
    in (low, subst (λ p. RisesFrom (p + 1) rest) (sym first) (front-rises (a + 1) n rest later))

-- a run of numbers with one number more
pub range-more : (a n j : ℕ) → a + n ≡ j → range_with_len a (n + 1) ≡ range_with_len a n ++ j ∷ []
range-more a zero j at = let here : a ≡ j = omega arith in ap (λ (i : ℕ). i ∷ []) here
range-more a (suc n) j at =
    let at' : a + 1 + n ≡ j = omega arith
    in let size : suc n + 1 ≡ suc (n + 1) = omega arith
    in rw size (ap (λ (rest : List ℕ). a ∷ rest) (range-more (a + 1) n j at'))

-- a run of numbers rises strictly
pub range-rises : (n : ℕ) → IsStrictlyIncreasing (range_with_len 0 n)
range-rises n k inside =
    omega (arith, get_or-range_with_len 0 n k 0 (omega (arith, inside, length-range_with_len 0 n)), get_or-range_with_len 0 n (k + 1) 0 (omega (arith, inside, length-range_with_len 0 n)))

-- the first positions rise within those of the list
pub front-within : (a n end : ℕ) → a + n ≤ end → RisesWithin a end (range_with_len a n)
front-within a zero end within = tt
front-within a (suc n) end within =
    let low : a ≤ a = omega arith
    in let high : a < end = omega arith
    in let rest : a + 1 + n ≤ end = omega arith
    in (low, high, front-within (a + 1) n end rest)

-- a leaf is shown at each position below the end
pub front-there : (a n i : ℕ) (shown : List Shown) → positions_of shown ≡ range_with_len a n → a ≤ i → i < a + n
    → is_none (shown_at shown i) ≡ false
front-there a zero i shown is low high = absurd (omega arith)
front-there a (suc n) i [] is low high = absurd (cc)
front-there a (suc n) i (s ∷ rest) is low high =
    let first : s.0 ≡ a = cc
    in let later : positions_of rest ≡ range_with_len (a + 1) n = cc
    in elim (cases_lt a i) [
      | inl more ↦
          let other : s.0 ≡ i → ⊥ = λ e. absurd (omega arith)
          in let low' : a + 1 ≤ i = omega arith
          in let high' : i < a + 1 + n = omega arith
          in ap is_none (cond-false _ _ _ (ne_eqb s.0 i other)) ∙ front-there (a + 1) n i rest later low' high'
      | inr less ↦
          let here : s.0 ≡ i = omega arith in ap is_none (cond-true _ _ _ (eq-eqb s.0 i here))
    ]

-- and none past it
pub front-past : (a n i : ℕ) (shown : List Shown) → positions_of shown ≡ range_with_len a n → a + n ≤ i → shown_at shown i ≡ None
front-past a n i [] is past = refl
front-past a zero i (s ∷ rest) is past = absurd (cc)
front-past a (suc n) i (s ∷ rest) is past =
    let first : s.0 ≡ a = cc
    in let later : positions_of rest ≡ range_with_len (a + 1) n = cc
    in let other : s.0 ≡ i → ⊥ = λ e. absurd (omega arith)
    in let past' : a + 1 + n ≤ i = omega arith
    in cond-false _ _ _ (ne_eqb s.0 i other) ∙ front-past (a + 1) n i rest later past'

-- no leaf is left past the end
pub front-gone : (a n b : ℕ) (shown : List Shown) → positions_of shown ≡ range_with_len a n → a + n ≤ b → shown_from b shown ≡ []
front-gone a n b [] is past = refl
front-gone a zero b (s ∷ rest) is past = absurd (cc)
front-gone a (suc n) b (s ∷ rest) is past =
    let first : s.0 ≡ a = cc
    in let later : positions_of rest ≡ range_with_len (a + 1) n = cc
    in let low : s.0 < b = omega arith
    in let past' : a + 1 + n ≤ b = omega arith
    in cond-true _ _ _ (lt-ltb s.0 b low) ∙ front-gone (a + 1) n b rest later past'

-- of places from any position on, those before the end hold leaves
pub front-places : (k from n left : ℕ) (shown : List Shown) → positions_of shown ≡ range_with_len 0 k → left ≡ k - from
    → IsFront left (places from n shown)
front-places k from zero left shown is count = front-nil left
front-places k from (suc n) zero shown is count =
    let past : 0 + k ≤ from = omega arith
    in let count' : 0 ≡ k - (from + 1) = omega arith
    in and_from _ _ (ap is_none (front-past 0 k from shown is past)) (front-places k (from + 1) n 0 shown is count')
front-places k from (suc n) (suc left) shown is count =
    let low : 0 ≤ from = omega arith
    in let high : from < 0 + k = omega arith
    in let count' : left ≡ k - (from + 1) = omega arith
    in (front-there 0 k from shown is low high, front-places k (from + 1) n left shown is count')
