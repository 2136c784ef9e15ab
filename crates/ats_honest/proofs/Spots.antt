-- The places of a query's terms, term by term.
use Rattle.std.proofs.Common.{◌≡◌, ◌+◌, ◌<◌, ◌≤◌, ◌^◌, ◌++◌, ℕ, zero, suc, List, [], ◌∷◌, length, take, get_or, refl, sym, ap, subst, arith, inl, inr}
use Rattle.std.specs.List.{All}
use Rattle.ats_dict.specs.declared.spot.Spot.{Spot}
use Rattle.ats_dict.specs.declared.spot.Spot.TheVariants.{At, Between}
use Rattle.ats_dict.specs.Entry.{DictEntry}
use Rattle.std.proofs.lemmas.Bool.{cases_lt}
use Rattle.std.proofs.lemmas.List.{length-replicate}
use Rattle.ats_dict.specs.Dictionary.{IsDictionary, entry_at, low, zero_root}
use Rattle.ats_dict.proofs.Public.{entry_at-suc, entry_at-last}
use Rattle.ats_dict.specs.Found.{IsSpot}
use Rattle.ats_honest.specs.Terms.{AreSpots, HaveSpots}
use Rattle.ats_honest.specs.Inner.Terms.{lower}

-- one term more
pub spots_more : (is : List ℕ → Spot → Type 0) (terms : List (List ℕ × ℕ)) (spots : List Spot) (spot : Spot) (i : ℕ) (d : List ℕ × ℕ) → i < length terms
    → HaveSpots is (take i terms) spots → is (get_or terms i d).0 spot → HaveSpots is (take (suc i) terms) (spots ++ spot ∷ [])
spots_more is [] spots spot i d inside are own = absurd (omega (arith, inside))
spots_more is (pair ∷ terms) [] spot zero d inside are own = (own, tt)
spots_more is (pair ∷ terms) (s ∷ spots) spot zero d inside are own = absurd are
spots_more is (pair ∷ terms) [] spot (suc i) d inside are own = absurd are
spots_more is (pair ∷ terms) (s ∷ spots) spot (suc i) d inside are own =
    (are.0, spots_more is terms spots spot i d (omega (arith, inside)) are.1 own)

-- one spot for each term
pub spots_each : (is : List ℕ → Spot → Type 0) (terms : List (List ℕ × ℕ)) (spots : List Spot) → HaveSpots is terms spots → length spots ≡ length terms
spots_each is [] [] are = refl
spots_each is [] (spot ∷ spots) are = absurd are
spots_each is (pair ∷ terms) [] are = absurd are
spots_each is (pair ∷ terms) (spot ∷ spots) are = ap suc (spots_each is terms spots are.1)

pub spot_each : (entries : List DictEntry) (query : List (List ℕ × ℕ)) (spots : List Spot) → AreSpots entries query spots → length spots ≡ length query
spot_each entries query spots are = spots_each (IsSpot entries) query spots are

-- the spot of a term
pub one_of_spots : (is : List ℕ → Spot → Type 0) (terms : List (List ℕ × ℕ)) (spots : List Spot) (i : ℕ) (d : List ℕ × ℕ) (e : Spot) → HaveSpots is terms spots → i < length terms
    → is (get_or terms i d).0 (get_or spots i e)
one_of_spots is [] spots i d e are inside = absurd (omega (arith, inside))
one_of_spots is (pair ∷ terms) [] i d e are inside = absurd are
one_of_spots is (pair ∷ terms) (spot ∷ spots) zero d e are inside = are.0
one_of_spots is (pair ∷ terms) (spot ∷ spots) (suc i) d e are inside = one_of_spots is terms spots i d e are.1 (omega (arith, inside))

pub spot_at : (entries : List DictEntry) (query : List (List ℕ × ℕ)) (spots : List Spot) (i : ℕ) (d : List ℕ × ℕ) (e : Spot) → AreSpots entries query spots → i < length query
    → IsSpot entries (get_or query i d).0 (get_or spots i e)
spot_at entries query spots i d e are inside = one_of_spots (IsSpot entries) query spots i d e are inside

pub lower_within : (entries : List DictEntry) (term : List ℕ) (spot : Spot) → IsSpot entries term spot → lower spot ≤ length entries
lower_within entries term (At p) is = is.within
lower_within entries term (Between p) is = is.within

-- ---- leaves

-- what holds for a leaf of a dictionary, sentinels included
pub record IsLeaf (entry : DictEntry) : Type 0 where
  pub short : length entry.term ≤ 64
  pub number : entry.f < 2 ^ 32
  pub root : length entry.root ≡ 32

zero_root_size : length zero_root ≡ 32
unfolding zero_root
zero_root_size = length-replicate {A = ℕ} 32 0

-- if it holds for each entry, it holds for each leaf
pub leaf_among : (entries : List DictEntry) (p : ℕ) → All IsLeaf entries → p < length entries + 2 → IsLeaf (entry_at entries p)
leaf_among entries zero each inside = record { short = omega arith; number = omega arith; root = zero_root_size }
leaf_among entries (suc p) each inside = elim (cases_lt p (length entries)) [
  | inl within ↦ subst IsLeaf (sym (entry_at-suc entries p low within)) (each p low within)
  | inr past ↦ subst IsLeaf (sym (entry_at-last entries (suc p) (omega (arith, past, inside)))) (record { short = omega arith; number = omega arith; root = zero_root_size })
]

-- spots that lie low enough each do so together
pub all_low : (is : List ℕ → Spot → Type 0) (n : ℕ) → ((term : List ℕ) (spot : Spot) → is term spot → lower spot ≤ n) → (terms : List (List ℕ × ℕ)) (spots : List Spot) → n ≤ 2 ^ 24
    → HaveSpots is terms spots → All (λ spot. lower spot ≤ 2 ^ 24) spots
all_low is n within terms spots few are k d inside =
    let same = spots_each is terms spots are in
    let own = one_of_spots is terms spots k ([], 0) d are (omega (arith, inside, same)) in
    omega (arith, within (get_or terms k ([], 0)).0 (get_or spots k d) own, few)

pub leaf_at : (entries : List DictEntry) (p : ℕ) → IsDictionary entries → p < length entries + 2 → IsLeaf (entry_at entries p)
leaf_at entries p is inside = leaf_among entries p (λ k d less.
    let entry = is.each k d less in
    record { short = entry.term.few; number = entry.number; root = entry.root }) inside

pub lowers : (entries : List DictEntry) (query : List (List ℕ × ℕ)) (spots : List Spot) → length entries ≤ 2 ^ 24 → AreSpots entries query spots
    → All (λ spot. lower spot ≤ 2 ^ 24) spots
lowers entries query spots few are = all_low (IsSpot entries) (length entries) (lower_within entries) query spots few are
