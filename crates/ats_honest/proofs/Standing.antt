-- Each term has a spot: it is at a leaf, or lies between two neighbours.
use Rattle.std.proofs.Common.{◌≡◌, ◌+◌, ℕ, List, [], ◌∷◌, length, refl, sym, ap, subst, inl, inr}
use Rattle.std.specs.List.{All}
use Rattle.std.proofs.lemmas.List.Elements.{All-head, All-tail}
use Rattle.ats_terms.specs.Terms.{IsTerm}
use Rattle.ats_terms.proofs.Public.{rises_less, high_above, low_below, nowhere}
use Rattle.ats_dict.specs.declared.spot.Spot.{Spot}
use Rattle.ats_dict.specs.declared.spot.Spot.TheVariants.{At, Between}
use Rattle.ats_dict.specs.Entry.{DictEntry}
use Rattle.ats_dict.specs.Dictionary.{IsBelow, entry_at, high, low, term_at}
use Rattle.ats_dict.specs.Found.{IsSpot}
use Rattle.ats_dict.proofs.Public.{entry_at-last, entry_at-suc}
use Rattle.ats_doctree.specs.Impacts.{doc_terms}
use Rattle.ats_doctree.specs.Sentinels as tree
use Rattle.ats_doctree.proofs.Public.{doc_terms_rise, item_at-last, item_at-suc}
use Rattle.ats_commit.specs.Archive.{Archive}
use Rattle.ats_commit.specs.Trees.{dictionary_of}
use Rattle.ats_commit.proofs.Public.{none_between}
use Rattle.ats_honest.specs.Terms.{HaveSpots}
use Rattle.ats_honest.specs.Documents.{IsTermSpot}
use Rattle.ats_honest.proofs.OneProof.{entries_rise}
use Rattle.ats_honest.proofs.Positions.{found}

-- a term has a spot in the dictionary of an archive
entry_spot : (H : List ℕ → List ℕ) (archive : Archive) (term : List ℕ) → IsTerm term → (spot : Spot) × IsSpot (dictionary_of H archive) term spot
entry_spot H archive term is =
    let entries : List DictEntry = dictionary_of H archive in
    let n : ℕ = length entries in
    let past : term_at entries (n + 1) ≡ 255 ∷ [] = ap (λ (e : DictEntry). e.term) (entry_at-last entries (n + 1) refl) in
    let last : IsBelow term (term_at entries (n + 1)) = subst (IsBelow term) (sym past) (high_above term is.some is.front) in
    elim (found (term_at entries) n term (low_below term is.some) last) [
      | inl stands ↦ (At stands.0, stands.1)
      | inr lies ↦ (
        Between lies.0,
        record {
          within = lies.1;
          above = lies.2;
          below = lies.3;
          absent = nowhere low high entries (λ (e : DictEntry). e.term) term
              (none_between low entries (entry_at entries) (λ i inside. entry_at-suc entries i low inside) (λ (e : DictEntry). e.term) (entries_rise H archive) lies.0 term lies.1 lies.2 lies.3);
        },
      )
    ]

-- and among the terms of a document
item_spot : (texts : List (List ℕ)) (doc : ℕ) (term : List ℕ) → IsTerm term → (spot : Spot) × IsTermSpot (doc_terms texts doc) term spot
item_spot texts doc term is =
    let items : List (List ℕ × ℕ) = doc_terms texts doc in
    let n : ℕ = length items in
    let past : tree.term_at items (n + 1) ≡ 255 ∷ [] = ap (λ (item : List ℕ × ℕ). item.0) (item_at-last items (n + 1) refl) in
    let last : IsBelow term (tree.term_at items (n + 1)) = subst (IsBelow term) (sym past) (high_above term is.some is.front) in
    elim (found (tree.term_at items) n term (low_below term is.some) last) [
      | inl stands ↦ (At stands.0, stands.1)
      | inr lies ↦ (
        Between lies.0,
        record {
          within = lies.1;
          above = lies.2;
          below = lies.3;
          absent = nowhere tree.low tree.high items (λ (item : List ℕ × ℕ). item.0) term
              (none_between tree.low items (tree.item_at items) (λ i inside. item_at-suc items i tree.low inside) (λ (item : List ℕ × ℕ). item.0)
              (λ i j less inside. rises_less items i j tree.low (doc_terms_rise texts doc) less inside) lies.0 term lies.1 lies.2 lies.3);
        },
      )
    ]

abbrev pub HasTerm : List ℕ × ℕ → Type 0
HasTerm pair = IsTerm pair.0

have_spots : (is : List ℕ → Spot → Type 0) → ((term : List ℕ) → IsTerm term → (spot : Spot) × is term spot)
    → (terms : List (List ℕ × ℕ)) → All HasTerm terms → (spots : List Spot) × HaveSpots is terms spots
have_spots is each [] all = ([], tt)
have_spots is each (pair ∷ terms) all =
    let here = each pair.0 (All-head HasTerm pair terms all) in
    let later = have_spots is each terms (All-tail HasTerm pair terms all) in
    (here.0 ∷ later.0, (here.1, later.1))

-- terms have spots in the dictionary
pub entry_spots : (H : List ℕ → List ℕ) (archive : Archive) (terms : List (List ℕ × ℕ)) → All HasTerm terms
    → (spots : List Spot) × HaveSpots (IsSpot (dictionary_of H archive)) terms spots
entry_spots H archive terms all = have_spots (IsSpot (dictionary_of H archive)) (entry_spot H archive) terms all

-- and in each document
pub item_spots : (texts : List (List ℕ)) (doc : ℕ) (terms : List (List ℕ × ℕ)) → All HasTerm terms
    → (spots : List Spot) × HaveSpots (IsTermSpot (doc_terms texts doc)) terms spots
item_spots texts doc terms all = have_spots (IsTermSpot (doc_terms texts doc)) (item_spot texts doc) terms all
