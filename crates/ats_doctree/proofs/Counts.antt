-- The counts of a document's terms, and their impacts.
use Rattle.std.proofs.Common.{◌≡◌, ◌<◌, ◌≤◌, ◌+◌, ◌-◌, ◌≢◌, suc, ◌^◌, ℕ, List, [], ◌∷◌, length, get_or, sum_by, sym, ap, subst, ◌∙◌, arith, zero-add}
use Rattle.std.proofs.lemmas.List.{length-map, get_or-map}
use Rattle.std.proofs.lemmas.List.Sums.{get_or-le-sum_by}
use Rattle.ats_terms.specs.Terms.{terms, IsTerm}
use Rattle.ats_terms.specs.Query.{counted, RisesFrom, Rises}
use Rattle.ats_terms.specs.Distinct.{AreDistinct}
use Rattle.ats_terms.proofs.Public.{all_weigh, counted_counts, few_pairs}
use Rattle.ats_impact.specs.Numbers.{impact}
use Rattle.ats_impact.specs.Score.{total_terms}
use Rattle.ats_impact.proofs.Public.{impact_small}
use Rattle.ats_doctree.specs.Impacts.{with_impacts, IsImpact, AreImpacts}
use Rattle.ats_doctree.specs.Sentinels.{high, item_at}
use Rattle.ats_doctree.proofs.Positions.{item_at-suc, item_at-last}
use Rattle.ats_doctree.specs.Inner.Kept.{AreCounts}

abbrev with_impact : ℕ → ℕ → ℕ → List ℕ × ℕ → List ℕ × ℕ
with_impact total len documents pair = (pair.0, impact pair.1 total len documents)

-- there are as many impacts as counts
pub length-with_impacts : (total len documents : ℕ) (counts : List (List ℕ × ℕ)) → length (with_impacts total len documents counts) ≡ length counts
length-with_impacts total len documents counts = length-map counts (with_impact total len documents)

-- the impact at a place
pub get_or-with_impacts : (total len documents : ℕ) (counts : List (List ℕ × ℕ)) (i : ℕ) (d e : List ℕ × ℕ) → i < length counts
    → get_or (with_impacts total len documents counts) i e ≡ with_impact total len documents (get_or counts i d)
get_or-with_impacts total len documents counts i d e inside = get_or-map (with_impact total len documents) counts i d e inside

from_rises : (total len documents : ℕ) (term : List ℕ) (counts : List (List ℕ × ℕ)) → RisesFrom term counts → RisesFrom term (with_impacts total len documents counts)
from_rises total len documents term [] rises = tt
from_rises total len documents term (pair ∷ counts) (less, rises) = (less, from_rises total len documents pair.0 counts rises)

pub impacts_rise : (total len documents : ℕ) (counts : List (List ℕ × ℕ)) → Rises counts → Rises (with_impacts total len documents counts)
impacts_rise total len documents [] rises = tt
impacts_rise total len documents (pair ∷ counts) rises = from_rises total len documents pair.0 counts rises

pub impact_in_range : (f total len documents : ℕ) → 1 ≤ total → IsImpact (impact f total len documents)
impact_in_range f total len documents some = record { some = omega arith; few = omega (arith, impact_small f total len documents some) }

-- what the impacts of kept counts are
pub counts_impacts : (total len documents : ℕ) (counts : List (List ℕ × ℕ)) → AreCounts total len documents counts → AreDistinct counts
    → AreImpacts (with_impacts total len documents counts)
counts_impacts total len documents counts kept distinct =
    let size = length-with_impacts total len documents counts in
    record {
      few = omega (arith, size, kept.few);
      rises = impacts_rise total len documents counts distinct.rises;
      terms = λ k d inside. subst (λ (item : List ℕ × ℕ). IsTerm item.0) (sym (get_or-with_impacts total len documents counts k d d (omega (arith, size))))
          (distinct.terms k d (omega (arith, size)));
      impacts = λ k d inside. subst (λ (item : List ℕ × ℕ). IsImpact item.1) (sym (get_or-with_impacts total len documents counts k d d (omega (arith, size))))
          (impact_in_range (get_or counts k d).1 total len documents
          (omega (arith, distinct.some k d (omega (arith, size)), kept.within k d (omega (arith, size)), kept.among)));
    }

-- the counts of a document of a collection are kept
pub document_counts : (texts : List (List ℕ)) (doc : ℕ) → doc < length texts → length texts ≤ 65536 → total_terms texts ≤ 2 ^ 24
    → length (terms (get_or texts doc [])) ≤ 2 ^ 20
    → AreCounts (total_terms texts) (length (terms (get_or texts doc []))) (length texts) (counted (terms (get_or texts doc [])))
document_counts texts doc inside documents total few =
    let all = terms (get_or texts doc []) in
    let pairs = counted all in
    let sum : sum_by (λ p. p.1) pairs ≡ length all = all_weigh all [] ∙ zero-add (length all) in
    record {
      few = omega (arith, few_pairs pairs (counted_counts all).some, sum);
      within = λ k d within. omega (arith, get_or-le-sum_by (λ (p : List ℕ × ℕ). p.1) pairs k d within, sum);
      among = get_or-le-sum_by (λ text. length (terms text)) texts doc [] inside;
      terms = total;
      one = omega arith;
      small = documents;
    }

-- the leaf of a count
pub item_of_count : (total len documents : ℕ) (counts items : List (List ℕ × ℕ)) (p : ℕ) → with_impacts total len documents counts ≡ items
    → 1 ≤ p → p < length items + 2 → p - 1 ≢ length counts → item_at items p ≡ with_impact total len documents (get_or counts (p - 1) ([], 0))
item_of_count total len documents counts items p same some within other =
    let size : length counts ≡ length items = sym (length-with_impacts total len documents counts) ∙ ap length same in
    let next : p ≡ suc (p - 1) = omega arith in
    ap (item_at items) next ∙ item_at-suc items (p - 1) ([], 0) (omega arith) ∙ ap (λ xs. get_or xs (p - 1) ([], 0)) (sym same)
    ∙ get_or-with_impacts total len documents counts (p - 1) ([], 0) ([], 0) (omega arith)

-- the high sentinel is after the last count
pub high_at : (total len documents : ℕ) (counts items : List (List ℕ × ℕ)) (p : ℕ) → with_impacts total len documents counts ≡ items
    → p ≡ length counts + 1 → item_at items p ≡ high
high_at total len documents counts items p same last =
    item_at-last items p (omega (arith, last, length-with_impacts total len documents counts, ap length same))
