-- The honest proof of a query is one value.
use Rattle.std.proofs.Common.{◌≡◌, ◌<◌, ◌≤◌, ◌==◌, ℕ, zero, suc, Bool, List, [], ◌∷◌, length, map, get_or, Option, Some, None, refl, sym, ap, ap₂, subst, ◌∙◌, arith}
use Rattle.std.specs.List.{list_any}
use Rattle.std.specs.List.Sorted.{IsStrictlyIncreasing, IsStrictlySortedBy}
use Rattle.std.specs.Ordering.{nat_cmp, eq_by_cmp}
use Rattle.std.specs.declared.cmp.Ordering.TheVariants.{Less}
use Rattle.std.proofs.lemmas.Cmp.{nat_cmp_total}
use Rattle.std.proofs.lemmas.List.{get_or-map, length-map}
use Rattle.std.proofs.lemmas.Map.Keys.{Less-from_sorted, sorted_from_strictly_increasing}
use Rattle.std.proofs.lemmas.Map.Lookups.{exact_unsigned}
use Rattle.ats_postings.proofs.Public.{same_members, vocabulary_rises}
use Rattle.ats_dict.specs.declared.spot.Spot.{Spot}
use Rattle.ats_dict.specs.declared.spot.Spot.TheVariants.{At, Between}
use Rattle.ats_dict.specs.Entry.{DictEntry}
use Rattle.ats_dict.specs.Dictionary.{IsBelow, byte_cmp, dict_leaves, low, term_at}
use Rattle.ats_dict.specs.Found.{IsSpot}
use Rattle.ats_dict.proofs.Public.{entry_at-suc}
use Rattle.ats_commit.specs.Archive.{Archive}
use Rattle.ats_commit.specs.Trees.{dictionary_of}
use Rattle.ats_commit.proofs.Public.{dictionary_terms}
use Rattle.ats_bound.specs.declared.bracket.Bracket.{Bracket}
use Rattle.ats_bound.specs.Chosen.{IsChosen}
use Rattle.ats_bound.specs.Cut.{ShownLane}
use Rattle.ats_bound.specs.Ranked.{docs_of}
use Rattle.ats_bound.specs.Schedule.{AreBracketsBy, Bounding, CanSettleBy, WholeLane, shown}
use Rattle.ats_bound.proofs.Public.{one_bracketing, risen_are_distinct, one_first, one_chosen}
use Rattle.ats_proof.specs.declared.record.Algorithm.{Algorithm}
use Rattle.ats_proof.specs.declared.record.Algorithm.TheVariants.{Tra, Tnra}
use Rattle.ats_proof.specs.Value.{Documents, Proof, TermsSection}
use Rattle.ats_terms.proofs.Public.{rises_less}
use Rattle.ats_doctree.specs.Sentinels as tree
use Rattle.ats_doctree.specs.Sentinels.{terms_leaves}
use Rattle.ats_doctree.specs.Impacts.{doc_terms}
use Rattle.ats_doctree.proofs.Public.{doc_terms_rise, item_at-suc}
use Rattle.ats_honest.specs.Terms.{AreNeeded, HaveSpots, has, shown_entry, slot_of}
use Rattle.ats_honest.specs.Documents.{AreHonestSections, HasDocuments, IsHonestSection, IsTermSpot, shown_term}
use Rattle.ats_honest.specs.Lanes.{bounding, lanes_of, present}
use Rattle.ats_honest.specs.Honest.{AreMet, IsCutShown, IsHonest, IsHonestBy, IsShownAt, prefixes}
use Rattle.ats_honest.proofs.Needed.{same_test}
use Rattle.ats_honest.proofs.Positions.{one_lie, one_stand}
use Rattle.ats_tree.specs.Elided.{elided_digests}

-- ---- spots

-- terms have one spot each, if a single term has only one
one_spots : (is : List ℕ → Spot → Type 0) → ((term : List ℕ) (s t : Spot) → is term s → is term t → s ≡ t)
    → (terms : List (List ℕ × ℕ)) (ss ts : List Spot) → HaveSpots is terms ss → HaveSpots is terms ts → ss ≡ ts
one_spots is one [] [] [] first second = refl
one_spots is one [] [] (t ∷ ts) first second = absurd second
one_spots is one [] (s ∷ ss) ts first second = absurd first
one_spots is one (pair ∷ terms) [] ts first second = absurd first
one_spots is one (pair ∷ terms) (s ∷ ss) [] first second = absurd second
one_spots is one (pair ∷ terms) (s ∷ ss) (t ∷ ts) first second =
    ap₂ (λ (x : Spot) (xs : List Spot). x ∷ xs) (one pair.0 s t first.0 second.0) (one_spots is one terms ss ts first.1 second.1)

-- the terms of a dictionary rise
module _ (H : List ℕ → List ℕ) (archive : Archive) where
  abbrev entries : List DictEntry
  entries = dictionary_of H archive

  pub entries_rise : (i j : ℕ) → i < j → j < length entries → IsBelow (get_or entries i low).term (get_or entries j low).term
  entries_rise i j less inside =
      let term : DictEntry → List ℕ = λ e. e.term in
      let size : length (map term entries) ≡ length entries = length-map entries term in
      let rises : IsStrictlySortedBy byte_cmp (map term entries) = subst (IsStrictlySortedBy byte_cmp) (sym (dictionary_terms H archive)) (vocabulary_rises archive.texts) in
      let below : byte_cmp (get_or (map term entries) i []) (get_or (map term entries) j []) ≡ Less =
      Less-from_sorted byte_cmp (map term entries) i j [] rises less (omega (arith, size, inside)) in
      rw (get_or-map term entries i low [] (omega (arith, less, inside)), get_or-map term entries j low [] inside) at below

  entry_terms_rise : (p q : ℕ) → 1 ≤ p → p < q → q ≤ length entries → IsBelow (term_at entries p) (term_at entries q)
  entry_terms_rise zero q some less within = absurd (omega (arith, some))
  entry_terms_rise (suc i) zero some less within = absurd (omega (arith, less))
  entry_terms_rise (suc i) (suc j) some less within =
      rw (← entry_at-suc entries i low (omega (arith, less, within)), ← entry_at-suc entries j low (omega (arith, within))) at (entries_rise i j (omega (arith, less)) (omega (arith, within)))

  -- a term is at one position, or lies between one pair of neighbours, never both
  one_spot : (term : List ℕ) (s t : Spot) → IsSpot entries term s → IsSpot entries term t → s ≡ t
  one_spot term (At p) (At q) first second =
      ap At (one_stand (term_at entries) (length entries) entry_terms_rise term p q first second)
  one_spot term (At p) (Between q) first second = absurd (second.absent p first)
  one_spot term (Between p) (At q) first second = absurd (first.absent q second)
  one_spot term (Between p) (Between q) first second =
      ap Between (one_lie (term_at entries) (length entries) entry_terms_rise term p q first second)

-- so do the terms of a document
module _ (texts : List (List ℕ)) (doc : ℕ) where
  abbrev items : List (List ℕ × ℕ)
  items = doc_terms texts doc

  item_terms_rise : (p q : ℕ) → 1 ≤ p → p < q → q ≤ length items → IsBelow (tree.term_at items p) (tree.term_at items q)
  item_terms_rise zero q some less within = absurd (omega (arith, some))
  item_terms_rise (suc i) zero some less within = absurd (omega (arith, less))
  item_terms_rise (suc i) (suc j) some less within =
      let below : IsBelow (get_or items i tree.low).0 (get_or items j tree.low).0 =
      rises_less items i j tree.low (doc_terms_rise texts doc) (omega (arith, less)) (omega (arith, within)) in
      rw (← item_at-suc items i tree.low (omega (arith, less, within)), ← item_at-suc items j tree.low (omega (arith, within))) at below

  one_term_spot : (term : List ℕ) (s t : Spot) → IsTermSpot items term s → IsTermSpot items term t → s ≡ t
  one_term_spot term (At p) (At q) first second =
      ap At (one_stand (tree.term_at items) (length items) item_terms_rise term p q first second)
  one_term_spot term (At p) (Between q) first second = absurd (second.absent p first)
  one_term_spot term (Between p) (At q) first second = absurd (first.absent q second)
  one_term_spot term (Between p) (Between q) first second =
      ap Between (one_lie (tree.term_at items) (length items) item_terms_rise term p q first second)

-- ---- positions

-- two lists that rise and have the same numbers
one_rising : (a b : List ℕ) → IsStrictlyIncreasing a → IsStrictlyIncreasing b → ((q : ℕ) → has q a ≡ has q b) → a ≡ b
one_rising a b first second same =
    let tests : (q : ℕ) → eq_by_cmp nat_cmp q ≡ (λ (m : ℕ). m == q) = λ q. λ i. λ m. same_test q m i in
    same_members nat_cmp_total exact_unsigned a b (sorted_from_strictly_increasing a first) (sorted_from_strictly_increasing b second)
    (λ q. ap (λ (f : ℕ → Bool). list_any f a) (tests q) ∙ same q ∙ ap (λ (f : ℕ → Bool). list_any f b) (sym (tests q)))

one_needed : (spots : List Spot) (a b : List ℕ) → AreNeeded spots a → AreNeeded spots b → a ≡ b
one_needed spots a b first second = one_rising a b first.rise second.rise (λ q. first.needed q ∙ sym (second.needed q))

-- a cut meets one list of documents
one_met : (lanes : List ShownLane) (a b : List ℕ) → AreMet lanes a → AreMet lanes b → a ≡ b
one_met lanes a b first second = one_rising a b first.rise second.rise (λ q. first.named q ∙ sym (second.named q))

-- ---- documents

one_section : (H : List ℕ → List ℕ) (texts : List (List ℕ)) (terms : List (List ℕ × ℕ)) (doc : ℕ) (a b : TermsSection)
    → IsHonestSection H (doc_terms texts doc) terms a → IsHonestSection H (doc_terms texts doc) terms b → a ≡ b
one_section H texts terms doc a b x y =
    let items = doc_terms texts doc in
    let spots : x.spots ≡ y.spots = one_spots (IsTermSpot items) (one_term_spot texts doc) terms x.spots y.spots x.found y.found in
    let positions : x.positions ≡ y.positions =
    one_needed y.spots x.positions y.positions (subst (λ (ss : List Spot). AreNeeded ss x.positions) spots x.needed) y.needed in
    let leaves : a.leaves ≡ b.leaves = x.leaves ∙ ap (λ (ps : List ℕ). map (shown_term items) ps) positions ∙ sym y.leaves in
    let digests : a.digests ≡ b.digests = x.digests ∙ ap (elided_digests H (terms_leaves items)) positions ∙ sym y.digests in
    let slots : a.slots ≡ b.slots = x.slots ∙ ap₂ (λ (ps : List ℕ) (ss : List Spot). map (slot_of ps) ss) positions spots ∙ sym y.slots in
    λ i. record { leaves = leaves i; digests = digests i; slots = slots i }

one_sections : (H : List ℕ → List ℕ) (texts : List (List ℕ)) (terms : List (List ℕ × ℕ)) (met : List ℕ) (a b : List TermsSection)
    → AreHonestSections H texts terms met a → AreHonestSections H texts terms met b → a ≡ b
one_sections H texts terms [] [] [] first second = refl
one_sections H texts terms [] [] (y ∷ ys) first second = absurd second
one_sections H texts terms [] (x ∷ xs) ys first second = absurd first
one_sections H texts terms (doc ∷ met) [] ys first second = absurd first
one_sections H texts terms (doc ∷ met) (x ∷ xs) [] first second = absurd second
one_sections H texts terms (doc ∷ met) (x ∷ xs) (y ∷ ys) first second =
    ap₂ (λ (z : TermsSection) (zs : List TermsSection). z ∷ zs) (one_section H texts terms doc x y first.0 second.0) (one_sections H texts terms met xs ys first.1 second.1)

one_documents : (algorithm : Algorithm) (H : List ℕ → List ℕ) (texts : List (List ℕ)) (terms : List (List ℕ × ℕ)) (met : List ℕ) (a b : Option Documents)
    → HasDocuments algorithm H texts terms met a → HasDocuments algorithm H texts terms met b → a ≡ b
one_documents Tnra H texts terms met a b first second = first ∙ sym second
one_documents Tra H texts terms met None b first second = absurd first
one_documents Tra H texts terms met (Some a) None first second = absurd second
one_documents Tra H texts terms met (Some a) (Some b) x y =
    let leaves : a.leaves ≡ b.leaves = x.leaves ∙ sym y.leaves in
    let digests : a.digests ≡ b.digests = x.digests ∙ sym y.digests in
    let sections : a.sections ≡ b.sections = one_sections H texts terms met a.sections b.sections x.sections y.sections in
    λ i. Some (record { leaves = leaves i; digests = digests i; sections = sections i })

-- ---- all together

-- two proofs of the same cut that have the same answer
one_shown : (H : List ℕ → List ℕ) (archive : Archive) (query : List (List ℕ × ℕ)) (algorithm : Algorithm) (cut documents : List ℕ) (a b : Proof)
    → IsShownAt H archive query algorithm cut documents a → IsShownAt H archive query algorithm cut documents b → a.answer ≡ b.answer → a ≡ b
one_shown H archive query algorithm cut documents a b x y answer =
    let entries : List DictEntry = dictionary_of H archive in
    let lanes : List WholeLane = lanes_of archive.texts query in
    let spots : x.spots ≡ y.spots = one_spots (IsSpot entries) (one_spot H archive) query x.spots y.spots x.found y.found in
    let positions : x.positions ≡ y.positions =
    one_needed y.spots x.positions y.positions (subst (λ (ss : List Spot). AreNeeded ss x.positions) spots x.needed) y.needed in
    let format : a.format ≡ b.format = x.format ∙ sym y.format in
    let header : a.header ≡ b.header = x.header ∙ sym y.header in
    let dict : a.dict ≡ b.dict = x.dict ∙ ap (λ (ps : List ℕ). map (shown_entry entries) ps) positions ∙ sym y.dict in
    let digests : a.dict_digests ≡ b.dict_digests = x.dict_digests ∙ ap (elided_digests H (dict_leaves entries)) positions ∙ sym y.dict_digests in
    let slots : a.slots ≡ b.slots = x.slots ∙ ap₂ (λ (ps : List ℕ) (ss : List Spot). map (slot_of ps) ss) positions spots ∙ sym y.slots in
    let met : a.met ≡ b.met = x.met ∙ sym y.met in
    let lists : a.lists ≡ b.lists = x.lists ∙ ap (λ (ids : List ℕ). prefixes H archive.format ids lanes cut) met ∙ sym y.lists in
    let docs : a.docs ≡ b.docs =
    one_documents algorithm H archive.texts (present archive.texts query) b.met a.docs b.docs (subst (λ (ids : List ℕ). HasDocuments algorithm H archive.texts (present archive.texts query) ids a.docs) met x.docs) y.docs in
    λ i. record {
      format = format i;
      header = header i;
      dict = dict i;
      dict_digests = digests i;
      slots = slots i;
      met = met i;
      lists = lists i;
      docs = docs i;
      answer = answer i;
    }

-- two honest proofs of a walk
pub one_honest : (Stops : List ℕ → Type 0) (rows : ℕ) (H : List ℕ → List ℕ) (archive : Archive) (query : List (List ℕ × ℕ)) (algorithm : Algorithm) (a b : Proof)
    → IsHonestBy Stops rows H archive query algorithm a → IsHonestBy Stops rows H archive query algorithm b → a ≡ b
one_honest Stops rows H archive query algorithm a b x y =
    let lanes : List WholeLane = lanes_of archive.texts query in
    let by : Bounding = bounding algorithm lanes in
    let cut : x.cut ≡ y.cut = one_first Stops lanes x.cut y.cut x.first y.first in
    let brackets : x.brackets ≡ y.brackets =
    one_bracketing by (shown lanes y.cut) x.brackets y.brackets (subst (λ (c : List ℕ). AreBracketsBy by (shown lanes c) x.brackets) cut x.bounds) y.bounds in
    let answer : a.answer ≡ b.answer =
    one_chosen y.brackets rows a.answer b.answer (risen_are_distinct y.brackets y.bounds.rise) (subst (λ (bs : List Bracket). IsChosen bs rows a.answer) brackets x.answer) y.answer in
    one_shown H archive query algorithm y.cut (docs_of y.brackets) a b
    (subst (λ (bs : List Bracket). IsShownAt H archive query algorithm y.cut (docs_of bs) a) brackets
    (subst (λ (c : List ℕ). IsShownAt H archive query algorithm c (docs_of x.brackets) a) cut x.shows)) y.shows answer

pub one_proof : (H : List ℕ → List ℕ) (archive : Archive) (query : List (List ℕ × ℕ)) (r : ℕ) (algorithm : Algorithm) (a b : Proof)
    → IsHonest H archive query r algorithm a → IsHonest H archive query r algorithm b → a ≡ b
one_proof H archive query r algorithm a b =
    one_honest (CanSettleBy (bounding algorithm (lanes_of archive.texts query)) (lanes_of archive.texts query) r) r H archive query algorithm a b

-- two proofs of the same cut that have no answer
pub one_cut_shown : (H : List ℕ → List ℕ) (archive : Archive) (query : List (List ℕ × ℕ)) (algorithm : Algorithm) (cut : List ℕ) (a b : Proof)
    → IsCutShown H archive query algorithm cut a → IsCutShown H archive query algorithm cut b → a ≡ b
one_cut_shown H archive query algorithm cut a b x y =
    let same = one_met (shown (lanes_of archive.texts query) cut) x.documents y.documents x.met y.met in
    one_shown H archive query algorithm cut y.documents a b (subst (λ (docs : List ℕ). IsShownAt H archive query algorithm cut docs a) same x.shows) y.shows
    (x.empty ∙ sym y.empty)
