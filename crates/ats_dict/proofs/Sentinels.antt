-- The entries of all leaves, by their positions.
use Rattle.std.proofs.Common.{◌≡◌, ◌<◌, ◌+◌, ℕ, suc, List, [], ◌∷◌, ◌++◌, length, get_or, refl, sym, ap, ◌∙◌, arith, append_assoc}
use Rattle.std.proofs.lemmas.List.{map-append, length-map, get_or-map}
use Rattle.std.specs.Prelude.{map}
use Rattle.std.specs.Int.{to_be_bytes, w32}
use Rattle.ats_terms.specs.Order.{IsBelow}
use Rattle.ats_terms.specs.Found.{RiseBetweenSentinels}
use Rattle.ats_terms.proofs.Public.{inner_at, last_at, length-between, rise_between}
use Rattle.ats_dict.specs.Entry.{DictEntry, dict_leaf_bytes}
use Rattle.ats_dict.specs.Dictionary.{IsDictionary, low, high, with_sentinels, entry_at, term_at, leaf_of, dict_leaves}

-- the leaf of an entry is one position past it, after the low sentinel
pub entry_at-suc : (entries : List DictEntry) (i : ℕ) (d : DictEntry) → i < length entries → entry_at entries (suc i) ≡ get_or entries i d
entry_at-suc entries = inner_at low high entries

pub entry_at-last : (entries : List DictEntry) (p : ℕ) → p ≡ length entries + 1 → entry_at entries p ≡ high
entry_at-last entries = last_at low high entries

pub length-with_sentinels : (entries : List DictEntry) → length (with_sentinels entries) ≡ length entries + 2
length-with_sentinels entries = length-between low high entries

-- the leaves are those of all entries
pub dict_leaves-map : (entries : List DictEntry) → dict_leaves entries ≡ map leaf_of (with_sentinels entries)
dict_leaves-map entries = ap (λ xs. leaf_of low ∷ xs) (sym (map-append leaf_of entries (high ∷ [])))

pub length-dict_leaves : (entries : List DictEntry) → length (dict_leaves entries) ≡ length entries + 2
length-dict_leaves entries =
    ap length (dict_leaves-map entries) ∙ length-map (with_sentinels entries) leaf_of ∙ length-with_sentinels entries

-- the leaf at a position
pub get_or-dict_leaves : (entries : List DictEntry) (p : ℕ) → p < length entries + 2 → get_or (dict_leaves entries) p [] ≡ leaf_of (entry_at entries p)
get_or-dict_leaves entries p inside =
    ap (λ xs. get_or xs p []) (dict_leaves-map entries) ∙ get_or-map leaf_of (with_sentinels entries) p low [] (omega (arith, length-with_sentinels entries))

-- the leaf at a position, in the parts in which an entry is packed
pub leaf_of_parts : (entries : List DictEntry) (p : ℕ) (entry : DictEntry) (front back : List ℕ) → p < length entries + 2
    → entry_at entries p ≡ entry → front ≡ length entry.term ∷ entry.term → back ≡ to_be_bytes w32 entry.f ++ entry.root
    → front ++ back ≡ get_or (dict_leaves entries) p []
unfolding dict_leaf_bytes
leaf_of_parts entries p entry front back inside at is following =
    ap (λ xs. front ++ xs) following ∙ sym (append_assoc front (to_be_bytes w32 entry.f) entry.root)
    ∙ ap (λ (xs : List ℕ). xs ++ to_be_bytes w32 entry.f ++ entry.root) is ∙ ap leaf_of (sym at) ∙ sym (get_or-dict_leaves entries p inside)

-- the terms of all leaves rise strictly, the sentinels included
pub rise : (entries : List DictEntry) → IsDictionary entries → RiseBetweenSentinels (term_at entries) (length entries)
rise entries is =
    rise_between low high entries (λ (e : DictEntry). e.term) refl refl (λ k d inside. (is.each k d inside).term)
    (λ i j up inside. is.rises i j low up inside)

pub terms_rise : (entries : List DictEntry) → IsDictionary entries → (i j : ℕ) → i < j → j < length entries + 2
    → IsBelow (term_at entries i) (term_at entries j)
terms_rise entries is = (rise entries is).rises
