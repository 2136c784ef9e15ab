-- The entries of a dictionary, list by list.
use Rattle.std.proofs.Common.{◌≡◌, ◌+◌, ◌<◌, ◌-◌, ℕ, List, [], ◌∷◌, ◌++◌, length, get_or, take, map, ap, refl, add-one, arith}
use Rattle.std.specs.declared.cmp.Ordering.TheVariants.{Less}
use Rattle.std.specs.List.Sorted.{IsStrictlySortedBy}
use Rattle.std.proofs.Math.Seq.{take-suc}
use Rattle.std.proofs.lemmas.List.{get_or-map, get_or-take, length-map, length-take-le, map-append}
use Rattle.std.proofs.lemmas.Map.Keys.{Less-from_sorted}
use Rattle.std.proofs.lemmas.Option.{slice_get-get_or}
use Rattle.ats_terms.specs.Query.{byte_cmp}
use Rattle.ats_lists.specs.Formats.{list_root}
use Rattle.ats_lists.specs.KeptList.{kept_list}
use Rattle.ats_postings.specs.declared.entry.Entry.{Entry}
use Rattle.ats_dict.specs.Dictionary.{IsBelow, IsAboveLast}
use Rattle.ats_dict.specs.Entry.{DictEntry}
use Rattle.ats_lists.specs.declared.format.Format.{Format}
use Rattle.ats_lists.specs.declared.list_keeping.ListDigests.{ListDigests}
use Rattle.ats_commit.specs.Trees.{dict_entry}
use Rattle.ats_index.specs.Inner.Kept.{all_list_digests}

-- what is above all terms is above the last one's
above_last : (entries : List DictEntry) (term : List ℕ) → ((k : ℕ) (d : DictEntry) → k < length entries → IsBelow (get_or entries k d).term term)
    → IsAboveLast entries term
above_last [] term below = tt
above_last (entry ∷ entries) term below =
    let last : ℕ = length (entry ∷ entries) - 1 in
    rw (slice_get-get_or (entry ∷ entries) last entry (omega arith)) (below last entry (omega arith))

module _ (H : List ℕ → List ℕ) (format : Format) (lists : List (List ℕ × List Entry)) (i : ℕ) (inside : i < length lists) where
  below_next : IsStrictlySortedBy byte_cmp (map (λ list. list.0) lists) → (k : ℕ) (d : DictEntry) → k < length (map (dict_entry H format) (take i lists))
      → IsBelow (get_or (map (dict_entry H format) (take i lists)) k d).term (get_or lists i ([], [])).0
  below_next rises k d before =
      let first : List ℕ × List Entry → List ℕ = λ list. list.0 in
      let early : k < i = omega (arith, before, length-map (take i lists) (dict_entry H format), length-take-le i lists (omega arith)) in
      let less : byte_cmp (get_or (map first lists) k []) (get_or (map first lists) i []) ≡ Less =
      Less-from_sorted byte_cmp (map first lists) k i [] rises early (omega (arith, length-map lists first)) in
      rw (get_or-map (dict_entry H format) (take i lists) k ([], []) d (omega (arith, early, length-take-le i lists (omega arith))), get_or-take i lists k ([], []) early)
      (rw (get_or-map first lists k ([], []) [] (omega arith), get_or-map first lists i ([], []) [] inside) at less)

  -- the term of the next list is above those of the lists before it
  pub next_above : IsStrictlySortedBy byte_cmp (map (λ list. list.0) lists) → (term : List ℕ) → term ≡ (get_or lists i ([], [])).0
      → IsAboveLast (map (dict_entry H format) (take i lists)) term
  next_above rises term is = rw is (above_last (map (dict_entry H format) (take i lists)) (get_or lists i ([], [])).0 (below_next rises))

  -- the entries with that of the next list
  pub next_entry : (term : List ℕ) (entries : List Entry) (root : List ℕ) → term ≡ (get_or lists i ([], [])).0 → entries ≡ (get_or lists i ([], [])).1
      → root ≡ list_root H format entries
      → map (dict_entry H format) (take i lists) ++ record { term = term; f = length entries; root = root } ∷ [] ≡ map (dict_entry H format) (take (i + 1) lists)
  next_entry term entries root is_term are_entries is_root =
      let one : DictEntry = record { term = term; f = length entries; root = root } in
      let same : one ≡ dict_entry H format (get_or lists i ([], [])) = rw (is_root, are_entries, is_term) refl in
      rw (add-one, take-suc lists i ([], []) inside, map-append (dict_entry H format) (take i lists) (get_or lists i ([], []) ∷ []))
      (ap (λ (e : DictEntry). map (dict_entry H format) (take i lists) ++ e ∷ []) same)

  -- the digests of the lists with those of the next list
  pub next_digests : (entries : List Entry) (kept : ListDigests) → entries ≡ (get_or lists i ([], [])).1 → kept ≡ kept_list H format entries
      → all_list_digests H format (take i lists) ++ kept ∷ [] ≡ all_list_digests H format (take (i + 1) lists)
  next_digests entries kept are_entries are_kept =
      let of_list : List ℕ × List Entry → ListDigests = λ list. kept_list H format list.1 in
      let same : kept ≡ of_list (get_or lists i ([], [])) = rw (are_kept, are_entries) refl in
      rw (add-one, take-suc lists i ([], []) inside, map-append of_list (take i lists) (get_or lists i ([], []) ∷ []))
      (ap (λ (one : ListDigests). all_list_digests H format (take i lists) ++ one ∷ []) same)
