-- The strings of the list that is found under a term.
use Rattle.std.proofs.Common.{◌≡◌, ◌<◌, ℕ, List, [], length, map, get_or, None, arith, refl, sym, ap, ◌∙◌}
use Rattle.std.specs.List.{All}
use Rattle.ats_tree.specs.Shown.{Shown}
use Rattle.ats_tree.specs.Nodes.{NodeNumbers}
use Rattle.ats_lists.specs.Formats.{list_string}
use Rattle.ats_lists.specs.Leaf.{leaf_bytes}
use Rattle.ats_postings.specs.Lists.{list, lists_of}
use Rattle.ats_postings.specs.declared.entry.Entry.{Entry}
use Rattle.ats_postings.proofs.Public.{listed, unlisted}
use Rattle.ats_lists.proofs.Public.{list-empty}
use Rattle.ats_lists.specs.KeptList.{kept_list, format_of}
use Rattle.ats_lists.specs.declared.format.Format.{Format}
use Rattle.ats_lists.specs.declared.format.Format.TheVariants.{One, Two}
use Rattle.ats_lists.specs.declared.list_keeping.ListDigests.{ListDigests}
use Rattle.ats_commit.specs.OwnShown.{IsOwnListShown}
use Rattle.ats_commit.specs.Archive.{Archive}

-- the digests of a list are kept in its format
pub format_kept : (H : List ℕ → List ℕ) (format : Format) (entries : List Entry) → format_of (kept_list H format entries) ≡ format
format_kept H One entries = refl
format_kept H Two entries = refl

-- and so are those that are equal to them
pub kept_own : (H : List ℕ → List ℕ) (format : Format) (entries entries' : List Entry) (kept : ListDigests) → kept ≡ kept_list H format entries
    → entries' ≡ entries → (format_of kept ≡ format) × (kept ≡ kept_list H (format_of kept) entries')
kept_own H format entries entries' kept is same =
    let own : format_of kept ≡ format = ap (λ (k : ListDigests). format_of k) is ∙ format_kept H format entries in
    (own, is ∙ ap (kept_list H format) (sym same) ∙ ap (λ (f : Format). kept_list H f entries') (sym own))

module _ (H : List ℕ → List ℕ) (archive : Archive) (term : List ℕ) where
  -- the entries that are found under a term
  pub entries_found : (i : ℕ) (entries : List Entry) → i < length (lists_of archive.texts)
      → (get_or (lists_of archive.texts) i ([], [])).0 ≡ term → entries ≡ (get_or (lists_of archive.texts) i ([], [])).1
      → entries ≡ list archive.texts term
  entries_found i entries inside same is = is ∙ listed archive.texts term i ([], []) inside same

  -- a term under which there is none has no entries
  pub entries_absent : All (λ l. l.0 ≡ term → ⊥) (lists_of archive.texts) → length (map leaf_bytes (list archive.texts term)) ≡ 0
  entries_absent none = ap (λ (all : List Entry). length (map leaf_bytes all)) (unlisted archive.texts term none)

  -- nor a string
  pub list_absent : (at : NodeNumbers) → All (λ l. l.0 ≡ term → ⊥) (lists_of archive.texts)
      → list_string H archive.format (list archive.texts term) at ≡ None
  list_absent at none =
      ap (λ (all : List Entry). list_string H archive.format all at) (unlisted archive.texts term none)
      ∙ list-empty H archive.format at

  -- nor is anything that is shown its own
  pub own_absent : All (λ l. l.0 ≡ term → ⊥) (lists_of archive.texts) → (n : ℕ) (shown : List Shown) (digests : List (List ℕ))
      → IsOwnListShown H archive.format (list archive.texts term) n shown digests → ⊥
  own_absent none n shown digests is = absent archive.format is
    where
      absent : (format : Format) → IsOwnListShown H format (list archive.texts term) n shown digests → ⊥
      absent One own = omega (arith, entries_absent none, own.some, own.number)
      absent Two own = omega (arith, ap (λ (all : List Entry). length all) (unlisted archive.texts term none), own.some, own.within, own.number)
