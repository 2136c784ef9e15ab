-- The byte strings that are hashed in an archive's own trees, by their places.
use Rattle.std.specs.Prelude.{ℕ, zero, suc, List, [], ◌∷◌, length, map, nat_lt, slice_index_or, if◌then◌else◌, Option, Some, None}
use Rattle.ats_tree.specs.Nodes.{NodeNumbers, by_path}
use Rattle.ats_tree.specs.Paths.{path_of}
use Rattle.ats_tree.specs.Strings.{node_string}
use Rattle.ats_tree.specs.declared.places.Place.{Place}
use Rattle.ats_tree.specs.declared.places.Tree.{Tree}
use Rattle.ats_tree.specs.declared.places.Tree.TheVariants.{Header, Dictionary, List as ListOf, Documents, Terms}
use Rattle.ats_lists.specs.Formats.{list_string}
use Rattle.ats_lists.specs.Leaf.{leaf_bytes}
use Rattle.ats_postings.specs.Lists.{list}
use Rattle.ats_dict.specs.Dictionary.{dict_leaves}
use Rattle.ats_doctree.specs.Impacts.{doc_terms}
use Rattle.ats_doctree.specs.Sentinels.{terms_leaves}
use Rattle.ats_commit.specs.Archive.{Archive, header_tag}
use Rattle.ats_commit.specs.Places.{numbers_at}
use Rattle.ats_commit.specs.Trees.{dictionary_of, documents_of}
use Rattle.ats_commit.specs.Root.{header_of}

-- the term of a query with this number; past the last it is empty
abbrev pub asked_term : List (List ℕ × ℕ) → ℕ → List ℕ
asked_term query number = (slice_index_or query number ([], 0)).0

-- the leaves of a tree of the archive: none if the archive has no such term or document; the header is no tree
abbrev pub own_leaves : (List ℕ → List ℕ) → Archive → List (List ℕ × ℕ) → Tree → List (List ℕ)
own_leaves H archive query Header = []
own_leaves H archive query Dictionary = dict_leaves (dictionary_of H archive)
own_leaves H archive query (ListOf term) = map leaf_bytes (list archive.texts (asked_term query term))
own_leaves H archive query Documents = documents_of H archive.texts
own_leaves H archive query (Terms doc) =
    if nat_lt doc (length archive.texts) then terms_leaves (doc_terms archive.texts doc) else []

-- the header is one string, at depth 0, under the tag of its format
abbrev pub own_header : (List ℕ → List ℕ) → Archive → ℕ → Option (List ℕ)
own_header H archive zero = Some (header_tag archive.format ∷ header_of H archive)
own_header H archive (suc depth) = None

-- the string of one of the archive's trees with these two numbers, if there is one; a list is hashed by its format
abbrev pub own_string : (List ℕ → List ℕ) → Archive → List (List ℕ × ℕ) → Tree → NodeNumbers → Option (List ℕ)
own_string H archive query Header at = own_header H archive at.depth
own_string H archive query (ListOf term) at =
    list_string H archive.format (list archive.texts (asked_term query term)) at
own_string H archive query tree at = node_string H (own_leaves H archive query tree) (by_path (path_of at.depth at.turns))

-- the string at a place in the archive's own trees, if there is one
abbrev pub ours : (List ℕ → List ℕ) → Archive → List (List ℕ × ℕ) → Place → Option (List ℕ)
ours H archive query place = own_string H archive query place.tree (numbers_at place)
