-- The strings that are hashed over roots are these roots' own, so none of them collides.
use Rattle.std.proofs.Common.{◌≡◌, ℕ, List, [], length, map, get_or, Option, None, IfSome, refl, sym, ap, subst}
use Rattle.std.specs.List.{All}
use Rattle.std.proofs.lemmas.List.Elements.{All-cons, All-map}
use Rattle.ats_tree.specs.Differences.{Hashed, moved, IsOurs}
use Rattle.ats_tree.specs.Nodes.{Node, NodeNumbers, numbers_of}
use Rattle.ats_tree.specs.Strings.{node_string, node_strings}
use Rattle.ats_tree.proofs.Public.{numbers-lead, own-none, own-strings}
use Rattle.ats_catalog_bytes.specs.Catalog.{string_over}
use Rattle.ats_catalog_bytes.specs.Strings.{RootsPlace, catalog_place, in_roots, tree_strings, roots_strings, roots_string, roots_collision}
use Rattle.ats_catalog_bytes.proofs.AllShown.{all_of, all_shown, nothing_elided}

module _ (H : List ℕ → List ℕ) (roots : List (List ℕ)) where
  abbrev Own : Hashed RootsPlace → Type 0
  Own = IsOurs (roots_string H roots)

  abbrev nodes : List (Hashed Node)
  nodes = node_strings H (length roots) (all_shown roots) []

  nodes_own : All (IsOurs (node_string H roots)) nodes
  nodes_own =
      subst (λ (ds : List (List ℕ)). All (IsOurs (node_string H roots)) (node_strings H (length roots) (all_shown roots) ds)) (nothing_elided H roots)
      (own-strings H roots (all_of roots))

  tree_own : All Own (tree_strings H roots)
  tree_own =
      All-map Own (moved in_roots) (map (moved numbers_of) nodes)
      (All-map (λ (s : Hashed NodeNumbers). Own (moved in_roots s)) (moved numbers_of) nodes (λ k d inside.
      let s : Hashed Node = get_or nodes k d in
      let there : roots_string H roots (in_roots (numbers_of s.place)) ≡ node_string H roots s.place = ap (node_string H roots) (numbers-lead s.place) in
      subst (λ (o : Option (List ℕ)). IfSome o (λ (own : List ℕ). own ≡ s.text)) (sym there) (nodes_own k d inside)))

  roots_own : All Own (roots_strings H roots)
  roots_own = All-cons Own (record { place = catalog_place; text = string_over H roots }) (tree_strings H roots) refl tree_own

  pub roots_unclashing : roots_collision H roots roots ≡ None
  roots_unclashing = own-none H (roots_string H roots) (roots_strings H roots) roots_own
