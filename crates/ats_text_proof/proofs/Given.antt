-- What an archive gives is in range, fits, is accepted, and hashes the archive's own strings.
use Rattle.std.proofs.Common.{◌≡◌, ◌∙◌, ℕ, ◌<◌, ◌≤◌, ◌^◌, List, [], ◌∷◌, length, map, get_or, Option, Some, None, refl, sym, ap, subst, arith}
use Rattle.std.specs.List.{All}
use Rattle.std.proofs.lemmas.List.Elements.{All-map, All-cons}
use Rattle.std.proofs.lemmas.List.{get_or_default}
use Rattle.std.proofs.lemmas.Option.{slice_get-get_or}
use Rattle.ats_commit.specs.Archive.{Archive}
use Rattle.ats_commit.specs.Own.{AreTexts}
use Rattle.ats_commit.specs.Root.{header_parts, root_of}
use Rattle.ats_commit.proofs.Public.{few_within, header_in_range}
use Rattle.ats_dict.specs.declared.header.Header.{Header}
use Rattle.ats_lists.specs.declared.format.Format.{Format}
use Rattle.ats_tree.specs.Differences.{Hashed, moved, IsOurs}
use Rattle.ats_tree.specs.Elided.{elided_digests, shown_with}
use Rattle.ats_tree.specs.Nodes.{Node, NodeNumbers, numbers_of}
use Rattle.ats_tree.specs.Rebuild.{need, rebuilt, tree_of_places}
use Rattle.ats_tree.specs.Strings.{node_string, node_strings}
use Rattle.ats_tree.specs.Tree.{mth, tree_of}
use Rattle.ats_tree.proofs.Public.{elided-rebuilds, elided-sized, numbers-lead, own-none, own-strings}
use Rattle.ats_text_check.specs.Accepts.{shown_text, AcceptsText}
use Rattle.ats_text_check.specs.Strings.{TextPlace, in_texts, own_text_string, text_strings, text_collision, IsOwnText}
use Rattle.ats_text_check.specs.Value.{TextProof, IsTextInRange}
use Rattle.ats_text_check.proofs.Public.{tree_strings_of}
use Rattle.ats_text_proof.specs.Given.{given_text}
use Rattle.ats_text_proof.proofs.Needs.{needs}
use Rattle.ats_text_proof.proofs.Rebuilt.{fits}

module _ (H : List ℕ → List ℕ) (sized : (m : List ℕ) → length (H m) ≡ 32) (archive : Archive) (doc : ℕ) (are : AreTexts archive.texts) (less : doc < length archive.texts) where
  abbrev given : TextProof
  given = given_text H archive doc

  -- they rebuild the root of the texts
  rebuilds : rebuilt H (length archive.texts) (shown_text doc given.text) given.digests ≡ Some (mth H archive.texts)
  rebuilds = elided-rebuilds H archive.texts (doc ∷ []) are.within.some (omega arith, (omega (arith, less)), tt)

  pub given-fits : length given.digests ≡ need (tree_of_places (length archive.texts) (shown_text doc given.text))
  given-fits = (fits H (length archive.texts) (shown_text doc given.text) given.digests (mth H archive.texts) rebuilds).0

  pub few-digests : length given.digests ≤ 16
  few-digests =
      let many : length archive.texts ≤ 2 ^ 16 = omega (arith, are.within.few) in
      let most = needs 16 0 (length archive.texts) doc given.text are.within.some many (omega arith) (omega (arith, less)) in
      omega (arith, given-fits, most)

  pub given-in_range : IsTextInRange given
  given-in_range = record {
    header = header_in_range H sized archive are.within (few_within archive.texts are.utf8 are.within);
    short = text_short;
    few = omega (arith, few-digests);
    sized = elided-sized H sized (tree_of_places (length archive.texts) (shown_with archive.texts (doc ∷ []))) (tree_of archive.texts);
  }
    where
      text_short : length given.text ≤ 2 ^ 20
      text_short = are.within.short doc [] less

  pub given-accepted : AcceptsText H (root_of H archive) doc given
  given-accepted = record { holds = (refl, (less, (given-fits, (rebuilds, tt)))) }

  -- ---- each string is the archive's own

  own-tree : All (IsOurs (own_text_string H archive)) (tree_strings_of H doc given)
  own-tree =
      let strings : List (Hashed Node) = node_strings H (length archive.texts) (shown_text doc given.text) given.digests in
      let Own : Hashed TextPlace → Type 0 = IsOurs (own_text_string H archive) in
      let ByNode : (Node → Option (List ℕ)) → Type 0 = λ lookup. All (IsOurs lookup) strings in
      let own : ByNode (λ node. own_text_string H archive (in_texts (numbers_of node))) =
      subst ByNode (λ i node. ap (node_string H archive.texts) (sym (numbers-lead node)) i) (own-strings H archive.texts (doc ∷ [])) in
      All-map Own (moved in_texts) (map (moved numbers_of) strings) (All-map (λ (s : Hashed NodeNumbers). Own (moved in_texts s)) (moved numbers_of) strings own)

  pub given-none : text_collision H archive doc given ≡ None
  given-none =
      own-none H (own_text_string H archive) (text_strings H doc given)
      (All-cons (IsOurs (own_text_string H archive)) _ (tree_strings_of H doc given) refl own-tree)

  pub given-own : IsOwnText archive doc given
  given-own = slice_get-get_or archive.texts doc [] less

-- what is found of an archive part by part is what it gives
pub found_given : (H : List ℕ → List ℕ) (archive : Archive) (doc : ℕ) (texts : List (List ℕ)) (format : Format) (header : Header) (lent text : List ℕ) (digests : List (List ℕ))
    → texts ≡ archive.texts → doc < length archive.texts → format ≡ archive.format → header ≡ header_parts H archive → text ≡ lent → lent ≡ get_or texts doc lent
    → digests ≡ elided_digests H texts (doc ∷ [])
    → (let found : TextProof = record { format = format; header = header; text = text; digests = digests } in found) ≡ given_text H archive doc
found_given H archive doc texts format header lent text digests own less is_format is_header is_text is_lent are_digests =
    let read : get_or texts doc lent ≡ get_or archive.texts doc [] =
    ap (λ (ts : List (List ℕ)). get_or ts doc lent) own ∙ get_or_default archive.texts doc lent [] less in
    let there : text ≡ get_or archive.texts doc [] = is_text ∙ is_lent ∙ read in
    let needed : digests ≡ elided_digests H archive.texts (doc ∷ []) = are_digests ∙ ap (λ (ts : List (List ℕ)). elided_digests H ts (doc ∷ [])) own in
    λ i. record { format = is_format i; header = is_header i; text = there i; digests = needed i }
