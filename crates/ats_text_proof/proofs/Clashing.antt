-- The first collision of a text: the header, or the first one on the path to the text.
use Rattle.std.proofs.Common.{◌≡◌, ◌∙◌, ◌<◌, ◌^◌, ℕ, List, length, map, not, ◌||◌, Option, Some, None, IfSome, refl, sym, ap}
use Rattle.std.specs.Prelude.{Result, Ok, Err, IfOk}
use Rattle.std.specs.Option.{option_map}
use Rattle.std.specs.Str.{bytes_eq}
use Rattle.std.proofs.lemmas.Bool.{cond-true, cond-false}
use Rattle.ats_commit.specs.Archive.{Archive}
use Rattle.ats_commit.specs.Own.{AreTexts}
use Rattle.ats_commit.specs.Root.{header_string, root_of}
use Rattle.ats_commit.specs.Inner.Root.{own_header_string, HasOwnHeader}
use Rattle.ats_tree.specs.Clashes as tree
use Rattle.ats_tree.specs.Differences.{Hashed, moved, Difference, first_collision}
use Rattle.ats_tree.specs.Nodes.{Node, NodeNumbers, numbers_of}
use Rattle.ats_tree.specs.Strings.{node_string, node_strings}
use Rattle.ats_tree.specs.declared.clashing.Clash.{Clash}
use Rattle.ats_tree.proofs.Public.{collision-moved, moved_collision, numbers-back, numbers-lead}
use Rattle.ats_text_check.specs.Accepts.{AcceptsText, shown_text}
use Rattle.ats_text_check.specs.Strings.{TextPlace, header_place, in_texts, own_text_string, text_collision}
use Rattle.ats_text_check.specs.Value.{TextProof, IsTextInRange}
use Rattle.ats_text_check.proofs.Public.{tree_strings_of, text-collision-is-difference}
use Rattle.ats_text_proof.specs.Inner.Clashes.{IsHeaderClash, difference_in}
use Rattle.ats_text_proof.specs.Inner.TextString.{bytes_of}
use Rattle.ats_text_proof.specs.Verdicts.{difference_of}
use Rattle.ats_text_proof.specs.declared.own_texts.TextString.{TextString}
use Rattle.ats_text_proof.specs.declared.verdict.TextClash.{TextClash}

-- ---- the header

-- below a header of one's own
collision_below : (H : List ℕ → List ℕ) (archive : Archive) (doc : ℕ) (proof : TextProof) → HasOwnHeader H archive proof.format proof.header
    → text_collision H archive doc proof ≡ first_collision H (own_text_string H archive) (tree_strings_of H doc proof)
collision_below H archive doc proof equal =
    cond-true _ _ _ (ap (λ same. same || not (bytes_eq (H (own_header_string H archive)) (H (header_string proof.format proof.header)))) equal)

-- the same of what is found there
pub below_found : (H : List ℕ → List ℕ) (archive : Archive) (doc : ℕ) (proof : TextProof) → HasOwnHeader H archive proof.format proof.header → {E : Type 0} → (result : Result (Option TextClash) E)
    → IfOk result (λ found. option_map difference_of found ≡ first_collision H (own_text_string H archive) (tree_strings_of H doc proof))
    → IfOk result (λ found. option_map difference_of found ≡ text_collision H archive doc proof)
below_found H archive doc proof equal (Ok found) is = is ∙ sym (collision_below H archive doc proof equal)
below_found H archive doc proof equal (Err fault) is = tt

module _ (H : List ℕ → List ℕ) (sized : (m : List ℕ) → length (H m) ≡ 32) (archive : Archive) (doc : ℕ) (proof : TextProof) (are : AreTexts archive.texts) (range : IsTextInRange proof)
    (accepts : AcceptsText H (root_of H archive) doc proof) where
  -- another header
  pub collision_at_header : (clash : TextClash) → IsHeaderClash H archive proof clash → Some (difference_of clash) ≡ text_collision H archive doc proof
  collision_at_header clash is =
      let here : Difference TextPlace = record { place = header_place; ours = own_header_string H archive; theirs = header_string proof.format proof.header } in
      let same : difference_of clash ≡ here = λ i. record { place = is.place i; ours = is.ours i; theirs = is.theirs i } in
      ap Some same ∙ sym (text-collision-is-difference H sized archive doc proof are range accepts ∙ cond-false _ _ _ is.differs)

-- ---- the texts tree

-- a clash of the tree, at its place
placed : (o : Option (Clash TextString)) → IfSome o (λ c. c.turns < 2 ^ c.depth)
    → option_map (moved_collision in_texts) (option_map (moved_collision numbers_of) (option_map (tree.difference_of bytes_of) o)) ≡ option_map difference_in o
placed None inside = refl
placed (Some c) inside =
    ap (λ (at : NodeNumbers). Some (let d : Difference TextPlace = record { place = in_texts at; ours = bytes_of c.ours; theirs = bytes_of c.theirs } in d))
    (numbers-back c.depth c.turns inside)

-- the first clash with the archive's texts is the first collision in their tree
pub tree_found : (H : List ℕ → List ℕ) (archive : Archive) (doc : ℕ) (proof : TextProof) (texts : List (List ℕ)) (o : Option (Clash TextString)) → texts ≡ archive.texts
    → IfSome o (λ c. c.turns < 2 ^ c.depth)
    → option_map (tree.difference_of bytes_of) o ≡ first_collision H (node_string H texts) (node_strings H proof.header.documents (shown_text doc proof.text) proof.digests)
    → option_map difference_in o ≡ first_collision H (own_text_string H archive) (tree_strings_of H doc proof)
tree_found H archive doc proof texts o own inside is =
    let ours : TextPlace → Option (List ℕ) = own_text_string H archive in
    let nodes : List (Hashed Node) = node_strings H proof.header.documents (shown_text doc proof.text) proof.digests in
    let lead : first_collision H (node_string H texts) nodes ≡ first_collision H (λ (node : Node). ours (in_texts (numbers_of node))) nodes =
    λ i. first_collision H (λ (node : Node). node_string H (own i) (sym (numbers-lead node) i)) nodes in
    sym (placed o inside)
    ∙ ap (λ (c : Option (Difference Node)). option_map (moved_collision in_texts) (option_map (moved_collision numbers_of) c)) (is ∙ lead)
    ∙ sym (
    collision-moved H in_texts ours (map (moved numbers_of) nodes)
    ∙ ap (option_map (moved_collision in_texts)) (collision-moved H numbers_of (λ (at : NodeNumbers). ours (in_texts at)) nodes)
    )
