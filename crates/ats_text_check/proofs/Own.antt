-- An accepted text is the archive's own, or the first string that differs from the archive's has an equal digest.
use Rattle.std.proofs.Common.{◌≡◌, ◌⊎◌, ℕ, List, [], length, map, Option, Some, None, IsSome, MatchOption, slice_get, ◌≤◌, refl, sym, ap, subst, inl, inr, arith}
use Rattle.std.specs.List.{All}
use Rattle.std.specs.Prelude.{OnOk, Result, Ok, Err}
use Rattle.std.specs.Str.{bytes_eq}
use Rattle.std.proofs.lemmas.Bool.{cond-true, cond-false, cases_Bool}
use Rattle.std.proofs.lemmas.List.Elements.{All-head}
use Rattle.ats_commit.specs.Archive.{Archive}
use Rattle.ats_commit.specs.Own.{AreTexts, IsHeaderOf}
use Rattle.ats_commit.specs.Root.{header_string, root_of}
use Rattle.ats_commit.specs.Inner.Root.{own_header_string}
use Rattle.ats_commit.proofs.Public.{known-by-numbers, own_numbers}
use Rattle.ats_tree.specs.Differences.{Hashed, moved, Difference, first_difference}
use Rattle.ats_tree.specs.Nodes.{Node, NodeNumbers, numbers_of}
use Rattle.ats_tree.specs.Shown.{Shown}
use Rattle.ats_tree.specs.Strings.{node_string, node_strings, IsBoundTo}
use Rattle.ats_tree.proofs.Public.{bound_to, binds-weaker, Collides, difference-collides, known-moved, numbers-lead}
use Rattle.ats_text_check.specs.Accepts.{shown_text, AcceptsText}
use Rattle.ats_text_check.specs.Strings.{TextPlace, in_texts, own_text_string, text_strings, text_collision, IsOwnText, IsOwnOrCollides}
use Rattle.ats_text_check.specs.Value.{TextProof, IsTextInRange}
use Rattle.ats_refusal.specs.declared.text.TextRefusal.{TextRefusal}

-- ---- the texts tree

abbrev pub tree_strings_of : (List ℕ → List ℕ) → ℕ → TextProof → List (Hashed TextPlace)
tree_strings_of H doc proof =
    map (moved in_texts) (map (moved numbers_of) (node_strings H proof.header.documents (shown_text doc proof.text) proof.digests))

tree-bound : (H : List ℕ → List ℕ) → ((m : List ℕ) → length (H m) ≡ 32) → (archive : Archive) (root : List ℕ) (doc : ℕ) (proof : TextProof) → IsTextInRange proof
    → AcceptsText H root doc proof → IsHeaderOf H archive proof.header
    → MatchOption (first_difference (own_text_string H archive) (tree_strings_of H doc proof)) (IsOwnText archive doc proof) (Collides H)
tree-bound H sized archive root doc proof range accepts header =
    let shown : List Shown = shown_text doc proof.text in
    let strings : List (Hashed Node) = node_strings H proof.header.documents shown proof.digests in
    let Leaves : Type 0 = All (λ (s : Shown). slice_get archive.texts s.0 ≡ Some s.1) shown in
    let bound : IsBoundTo H proof.header.documents shown proof.digests archive.texts =
    bound_to H sized proof.header.documents shown proof.digests proof.header.texts_root (omega_rises doc, tt) range.sized accepts.holds.1.1.1.0
    archive.texts (sym header.number) (sym header.raw) in
    let own : MatchOption (first_difference (node_string H archive.texts) strings) (IsOwnText archive doc proof) (Collides H) =
    binds-weaker H (node_string H archive.texts) strings Leaves (IsOwnText archive doc proof)
    (λ leaves. All-head (λ (s : Shown). slice_get archive.texts s.0 ≡ Some s.1) (doc, proof.text) [] leaves) bound in
    known-moved H (IsOwnText archive doc proof) in_texts (own_text_string H archive) (map (moved numbers_of) strings)
    (known-by-numbers H (IsOwnText archive doc proof) (λ (at : NodeNumbers). own_text_string H archive (in_texts at)) (node_string H archive.texts) strings
    (λ node. ap (node_string H archive.texts) (numbers-lead node)) own)
  where
    omega_rises : (n : ℕ) → 0 ≤ n
    omega_rises n = omega arith

-- ---- both

pub text-bound : (H : List ℕ → List ℕ) → ((m : List ℕ) → length (H m) ≡ 32) → (archive : Archive) (doc : ℕ) (proof : TextProof) → AreTexts archive.texts → IsTextInRange proof
    → AcceptsText H (root_of H archive) doc proof
    → MatchOption (first_difference (own_text_string H archive) (text_strings H doc proof)) (IsOwnText archive doc proof) (Collides H)
text-bound H sized archive doc proof are range accepts =
    let Good : Option (Difference TextPlace) → Type 0 = λ o. MatchOption o (IsOwnText archive doc proof) (Collides H) in
    elim (cases_Bool (bytes_eq (own_header_string H archive) (header_string proof.format proof.header))) [
      | inl equal ↦
          subst Good (sym (cond-true _ _ _ equal))
          (tree-bound H sized archive (root_of H archive) doc proof range accepts (own_numbers H sized archive proof.format proof.header are range.header equal))
      | inr other ↦ subst Good (sym (cond-false _ _ _ other)) accepts.holds.0
    ]

-- the first difference is then the first collision
pub text-collision-is-difference : (H : List ℕ → List ℕ) → ((m : List ℕ) → length (H m) ≡ 32) → (archive : Archive) (doc : ℕ) (proof : TextProof) → AreTexts archive.texts → IsTextInRange proof
    → AcceptsText H (root_of H archive) doc proof
    → text_collision H archive doc proof ≡ first_difference (own_text_string H archive) (text_strings H doc proof)
text-collision-is-difference H sized archive doc proof are range accepts =
    difference-collides H (IsOwnText archive doc proof) (own_text_string H archive) (text_strings H doc proof) (text-bound H sized archive doc proof are range accepts)

-- an option that is known to be equal to one of which something is known
found_or : (H : List ℕ → List ℕ) (A : Type 0) (o found : Option (Difference TextPlace)) → found ≡ o → MatchOption o A (Collides H) → A ⊎ IsSome found
found_or H A None found is known = inl known
found_or H A (Some c) found is known = inr (subst (λ (x : Option (Difference TextPlace)). IsSome x) (sym is) refl)

pub own_or_collides : (H : List ℕ → List ℕ) → ((m : List ℕ) → length (H m) ≡ 32) → (root : List ℕ) (doc : ℕ) (proof : TextProof) → IsTextInRange proof
    → AcceptsText H root doc proof → IsOwnOrCollides H root doc proof
own_or_collides H sized root doc proof range accepts archive are is =
    let here : AcceptsText H (root_of H archive) doc proof = subst (λ (r : List ℕ). AcceptsText H r doc proof) (sym is) accepts in
    found_or H (IsOwnText archive doc proof) (first_difference (own_text_string H archive) (text_strings H doc proof)) (text_collision H archive doc proof)
    (text-collision-is-difference H sized archive doc proof are range here) (text-bound H sized archive doc proof are range here)

-- the same of a check
pub own_if_ok : (H : List ℕ → List ℕ) → ((m : List ℕ) → length (H m) ≡ 32) → (root : List ℕ) (doc : ℕ) (proof : TextProof) → IsTextInRange proof
    → (result : Result (Unit {0}) TextRefusal) → OnOk result (AcceptsText H root doc proof) → OnOk result (IsOwnOrCollides H root doc proof)
own_if_ok H sized root doc proof range (Ok done) accepts = own_or_collides H sized root doc proof range accepts
own_if_ok H sized root doc proof range (Err refusal) accepts = tt
