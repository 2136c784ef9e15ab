-- When a text is accepted under a root as a document's, and by which rule it is refused otherwise.
use Rattle.std.specs.Prelude.{◌≡◌, ◌<◌, ℕ, List, [], ◌∷◌, length, Option, Some}
use Rattle.ats_base.specs.Rules.{Group, rule, AllHold, IsFirstFault}
use Rattle.ats_commit.specs.Root.{header_root}
use Rattle.ats_tree.specs.Rebuild.{need, rebuilt, tree_of_places}
use Rattle.ats_tree.specs.Shown.{Shown}
use Rattle.ats_text_check.specs.Value.{TextProof}
use Rattle.ats_refusal.specs.declared.text.TextRefusal.{TextRefusal}
use Rattle.ats_refusal.specs.declared.text.TextRefusal.TheVariants.{OtherRoot, DocOut, TextMisfit, TextRoot}

-- the one leaf that is shown of the texts tree: the text, at the document's number
abbrev pub shown_text : ℕ → List ℕ → List Shown
shown_text doc text = (doc, text) ∷ []

-- how many digests the text of the document needs
abbrev pub digests_needed : ℕ → TextProof → ℕ
digests_needed doc proof = need (tree_of_places proof.header.documents (shown_text doc proof.text))

-- the root of the texts that the text and the digests rebuild, if they fit
abbrev pub texts_root_of : (List ℕ → List ℕ) → ℕ → TextProof → Option (List ℕ)
texts_root_of H doc proof = rebuilt H proof.header.documents (shown_text doc proof.text) proof.digests

-- The rules in their order, each with its fault: the header has this root, under the tag of the format; the document is one
-- of the archive's; there are as many digests as the text needs; the text and the digests rebuild the root of the texts
-- that the header has.
abbrev pub text_rules : (List ℕ → List ℕ) → List ℕ → ℕ → TextProof → List (Group TextRefusal)
text_rules H root doc proof =
    rule (header_root H proof.format proof.header ≡ root) OtherRoot
    ∷ rule (doc < proof.header.documents) (DocOut proof.header.documents)
    ∷ rule (length proof.digests ≡ digests_needed doc proof) (TextMisfit (length proof.digests))
    ∷ rule (texts_root_of H doc proof ≡ Some proof.header.texts_root) TextRoot
    ∷ []

-- all rules hold
pub record AcceptsText (H : List ℕ → List ℕ) (root : List ℕ) (doc : ℕ) (proof : TextProof) : Type 0 where
  pub holds : AllHold (text_rules H root doc proof)

-- the first rule that does not hold
pub record IsFirstTextRefusal (H : List ℕ → List ℕ) (root : List ℕ) (doc : ℕ) (proof : TextProof) (refusal : TextRefusal) : Type 0 where
  pub first : IsFirstFault (text_rules H root doc proof) refusal
