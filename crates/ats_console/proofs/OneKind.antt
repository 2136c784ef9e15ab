-- A file of each kind is accepted or rejected in one way.
use Rattle.std.proofs.Common.{◌≡◌, ℕ, List, subst}
use Rattle.ats_grammar.specs.declared.fault.ShapeFault.{ShapeFault}
use Rattle.ats_grammar.specs.Front.{IsBad}
use Rattle.ats_grammar.specs.Grammar.{proof_schema}
use Rattle.ats_grammar.proofs.Public.{no_fault, one_fault}
use Rattle.ats_proof.specs.Value.{fields_of}
use Rattle.ats_proof.proofs.Public.{one_value}
use Rattle.ats_text_check.specs.Accepts.{AcceptsText, IsFirstTextRefusal}
use Rattle.ats_text_check.specs.Grammar.{text_schema}
use Rattle.ats_text_check.specs.Value.{IsTextProof}
use Rattle.ats_text_check.specs.Value as text
use Rattle.ats_text_check.specs.Bytes.{IsAcceptedText, IsRefusedText}
use Rattle.ats_text_check.proofs.Public.{one_text}
use Rattle.ats_text_check.proofs.Public as texts
use Rattle.ats_growth_check.specs.Grammar.{growth_schema}
use Rattle.ats_growth_check.specs.Rules.{AcceptsGrowth, IsFirstGrowthRefusal}
use Rattle.ats_growth_check.specs.Value.{IsGrowth}
use Rattle.ats_growth_check.specs.Value as growth
use Rattle.ats_growth_check.specs.Bytes.{IsAcceptedGrowth, IsRefusedGrowth}
use Rattle.ats_growth_check.proofs.Public.{one_growth}
use Rattle.ats_growth_check.proofs.Public as growths
use Rattle.ats_all_check.specs.Bytes.{AreAcceptedBytes, AreRefusedBytes}
use Rattle.ats_all_check.proofs.Public.{one_of_bytes, not_refused}
use Rattle.ats_catalog_bytes.specs.Grammar.{catalog_schema}
use Rattle.ats_catalog_bytes.specs.Value.{Framed, IsCatalogProof}
use Rattle.ats_catalog_bytes.specs.Value as shards
use Rattle.ats_catalog_bytes.proofs.Public.{one_catalog}
use Rattle.ats_catalog_check.specs.Accepts.{AcceptsCatalog, IsFirstCatalogRefusal}
use Rattle.ats_catalog_check.specs.Bytes.{IsAcceptedCatalog, IsRefusedCatalog}
use Rattle.ats_catalog_check.proofs.Public as catalogs
use Rattle.ats_refusal.specs.Words.{text_refusal_words, both_refusal_words, growth_refusal_words, catalog_refusal_words}
use Rattle.ats_plan.specs.Plan.{Plan}
use Rattle.ats_plan.specs.Inner.Sound.{IsOne}
use Rattle.ats_console.specs.Kinds.{Kind, text_kind, both_kind, growth_kind, catalog_kind, checks_named}
use Rattle.ats_console.specs.declared.stops.Stop.{Stop}
use Rattle.ats_console.specs.declared.stops.Stop.TheVariants.{Usage}
use Rattle.ats_console.proofs.OneFile.{IsFileOne, file_one, not_usage}
use Rattle.ats_console.proofs.Sound.{Sound, fails, gets, reads, not_rejected}

-- bytes are accepted as one value or rejected in one way, and never for words
pub record IsKindOne {V : Type 0} (kind : Kind V) : Type 0 where
  pub one : (bytes : List ℕ) → IsOne (kind.accepted bytes) (kind.rejects bytes)
  pub free : (bytes : List ℕ) → kind.rejects bytes Usage → ⊥

-- so the check of such a file keeps that a plan goes one way
pub named_sound : {V : Type 0} {kind : Kind V} {name : List ℕ} {rest : V → Plan Stop} → IsKindOne kind → ((v : V) → Sound (rest v))
    → Sound (checks_named kind name rest)
named_sound is later = reads (fails not_rejected) (λ bytes. gets (is.one bytes) (is.free bytes) later)

-- bytes that spell one value at most, which is accepted or breaks one rule first
module _ {V F : Type 0} (says accepts : V → Type 0) (first : V → F → Type 0) {accepted : V → Type 0} {bad : ShapeFault → Type 0} {refused : F → Type 0}
    (parts : (v : V) → accepted v → says v × accepts v) (by : (f : F) → refused f → (v : V) × says v × first v f)
    (single : (a b : V) → says a → says b → a ≡ b) (no_shape : (v : V) (fault : ShapeFault) → says v → bad fault → ⊥)
    (one_shape : (a b : ShapeFault) → bad a → bad b → a ≡ b) (never_both : (v : V) (f : F) → accepts v → first v f → ⊥)
    (one_rule : (v : V) (a b : F) → first v a → first v b → a ≡ b) where
  -- what breaks a rule first is what was spelled
  same_rule : (v : V) (f : F) → says v → refused f → first v f
  same_rule v f is breaks = let rule = by f breaks in subst (λ (w : V). first w f) (single rule.0 v rule.1 is) rule.2

  file_of_rules : IsFileOne accepted bad refused
  file_of_rules = record {
    single = λ a b is also. single a b (parts a is).0 (parts b also).0;
    whole = λ v fault is wrong. no_shape v fault (parts v is).0 wrong;
    never_both = λ v f is breaks. never_both v f (parts v is).1 (same_rule v f (parts v is).0 breaks);
    apart = λ fault f wrong breaks. no_shape (by f breaks).0 fault (by f breaks).1 wrong;
    one_shape = one_shape;
    one_rule = λ a b is also. one_rule (by a is).0 a b (by a is).2 (same_rule (by a is).0 b (by a is).1 also);
  }

module _ (H : List ℕ → List ℕ) where
  text_file_one : (root : List ℕ) (doc : ℕ) (bytes : List ℕ) → IsFileOne (IsAcceptedText H root doc bytes) (IsBad text_schema bytes) (IsRefusedText H root doc bytes)
  text_file_one root doc bytes =
      file_of_rules (IsTextProof bytes) (AcceptsText H root doc) (IsFirstTextRefusal H root doc) (λ v is. (is.says, is.accepts)) (λ f is. (is.proof, is.says, is.refused))
      (one_text bytes) (λ v fault says wrong. no_fault text_schema bytes fault (text.fields_of v) wrong says.spells) (one_fault text_schema bytes)
      (texts.not_refused H root doc) (texts.one_refusal H root doc)

  pub text_one : (root : List ℕ) (doc : ℕ) → IsKindOne (text_kind H root doc)
  text_one root doc = record { one = λ bytes. file_one text_refusal_words (text_file_one root doc bytes); free = λ bytes. not_usage text_refusal_words }

  growth_file_one : (old new bytes : List ℕ) → IsFileOne (IsAcceptedGrowth H old new bytes) (IsBad growth_schema bytes) (IsRefusedGrowth H old new bytes)
  growth_file_one old new bytes =
      file_of_rules (IsGrowth bytes) (AcceptsGrowth H old new) (IsFirstGrowthRefusal H old new) (λ v is. (is.says, is.accepts)) (λ f is. (is.growth, is.says, is.refused))
      (one_growth bytes) (λ v fault says wrong. no_fault growth_schema bytes fault (growth.fields_of v) wrong says) (one_fault growth_schema bytes)
      (growths.accepted_not_refused H old new) (growths.one_refusal H old new)

  pub growth_one : (old new : List ℕ) → IsKindOne (growth_kind H old new)
  growth_one old new = record { one = λ bytes. file_one growth_refusal_words (growth_file_one old new bytes); free = λ bytes. not_usage growth_refusal_words }

  both_file_one : (root : List ℕ) (query : List (List ℕ × ℕ)) (bytes : List ℕ)
      → IsFileOne (AreAcceptedBytes H root query bytes) (IsBad proof_schema bytes) (AreRefusedBytes H root query bytes)
  both_file_one root query bytes = record {
    single = λ a b is also. one_value bytes a b is.says also.says;
    whole = λ proof fault is bad. no_fault proof_schema bytes fault (fields_of proof) bad is.says.spells;
    never_both = λ proof refusal is refused. not_refused H root query bytes proof refusal is refused;
    apart = λ fault refusal bad refused. no_fault proof_schema bytes fault (fields_of refused.proof) bad refused.says.spells;
    one_shape = one_fault proof_schema bytes;
    one_rule = one_of_bytes H root query bytes;
  }

  pub both_one : (root : List ℕ) (query : List (List ℕ × ℕ)) → IsKindOne (both_kind H root query)
  both_one root query = record { one = λ bytes. file_one both_refusal_words (both_file_one root query bytes); free = λ bytes. not_usage both_refusal_words }

  catalog_file_one : (root : List ℕ) (query : List (List ℕ × ℕ)) (r : ℕ) (bytes : List ℕ)
      → IsFileOne (IsAcceptedCatalog H root query r bytes) (IsBad catalog_schema bytes) (IsRefusedCatalog H root query r bytes)
  catalog_file_one root query r bytes =
      file_of_rules (IsCatalogProof bytes) (AcceptsCatalog H root query r) (IsFirstCatalogRefusal H root query r) (λ v is. (is.says, is.accepts)) (λ f is. (is.shards, is.says, is.refused))
      (one_catalog bytes) (λ v fault says wrong. no_fault catalog_schema bytes fault (shards.fields_of v) wrong says.spells) (one_fault catalog_schema bytes)
      (catalogs.not_refused H root query r) (catalogs.one_refusal H root query r)

  pub catalog_one : (root : List ℕ) (query : List (List ℕ × ℕ)) (r : ℕ) → IsKindOne (catalog_kind H root query r)
  catalog_one root query r = record { one = λ bytes. file_one catalog_refusal_words (catalog_file_one root query r bytes); free = λ bytes. not_usage catalog_refusal_words }
