-- The steps that commands share go one way at most, and stop none for its words.
use Rattle.std.proofs.Common.{◌≡◌, ◌≢◌, ◌∙◌, ◌++◌, ◌∷◌, [], ℕ, List, Some, sym, ap}
use Rattle.ats_terms.specs.declared.query.QueryFault.{QueryFault}
use Rattle.ats_terms.specs.declared.query.QueryFault.TheVariants as query
use Rattle.ats_impact.specs.declared.collection.CollectionFault.{CollectionFault}
use Rattle.ats_impact.specs.declared.collection.CollectionFault.TheVariants as collection
use Rattle.ats_index.specs.declared.load.LoadFault.{LoadFault}
use Rattle.ats_index.specs.declared.load.LoadFault.TheVariants as index
use Rattle.ats_console.specs.declared.input.JsonFault.{JsonFault}
use Rattle.ats_console.specs.declared.input.JsonFault.TheVariants as json
use Rattle.ats_terms.specs.Query.{IsQueryOf}
use Rattle.ats_terms.specs.Faults.{IsFirstFault}
use Rattle.ats_impact.specs.Limits.{AreWithin}
use Rattle.ats_impact.specs.CollectionFaults.{IsFirstCollectionFault}
use Rattle.ats_commit.specs.Archive.{Archive}
use Rattle.ats_index.specs.Spelling.{IsSpelling}
use Rattle.ats_index.specs.LoadFaults.{IsLoadFault}
use Rattle.ats_index.proofs.Public.{one_archive}
use Rattle.ats_proof.specs.Value.{Proof}
use Rattle.ats_proof.proofs.Public.{one_value}
use Rattle.ats_client.specs.Bytes.{IsAcceptedBytes}
use Rattle.ats_refusal.specs.declared.proof.Rejection.{Rejection}
use Rattle.ats_client.proofs.Public.{accepted_not_refused, one_rejection}
use Rattle.ats_plan.specs.Files.{Files}
use Rattle.ats_plan.specs.Plan.{Plan, Finishes, Stores, Fails, Tries, Gets, Makes, Reads}
use Rattle.ats_plan.specs.Inner.Avoids.{Avoids}
use Rattle.ats_plan.specs.Inner.Sound.{IsExact, IsOne, IsSound}
use Rattle.ats_console.specs.Input.{AreJsonTexts, IsFirstJsonFault}
use Rattle.ats_console.specs.RejectionLines.{line_of_rejection}
use Rattle.ats_console.specs.Names.{SpellsName, reads_names, reads_archives}
use Rattle.ats_console.specs.Roots.{SpellsRoot, reads_roots}
use Rattle.ats_console.specs.Stops.{line_of_rows, stop_of_query, stop_of_json, stop_of_collection, stop_of_load}
use Rattle.ats_console.specs.Steps.{StopsBy, IsRowCount, asks_query, asks_ranking, reads_collection, reads_index, RejectsBytes}
use Rattle.ats_console.specs.Inner.Steps.{checks}
use Rattle.ats_console.specs.declared.stops.Stop.{Stop}
use Rattle.ats_console.specs.declared.stops.Stop.TheVariants.{Usage, Shelf, Input, Rejected, Memory, Collision}
use Rattle.ats_console.proofs.OneList.{list_one}
use Rattle.ats_console.proofs.JsonLemmas.{same_texts, no_json_fault}
use Rattle.ats_console.proofs.OneFault.{no_query_fault, one_query_fault, one_json_fault, no_collection_fault, one_collection_fault, no_load_fault, one_load_fault}

-- ---- steps

-- a plan is sound, and no step stops it for its words; a record, so that a lemma finds the plan by the type of what it is
-- passed
pub record Sound (plan : Plan Stop) : Type 0 where
  pub so : IsSound plan
  pub free : Avoids Usage plan

pub ends : {says : Files → List ℕ → Type 0} → Sound (Finishes says)
ends = record { so = tt; free = tt }

pub stores : {name bytes : List ℕ} {says : Files → Files → List ℕ → Type 0} → Sound (Stores name bytes says)
stores = record { so = tt; free = tt }

pub fails : {fault : Stop} → Usage ≢ fault → Sound (Fails fault)
fails other = record { so = tt; free = other }

pub tries : {holds : Type 0} {fault : Stop → Type 0} {rest : Plan Stop} → IsExact holds fault → (fault Usage → ⊥) → Sound rest
    → Sound (Tries holds fault rest)
tries exact other later = record { so = (exact, later.so); free = (other, later.free) }

pub gets : {A : Type 0} {is : A → Type 0} {fault : Stop → Type 0} {rest : A → Plan Stop} → IsOne is fault → (fault Usage → ⊥)
    → ((a : A) → Sound (rest a)) → Sound (Gets A is fault rest)
gets one other later = record { so = (one, λ a. (later a).so); free = (other, λ a. (later a).free) }

pub makes : {A : Type 0} {is : A → Type 0} {rest : A → Plan Stop} → ((a b : A) → is a → is b → a ≡ b) → ((a : A) → Sound (rest a))
    → Sound (Makes A is rest)
makes single later = record { so = (single, λ a. (later a).so); free = λ a. (later a).free }

pub reads : {name : List ℕ} {limit : ℕ} {long : Plan Stop} {rest : List ℕ → Plan Stop} → Sound long → ((bytes : List ℕ) → Sound (rest bytes))
    → Sound (Reads name limit long rest)
reads long later = record { so = (long.so, λ bytes. (later bytes).so); free = (long.free, λ bytes. (later bytes).free) }

-- ---- the stops of steps are never for words

pub not_shelf : Usage ≢ Shelf
not_shelf same = absurd (cc)

pub not_memory : Usage ≢ Memory
not_memory same = absurd (cc)

pub not_input : {line : List ℕ} → Usage ≢ Input line
not_input same = absurd (cc)

pub not_rejected : {line : List ℕ} → Usage ≢ Rejected line
not_rejected same = absurd (cc)

pub not_collision : {lines : List ℕ} → Usage ≢ Collision lines
not_collision same = absurd (cc)

not_query : (fault : QueryFault) → Usage ≢ stop_of_query fault
not_query (query.TooLong bytes) = not_input
not_query query.NoTerm = not_input
not_query (query.TooManyWords count) = not_input
not_query (query.TooManyTerms distinct) = not_input
not_query query.OutOfMemory = not_memory

not_json : (fault : JsonFault) → Usage ≢ stop_of_json fault
not_json json.NotJson = not_input
not_json json.NotArray = not_input
not_json (json.BadItem doc) = not_input
not_json json.OutOfMemory = not_memory

not_texts : (fault : CollectionFault) → Usage ≢ stop_of_collection fault
not_texts collection.NoDocuments = not_input
not_texts (collection.TooMany n) = not_input
not_texts (collection.TextTooLong doc) = not_input
not_texts (collection.AllTooLong bytes) = not_input
not_texts collection.OutOfMemory = not_memory

not_load : (fault : LoadFault) → Usage ≢ stop_of_load fault
not_load (index.BadIndex at) = not_input
not_load index.OutOfMemory = not_memory

-- ---- the ways to stop

module _ {E : Type 0} (first : E → Type 0) (stop_of : E → Stop) where
  -- what excludes each first fault is not stopped by one
  refutes : (rule : Type 0) → ((fault : E) → rule → stop_of fault ≢ Memory → first fault → ⊥) → (stop : Stop) → StopsBy first stop_of stop → rule → ⊥
  refutes rule none stop (fault, is, same, free) holds = none fault holds (λ memory. free (same ∙ memory)) is

  -- if there is one first fault, it stops in one way
  one_by : ((a b : E) → stop_of a ≢ Memory → stop_of b ≢ Memory → first a → first b → a ≡ b) → (a b : Stop) → StopsBy first stop_of a → StopsBy first stop_of b → a ≡ b
  one_by one a b (fault, is, same, free) (other, also, like, too) =
      same ∙ ap stop_of (one fault other (λ memory. free (same ∙ memory)) (λ memory. too (like ∙ memory)) is also) ∙ sym like

-- ---- the steps that commands share

rows_exact : (r : ℕ) → IsExact (IsRowCount r) (λ (stop : Stop). (IsRowCount r → ⊥) × (stop ≡ Input (line_of_rows r)))
rows_exact r = record {
  breaks = λ stop out is. out.0 is;
  one = λ a b is also. is.1 ∙ sym also.1;
}

query_one : (text : List ℕ) → IsOne (IsQueryOf text) (StopsBy (IsFirstFault text) stop_of_query)
query_one text = record {
  single = λ a b is also. is.same ∙ sym also.same;
  breaks = λ query. refutes (IsFirstFault text) stop_of_query (IsQueryOf text query) (λ fault is. no_query_fault text fault is.has);
  one = one_by (IsFirstFault text) stop_of_query (one_query_fault text);
}

texts_one : (bytes : List ℕ) → IsOne (AreJsonTexts bytes) (StopsBy (IsFirstJsonFault bytes) stop_of_json)
texts_one bytes = record {
  single = same_texts bytes;
  breaks = λ texts. refutes (IsFirstJsonFault bytes) stop_of_json (AreJsonTexts bytes texts) (λ fault. no_json_fault bytes texts fault);
  one = one_by (IsFirstJsonFault bytes) stop_of_json (one_json_fault bytes);
}

limits_exact : (texts : List (List ℕ)) → IsExact (AreWithin texts) (StopsBy (IsFirstCollectionFault texts) stop_of_collection)
limits_exact texts = record {
  breaks = refutes (IsFirstCollectionFault texts) stop_of_collection (AreWithin texts) (no_collection_fault texts);
  one = one_by (IsFirstCollectionFault texts) stop_of_collection (one_collection_fault texts);
}

archive_one : (H : List ℕ → List ℕ) (bytes : List ℕ) → IsOne (IsSpelling H bytes) (StopsBy (IsLoadFault H bytes) stop_of_load)
archive_one H bytes = record {
  single = one_archive H bytes;
  breaks = λ archive. refutes (IsLoadFault H bytes) stop_of_load (IsSpelling H bytes archive) (no_load_fault H bytes archive);
  one = one_by (IsLoadFault H bytes) stop_of_load (one_load_fault H bytes);
}

-- a line spells one root, and one name
one_root : (line a b : List ℕ) → SpellsRoot line a → SpellsRoot line b → a ≡ b
one_root line a b is also = let same : Some a ≡ Some b = sym is ∙ also in cc

one_name : (line a b : List ℕ) → SpellsName line a → SpellsName line b → a ≡ b
one_name line a b is also = is.same ∙ sym also.same

-- bytes are accepted as one proof
pub one_accepted : (H : List ℕ → List ℕ) (root : List ℕ) (query : List (List ℕ × ℕ)) (r : ℕ) (bytes : List ℕ) (a b : Proof)
    → IsAcceptedBytes H root query r bytes a → IsAcceptedBytes H root query r bytes b → a ≡ b
one_accepted H root query r bytes a b is also = one_value bytes a b is.says also.says

module _ (H : List ℕ → List ℕ) (root : List ℕ) (query : List (List ℕ × ℕ)) (r : ℕ) (bytes : List ℕ) where
  rejected_not_accepted : (proof : Proof) (stop : Stop) → RejectsBytes H root query r bytes stop → IsAcceptedBytes H root query r bytes proof → ⊥
  rejected_not_accepted proof stop (rejection, rejected, same) accepted = accepted_not_refused H root query r bytes proof rejection accepted rejected

  one_reject : (a b : Stop) → RejectsBytes H root query r bytes a → RejectsBytes H root query r bytes b → a ≡ b
  one_reject a b (rejection, is, same) (other, also, like) =
      same ∙ ap (λ (why : Rejection). Rejected (line_of_rejection why)) (one_rejection H root query r bytes rejection other is also) ∙ sym like

  proof_one : IsOne (IsAcceptedBytes H root query r bytes) (RejectsBytes H root query r bytes)
  proof_one = record { single = one_accepted H root query r bytes; breaks = rejected_not_accepted; one = one_reject }

pub query_sound : {text : List ℕ} {rest : List (List ℕ × ℕ) → Plan Stop} → ((query : List (List ℕ × ℕ)) → Sound (rest query)) → Sound (asks_query text rest)
query_sound {text = text} later = gets (query_one text) (λ stops. not_query stops.0 stops.2) later

pub ranking_sound : {r : ℕ} {text : List ℕ} {rest : List (List ℕ × ℕ) → Plan Stop} → ((query : List (List ℕ × ℕ)) → Sound (rest query))
    → Sound (asks_ranking r text rest)
ranking_sound {r = r} {text = text} later =
    tries (rows_exact r) (λ stops. not_input stops.1) (query_sound {text = text} later)

pub collection_sound : {name : List ℕ} {rest : List (List ℕ) → Plan Stop} → ((texts : List (List ℕ)) → Sound (rest texts))
    → Sound (reads_collection name rest)
collection_sound later = reads (fails not_input) (λ bytes. gets (texts_one bytes) (λ stops. not_json stops.0 stops.2)
    (λ texts. tries (limits_exact texts) (λ stops. not_texts stops.0 stops.2) (later texts)))

pub index_sound : {H : List ℕ → List ℕ} {name : List ℕ} {rest : Archive → Plan Stop} → ((archive : Archive) → Sound (rest archive))
    → Sound (reads_index H name rest)
index_sound {H = H} later = reads (fails not_input) (λ bytes. gets (archive_one H bytes) (λ stops. not_load stops.0 stops.2) later)

pub roots_sound : {name : List ℕ} {rest : List (List ℕ) → Plan Stop} → ((roots : List (List ℕ)) → Sound (rest roots)) → Sound (reads_roots name rest)
roots_sound later = reads (fails not_input) (λ bytes. gets (list_one SpellsRoot 4096 one_root bytes) (λ stops. not_input stops.2) later)

pub names_sound : {name : List ℕ} {rest : List (List ℕ) → Plan Stop} → ((names : List (List ℕ)) → Sound (rest names)) → Sound (reads_names name rest)
names_sound later = reads (fails not_input) (λ bytes. gets (list_one SpellsName 4096 one_name bytes) (λ stops. not_input stops.2) later)

pub archives_sound : {rest : List Archive → Plan Stop} (H : List ℕ → List ℕ) (got : List Archive) (names : List (List ℕ))
    → ((archives : List Archive) → Sound (rest archives)) → Sound (reads_archives H got names rest)
archives_sound H got [] later = later got
archives_sound {rest = rest} H got (name ∷ names) later = index_sound (λ archive. archives_sound {rest = rest} H (got ++ archive ∷ []) names later)

pub checks_sound : {H : List ℕ → List ℕ} {root : List ℕ} {query : List (List ℕ × ℕ)} {r : ℕ} {bytes : List ℕ} {rest : Proof → Plan Stop}
    → ((proof : Proof) → Sound (rest proof)) → Sound (checks H root query r bytes rest)
checks_sound {H = H} {root = root} {query = query} {r = r} {bytes = bytes} later = gets (proof_one H root query r bytes) (λ stops. not_rejected stops.2) later
