-- A text has at most one fault as a query, bytes one as a JSON array of texts and one as an index, and texts one as a
-- collection, and there is none in what is within the limits; all this apart from out of memory.
use Rattle.std.proofs.Common.{◌≡◌, ◌≢◌, ◌<◌, ◌^◌, ◌∙◌, ℕ, List, [], length, take, get_or, Option, None, IsSome, refl, sym, ap, subst, inl, inr, arith, length-take}
use Rattle.std.specs.Prelude.{is_some}
use Rattle.std.proofs.lemmas.Bool.{cases_order}
use Rattle.std.proofs.lemmas.List.{get_or-take}
use Rattle.serde_json.specs.Data.{Data}
use Rattle.serde_json.specs.Find.{as_array}
use Rattle.serde_json.specs.Read.{read}
use Rattle.ats_terms.specs.Query.{HasQuery}
use Rattle.ats_terms.specs.Faults.{IsFirstFault}
use Rattle.ats_terms.specs.declared.query.QueryFault.{QueryFault}
use Rattle.ats_terms.specs.declared.query.QueryFault.TheVariants as query
use Rattle.ats_impact.specs.Limits.{AllShort, AreWithin}
use Rattle.ats_impact.specs.CollectionFaults.{IsFirstCollectionFault}
use Rattle.ats_impact.specs.declared.collection.CollectionFault.{CollectionFault}
use Rattle.ats_impact.specs.declared.collection.CollectionFault.TheVariants as collection
use Rattle.ats_commit.specs.Archive.{Archive}
use Rattle.ats_index.specs.Spelling.{IsSpelling}
use Rattle.ats_index.specs.LoadFaults.{IsLoadFault}
use Rattle.ats_index.specs.declared.load.LoadFault.{LoadFault}
use Rattle.ats_index.specs.declared.load.LoadFault.TheVariants as index
use Rattle.ats_index.proofs.Public.{no_place, one_place}
use Rattle.ats_console.specs.Input.{IsJson, IsJsonArray, IsFirstBadItem, IsFirstJsonFault}
use Rattle.ats_console.specs.Stops.{stop_of_query, stop_of_json, stop_of_collection, stop_of_load}
use Rattle.ats_console.specs.declared.input.JsonFault.{JsonFault}
use Rattle.ats_console.specs.declared.input.JsonFault.TheVariants as json
use Rattle.ats_console.specs.declared.stops.Stop.TheVariants.{Memory}
use Rattle.ats_console.proofs.JsonLemmas.{same_items, not_json, not_array}

-- ---- queries

-- a text that is a query has no fault
pub no_query_fault : (text : List ℕ) (fault : QueryFault) → HasQuery text → stop_of_query fault ≢ Memory → IsFirstFault text fault → ⊥
no_query_fault text (query.TooLong bytes) has free fault = omega (arith, has.short, fault.0, fault.1)
no_query_fault text query.NoTerm has free fault = omega (arith, has.some, fault.1)
no_query_fault text (query.TooManyWords count) has free fault = omega (arith, has.few, fault.1, fault.2)
no_query_fault text (query.TooManyTerms distinct) has free fault = omega (arith, has.distinct, fault.3, fault.4)
no_query_fault text query.OutOfMemory has free fault = free refl

pub one_query_fault : (text : List ℕ) (a b : QueryFault) → stop_of_query a ≢ Memory → stop_of_query b ≢ Memory
    → IsFirstFault text a → IsFirstFault text b → a ≡ b
one_query_fault text query.OutOfMemory b free other is also = absurd (free refl)
one_query_fault text a query.OutOfMemory free other is also = absurd (other refl)
one_query_fault text (query.TooLong a) (query.TooLong b) free other is also = ap query.TooLong (is.0 ∙ sym also.0)
one_query_fault text (query.TooLong a) query.NoTerm free other is also = absurd (omega (arith, is.0, is.1, also.0))
one_query_fault text (query.TooLong a) (query.TooManyWords b) free other is also = absurd (omega (arith, is.0, is.1, also.0))
one_query_fault text (query.TooLong a) (query.TooManyTerms b) free other is also = absurd (omega (arith, is.0, is.1, also.0))
one_query_fault text query.NoTerm (query.TooLong b) free other is also = absurd (omega (arith, is.0, also.0, also.1))
one_query_fault text query.NoTerm query.NoTerm free other is also = refl
one_query_fault text query.NoTerm (query.TooManyWords b) free other is also = absurd (omega (arith, is.1, also.1, also.2))
one_query_fault text query.NoTerm (query.TooManyTerms b) free other is also = absurd (omega (arith, is.1, also.1))
one_query_fault text (query.TooManyWords a) (query.TooLong b) free other is also = absurd (omega (arith, is.0, also.0, also.1))
one_query_fault text (query.TooManyWords a) query.NoTerm free other is also = absurd (omega (arith, is.1, is.2, also.1))
one_query_fault text (query.TooManyWords a) (query.TooManyWords b) free other is also = ap query.TooManyWords (is.1 ∙ sym also.1)
one_query_fault text (query.TooManyWords a) (query.TooManyTerms b) free other is also = absurd (omega (arith, is.1, is.2, also.2))
one_query_fault text (query.TooManyTerms a) (query.TooLong b) free other is also = absurd (omega (arith, is.0, also.0, also.1))
one_query_fault text (query.TooManyTerms a) query.NoTerm free other is also = absurd (omega (arith, is.1, also.1))
one_query_fault text (query.TooManyTerms a) (query.TooManyWords b) free other is also = absurd (omega (arith, is.2, also.1, also.2))
one_query_fault text (query.TooManyTerms a) (query.TooManyTerms b) free other is also = ap query.TooManyTerms (is.3 ∙ sym also.3)

-- ---- JSON arrays of texts

some_none : (o : Option (List ℕ)) → IsSome o → o ≡ None → ⊥
some_none o some none = let both = sym some ∙ ap is_some none in cc

-- of two first items with no text neither is before the other
one_bad_item : (items : List Data) (a b : ℕ) → IsFirstBadItem items a → IsFirstBadItem items b → a ≡ b
one_bad_item items a b is also = elim (cases_order a b) [
  | inl same ↦ same
  | inr (inl less) ↦ absurd (some_none _ (also.before a less) is.bad)
  | inr (inr less) ↦ absurd (some_none _ (is.before b less) also.bad)
]

-- bytes that are JSON and no array are no array of items
no_array : (bytes : List ℕ) (items : List Data) (value : Data) → IsJsonArray bytes items → IsJson bytes value → as_array value ≡ None → ⊥
no_array bytes items value is json none = not_array bytes items value is json.read none

json_read : (bytes : List ℕ) (value : Data) → IsJson bytes value → read bytes ≡ None → ⊥
json_read bytes value is none = let both = sym none ∙ is.read in cc

pub one_json_fault : (bytes : List ℕ) (a b : JsonFault) → stop_of_json a ≢ Memory → stop_of_json b ≢ Memory
    → IsFirstJsonFault bytes a → IsFirstJsonFault bytes b → a ≡ b
one_json_fault bytes json.OutOfMemory b free other is also = absurd (free refl)
one_json_fault bytes a json.OutOfMemory free other is also = absurd (other refl)
one_json_fault bytes json.NotJson json.NotJson free other is also = refl
one_json_fault bytes json.NotJson json.NotArray free other is also = absurd (json_read bytes also.0 also.1 (is also.1.utf8))
one_json_fault bytes json.NotJson (json.BadItem b) free other is also = absurd (not_json bytes also.0 also.1 (is also.1.utf8))
one_json_fault bytes json.NotArray json.NotJson free other is also = absurd (json_read bytes is.0 is.1 (also is.1.utf8))
one_json_fault bytes json.NotArray json.NotArray free other is also = refl
one_json_fault bytes json.NotArray (json.BadItem b) free other is also = absurd (no_array bytes also.0 is.0 also.1 is.1 is.2)
one_json_fault bytes (json.BadItem a) json.NotJson free other is also = absurd (not_json bytes is.0 is.1 (also is.1.utf8))
one_json_fault bytes (json.BadItem a) json.NotArray free other is also = absurd (no_array bytes is.0 also.0 is.1 also.1 also.2)
one_json_fault bytes (json.BadItem a) (json.BadItem b) free other is also =
    ap json.BadItem (one_bad_item is.0 a b is.2 (subst (λ (items : List Data). IsFirstBadItem items b) (same_items bytes also.0 is.0 also.1 is.1) also.2))

-- ---- collections

-- texts within the limits have no fault
pub no_collection_fault : (texts : List (List ℕ)) (fault : CollectionFault) → AreWithin texts → stop_of_collection fault ≢ Memory
    → IsFirstCollectionFault texts fault → ⊥
no_collection_fault texts collection.NoDocuments within free fault = omega (arith, within.some, fault)
no_collection_fault texts (collection.TooMany n) within free fault = omega (arith, within.few, fault.0, fault.1)
no_collection_fault texts (collection.TextTooLong doc) within free fault = omega (arith, fault.3, within.short doc [] fault.2)
no_collection_fault texts (collection.AllTooLong bytes) within free fault = omega (arith, within.small, fault.3, fault.4)
no_collection_fault texts collection.OutOfMemory within free fault = free refl

-- a text that is too long is not before the first such
not_before : (texts : List (List ℕ)) (doc k : ℕ) → k < doc → doc < length texts → 2 ^ 20 < length (get_or texts k []) → AllShort (take doc texts) → ⊥
not_before texts doc k less inside long short =
    let within : k < length (take doc texts) = omega (arith, length-take doc texts) in
    omega (arith, short k [] within, ap length (get_or-take doc texts k [] less), long)

one_long_text : (texts : List (List ℕ)) (a b : ℕ) → IsFirstCollectionFault texts (collection.TextTooLong a)
    → IsFirstCollectionFault texts (collection.TextTooLong b) → a ≡ b
one_long_text texts a b is also = elim (cases_order a b) [
  | inl same ↦ same
  | inr (inl less) ↦ absurd (not_before texts b a less also.2 is.3 also.4)
  | inr (inr less) ↦ absurd (not_before texts a b less is.2 also.3 is.4)
]

pub one_collection_fault : (texts : List (List ℕ)) (a b : CollectionFault) → stop_of_collection a ≢ Memory → stop_of_collection b ≢ Memory
    → IsFirstCollectionFault texts a → IsFirstCollectionFault texts b → a ≡ b
one_collection_fault texts collection.OutOfMemory b free other is also = absurd (free refl)
one_collection_fault texts a collection.OutOfMemory free other is also = absurd (other refl)
one_collection_fault texts collection.NoDocuments collection.NoDocuments free other is also = refl
one_collection_fault texts collection.NoDocuments (collection.TooMany b) free other is also = absurd (omega (arith, is, also.0, also.1))
one_collection_fault texts collection.NoDocuments (collection.TextTooLong b) free other is also = absurd (omega (arith, is, also.0))
one_collection_fault texts collection.NoDocuments (collection.AllTooLong b) free other is also = absurd (omega (arith, is, also.0))
one_collection_fault texts (collection.TooMany a) collection.NoDocuments free other is also = absurd (omega (arith, also, is.0, is.1))
one_collection_fault texts (collection.TooMany a) (collection.TooMany b) free other is also = ap collection.TooMany (is.0 ∙ sym also.0)
one_collection_fault texts (collection.TooMany a) (collection.TextTooLong b) free other is also = absurd (omega (arith, is.0, is.1, also.1))
one_collection_fault texts (collection.TooMany a) (collection.AllTooLong b) free other is also = absurd (omega (arith, is.0, is.1, also.1))
one_collection_fault texts (collection.TextTooLong a) collection.NoDocuments free other is also = absurd (omega (arith, also, is.0))
one_collection_fault texts (collection.TextTooLong a) (collection.TooMany b) free other is also = absurd (omega (arith, is.1, also.0, also.1))
one_collection_fault texts (collection.TextTooLong a) (collection.TextTooLong b) free other is also = ap collection.TextTooLong (one_long_text texts a b is also)
one_collection_fault texts (collection.TextTooLong a) (collection.AllTooLong b) free other is also = absurd (omega (arith, also.2 a [] is.2, is.3))
one_collection_fault texts (collection.AllTooLong a) collection.NoDocuments free other is also = absurd (omega (arith, also, is.0))
one_collection_fault texts (collection.AllTooLong a) (collection.TooMany b) free other is also = absurd (omega (arith, is.1, also.0, also.1))
one_collection_fault texts (collection.AllTooLong a) (collection.TextTooLong b) free other is also = absurd (omega (arith, is.2 b [] also.2, also.3))
one_collection_fault texts (collection.AllTooLong a) (collection.AllTooLong b) free other is also = ap collection.AllTooLong (is.3 ∙ sym also.3)

-- ---- indexes

module _ (H : List ℕ → List ℕ) (bytes : List ℕ) where
  -- the bytes of an index have no fault
  pub no_load_fault : (archive : Archive) (fault : LoadFault) → IsSpelling H bytes archive → stop_of_load fault ≢ Memory → IsLoadFault H bytes fault → ⊥
  no_load_fault archive (index.BadIndex at) spelling free fault = no_place H bytes at archive fault spelling
  no_load_fault archive index.OutOfMemory spelling free fault = free refl

  pub one_load_fault : (a b : LoadFault) → stop_of_load a ≢ Memory → stop_of_load b ≢ Memory → IsLoadFault H bytes a → IsLoadFault H bytes b → a ≡ b
  one_load_fault index.OutOfMemory b free other is also = absurd (free refl)
  one_load_fault a index.OutOfMemory free other is also = absurd (other refl)
  one_load_fault (index.BadIndex at) (index.BadIndex other) free too is also = ap index.BadIndex (one_place H bytes at other is also)
