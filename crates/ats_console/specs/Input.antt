-- The collection that the bytes of a file are, or the first reason why they are none.
use Rattle.std.specs.Prelude.{◌≡◌, ◌<◌, ℕ, List, [], ◌∷◌, codes, length, map, slice_index_or, Option, Some, None, IsSome, option_map, option_and_then}
use Rattle.std.specs.Str.{IsUtf8}
use Rattle.serde_json.specs.Data.{Data, null, boolean, number, string, array, object, Items, no_items, item}
use Rattle.serde_json.specs.Find.{as_str, as_array, get_member}
use Rattle.serde_json.specs.Read.{read}
use Rattle.ats_impact.specs.Limits.{AreWithin}
use Rattle.ats_console.specs.declared.input.JsonFault.{JsonFault}
use Rattle.ats_console.specs.declared.input.JsonFault.TheVariants.{NotJson, NotArray, BadItem, OutOfMemory}

abbrev pub item_list : Items → List Data
item_list no_items = []
item_list (item value rest) = value ∷ item_list rest

-- the text of an item: a string, or the string that is its member `text`
abbrev pub item_text : Data → Option (List ℕ)
item_text null = None
item_text (boolean b) = None
item_text (number n) = None
item_text (string text) = Some text
item_text (array items) = None
item_text (object members) = option_and_then as_str (get_member (codes "text") members)

-- the bytes are UTF-8, and the JSON text of a value
pub record IsJson (bytes : List ℕ) (value : Data) : Type 0 where
  pub utf8 : IsUtf8 bytes
  pub read : read bytes ≡ Some value

-- the bytes are a JSON array of these items
pub record IsJsonArray (bytes : List ℕ) (items : List Data) : Type 0 where
  pub utf8 : IsUtf8 bytes
  pub read : option_map item_list (option_and_then as_array (read bytes)) ≡ Some items

-- the bytes are a JSON array of items with these texts
pub record AreJsonTexts (bytes : List ℕ) (texts : List (List ℕ)) : Type 0 where
  pub items : List Data
  pub array : IsJsonArray bytes items
  pub said : map item_text items ≡ map Some texts

-- the bytes are the collection of these texts
pub record IsCollectionOf (bytes : List ℕ) (texts : List (List ℕ)) : Type 0 where
  pub json : AreJsonTexts bytes texts
  pub within : AreWithin texts

-- the item of this number has no text, and each before it has one
pub record IsFirstBadItem (items : List Data) (doc : ℕ) : Type 0 where
  pub inside : doc < length items
  pub bad : item_text (slice_index_or items doc null) ≡ None
  pub before : (k : ℕ) → k < doc → IsSome (item_text (slice_index_or items k null))

-- the first of these that holds, in this order; out of memory needs no cause in the bytes
abbrev pub IsFirstJsonFault : List ℕ → JsonFault → Type 0
IsFirstJsonFault bytes NotJson = IsUtf8 bytes → read bytes ≡ None
IsFirstJsonFault bytes NotArray = (value : Data) × IsJson bytes value × (as_array value ≡ None)
IsFirstJsonFault bytes (BadItem doc) = (items : List Data) × IsJsonArray bytes items × IsFirstBadItem items doc
IsFirstJsonFault bytes OutOfMemory = Unit {0}
