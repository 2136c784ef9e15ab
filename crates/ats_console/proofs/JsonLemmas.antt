-- Items of a JSON array and their texts.
use Rattle.std.proofs.Common.{◌≡◌, ◌≢◌, ◌<◌, ◌+◌, ◌∙◌, ℕ, List, [], ◌∷◌, ◌++◌, length, map, take, get_or, Option, Some, None, IsSome, option_map, option_and_then, refl, sym, ap, subst, arith, length-take}
use Rattle.std.specs.Str.{IsUtf8}
use Rattle.std.proofs.lemmas.List.{map_more, map-append, length-map, get_or-map, get_or-take}
use Rattle.serde_json.specs.Data.{Data, null}
use Rattle.serde_json.specs.Find.{as_array}
use Rattle.serde_json.specs.Read.{read}
use Rattle.serde_json.specs.View.{view, items_of, items_view}
use Rattle.serde_json.specs.declared.value.Value.{Value}
use Rattle.ats_console.specs.Input.{item_list, item_text, IsJsonArray, AreJsonTexts, IsFirstBadItem, IsFirstJsonFault}
use Rattle.ats_console.specs.Stops.{stop_of_json}
use Rattle.ats_console.specs.declared.input.JsonFault.{JsonFault}
use Rattle.ats_console.specs.declared.input.JsonFault.TheVariants.{NotJson, NotArray, BadItem, OutOfMemory}
use Rattle.ats_console.specs.declared.stops.Stop.TheVariants.{Memory}

listed : (values : List Data) → item_list (items_of values) ≡ values
listed [] = refl
listed (value ∷ rest) = ap (λ more. value ∷ more) (listed rest)

-- what was read as an array is one
pub is_array : (bytes : List ℕ) (value : Data) (items : List Value) → IsUtf8 bytes → read bytes ≡ Some value
    → Some (items_view items) ≡ as_array value → IsJsonArray bytes (map view items)
is_array bytes value items utf8 reads is = record {
  utf8 = utf8;
  read = ap (λ o. option_map item_list (option_and_then as_array o)) reads ∙ ap (option_map item_list) (sym is) ∙ ap Some (listed (map view items));
}

-- one item more, with its text
pub one_more : (items : List Data) (texts : List (List ℕ)) (doc : ℕ) (text : List ℕ) → doc < length items
    → map item_text (take doc items) ≡ map Some texts → item_text (get_or items doc null) ≡ Some text
    → map item_text (take (doc + 1) items) ≡ map Some (texts ++ text ∷ [])
one_more items texts doc text inside same has =
    map_more item_text items doc null inside
    ∙ ap (λ front. front ++ item_text (get_or items doc null) ∷ []) same
    ∙ ap (λ last. map Some texts ++ last ∷ []) has
    ∙ sym (map-append Some texts (text ∷ []))

text_before : (items : List Data) (texts : List (List ℕ)) (doc k : ℕ) → doc < length items → k < doc
    → map item_text (take doc items) ≡ map Some texts → item_text (get_or items k null) ≡ Some (get_or texts k [])
text_before items texts doc k inside less same =
    let front : length (take doc items) ≡ doc = omega (arith, length-take doc items) in
    let many : length texts ≡ doc = sym (length-map texts Some) ∙ sym (ap length same) ∙ length-map (take doc items) item_text ∙ front in
    ap item_text (sym (get_or-take doc items k null less))
    ∙ sym (get_or-map item_text (take doc items) k null None (omega (arith, front)))
    ∙ ap (λ all. get_or all k None) same
    ∙ get_or-map Some texts k [] None (omega (arith, many))

-- the first item with no text, if each before it has one
pub first_bad : (items : List Data) (texts : List (List ℕ)) (doc : ℕ) → doc < length items
    → map item_text (take doc items) ≡ map Some texts → item_text (get_or items doc null) ≡ None → IsFirstBadItem items doc
first_bad items texts doc inside same none = record {
  inside = inside;
  bad = none;
  before = λ k less. subst IsSome (sym (text_before items texts doc k inside less same)) refl;
}

no_some : {X : Type 0} (o : Option X) (x : X) → o ≡ None → o ≡ Some x → ⊥
no_some o x none some = let both = sym none ∙ some in cc

same_some : {X : Type 0} (o : Option X) (x y : X) → o ≡ Some x → o ≡ Some y → x ≡ y
same_some o x y first second = let both = sym first ∙ second in cc

pub same_items : (bytes : List ℕ) (first second : List Data) → IsJsonArray bytes first → IsJsonArray bytes second → first ≡ second
same_items bytes first second one other = same_some _ first second one.read other.read

same_wrapped : (first second : List (List ℕ)) → map Some first ≡ map Some second → first ≡ second
same_wrapped [] [] is = refl
same_wrapped [] (y ∷ ys) is = absurd (cc)
same_wrapped (x ∷ xs) [] is = absurd (cc)
same_wrapped (x ∷ xs) (y ∷ ys) is =
    let head : x ≡ y = cc in
    let tail : map Some xs ≡ map Some ys = cc in
    let rest : xs ≡ ys = same_wrapped xs ys tail in
    cc

-- the bytes have one list of texts
pub same_texts : (bytes : List ℕ) (first second : List (List ℕ)) → AreJsonTexts bytes first → AreJsonTexts bytes second → first ≡ second
same_texts bytes first second one other =
    let items = same_items bytes one.items other.items one.array other.array in
    same_wrapped first second (sym one.said ∙ ap (map item_text) items ∙ other.said)

bad_item : (items : List Data) (texts : List (List ℕ)) (doc : ℕ) → map item_text items ≡ map Some texts → IsFirstBadItem items doc → ⊥
bad_item items texts doc same bad =
    let inside : doc < length items = bad.inside in
    let many : length texts ≡ length items = sym (length-map texts Some) ∙ sym (ap length same) ∙ length-map items item_text in
    let some : item_text (get_or items doc null) ≡ Some (get_or texts doc []) =
    sym (get_or-map item_text items doc null None inside) ∙ ap (λ all. get_or all doc None) same ∙ get_or-map Some texts doc [] None (omega (arith, many)) in
    no_some _ _ bad.bad some

pub not_json : (bytes : List ℕ) (items : List Data) → IsJsonArray bytes items → read bytes ≡ None → ⊥
not_json bytes items is none =
    let nothing : option_map item_list (option_and_then as_array (read bytes)) ≡ None = ap (λ o. option_map item_list (option_and_then as_array o)) none in
    no_some _ _ nothing is.read

pub not_array : (bytes : List ℕ) (items : List Data) (value : Data) → IsJsonArray bytes items → read bytes ≡ Some value → as_array value ≡ None → ⊥
not_array bytes items value is reads none =
    let nothing : option_map item_list (option_and_then as_array (read bytes)) ≡ None =
    ap (λ o. option_map item_list (option_and_then as_array o)) reads ∙ ap (option_map item_list) none in
    no_some _ _ nothing is.read

-- bytes with texts have no fault except out of memory
pub no_json_fault : (bytes : List ℕ) (texts : List (List ℕ)) (fault : JsonFault) → AreJsonTexts bytes texts → stop_of_json fault ≢ Memory
    → IsFirstJsonFault bytes fault → ⊥
no_json_fault bytes texts NotJson are free fault = not_json bytes are.items are.array (fault are.array.utf8)
no_json_fault bytes texts NotArray are free fault = not_array bytes are.items fault.0 are.array fault.1.read fault.2
no_json_fault bytes texts (BadItem doc) are free fault =
    let items = same_items bytes are.items fault.0 are.array fault.1 in
    bad_item fault.0 texts doc (sym (ap (map item_text) items) ∙ are.said) fault.2
no_json_fault bytes texts OutOfMemory are free fault = free refl

-- the item at a place of the list that is gone through
pub item_at : (values : List Value) (doc : ℕ) (value : Value) → doc < length values → value ≡ get_or values doc value
    → get_or (map view values) doc null ≡ view value
item_at values doc value inside is = get_or-map view values doc value null inside ∙ ap view (sym is)

pub inside_view : (values : List Value) (doc : ℕ) → doc < length values → doc < length (map view values)
inside_view values doc inside = omega (arith, length-map values view)
