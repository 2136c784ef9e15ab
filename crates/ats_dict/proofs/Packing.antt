-- Entries that are packed one after another.
use Rattle.std.proofs.Common.{◌≡◌, ◌<◌, ◌≤◌, ◌+◌, ◌-◌, ◌^◌, ℕ, List, [], ◌∷◌, ◌++◌, length, get_or, take, drop, IfSome, Option, refl, sym, ap, ap₂, subst, ◌∙◌, arith, length-append, length-drop, take_all, inl, inr}
use Rattle.std.specs.List.{All, slice_range}
use Rattle.std.proofs.lemmas.Bool.{cases_lt}
use Rattle.std.proofs.lemmas.Cmp.{nat_list_cmp_total}
use Rattle.std.proofs.lemmas.List.{drop_at, take-append-le, drop-append-le, map_push}
use Rattle.std.proofs.lemmas.List.Elements.{All-head, All-tail, All-push}
use Rattle.std.proofs.lemmas.List.Quantifiers.{all_pairs_push}
use Rattle.std.proofs.lemmas.Option.{slice_get-get_or}
use Rattle.ats_dict.specs.declared.dictionary.Stored.{Stored}
use Rattle.ats_dict.specs.Entry.{DictEntry, IsDictEntry}
use Rattle.ats_terms.specs.Order.{IsBelow}
use Rattle.ats_dict.specs.Dictionary.{IsAboveLast, IsDictionary}
use Rattle.ats_dict.specs.Inner.Packed.{front_of, entry_of, entries_of, IsPacked, ArePacked}

-- a range within the bytes does not change if more bytes follow
range_kept : (bytes more : List ℕ) (start end : ℕ) → start ≤ end → end ≤ length bytes → slice_range (bytes ++ more) start end ≡ slice_range bytes start end
range_kept bytes more start end rises within =
    let first : drop start (bytes ++ more) ≡ drop start bytes ++ more = drop-append-le start bytes more (omega arith) in
    let space : end - start ≤ length (drop start bytes) = omega (arith, length-drop start bytes) in
    ap (take (end - start)) first ∙ take-append-le (end - start) (drop start bytes) more space

range_last : (bytes more : List ℕ) (start end : ℕ) → start ≡ length bytes → end ≡ length bytes + length more → slice_range (bytes ++ more) start end ≡ more
range_last bytes more start end is until =
    ap (take (end - start)) (drop_at bytes more start (sym is)) ∙ take_all (end - start) more (omega arith)

packed_kept : (fronts more : List ℕ) (stored : Stored) → IsPacked fronts stored → IsPacked (fronts ++ more) stored
packed_kept fronts more stored is = record {
  rises = is.rises;
  within = omega (arith, length-append fronts more);
  front = subst (λ (front : List ℕ). front ≡ length (drop 1 front) ∷ drop 1 front) (sym (range_kept fronts more stored.start stored.end is.rises is.within)) is.front;
}

entries_kept : (fronts more : List ℕ) (all : List Stored) → All (IsPacked fronts) all → entries_of (fronts ++ more) all ≡ entries_of fronts all
entries_kept fronts more [] is = refl
entries_kept fronts more (stored ∷ all) is =
    let here : IsPacked fronts stored = All-head (IsPacked fronts) stored all is in
    let kept : entry_of (fronts ++ more) stored ≡ entry_of fronts stored =
    ap (λ (front : List ℕ). let e : DictEntry = record { term = drop 1 front; f = stored.f; root = stored.list_root } in e)
    (range_kept fronts more stored.start stored.end here.rises here.within) in
    ap₂ (λ x xs. x ∷ xs) kept (entries_kept fronts more all (All-tail (IsPacked fronts) stored all is))

all_kept : (fronts more : List ℕ) (all : List Stored) → All (IsPacked fronts) all → All (IsPacked (fronts ++ more)) all
all_kept fronts more all is k d inside = packed_kept fronts more (get_or all k d) (is k d inside)

-- what is above the last term is above all
above_all : (entries : List DictEntry) (entry : DictEntry) → IsDictionary entries
    → IsAboveLast entries entry.term
    → (k : ℕ) (d : DictEntry) → k < length entries → IsBelow (get_or entries k d).term entry.term
above_all entries entry is above k d inside =
    let last : IsBelow (get_or entries (length entries - 1) d).term entry.term =
    subst (λ (o : Option DictEntry). IfSome o (λ l. IsBelow l.term entry.term)) (slice_get-get_or entries (length entries - 1) d (omega arith)) above in
    elim (cases_lt k (length entries - 1)) [
      | inl before ↦ nat_list_cmp_total.trans (get_or entries k d).term (get_or entries (length entries - 1) d).term entry.term
          (is.rises k (length entries - 1) d before (omega arith)) last
      | inr at_end ↦ let same : k ≡ length entries - 1 = omega arith in rw same last
    ]

-- one more entry in byte order
dictionary_more : (entries : List DictEntry) (entry : DictEntry) → IsDictionary entries → IsDictEntry entry
    → IsAboveLast entries entry.term → length entries < 2 ^ 24
    → IsDictionary (entries ++ entry ∷ [])
dictionary_more entries entry is one above few = record {
  few = omega (arith, length-append entries (entry ∷ []));
  each = All-push IsDictEntry entries entry is.each one;
  rises = all_pairs_push (λ a b. IsBelow a.term b.term) entries entry is.rises (above_all entries entry is above);
}

-- one more packed entry is a valid one, and is after the others
pub record IsOneMore (entries : List DictEntry) (entry : DictEntry) (fronts : List ℕ) (all : List Stored) : Type 0 where
  pub packed : ArePacked fronts all
  pub appended : entries_of fronts all ≡ entries ++ entry ∷ []

pub one_more : (fronts : List ℕ) (all : List Stored) (entries : List DictEntry) (entry : DictEntry) (stored : Stored) → ArePacked fronts all
    → entries_of fronts all ≡ entries → IsDictEntry entry → IsAboveLast entries entry.term
    → length entries < 2 ^ 24 → stored.start ≡ length fronts → stored.end ≡ length fronts + (length entry.term + 1)
    → stored.f ≡ entry.f → stored.list_root ≡ entry.root
    → IsOneMore entries entry (fronts ++ length entry.term ∷ entry.term) (all ++ stored ∷ [])
one_more fronts all entries entry stored is same one above few start end f root =
    let front = length entry.term ∷ entry.term in
    let last : front_of (fronts ++ front) stored ≡ front = range_last fronts front stored.start stored.end start (omega arith) in
    let new : IsPacked (fronts ++ front) stored = record {
      rises = omega arith;
      within = omega (arith, length-append fronts front);
      front = subst (λ (xs : List ℕ). xs ≡ length (drop 1 xs) ∷ drop 1 xs) (sym last) refl;
    } in
    let entry_is : entry_of (fronts ++ front) stored ≡ entry =
    ap (λ (xs : List ℕ). let e : DictEntry = record { term = drop 1 xs; f = stored.f; root = stored.list_root } in e) last
    ∙ ap₂ (λ (n : ℕ) (r : List ℕ). let e : DictEntry = record { term = entry.term; f = n; root = r } in e) f root in
    let appended : entries_of (fronts ++ front) (all ++ stored ∷ []) ≡ entries ++ entry ∷ [] =
    map_push (entry_of (fronts ++ front)) all stored
    ∙ ap₂ (λ (xs : List DictEntry) (e : DictEntry). xs ++ e ∷ []) (entries_kept fronts front all is.each ∙ same) entry_is in
    let dictionary : IsDictionary entries = subst IsDictionary same is.dictionary in
    record {
      packed = record {
        each = All-push (IsPacked (fronts ++ front)) all stored (all_kept fronts front all is.each) new;
        short = omega (arith, is.short, one.term.few, length-append fronts front, length-append all (stored ∷ []));
        dictionary = subst IsDictionary (sym appended) (dictionary_more entries entry dictionary one above few);
      };
      appended = appended;
    }
