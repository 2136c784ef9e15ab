-- Marks after some notes, and after one more note.
use Rattle.std.proofs.Common.{◌≡◌, ◌≢◌, ◌<◌, ◌≤◌, ◌+◌, ◌*◌, ◌^◌, ◌||◌, ◌++◌, ℕ, Bool, true, false, nat_eq, nat_lt, cond, List, [], ◌∷◌, length, map, take, set, slice_get, Some, option_map, refl, sym, ap, subst, ◌∙◌, append_assoc, arith, inl, inr, get_or-set_other, get_or-set_same}
use Rattle.std.specs.List.{list_any, sum_by}
use Rattle.std.proofs.lemmas.Bool.{cases_eq, or_right}
use Rattle.std.proofs.lemmas.Bool.Decides.{nat_tests}
use Rattle.std.proofs.lemmas.List.{length-set, take_more, map-append}
use Rattle.std.proofs.lemmas.List.Folds.{list_any-append}
use Rattle.std.proofs.lemmas.List.Sums.{sum_by-cons, sum_by-append}
use Rattle.std.proofs.lemmas.Option.{get_or_from_slice_get, slice_get_within, slice_get-map}
use Rattle.ats_impact.specs.Rank.{times}
use Rattle.ats_bound.specs.declared.work.Mark.{Mark}
use Rattle.ats_bound.specs.Work.{mark_at, zero_mark}
use Rattle.ats_postings.specs.declared.entry.Entry.{Entry}
use Rattle.ats_client.specs.Groups.{indexes_of}
use Rattle.ats_client.specs.Inner.Noting.{Note, IsNoted, AreNotes, note, with_note, has_note}
use Rattle.ats_client.proofs.Named.{any_none, any_some}

-- ---- one more at the end

sum_snoc : {X : Type 0} (f : X → ℕ) (xs : List X) (x : X) → sum_by f (xs ++ x ∷ []) ≡ sum_by f xs + f x
sum_snoc f xs x =
    let joined = sum_by-append f xs (x ∷ []) in
    let one = sum_by-cons f x [] in
    omega (arith, joined, one)

pub or_none : (x y : Bool) → y ≡ false → (x || y) ≡ x
or_none true y none = refl
or_none false y none = none

any_snoc : {X : Type 0} (p : X → Bool) (xs : List X) (x : X) → list_any p (xs ++ x ∷ []) ≡ (list_any p xs || p x)
any_snoc p xs x = list_any-append p xs (x ∷ []) ∙ ap (λ b. list_any p xs || b) (or_none (p x) false refl)

-- ---- marks

same_number : (n : ℕ) → nat_eq n n ≡ true
same_number n = grind (arith, nat_tests)

other_number : (m n : ℕ) → m ≢ n → nat_eq m n ≡ false
other_number m n other = grind (arith, nat_tests)

some_list : (n : ℕ) → 1 ≤ n → nat_lt 0 n ≡ true
some_list n some = grind (arith, nat_tests)

-- the mark of the index that the note names
noted_here : (notes : List Note) (l : ℕ) (named : List ℕ) (mark : Mark) (n : Note) → IsNoted notes l named n.index mark → mark.list ≢ l → 1 ≤ l
    → n.gain ≤ 2 ^ 33 → n.rest ≤ 2 ^ 33 → IsNoted (notes ++ n ∷ []) l (named ++ n.index ∷ []) n.index (with_note mark l n.gain n.rest)
noted_here notes l named mark n is new some small_gain small_rest =
    let yes = same_number n.index in
    let gain = sum_snoc (λ (m : Note). cond (nat_eq m.index n.index) m.gain 0) notes n in
    let gained : cond (nat_eq n.index n.index) n.gain 0 ≡ n.gain = ap (λ b. cond b n.gain 0) yes in
    let most = sum_snoc (λ (m : Note). cond (nat_eq m.index n.index) m.rest 0) notes n in
    let added : cond (nat_eq n.index n.index) n.rest 0 ≡ n.rest = ap (λ b. cond b n.rest 0) yes in
    let least = is.least in
    let held = is.held in
    let early = is.early in
    let small_lower = is.small_lower in
    let small_held = is.small_held in
    let less : mark.list < l = omega arith in
    record {
      least = omega (arith, gain, gained, least);
      held = omega (arith, most, added, held);
      met = some_list l some ∙ sym (any_snoc (λ (m : Note). nat_eq m.index n.index) notes n ∙ or_right (has_note n.index notes) (nat_eq n.index n.index) yes);
      here = same_number l ∙ sym (any_snoc (λ i. nat_eq i n.index) named n.index ∙ or_right (list_any (λ i. nat_eq i n.index) named) (nat_eq n.index n.index) yes);
      early = omega arith;
      small_lower = omega arith;
      small_held = omega arith;
      free = is.free;
    }

-- the marks of other indexes
noted_there : (notes : List Note) (l : ℕ) (named : List ℕ) (index : ℕ) (mark : Mark) (n : Note) → IsNoted notes l named index mark → n.index ≢ index
    → IsNoted (notes ++ n ∷ []) l (named ++ n.index ∷ []) index mark
noted_there notes l named index mark n is other =
    let no = other_number n.index index other in
    let gain = sum_snoc (λ (m : Note). cond (nat_eq m.index index) m.gain 0) notes n in
    let gained : cond (nat_eq n.index index) n.gain 0 ≡ 0 = ap (λ b. cond b n.gain 0) no in
    let most = sum_snoc (λ (m : Note). cond (nat_eq m.index index) m.rest 0) notes n in
    let added : cond (nat_eq n.index index) n.rest 0 ≡ 0 = ap (λ b. cond b n.rest 0) no in
    let least = is.least in
    let held = is.held in
    record {
      least = omega (arith, gain, gained, least);
      held = omega (arith, most, added, held);
      met = is.met ∙ sym (any_snoc (λ (m : Note). nat_eq m.index index) notes n ∙ or_none (has_note index notes) (nat_eq n.index index) no);
      here = is.here ∙ sym (any_snoc (λ i. nat_eq i index) named n.index ∙ or_none (list_any (λ i. nat_eq i index) named) (nat_eq n.index index) no);
      early = is.early;
      small_lower = is.small_lower;
      small_held = is.small_held;
      free = is.free;
    }

pub notes_more : (met : ℕ) (notes : List Note) (l : ℕ) (named : List ℕ) (marks : List Mark) (n : Note) → AreNotes met notes l named marks → n.index < met
    → (mark_at marks n.index).list ≢ l → 1 ≤ l → n.gain ≤ 2 ^ 33 → n.rest ≤ 2 ^ 33
    → AreNotes met (notes ++ n ∷ []) l (named ++ n.index ∷ []) (set marks n.index (with_note (mark_at marks n.index) l n.gain n.rest))
notes_more met notes l named marks n are inside new some small_gain small_rest =
    let size = are.size in
    let after : Mark = with_note (mark_at marks n.index) l n.gain n.rest in
    record {
      size = length-set marks n.index after ∙ size;
      each = λ (i : ℕ) (low : i < met). elim (cases_eq n.index i) [
        | inl is ↦
            let there : i < length marks = omega (arith, size, low) in
            let here = subst (λ k. IsNoted (notes ++ n ∷ []) l (named ++ n.index ∷ []) k after) is
            (noted_here notes l named (mark_at marks n.index) n (are.each n.index inside) new some small_gain small_rest) in
            let at : n.index < length marks = omega (arith, size, inside) in
            let found : mark_at (set marks n.index after) i ≡ after = subst (λ k. mark_at (set marks n.index after) k ≡ after) is (get_or-set_same marks n.index after zero_mark at) in
            subst (λ m. IsNoted (notes ++ n ∷ []) l (named ++ n.index ∷ []) i m) (sym found) here
        | inr other ↦
            let found : mark_at (set marks n.index after) i ≡ mark_at marks i = get_or-set_other marks n.index i after zero_mark (λ same. other (sym same)) in
            subst (λ m. IsNoted (notes ++ n ∷ []) l (named ++ n.index ∷ []) i m) (sym found) (noted_there notes l named i (mark_at marks i) n (are.each i low) other)
      ];
    }

-- the next list has named nothing yet
pub notes_turn : (met : ℕ) (notes : List Note) (l : ℕ) (named : List ℕ) (marks : List Mark) → AreNotes met notes l named marks → AreNotes met notes (l + 1) [] marks
notes_turn met notes l named marks are = record {
  size = are.size;
  each = λ (i : ℕ) (low : i < met).
      let is = are.each i low in
      let early = is.early in
      let less : (mark_at marks i).list ≢ l + 1 = omega arith in
      record {
        least = is.least;
        held = is.held;
        met = is.met;
        here = other_number (mark_at marks i).list (l + 1) less;
        early = omega arith;
        small_lower = is.small_lower;
        small_held = is.small_held;
        free = is.free;
      };
}

-- ---- the entries of a prefix, one by one

pub index_at : (entries : List Entry) (i : ℕ) (e : Entry) → slice_get entries i ≡ Some e → slice_get (indexes_of entries) i ≡ Some e.doc
index_at entries i e is = slice_get-map (λ (entry : Entry). entry.doc) entries i ∙ ap (option_map (λ (entry : Entry). entry.doc)) is

taken_more : {X : Type 0} (xs : List X) (i : ℕ) (x : X) → slice_get xs i ≡ Some x → take (i + 1) xs ≡ take i xs ++ x ∷ []
taken_more xs i x is = take_more xs i x (slice_get_within xs i x is) ∙ ap (λ y. take i xs ++ y ∷ []) (get_or_from_slice_get xs i x x is)

-- the notes of the first entries, after one entry more
pub notes_next : (met : ℕ) (notes : List Note) (l c most : ℕ) (entries : List Entry) (i : ℕ) (e : Entry) (marks after : List Mark)
    → slice_get entries i ≡ Some e → e.doc < met → 1 ≤ l → c * e.impact ≤ 2 ^ 33 → most ≤ 2 ^ 33
    → AreNotes met (notes ++ map (note c most) (take i entries)) l (take i (indexes_of entries)) marks
    → (mark_at marks e.doc).list ≢ l → after ≡ set marks e.doc (with_note (mark_at marks e.doc) l (c * e.impact) most)
    → AreNotes met (notes ++ map (note c most) (take (i + 1) entries)) l (take (i + 1) (indexes_of entries)) after
notes_next met notes l c most entries i e marks after is inside some small_gain small_rest are new put =
    let old : List Note = notes ++ map (note c most) (take i entries) in
    let n : Note = note c most e in
    let more = notes_more met old l (take i (indexes_of entries)) marks n are inside new some small_gain small_rest in
    let all : old ++ n ∷ [] ≡ notes ++ map (note c most) (take (i + 1) entries) =
    append_assoc notes (map (note c most) (take i entries)) (n ∷ [])
    ∙ ap (λ l. notes ++ l) (sym (map-append (note c most) (take i entries) (e ∷ [])) ∙ ap (map (note c most)) (sym (taken_more entries i e is))) in
    let indexes : take i (indexes_of entries) ++ e.doc ∷ [] ≡ take (i + 1) (indexes_of entries) = sym (taken_more (indexes_of entries) i e.doc (index_at entries i e is)) in
    subst (λ m. AreNotes met (notes ++ map (note c most) (take (i + 1) entries)) l (take (i + 1) (indexes_of entries)) m) (sym put)
    (subst (λ x. AreNotes met x l (take (i + 1) (indexes_of entries)) (set marks e.doc (with_note (mark_at marks e.doc) l (c * e.impact) most))) all
    (subst (λ x. AreNotes met (old ++ n ∷ []) l x (set marks e.doc (with_note (mark_at marks e.doc) l (c * e.impact) most))) indexes more))

-- whether the list has named the document of an entry, by its mark
pub named_before : (met : ℕ) (notes : List Note) (l : ℕ) (named : List ℕ) (marks : List Mark) (x : ℕ) → AreNotes met notes l named marks → x < met
    → (mark_at marks x).list ≡ l → 1 ≤ times x named
named_before met notes l named marks x are inside same =
    let here = (are.each x inside).here in
    any_some x named (sym here ∙ ap (λ k. nat_eq k l) same ∙ same_number l)

pub not_named : (met : ℕ) (notes : List Note) (l : ℕ) (named : List ℕ) (marks : List Mark) (x : ℕ) → AreNotes met notes l named marks → x < met
    → (mark_at marks x).list ≢ l → times x named ≡ 0
not_named met notes l named marks x are inside other =
    let here = (are.each x inside).here in
    any_none x named (sym here ∙ other_number (mark_at marks x).list l other)

-- the numbers of a mark have space
pub record HasSpaceFor (marks : List Mark) (x : ℕ) : Type 0 where
  pub inside : x < length marks
  pub lo : (mark_at marks x).lo ≤ 2 ^ 38
  pub held : (mark_at marks x).held ≤ 2 ^ 38

pub space_for : (met : ℕ) (notes : List Note) (l : ℕ) (named : List ℕ) (marks : List Mark) (x : ℕ) → AreNotes met notes l named marks → x < met → l ≤ 32 → HasSpaceFor marks x
space_for met notes l named marks x are inside few =
    let is = are.each x inside in
    let size = are.size in
    let early = is.early in
    let lo = is.small_lower in
    let held = is.small_held in
    record { inside = omega arith; lo = omega arith; held = omega arith }
