-- Entries under the numbers of their terms.
use Rattle.std.proofs.Common.{◌≡◌, ◌<◌, ◌≤◌, ◌+◌, ◌==◌, ◌⊎◌, ℕ, zero, suc, Bool, true, false, cond, List, [], ◌∷◌, ◌++◌, length, get_or, map, Some, None, refl, sym, ap, ap₂, subst, ◌∙◌, inl, inr, arith, length-append}
use Rattle.std.specs.List.{All, filter, list_any}
use Rattle.std.specs.List.Sorted.{IsStrictlySortedBy}
use Rattle.std.specs.BTreeMap.{is_at}
use Rattle.std.specs.Map.{lookup}
use Rattle.std.specs.Str.{bytes_eq}
use Rattle.std.proofs.lemmas.Bool.{cases_eq, cases_lt}
use Rattle.std.proofs.lemmas.Bool.Decides.{nat_tests}
use Rattle.std.proofs.lemmas.Cmp.{nat_list_cmp_total}
use Rattle.std.proofs.lemmas.List.{ext_get_or, get_or_append_left, get_or-append-add, get_or_default, get_or_push, get_or-map, length-map, map-append}
use Rattle.std.proofs.lemmas.List.Elements.{All-append, All-get_or, All-head, All-map, All-push, All-tail, All-weaker}
use Rattle.std.proofs.lemmas.List.Folds.{Any-from_list_any, list_any_at}
use Rattle.std.proofs.lemmas.Slice.Eq.{bytes_eq-Decides}
use Rattle.ats_terms.specs.Terms.{IsTerm}
use Rattle.ats_terms.specs.Query.{byte_cmp}
use Rattle.ats_lists.specs.Inner.Gathered.{Pairs, entries_for, entries_under, term_of, pairs_of, renumbered, AreNewNumbers, IsLogOf}
use Rattle.ats_postings.specs.declared.entry.Entry.{Entry}
use Rattle.ats_lists.specs.declared.gathering.Logged.{Logged}
use Rattle.ats_postings.proofs.Public.{one_place, if_some, lookup_made}

-- ---- one entry more

-- the same pairs, if the numbers keep their terms
pub pairs_kept : (terms new : List (List ℕ)) (log : List Logged) → ((n : ℕ) → n < length terms → term_of new n ≡ term_of terms n)
    → All (λ logged. logged.number < length terms) log → pairs_of new log ≡ pairs_of terms log
pairs_kept terms new [] kept inside = refl
pairs_kept terms new (l ∷ log) kept inside =
    ap₂ (λ (t : List ℕ) (rest : Pairs). (t, l.entry) ∷ rest)
    (kept l.number (All-head (λ (logged : Logged). logged.number < length terms) l log inside))
    (pairs_kept terms new log kept (All-tail (λ (logged : Logged). logged.number < length terms) l log inside))

-- the terms after the number of one of them was looked up
abbrev pub Grows : List (List ℕ) → List (List ℕ) → List ℕ → ℕ → Type 0
Grows terms new term n = (new ≡ terms) ⊎ ((n ≡ length terms) × (new ≡ terms ++ term ∷ []))

pub terms_kept : (terms new : List (List ℕ)) (term : List ℕ) (n : ℕ) → Grows terms new term n → (m : ℕ) → m < length terms
    → (m < length new) × (term_of new m ≡ term_of terms m)
terms_kept terms new term n (inl same) m inside = rw same (inside, refl)
terms_kept terms new term n (inr (last, longer)) m inside =
    rw longer (omega (arith, length-append terms (term ∷ [])), get_or_append_left terms (term ∷ []) [] m inside)

pub used_before : (terms new : List (List ℕ)) (term : List ℕ) (n : ℕ) → Grows terms new term n → (m : ℕ) → m < length new
    → (m < length terms) ⊎ (m ≡ n)
used_before terms new term n (inl same) m inside = inl (subst (λ (ts : List (List ℕ)). m < length ts) same inside)
used_before terms new term n (inr (last, longer)) m inside =
    let size : length new ≡ length terms + 1 = ap length longer ∙ length-append terms (term ∷ []) in
    elim (cases_lt m (length terms)) [
      | inl before ↦ inl before
      | inr past ↦ inr (omega (arith, size, last))
    ]

module _ (terms new : List (List ℕ)) (term : List ℕ) (n : ℕ) (grows : Grows terms new term n) (inside : n < length new)
    (here : term_of new n ≡ term) (log : List Logged) (is : IsLogOf terms log) (entry : Entry) where
  abbrev logged_now : Logged
  logged_now = record { number = n; entry = entry }

  pub pairs_push : pairs_of new (log ++ logged_now ∷ []) ≡ pairs_of terms log ++ (term, entry) ∷ []
  pairs_push =
      map-append (λ (l : Logged). (term_of new l.number, l.entry)) log (logged_now ∷ [])
      ∙ ap₂ (λ (front : Pairs) (t : List ℕ). front ++ (t, entry) ∷ [])
      (pairs_kept terms new log (λ m within. (terms_kept terms new term n grows m within).1) is.inside) here

  pub log_push : IsLogOf new (log ++ logged_now ∷ [])
  log_push = record {
    inside = All-push (λ (l : Logged). l.number < length new) log logged_now
        (All-weaker (λ (l : Logged). l.number < length terms) (λ (l : Logged). l.number < length new)
        (λ l within. (terms_kept terms new term n grows l.number within).0) log is.inside) inside;
    used = λ m within. elim (used_before terms new term n grows m within) [
      | inl before ↦
          let place = is.used m before in (
            place.0,
            omega (arith, place.1, length-append log (logged_now ∷ [])),
            λ d. ap (λ (l : Logged). l.number) (get_or_append_left log (logged_now ∷ []) d place.0 place.1) ∙ place.2 d,
          )
      | inr last ↦ (
        length log,
        omega (arith, length-append log (logged_now ∷ [])),
        λ d. ap (λ (l : Logged). l.number) (get_or_push log logged_now d (length log) refl) ∙ sym last,
      )
    ];
  }

-- ---- two runs

-- nothing was gathered
pub no_log : IsLogOf [] []
no_log = record { inside = λ k d inside. absurd (omega arith); used = λ n inside. absurd (omega arith) }

pub one_number_more : (old others new more : List (List ℕ)) (i : ℕ) (numbers : List ℕ) (term : List ℕ) (n : ℕ)
    → AreNewNumbers old others new i numbers → Grows new more term n → n < length more → term_of more n ≡ term → term ≡ term_of others i
    → AreNewNumbers old others more (i + 1) (numbers ++ n ∷ [])
one_number_more old others new more i numbers term n are grows inside here is =
    let last : get_or (numbers ++ n ∷ []) i 0 ≡ n = get_or_push numbers n 0 i are.size in
    let before : (j : ℕ) → j < i → get_or (numbers ++ n ∷ []) j 0 ≡ get_or numbers j 0 =
    λ j within. get_or_append_left numbers (n ∷ []) 0 j (omega (arith, are.size)) in
    record {
      size = length-append numbers (n ∷ []) ∙ ap (λ k. k + 1) are.size;
      kept = λ m within.
          let first = are.kept m within in
          let second = terms_kept new more term n grows m first.0 in
          (second.0, second.1 ∙ first.1);
      right = λ j within. elim (cases_eq j i) [
        | inl at ↦ rw (at, last) (inside, here ∙ is)
        | inr other ↦
            let low : j < i = omega (arith, within) in
            let first = are.right j low in
            let second = terms_kept new more term n grows (get_or numbers j 0) first.0 in
            rw (before j low) (second.0, second.1 ∙ first.1)
      ];
      used = λ m within. elim (used_before new more term n grows m within) [
        | inl old_one ↦ elim (are.used m old_one) [
          | inl first ↦ inl first
          | inr (j, low, gives) ↦ inr (j, omega (arith, low), before j low ∙ gives)
        ]
        | inr at ↦ inr (i, omega arith, last ∙ sym at)
      ];
    }

pairs_renumbered : (old others new : List (List ℕ)) (numbers : List ℕ) (log : List Logged) → AreNewNumbers old others new (length others) numbers
    → All (λ logged. logged.number < length others) log → pairs_of new (map (renumbered numbers) log) ≡ pairs_of others log
pairs_renumbered old others new numbers [] are inside = refl
pairs_renumbered old others new numbers (l ∷ log) are inside =
    ap₂ (λ (t : List ℕ) (rest : Pairs). (t, l.entry) ∷ rest)
    (are.right l.number (All-head (λ (logged : Logged). logged.number < length others) l log inside)).1
    (pairs_renumbered old others new numbers log are (All-tail (λ (logged : Logged). logged.number < length others) l log inside))

numbers_inside : (old others new : List (List ℕ)) (numbers : List ℕ) (log : List Logged) → AreNewNumbers old others new (length others) numbers
    → All (λ logged. logged.number < length others) log → All (λ logged. logged.number < length new) (map (renumbered numbers) log)
numbers_inside old others new numbers log are inside = All-map (λ (l : Logged). l.number < length new) (renumbered numbers) log
    (All-weaker (λ (l : Logged). l.number < length others) (λ (l : Logged). get_or numbers l.number 0 < length new)
    (λ l within. (are.right l.number within).0) log inside)

module _ (old others new : List (List ℕ)) (numbers : List ℕ) (are : AreNewNumbers old others new (length others) numbers)
    (log more : List Logged) (first : IsLogOf old log) (second : IsLogOf others more) where
  pub pairs_joined : pairs_of new (log ++ map (renumbered numbers) more) ≡ pairs_of old log ++ pairs_of others more
  pairs_joined =
      map-append (λ (l : Logged). (term_of new l.number, l.entry)) log (map (renumbered numbers) more)
      ∙ ap₂ (λ (front back : Pairs). front ++ back) (pairs_kept old new log (λ n inside. (are.kept n inside).1) first.inside)
      (pairs_renumbered old others new numbers more are second.inside)

  pub log_joined : IsLogOf new (log ++ map (renumbered numbers) more)
  log_joined =
      let back : List Logged = map (renumbered numbers) more in
      let size : length (log ++ back) ≡ length log + length more = length-append log back ∙ ap (λ k. length log + k) (length-map more (renumbered numbers)) in
      record {
        inside = All-append (λ (l : Logged). l.number < length new) log back
            (All-weaker (λ (l : Logged). l.number < length old) (λ (l : Logged). l.number < length new)
            (λ l within. (are.kept l.number within).0) log first.inside)
            (numbers_inside old others new numbers more are second.inside);
        used = λ n within. elim (are.used n within) [
          | inl before ↦
              let place = first.used n before in (
                place.0,
                omega (arith, place.1, size),
                λ d. ap (λ (l : Logged). l.number) (get_or_append_left log back d place.0 place.1) ∙ place.2 d,
              )
          | inr (j, low, gives) ↦
              let place = second.used j low in (
                length log + place.0,
                omega (arith, place.1, size),
                λ d.
                    ap (λ (l : Logged). l.number) (get_or-append-add log back place.0 d ∙ get_or-map (renumbered numbers) more place.0 d d place.1)
                    ∙ ap (λ k. get_or numbers k 0) (place.2 d) ∙ gives,
              )
        ];
      }

-- ---- parted by term

same_test : (b c : Bool) → (b ≡ true → c ≡ true) → (c ≡ true → b ≡ true) → b ≡ c
same_test true c one two = sym (one refl)
same_test false true one two = two refl
same_test false false one two = refl

filter_step : (b c : Bool) (l : Logged) (log : List Logged) (pair : List ℕ × Entry) (pairs : Pairs) → b ≡ c → pair.1 ≡ l.entry
    → map (λ (m : Logged). m.entry) log ≡ map (λ (p : List ℕ × Entry). p.1) pairs
    → map (λ (m : Logged). m.entry) (cond b (l ∷ log) log) ≡ map (λ (p : List ℕ × Entry). p.1) (cond c (pair ∷ pairs) pairs)
filter_step true true l log pair pairs same entry rest = ap₂ (λ (e : Entry) (es : List Entry). e ∷ es) (sym entry) rest
filter_step true false l log pair pairs same entry rest = absurd (cc)
filter_step false true l log pair pairs same entry rest = absurd (cc)
filter_step false false l log pair pairs same entry rest = rest

filters_agree : (terms : List (List ℕ)) (q : List ℕ) (n : ℕ) (log : List Logged)
    → All (λ (l : Logged). (l.number == n) ≡ bytes_eq q (term_of terms l.number)) log → entries_under n log ≡ entries_for q (pairs_of terms log)
filters_agree terms q n [] all = refl
filters_agree terms q n (l ∷ log) all =
    filter_step (l.number == n) (bytes_eq q (term_of terms l.number)) l (filter (λ m. m.number == n) log) (term_of terms l.number, l.entry)
    (filter (λ pair. bytes_eq q pair.0) (pairs_of terms log))
    (All-head (λ (m : Logged). (m.number == n) ≡ bytes_eq q (term_of terms m.number)) l log all) refl
    (filters_agree terms q n log (All-tail (λ (m : Logged). (m.number == n) ≡ bytes_eq q (term_of terms m.number)) l log all))

none_pass : (terms : List (List ℕ)) (q : List ℕ) (log : List Logged) → All (λ (l : Logged). bytes_eq q (term_of terms l.number) ≡ false) log
    → entries_for q (pairs_of terms log) ≡ []
none_pass terms q [] all = refl
none_pass terms q (l ∷ log) all =
    rw (All-head (λ (m : Logged). bytes_eq q (term_of terms m.number) ≡ false) l log all)
    (none_pass terms q log (All-tail (λ (m : Logged). bytes_eq q (term_of terms m.number) ≡ false) l log all))

one_at_least : (b : Bool) (l : Logged) (log : List Logged) → 1 ≤ length (map (λ (m : Logged). m.entry) log)
    → 1 ≤ length (map (λ (m : Logged). m.entry) (cond b (l ∷ log) log))
one_at_least true l log some = omega arith
one_at_least false l log some = some

some_entry : (n : ℕ) (log : List Logged) (i : ℕ) → i < length log → ((d : Logged) → (get_or log i d).number ≡ n) → 1 ≤ length (entries_under n log)
some_entry n [] i inside at = absurd (omega arith)
some_entry n (l ∷ log) zero inside at =
    let here : (l.number == n) ≡ true = grind (arith, nat_tests, at l) in
    rw here (omega arith)
some_entry n (l ∷ log) (suc i) inside at =
    one_at_least (l.number == n) l (filter (λ m. m.number == n) log) (some_entry n log i (omega arith) at)

some_if : {X : Type 0} (xs : List X) → 1 ≤ length xs → Some xs ≡ if_some xs
some_if [] some = absurd (omega arith)
some_if (x ∷ xs) some = refl

equal_numbers : (a b : ℕ) → (a == b) ≡ true → a ≡ b
equal_numbers a b is = grind (arith, nat_tests)

numbers_equal : (a b : ℕ) → a ≡ b → (a == b) ≡ true
numbers_equal a b is = grind (arith, nat_tests)

-- the terms are at one place each
module _ (terms : List (List ℕ)) (log : List Logged) (rises : IsStrictlySortedBy byte_cmp terms) (is : IsLogOf terms log) where
  -- under a term's number are its entries
  pub entries_found : (n : ℕ) → n < length terms → entries_under n log ≡ entries_for (term_of terms n) (pairs_of terms log)
  entries_found n inside = filters_agree terms (term_of terms n) n log (All-weaker (λ (l : Logged). l.number < length terms)
      (λ (l : Logged). (l.number == n) ≡ bytes_eq (term_of terms n) (term_of terms l.number))
      (λ l within. same_test (l.number == n) (bytes_eq (term_of terms n) (term_of terms l.number))
      (λ yes. (bytes_eq-Decides (term_of terms n) (term_of terms l.number)).1 (sym (ap (term_of terms) (equal_numbers l.number n yes))))
      (λ yes. numbers_equal l.number n (one_place nat_list_cmp_total terms l.number n [] rises within inside
      (sym ((bytes_eq-Decides (term_of terms n) (term_of terms l.number)).0 yes)))))
      log is.inside)

  -- a term that is none of them has no entry
  nothing_found : (q : List ℕ) → list_any (bytes_eq q) terms ≡ false → entries_for q (pairs_of terms log) ≡ []
  nothing_found q none = none_pass terms q log (All-weaker (λ (l : Logged). l.number < length terms)
      (λ (l : Logged). bytes_eq q (term_of terms l.number) ≡ false) (λ l within. other_term l.number (bytes_eq q (term_of terms l.number)) refl within)
      log is.inside)
    where
      other_term : (m : ℕ) (b : Bool) → bytes_eq q (term_of terms m) ≡ b → m < length terms → b ≡ false
      other_term m true equal within =
          let clash : false ≡ true = sym none ∙ list_any_at (bytes_eq q) terms m [] within equal in
          absurd (cc)
      other_term m false differs within = refl

  found_case : (q : List ℕ) (b : Bool) → list_any (bytes_eq q) terms ≡ b
      → cond b (Some (entries_for q (pairs_of terms log))) None ≡ if_some (entries_for q (pairs_of terms log))
  found_case q false none = ap if_some (sym (nothing_found q none))
  found_case q true some =
      let (n, term, inside, at, equal) = Any-from_list_any (bytes_eq q) terms some in
      let same : q ≡ term_of terms n = (bytes_eq-Decides q term).0 equal ∙ sym at ∙ get_or_default terms n term [] inside in
      let (i, within, named) = is.used n inside in
      let entries : entries_under n log ≡ entries_for q (pairs_of terms log) =
      entries_found n inside ∙ ap (λ (t : List ℕ). entries_for t (pairs_of terms log)) (sym same) in
      some_if (entries_for q (pairs_of terms log)) (subst (λ (es : List Entry). 1 ≤ length es) entries (some_entry n log i within named))

  -- what is found for a term are its entries, if it has some
  pub parted_finds : (q : List ℕ) → lookup (is_at (byte_cmp q)) (map (λ term. (term, entries_for term (pairs_of terms log))) terms)
      ≡ if_some (entries_for q (pairs_of terms log))
  parted_finds q = lookup_made (λ term. entries_for term (pairs_of terms log)) q terms ∙ found_case q (list_any (bytes_eq q) terms) refl

  -- what was parted is each term with its entries
  pub parted_is : (lists : List (List ℕ × List Entry)) → length lists ≡ length terms
      → ((n : ℕ) → n < length terms → get_or lists n ([], []) ≡ (term_of terms n, entries_under n log))
      → lists ≡ map (λ term. (term, entries_for term (pairs_of terms log))) terms
  parted_is lists size entries =
      let own : List ℕ → List ℕ × List Entry = λ term. (term, entries_for term (pairs_of terms log)) in
      ext_get_or ([], []) lists (map own terms) (omega (arith, size, length-map terms own)) (λ n low.
      let inside : n < length terms = omega (arith, low, size) in
      entries n inside ∙ ap (λ (es : List Entry). (term_of terms n, es)) (entries_found n inside) ∙ sym (get_or-map own terms n [] ([], []) inside))

  -- each of them is a term, if those of the entries are
  pub numbered_terms : All (λ (pair : List ℕ × Entry). IsTerm pair.0) (pairs_of terms log) → All IsTerm terms
  numbered_terms all n d inside =
      let (i, within, names) = is.used n inside in
      let blank : Logged = record { number = 0; entry = record { doc = 0; impact = 0 } } in
      let named : Logged → List ℕ × Entry = λ l. (term_of terms l.number, l.entry) in
      let long : i < length (pairs_of terms log) = omega (arith, within, length-map log named) in
      let at = get_or-map named log i blank ([], blank.entry) within in
      subst IsTerm (ap (term_of terms) (names blank) ∙ get_or_default terms n [] d inside)
      (subst (λ (pair : List ℕ × Entry). IsTerm pair.0) at (All-get_or (λ (pair : List ℕ × Entry). IsTerm pair.0) (pairs_of terms log) i ([], blank.entry) long all))
