-- Strings that are kept one after another.
use Rattle.std.proofs.Common.{◌≡◌, ◌<◌, ◌≤◌, ◌+◌, ◌-◌, ℕ, zero, suc, List, [], ◌∷◌, ◌++◌, length, get_or, take, drop, refl, sym, ap, ap₂, ◌∙◌, arith, take_all, length-append, ◌==◌, false}
use Rattle.std.proofs.lemmas.Bool.Decides.{nat_tests}
use Rattle.std.specs.List.{slice_range}
use Rattle.std.proofs.lemmas.List.{drop_at, take-append-le, drop-append-le, length-drop}
use Rattle.std.proofs.lemmas.List.Elements.{All-push}
use Rattle.ats_terms.specs.Terms.{IsTerm}
use Rattle.ats_terms.specs.Inner.Packed.{strings_from, strings, start_of, AreEnds, ArePacked}

ends_within : (start : ℕ) (ends : List ℕ) (len : ℕ) → AreEnds start ends len → start ≤ len
ends_within start [] len is = omega arith
ends_within start (end ∷ ends) len (rises, rest) = omega (arith, ends_within end ends len rest)

-- a range within the front part
front_range : (bytes more : List ℕ) (start end : ℕ) → start ≤ end → end ≤ length bytes
    → slice_range (bytes ++ more) start end ≡ slice_range bytes start end
front_range bytes more start end rises within =
    let first : drop start (bytes ++ more) ≡ drop start bytes ++ more = drop-append-le start bytes more (omega arith) in
    let space : end - start ≤ length (drop start bytes) = omega (arith, length-drop start bytes) in
    ap (take (end - start)) first ∙ take-append-le (end - start) (drop start bytes) more space

last_range : (bytes more : List ℕ) (start end : ℕ) → start ≡ length bytes → end ≡ length bytes + length more
    → slice_range (bytes ++ more) start end ≡ more
last_range bytes more start end is until =
    ap (take (end - start)) (drop_at bytes more start (sym is)) ∙ take_all (end - start) more (omega arith)

strings_more : (bytes more : List ℕ) (start : ℕ) (ends : List ℕ) (end : ℕ) → AreEnds start ends (length bytes) → end ≡ length bytes + length more
    → strings_from (bytes ++ more) start (ends ++ end ∷ []) ≡ strings_from bytes start ends ++ more ∷ []
strings_more bytes more start [] end is until = ap (λ x. x ∷ []) (last_range bytes more start end is until)
strings_more bytes more start (next ∷ ends) end (rises, rest) until =
    ap₂ (λ x xs. x ∷ xs) (front_range bytes more start next rises (ends_within next ends (length bytes) rest)) (strings_more bytes more next ends end rest until)

ends_more : (start : ℕ) (ends : List ℕ) (len end : ℕ) → AreEnds start ends len → len ≤ end → AreEnds start (ends ++ end ∷ []) end
ends_more start [] len end is up = (omega arith, refl)
ends_more start (next ∷ ends) len end (rises, rest) up = (rises, ends_more next ends len end rest up)

-- one more string
pub packed_more : (bytes more ends : List ℕ) (end : ℕ) → ArePacked bytes ends → end ≡ length bytes + length more
    → strings (bytes ++ more) (ends ++ end ∷ []) ≡ strings bytes ends ++ more ∷ []
packed_more bytes more ends end packed until = strings_more bytes more 0 ends end packed.whole until

pub packed_still : (bytes more ends : List ℕ) (end : ℕ) → ArePacked bytes ends → end ≡ length bytes + length more → IsTerm more
    → ArePacked (bytes ++ more) (ends ++ end ∷ [])
packed_still bytes more ends end packed until term =
    let size : length (bytes ++ more) ≡ end = length-append bytes more ∙ sym until in
    record {
      whole = rw size (ends_more 0 ends (length bytes) end packed.whole (omega arith));
      terms = rw (packed_more bytes more ends end packed until) (All-push IsTerm (strings bytes ends) more packed.terms term);
    }

pub length-strings_from : (bytes : List ℕ) (start : ℕ) (ends : List ℕ) → length (strings_from bytes start ends) ≡ length ends
length-strings_from bytes start [] = refl
length-strings_from bytes start (end ∷ ends) = ap suc (length-strings_from bytes end ends)

-- where the string at this place begins and ends
pub record IsRange (bytes : List ℕ) (start : ℕ) (ends : List ℕ) (i from to : ℕ) : Type 0 where
  pub rises : from ≤ to
  pub within : to ≤ length bytes
  pub string : (d : List ℕ) → get_or (strings_from bytes start ends) i d ≡ slice_range bytes from to

first_range : (bytes : List ℕ) (start : ℕ) (ends : List ℕ) → AreEnds start ends (length bytes) → 0 < length ends
    → IsRange bytes start ends 0 start (get_or ends 0 0)
first_range bytes start [] is some = absurd (omega arith)
first_range bytes start (end ∷ ends) (rises, rest) some = record {
  rises = rises;
  within = ends_within end ends (length bytes) rest;
  string = λ d. refl;
}

next_range : (bytes : List ℕ) (start : ℕ) (ends : List ℕ) (i : ℕ) → AreEnds start ends (length bytes) → suc i < length ends
    → IsRange bytes start ends (suc i) (get_or ends i 0) (get_or ends (suc i) 0)
next_range bytes start [] i is inside = absurd (omega arith)
next_range bytes start (end ∷ ends) zero (rises, rest) inside =
    let first = first_range bytes end ends rest (omega arith) in
    record { rises = first.rises; within = first.within; string = first.string }
next_range bytes start (end ∷ ends) (suc i) (rises, rest) inside =
    let next = next_range bytes end ends i rest (omega arith) in
    record { rises = next.rises; within = next.within; string = next.string }

-- the range of the string at a place
pub range_at : (bytes ends : List ℕ) (i : ℕ) → ArePacked bytes ends → i < length ends → IsRange bytes 0 ends i (start_of ends i) (get_or ends i 0)
range_at bytes ends zero packed inside = first_range bytes 0 ends packed.whole inside
range_at bytes ends (suc i) packed inside =
    let some : (suc i == 0) ≡ false = grind (arith, nat_tests) in
    let one : suc i - 1 ≡ i = omega arith in
    let before : start_of ends (suc i) ≡ get_or ends i 0 = rw (some, one) refl in
    rw before (next_range bytes 0 ends i packed.whole inside)

-- the term at a place, by its range
pub term_at : (bytes ends : List ℕ) (i : ℕ) (d : List ℕ) → ArePacked bytes ends → i < length ends → IsTerm (get_or (strings bytes ends) i d)
term_at bytes ends i d packed inside = packed.terms i d (omega (arith, length-strings_from bytes 0 ends))
