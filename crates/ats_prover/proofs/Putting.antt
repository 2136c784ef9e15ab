-- Fields that are appended to a writer, one after another.
use Rattle.std.proofs.Common.{◌≡◌, ◌+◌, ◌<◌, ℕ, List, [], ◌++◌, length, map, take, get_or, Option, Some, None, nat_lt, refl, sym, ap, ap₂, ◌∙◌, arith, inl, inr, add-one, append_assoc, append-nil, length-append}
use Rattle.std.specs.Prelude.{if◌then◌else◌}
use Rattle.std.specs.List.{concat, flat_map}
use Rattle.std.proofs.Math.Seq.{take-suc}
use Rattle.std.proofs.lemmas.Bool.Decides.{nat_tests}
use Rattle.std.proofs.lemmas.Bool.{cases_lt}
use Rattle.std.proofs.lemmas.List.{flat_map_more, get_or-map, length-map}
use Rattle.std.proofs.lemmas.List.Folds.{concat-append}
use Rattle.ats_proof.specs.Written.{Written, after, joined}
use Rattle.ats_prover.specs.Inner.Writing.{IsStarted, put}

joined_twice : (kept : Option (List ℕ)) (a b : List ℕ) → joined (joined kept a) b ≡ joined kept (a ++ b)
joined_twice None a b = refl
joined_twice (Some bytes) a b = ap (λ (xs : List ℕ). Some xs) (append_assoc bytes a b)

-- bytes after bytes
pub after_twice : (w : Written) (a b : List ℕ) → after (after w a) b ≡ after w (a ++ b)
unfolding after
after_twice w a b =
    let sum : w.asked + length a + length b ≡ w.asked + length (a ++ b) = omega (arith, length-append a b) in
    let kept : (if nat_lt w.limit (w.asked + length a + length b) then None else joined (if nat_lt w.limit (w.asked + length a) then None else joined w.kept a) b)
    ≡ (if nat_lt w.limit (w.asked + length (a ++ b)) then None else joined w.kept (a ++ b)) =
    elim (cases_lt w.limit (w.asked + length a + length b)) [
      | inl over ↦ (grind (arith, nat_tests))
      | inr fits ↦
          let twice = joined_twice w.kept a b in
          (grind (arith, nat_tests))
    ] in
    ap₂ (λ (n : ℕ) (k : Option (List ℕ)). let v : Written = record { limit = w.limit; asked = n; kept = k } in v) sum kept

pub put_put : (w : Written) (a b : List (List ℕ)) → put (put w a) b ≡ put w (a ++ b)
put_put w a b = after_twice w (concat a) (concat b) ∙ ap (after w) (sym (concat-append a b))

-- the bytes of one part more
pub put_more : {X : Type 0} (spell : X → List (List ℕ)) (w : Written) (front : List (List ℕ)) (xs : List X) (i : ℕ) (x d : X) (bytes : List ℕ)
    → i < length xs → x ≡ get_or xs i d → bytes ≡ concat (spell x)
    → after (put w (front ++ flat_map spell (take i xs))) bytes ≡ put w (front ++ flat_map spell (take (i + 1) xs))
put_more spell w front xs i x d bytes inside is same =
    let more : (front ++ flat_map spell (take i xs)) ++ spell x ≡ front ++ flat_map spell (take (i + 1) xs) =
    rw (add-one, take-suc xs i d inside, is) (flat_map_more spell front (take i xs) (get_or xs i d)) in
    ap (after (put w (front ++ flat_map spell (take i xs)))) same ∙ put_put w (front ++ flat_map spell (take i xs)) (spell x) ∙ ap (put w) more

-- the bytes of one part more that is made of another
pub put_made : {X Y : Type 0} (spell : Y → List (List ℕ)) (made : X → Y) (w : Written) (front : List (List ℕ)) (xs : List X) (i : ℕ) (d : X) (bytes : List ℕ)
    → i < length xs → bytes ≡ concat (spell (made (get_or xs i d)))
    → after (put w (front ++ flat_map spell (take i (map made xs)))) bytes ≡ put w (front ++ flat_map spell (take (i + 1) (map made xs)))
put_made spell made w front xs i d bytes inside same =
    put_more spell w front (map made xs) i (made (get_or xs i d)) (made d) bytes (omega (arith, inside, length-map xs made)) (sym (get_or-map made xs i d (made d) inside)) same

three_more : (a b c d : List (List ℕ)) → a ++ (b ++ c ++ d) ≡ a ++ b ++ c ++ d
three_more a b c d = sym (append_assoc a (b ++ c) d) ∙ ap (λ (xs : List (List ℕ)). xs ++ d) (sym (append_assoc a b c))

four_more : (a b c d e : List (List ℕ)) → a ++ (b ++ c ++ d ++ e) ≡ a ++ b ++ c ++ d ++ e
four_more a b c d e = sym (append_assoc a (b ++ c ++ d) e) ∙ ap (λ (xs : List (List ℕ)). xs ++ e) (three_more a b c d)

-- all parts of a proof
pub put_all : (w : Written) (a b c d e f g h : List (List ℕ)) → put (put (put w a) (b ++ c ++ d)) (e ++ f ++ g ++ h) ≡ put w (a ++ b ++ c ++ d ++ e ++ f ++ g ++ h)
put_all w a b c d e f g h =
    let left : List (List ℕ) = a ++ b ++ c ++ d in
    ap (λ (v : Written). put v (e ++ f ++ g ++ h)) (put_put w a (b ++ c ++ d) ∙ ap (put w) (three_more a b c d))
    ∙ put_put w left (e ++ f ++ g ++ h) ∙ ap (put w) (four_more left e f g h)

-- nothing after bytes that were appended
pub started : (v w : Written) (bytes : List ℕ) → w ≡ after v bytes → IsStarted w
started v w bytes is = ap (λ (x : Written). after x []) is ∙ after_twice v bytes [] ∙ ap (after v) (append-nil bytes) ∙ sym is
