-- A line asks for at most one thing.
use Rattle.std.proofs.Common.{◌≡◌, ◌++◌, ◌∷◌, ◌&&◌, ◌||◌, ◌==◌, ℕ, Bool, true, false, not, List, [], length, slice_index, nat_lt, nat_le, Some, None, refl, sym, ap, if◌then◌else◌, ◌∙◌}
use Rattle.std.specs.List.{list_all}
use Rattle.std.specs.Char.{is_ascii_digit}
use Rattle.std.specs.Str.Parse.{digits_value}
use Rattle.ats_console.specs.Words.{is_number_word, number_of}
use Rattle.ats_auditors.specs.Listed.{Listed, IsSpelled, IsListed}

both : (x y : Bool) → (x && y) ≡ true → (x ≡ true) × (y ≡ true)
both true y h = (refl, h)
both false y h = absurd (cc)

-- only one part precedes the first byte that fails a test, and one follows it
pub parts_one : (p : ℕ → Bool) (byte : ℕ) → p byte ≡ false → (xs ys rest other : List ℕ) → list_all p xs ≡ true → list_all p ys ≡ true
    → xs ++ byte ∷ rest ≡ ys ++ byte ∷ other → (xs ≡ ys) × (rest ≡ other)
parts_one p byte ends [] [] rest other a b same = let tails : rest ≡ other = cc in (refl, tails)
parts_one p byte ends [] (y ∷ ys) rest other a b same =
    let head : byte ≡ y = cc in
    let yes = (both (p y) (list_all p ys) b).0 in
    absurd (let clash : true ≡ false = sym yes ∙ ap p (sym head) ∙ ends in cc)
parts_one p byte ends (x ∷ xs) [] rest other a b same =
    let head : x ≡ byte = cc in
    let yes = (both (p x) (list_all p xs) a).0 in
    absurd (let clash : true ≡ false = sym yes ∙ ap p head ∙ ends in cc)
parts_one p byte ends (x ∷ xs) (y ∷ ys) rest other a b same =
    let head : x ≡ y = cc in
    let tails : xs ++ byte ∷ rest ≡ ys ++ byte ∷ other = cc in
    let one = parts_one p byte ends xs ys rest other (both (p x) (list_all p xs) a).1 (both (p y) (list_all p ys) b).1 tails in
    (ap (λ l. x ∷ l) one.0 ∙ ap (λ h. h ∷ ys) head, one.1)

number_split : (b : Bool) (word : List ℕ) (r : ℕ) (value : ℕ) → (if b then Some value else None) ≡ Some r → b ≡ true
number_split true word r value is = refl
number_split false word r value is = absurd (cc)

-- a number word has only digits
pub number_digits : (word : List ℕ) (r : ℕ) → number_of word ≡ Some r → list_all is_ascii_digit word ≡ true
number_digits word r is =
    let numbers = number_split (is_number_word word) word r (digits_value 10 word) is in
    (both (nat_lt 0 (length word) && nat_le (length word) 9 && (not (slice_index word 0 == 48) || (length word == 1))) (list_all is_ascii_digit word) numbers).1

record_same : (a b : Listed) → a.r ≡ b.r → a.proof ≡ b.proof → a.query ≡ b.query → a ≡ b
record_same a b r proof query = λ i. record { r = r i; proof = proof i; query = query i }

-- a line spells one thing
pub one_spelled : (line : List ℕ) (a b : Listed) → IsSpelled line a → IsSpelled line b → a ≡ b
one_spelled line a b is also =
    let first = parts_one is_ascii_digit 32 refl is.word also.word (a.proof ++ 32 ∷ a.query) (b.proof ++ 32 ∷ b.query)
    (number_digits is.word a.r is.number) (number_digits also.word b.r also.number) (sym is.parts ∙ also.parts) in
    let second = parts_one (λ byte. not (byte == 32)) 32 refl a.proof b.proof a.query b.query is.unspaced also.unspaced first.1 in
    let numbers : Some a.r ≡ Some b.r = sym is.number ∙ ap number_of first.0 ∙ also.number in
    let r : a.r ≡ b.r = cc in
    record_same a b r second.0 second.1

pub one_listed : (line : List ℕ) (a b : Listed) → IsListed line a → IsListed line b → a ≡ b
one_listed line a b is also = one_spelled line a b is.spelled also.spelled
