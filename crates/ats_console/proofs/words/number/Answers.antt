use Rattle.std.proofs.Common.{◌≡◌, ◌<◌, ◌≤◌, ◌^◌, List, ℕ, length, true, Result, Ok, refl, sym, ◌∙◌, arith, rules}
use Rattle.std.specs.Result.{result_ok}
use Rattle.std.specs.List.{list_all}
use Rattle.std.specs.Char.{is_ascii_digit}
use Rattle.std.specs.Str.Parse.{digits_value, ParsesUnsigned}
use Rattle.std.proofs.lemmas.Bool.Decides.{nat_tests}
use Rattle.std.proofs.lemmas.Str.Parse.{IsNumeralModel, numerals_by_value, parse_gives, digits_value_short}
use Rattle.ats_console.specs.Words.{is_number_word, number_of}
use Rattle.ats_console.proofs.words.number.Goals as goal

own : IsNumeralModel (λ ds. list_all is_ascii_digit ds ≡ true) (digits_value 10)
own = numerals_by_value _ (search rules)

some_digits : (word : List ℕ) → is_number_word word ≡ true → 0 < length word
some_digits word is = grind (arith, nat_tests)

few_digits : (word : List ℕ) → is_number_word word ≡ true → length word ≤ 9
few_digits word is = grind (arith, nat_tests)

all_digits : (word : List ℕ) → is_number_word word ≡ true → list_all is_ascii_digit word ≡ true
all_digits word is = grind (arith, nat_tests)

parsed : {E : Type 0} (word : List ℕ) (r : Result ℕ E) → ParsesUnsigned 32 10 word r → is_number_word word ≡ true → result_ok r ≡ number_of word
parsed word r h is =
    let digits = all_digits word is in
    let small : digits_value 10 word < 10 ^ 9 = digits_value_short own word 9 digits (few_digits word is) in
    let gives : r ≡ Ok (digits_value 10 word) = parse_gives own 32 word r h digits (some_digits word is) (omega arith) in
    rw (gives, is) refl

pub returns : goal.returns
returns c =
    let is : is_number_word c.args.word.now ≡ true = rw c.as_bytes.ensures.value at (sym c.is_number_word.ensures ∙ c.if-not-is_number_word.false) in
    c.ok.ensures.value ∙ parsed c.args.word.now _ c.parse.ensures.value.0 is
