-- Where a line is cut at its first space.
use Rattle.std.proofs.Common.{◌≡◌, ◌==◌, ◌++◌, ◌∷◌, ◌&&◌, ◌<◌, ◌≤◌, ◌+◌, ℕ, zero, suc, Bool, true, false, not, List, [], length, take, get_or, Some, None, refl, sym, ap, subst, ◌∙◌, arith}
use Rattle.std.specs.List.{list_all, prefix_len, position_or_len, before_first, after_first}
use Rattle.std.proofs.lemmas.Bool.{eqb-true}
use Rattle.std.proofs.lemmas.List.Sums.{split_at_first}
use Rattle.std.specs.Char.{is_ascii_digit}
use Rattle.std.specs.Str.{IsUtf8}
use Rattle.ats_console.specs.Words.{number_of}
use Rattle.ats_auditors.specs.Listed.{Listed, IsSpelled, is_unspaced}
use Rattle.ats_auditors.proofs.OneListed.{parts_one, number_digits}

-- all before the first that fails a test pass it
clear : (q : ℕ → Bool) (s : List ℕ) → list_all q (take (prefix_len q s) s) ≡ true
clear q [] = refl
clear q (x ∷ s) = go (q x) refl (clear q s)
  where
    go : (b : Bool) → q x ≡ b → list_all q (take (prefix_len q s) s) ≡ true → list_all q (take (prefix_len q (x ∷ s)) (x ∷ s)) ≡ true
    go true e rest =
        let more : prefix_len q (x ∷ s) ≡ suc (prefix_len q s) = rw e (omega arith) in
        rw (more, e) rest
    go false e rest = rw e refl

-- one that fails is found
pub found : (q : ℕ → Bool) (byte : ℕ) → q byte ≡ false → (xs ys : List ℕ) → prefix_len q (xs ++ byte ∷ ys) ≡ length (xs ++ byte ∷ ys) → ⊥
found q byte ends [] ys is = let none : prefix_len q (byte ∷ ys) ≡ 0 = rw ends refl in omega (arith, none, is)
found q byte ends (x ∷ xs) ys is = go (q x) refl (found q byte ends xs ys)
  where
    go : (b : Bool) → q x ≡ b → (prefix_len q (xs ++ byte ∷ ys) ≡ length (xs ++ byte ∷ ys) → ⊥) → ⊥
    go true e rest =
        let more : prefix_len q (x ∷ (xs ++ byte ∷ ys)) ≡ 1 + prefix_len q (xs ++ byte ∷ ys) = rw e refl in
        rest (omega (arith, more, is))
    go false e rest = let none : prefix_len q (x ∷ (xs ++ byte ∷ ys)) ≡ 0 = rw e refl in omega (arith, none, is)

-- the first byte that fails
at_prefix : (byte : ℕ) (s : List ℕ) (d : ℕ) → prefix_len (λ b. not (b == byte)) s < length s → get_or s (prefix_len (λ b. not (b == byte)) s) d ≡ byte
at_prefix byte [] d inside = absurd (omega (arith, inside))
at_prefix byte (x ∷ s) d inside = go (x == byte) refl (at_prefix byte s d)
  where
    go : (b : Bool) → (x == byte) ≡ b → (prefix_len (λ b. not (b == byte)) s < length s → get_or s (prefix_len (λ b. not (b == byte)) s) d ≡ byte)
        → get_or (x ∷ s) (prefix_len (λ b. not (b == byte)) (x ∷ s)) d ≡ byte
    go true e rest = rw e (eqb-true x byte e)
    go false e rest =
        let more : prefix_len (λ b. not (b == byte)) (x ∷ s) ≡ suc (prefix_len (λ b. not (b == byte)) s) = rw e (omega arith) in
        rw more (rest (omega (arith, more, inside)))

-- a text is what precedes its first space, that space, and what follows it
pub cut_at_space : (s : List ℕ) → position_or_len (λ b. b == 32) s < length s
    → s ≡ before_first (λ b. b == 32) s ++ 32 ∷ after_first (λ b. b == 32) s
cut_at_space s inside =
    let parts = split_at_first (λ b. b == 32) s 0 inside in
    let space = at_prefix 32 s 0 inside in
    parts ∙ ap (λ byte. before_first (λ b. b == 32) s ++ byte ∷ after_first (λ b. b == 32) s) space

pub unspaced_before : (s : List ℕ) → is_unspaced (before_first (λ b. b == 32) s) ≡ true
unspaced_before s = clear (λ b. not (b == 32)) s

-- a text with a space has one
pub spaced : (s xs ys : List ℕ) → s ≡ xs ++ 32 ∷ ys → position_or_len (λ b. b == 32) s ≡ length s → ⊥
spaced s xs ys is none = found (λ b. not (b == 32)) 32 refl xs ys (subst (λ (t : List ℕ). position_or_len (λ b. b == 32) t ≡ length t) is none)

-- ---- what a line spells, by its cuts

no_space : (x : ℕ) → is_ascii_digit x ≡ true → not (x == 32) ≡ true
no_space x digit = go (x == 32) refl
  where
    go : (b : Bool) → (x == 32) ≡ b → not (x == 32) ≡ true
    go true e = let clash : true ≡ false = sym digit ∙ ap is_ascii_digit (eqb-true x 32 e) in absurd (cc)
    go false e = rw e refl

split_and : (x y : Bool) → (x && y) ≡ true → (x ≡ true) × (y ≡ true)
split_and true y h = (refl, h)
split_and false y h = absurd (cc)

digits_unspaced : (word : List ℕ) → list_all is_ascii_digit word ≡ true → is_unspaced word ≡ true
digits_unspaced [] all = refl
digits_unspaced (x ∷ word) all =
    let parts = split_and (is_ascii_digit x) (list_all is_ascii_digit word) all in
    rw (no_space x parts.0) (digits_unspaced word parts.1)

-- the parts around the first space, if a text has one
abbrev pub IsCut : List ℕ → List ℕ → List ℕ → Type 0
IsCut s front back = (front ≡ before_first (λ b. b == 32) s) × (back ≡ after_first (λ b. b == 32) s) × (position_or_len (λ b. b == 32) s < length s)

-- only one text precedes the first space, and one follows it
pub one_cut : (s front back xs ys : List ℕ) → IsCut s front back → s ≡ xs ++ 32 ∷ ys → is_unspaced xs ≡ true → (front ≡ xs) × (back ≡ ys)
one_cut s front back xs ys (is, also, inside) same none =
    let parts = cut_at_space s inside in
    let one = parts_one (λ b. not (b == 32)) 32 refl (before_first (λ b. b == 32) s) xs (after_first (λ b. b == 32) s) ys (unspaced_before s) none (sym parts ∙ same) in
    (is ∙ one.0, also ∙ one.1)

pub whole_cut : (s front back : List ℕ) → IsCut s front back → (s ≡ front ++ 32 ∷ back) × (is_unspaced front ≡ true)
whole_cut s front back (is, also, inside) =
    (rw (is, also) (cut_at_space s inside), ap is_unspaced is ∙ unspaced_before s)

module _ (line text : List ℕ) (same : text ≡ line) (listed : Listed) (is : IsSpelled line listed) where
  pub first_cut : (word rest : List ℕ) → IsCut text word rest → (word ≡ is.word) × (rest ≡ listed.proof ++ 32 ∷ listed.query)
  first_cut word rest cut = one_cut text word rest is.word (listed.proof ++ 32 ∷ listed.query) cut (same ∙ is.parts)
      (digits_unspaced is.word (number_digits is.word listed.r is.number))

  pub second_cut : (word rest proof query : List ℕ) → IsCut text word rest → IsCut rest proof query → (proof ≡ listed.proof) × (query ≡ listed.query)
  second_cut word rest proof query cut also = one_cut rest proof query listed.proof listed.query also (first_cut word rest cut).1 is.unspaced

  -- a text with no space spells nothing, nor one with no second
  pub unspelled : position_or_len (λ b. b == 32) text ≡ length text → ⊥
  unspelled none = spaced text is.word (listed.proof ++ 32 ∷ listed.query) (same ∙ is.parts) none

  pub unspelled_rest : (word rest : List ℕ) → IsCut text word rest → position_or_len (λ b. b == 32) rest ≡ length rest → ⊥
  unspelled_rest word rest cut none = spaced rest listed.proof listed.query (first_cut word rest cut).1 none

  pub unnamed : (word rest proof query : List ℕ) → IsCut text word rest → IsCut rest proof query → length proof ≡ 0 → ⊥
  unnamed word rest proof query cut also none = omega (arith, none, is.named, ap length (second_cut word rest proof query cut also).0)

  pub unnumbered : (word rest : List ℕ) → IsCut text word rest → number_of word ≡ None → ⊥
  unnumbered word rest cut none = let clash : Some listed.r ≡ None = sym is.number ∙ ap number_of (sym (first_cut word rest cut).0) ∙ none in cc

-- a line that was cut twice spells its parts
pub spelled : (line text word rest proof query : List ℕ) (r : ℕ) → text ≡ line → IsUtf8 line → IsCut text word rest → IsCut rest proof query
    → number_of word ≡ Some r → 1 ≤ length proof → IsSpelled line (record { r = r; proof = proof; query = query })
spelled line text word rest proof query r same utf8 cut also number named = record {
  text = utf8;
  word = word;
  parts = sym same ∙ (whole_cut text word rest cut).0 ∙ ap (λ (l : List ℕ). word ++ 32 ∷ l) (whole_cut rest proof query also).0;
  number = number;
  named = named;
  unspaced = (whole_cut rest proof query also).1;
}

-- a length that is not 0
pub some_bytes : (n : ℕ) → (n == 0) ≡ false → 1 ≤ n
some_bytes zero is = absurd (let clash : true ≡ false = is in cc)
some_bytes (suc n) is = omega arith
