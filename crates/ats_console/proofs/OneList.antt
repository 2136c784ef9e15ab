-- A list has one reading if each line has, and at most one first bad line.
use Rattle.std.proofs.Common.{◌≡◌, ◌++◌, ◌∷◌, ℕ, List, [], length, refl, sym, ap, subst, ◌∙◌, inl, inr, arith}
use Rattle.std.specs.List.{AllZip}
use Rattle.std.proofs.lemmas.Slice.Zip.{AllZip-long}
use Rattle.ats_plan.specs.Inner.Sound.{IsOne}
use Rattle.ats_console.specs.Lists.{lines_of, IsListOf, IsBadLine, IsListStop}
use Rattle.ats_console.specs.Stops.{line_of_bad_line}
use Rattle.ats_console.specs.declared.stops.Stop.{Stop}
use Rattle.ats_console.specs.declared.stops.Stop.TheVariants.{Input}

pub same_zip : {X Y : Type 0} (R : X → Y → Type 0) → ((x : X) (a b : Y) → R x a → R x b → a ≡ b) → (xs : List X) (ys zs : List Y)
    → AllZip R xs ys → AllZip R xs zs → ys ≡ zs
same_zip R one [] [] [] is also = refl
same_zip R one [] (a ∷ ys) zs is also = absurd is
same_zip R one [] [] (b ∷ zs) is also = absurd also
same_zip R one (x ∷ xs) [] zs is also = absurd is
same_zip R one (x ∷ xs) (a ∷ ys) [] is also = absurd also
same_zip R one (x ∷ xs) (a ∷ ys) (b ∷ zs) is also =
    let head = one x a b is.0 also.0 in
    let tails = same_zip R one xs ys zs is.1 also.1 in
    ap (λ l. a ∷ l) tails ∙ ap (λ h. h ∷ zs) head

module _ {V : Type 0} (Spells : List ℕ → V → Type 0) (most : ℕ) where
  -- in lines that all spell something there is no bad one
  good_lines : (before after : List (List ℕ)) (line : List ℕ) (listed : List V) → ((l : V) → Spells line l → ⊥)
      → AllZip Spells (before ++ line ∷ after) listed → ⊥
  good_lines [] after line [] bad is = is
  good_lines [] after line (l ∷ listed) bad is = bad l is.0
  good_lines (b ∷ before) after line [] bad is = is
  good_lines (b ∷ before) after line (l ∷ listed) bad is = good_lines before after line listed bad is.1

  -- nor is there one in a list
  pub no_bad_line : (bytes : List ℕ) (listed : List V) → IsListOf Spells most bytes listed → (number : ℕ) → IsBadLine Spells most (lines_of bytes) number → ⊥
  no_bad_line bytes listed is number (inl (none, one)) = omega (arith, AllZip-long Spells (lines_of bytes) listed is.each, is.some, ap length none)
  no_bad_line bytes listed is number (inr (inl (many, is_that))) = omega (arith, AllZip-long Spells (lines_of bytes) listed is.each, is.few, many)
  no_bad_line bytes listed is number (inr (inr bad)) =
      good_lines bad.before bad.after bad.line listed bad.bad (subst (λ (all : List (List ℕ)). AllZip Spells all listed) bad.parts is.each)

  -- the first bad line is one
  first_bad : (before other after rest : List (List ℕ)) (line next : List ℕ) (listed others : List V)
      → AllZip Spells before listed → ((l : V) → Spells line l → ⊥) → AllZip Spells other others → ((l : V) → Spells next l → ⊥)
      → before ++ line ∷ after ≡ other ++ next ∷ rest → length before ≡ length other
  first_bad [] [] after rest line next listed others a bad b worse same = refl
  first_bad [] (o ∷ other) after rest line next listed [] a bad b worse same = absurd b
  first_bad [] (o ∷ other) after rest line next listed (l ∷ others) a bad b worse same =
      let head : o ≡ line = cc in
      absurd (bad l (subst (λ (one : List ℕ). Spells one l) head b.0))
  first_bad (x ∷ before) [] after rest line next [] others a bad b worse same = absurd a
  first_bad (x ∷ before) [] after rest line next (l ∷ listed) others a bad b worse same =
      let head : x ≡ next = cc in
      absurd (worse l (subst (λ (one : List ℕ). Spells one l) head a.0))
  first_bad (x ∷ before) (o ∷ other) after rest line next [] others a bad b worse same = absurd a
  first_bad (x ∷ before) (o ∷ other) after rest line next (l ∷ listed) [] a bad b worse same = absurd b
  first_bad (x ∷ before) (o ∷ other) after rest line next (l ∷ listed) (m ∷ others) a bad b worse same =
      let tails : before ++ line ∷ after ≡ other ++ next ∷ rest = cc in
      let one = first_bad before other after rest line next listed others a.1 bad b.1 worse tails in
      omega (arith, one)

  none_longer : (lines : List (List ℕ)) → lines ≡ [] → (before after : List (List ℕ)) (line : List ℕ) → lines ≡ before ++ line ∷ after → ⊥
  none_longer lines none [] after line is = let clash = sym none ∙ is in absurd (cc)
  none_longer lines none (b ∷ before) after line is = let clash = sym none ∙ is in absurd (cc)

  pub one_bad_line : (lines : List (List ℕ)) (a b : ℕ) → IsBadLine Spells most lines a → IsBadLine Spells most lines b → a ≡ b
  one_bad_line lines a b (inl is) (inl also) = is.1 ∙ sym also.1
  one_bad_line lines a b (inl is) (inr (inl also)) = absurd (omega (arith, ap length is.0, also.0))
  one_bad_line lines a b (inl is) (inr (inr also)) = absurd (none_longer lines is.0 also.before also.after also.line also.parts)
  one_bad_line lines a b (inr (inl is)) (inl also) = absurd (omega (arith, ap length also.0, is.0))
  one_bad_line lines a b (inr (inl is)) (inr (inl also)) = is.1 ∙ sym also.1
  one_bad_line lines a b (inr (inl is)) (inr (inr also)) = absurd (omega (arith, is.0, also.few))
  one_bad_line lines a b (inr (inr is)) (inl also) = absurd (none_longer lines also.0 is.before is.after is.line is.parts)
  one_bad_line lines a b (inr (inr is)) (inr (inl also)) = absurd (omega (arith, also.0, is.few))
  one_bad_line lines a b (inr (inr is)) (inr (inr also)) =
      let same = first_bad is.before also.before is.after also.after is.line also.line is.good.0 also.good.0 is.good.1 is.bad also.good.1 also.bad (sym is.parts ∙ also.parts) in
      omega (arith, same, is.counted, also.counted)

  list_not_refused : (bytes : List ℕ) (values : List V) (stop : Stop) → IsListStop Spells most bytes stop → IsListOf Spells most bytes values → ⊥
  list_not_refused bytes values stop (number, bad, same) is = no_bad_line bytes values is number bad

  one_list_stop : (bytes : List ℕ) (a b : Stop) → IsListStop Spells most bytes a → IsListStop Spells most bytes b → a ≡ b
  one_list_stop bytes a b (number, is, same) (other, also, like) =
      same ∙ ap (λ (line : ℕ). Input (line_of_bad_line line)) (one_bad_line (lines_of bytes) number other is also) ∙ sym like

  -- so bytes are one list, or stop in one way
  pub list_one : ((line : List ℕ) (a b : V) → Spells line a → Spells line b → a ≡ b) → (bytes : List ℕ)
      → IsOne (IsListOf Spells most bytes) (IsListStop Spells most bytes)
  list_one one bytes = record {
    single = λ a b is also. same_zip Spells one (lines_of bytes) a b is.each also.each;
    breaks = list_not_refused bytes;
    one = one_list_stop bytes;
  }
