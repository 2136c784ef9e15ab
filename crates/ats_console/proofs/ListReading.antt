-- A list that is read line by line.
use Rattle.std.proofs.Common.{◌≡◌, ◌++◌, ◌∷◌, ◌≤◌, ◌+◌, ℕ, List, [], length, refl, sym, ap, subst, ◌∙◌, inr, arith, append-nil, append_assoc}
use Rattle.std.specs.List.{AllZip}
use Rattle.std.proofs.lemmas.Slice.Zip.{AllZip-long}
use Rattle.ats_console.specs.Lists.{lines_of, IsBadLine}

-- the lines before the rest spell these values
pub record AreRead {V : Type 0} (Spells : List ℕ → V → Type 0) (bytes rest : List ℕ) (values : List V) : Type 0 where
  pub done : List (List ℕ)
  pub parts : lines_of bytes ≡ done ++ lines_of rest
  pub are : AllZip Spells done values

pub no_lines : (lines : List (List ℕ)) → length lines ≡ 0 → lines ≡ []
no_lines [] none = refl
no_lines (l ∷ lines) none = absurd (omega (arith, none))

module _ {V : Type 0} (Spells : List ℕ → V → Type 0) where
  one_more : (lines : List (List ℕ)) (values : List V) (line : List ℕ) (value : V) → AllZip Spells lines values → Spells line value
      → AllZip Spells (lines ++ line ∷ []) (values ++ value ∷ [])
  one_more [] [] line value are is = (is, tt)
  one_more [] (v ∷ values) line value are is = absurd are
  one_more (l ∷ lines) [] line value are is = absurd are
  one_more (l ∷ lines) (v ∷ values) line value are is = (are.0, one_more lines values line value are.1 is)

  pub read_more : (bytes rest line after : List ℕ) (values : List V) (value : V) → AreRead Spells bytes rest values
      → lines_of rest ≡ line ∷ lines_of after → Spells line value → AreRead Spells bytes after (values ++ value ∷ [])
  read_more bytes rest line after values value read next is = record {
    done = read.done ++ line ∷ [];
    parts = read.parts ∙ ap (λ (lines : List (List ℕ)). read.done ++ lines) next ∙ sym (append_assoc read.done (line ∷ []) (lines_of after));
    are = one_more read.done values line value read.are is;
  }

  -- all lines are read if nothing is left
  pub all_read : (bytes rest : List ℕ) (values : List V) → AreRead Spells bytes rest values → length rest ≡ 0 → AllZip Spells (lines_of bytes) values
  all_read bytes [] values read none = subst (λ (lines : List (List ℕ)). AllZip Spells lines values) (sym (read.parts ∙ append-nil read.done)) read.are
  all_read bytes (byte ∷ rest) values read none = absurd (omega (arith, none))

  pub as_many_read : (bytes rest : List ℕ) (values : List V) → AreRead Spells bytes rest values → length rest ≡ 0
      → length values ≡ length (lines_of bytes)
  as_many_read bytes rest values read none = AllZip-long Spells (lines_of bytes) values (all_read bytes rest values read none)

  -- the next line is bad
  pub next_bad : (most : ℕ) (bytes rest line after : List ℕ) (values : List V) → AreRead Spells bytes rest values
      → lines_of rest ≡ line ∷ lines_of after → length (lines_of bytes) ≤ most → ((value : V) → Spells line value → ⊥)
      → IsBadLine Spells most (lines_of bytes) (length values + 1)
  next_bad most bytes rest line after values read next few bad = inr (inr (record {
    few = few;
    before = read.done;
    line = line;
    after = lines_of after;
    parts = read.parts ∙ ap (λ (lines : List (List ℕ)). read.done ++ lines) next;
    good = (values, read.are);
    bad = bad;
    counted = ap (λ (n : ℕ). n + 1) (AllZip-long Spells read.done values read.are);
  }))
