-- What the lines of a list ask for, line by line.
use Rattle.std.proofs.Common.{◌≡◌, ◌⊎◌, ◌∷◌, ◌<◌, ◌≤◌, ◌+◌, ℕ, List, [], length, refl, sym, ap, subst, ◌∙◌, inl, inr, arith}
use Rattle.std.specs.List.{AllZip}
use Rattle.std.proofs.lemmas.Slice.Zip.{AllZip-long}
use Rattle.ats_terms.specs.Query.{HasQuery}
use Rattle.ats_console.specs.Lists.{lines_of, IsListOf, IsBadLine}
use Rattle.ats_console.proofs.Public.{AreRead, next_bad}
use Rattle.ats_auditors.specs.Listed.{Listed, IsListed, names_of}
use Rattle.ats_auditors.specs.Inner.Sweeping.{IsEntry, IsSpelledAs, entry_names}
use Rattle.ats_auditors.specs.declared.listing.Entry.{Entry}
use Rattle.ats_auditors.proofs.OneListed.{one_spelled}

-- ---- one line

module _ (line : List ℕ) (r : ℕ) (proof query : List ℕ) (is : IsSpelledAs line r proof query) where
  spelled_rows : (listed : Listed) → IsListed line listed → listed.r ≡ r
  spelled_rows listed has = ap (λ (l : Listed). l.r) (one_spelled line listed (record { r = r; proof = proof; query = query }) has.spelled is)

  spelled_query : (listed : Listed) → IsListed line listed → listed.query ≡ query
  spelled_query listed has = ap (λ (l : Listed). l.query) (one_spelled line listed (record { r = r; proof = proof; query = query }) has.spelled is)

  -- rows or a query out of the limits
  pub rows_out : (r ≡ 0) ⊎ (1000 < r) → (listed : Listed) → IsListed line listed → ⊥
  rows_out (inl none) listed has = omega (arith, none, spelled_rows listed has, has.some)
  rows_out (inr many) listed has = omega (arith, many, spelled_rows listed has, has.few)

  pub query_out : (HasQuery query → ⊥) → (listed : Listed) → IsListed line listed → ⊥
  query_out none listed has = none (subst HasQuery (spelled_query listed has) has.query)

-- ---- all lines

-- what entries ask for
abbrev pub listed_of : (lines : List (List ℕ)) (entries : List Entry) → AllZip IsEntry lines entries → List Listed
listed_of [] [] are = []
listed_of [] (entry ∷ entries) are = absurd are
listed_of (line ∷ lines) [] are = absurd are
listed_of (line ∷ lines) (entry ∷ entries) are = are.0.listed ∷ listed_of lines entries are.1

pub listed_are : (lines : List (List ℕ)) (entries : List Entry) (are : AllZip IsEntry lines entries) → AllZip IsListed lines (listed_of lines entries are)
listed_are [] [] are = tt
listed_are [] (entry ∷ entries) are = absurd are
listed_are (line ∷ lines) [] are = absurd are
listed_are (line ∷ lines) (entry ∷ entries) are = (are.0.is, listed_are lines entries are.1)

pub listed_names : (lines : List (List ℕ)) (entries : List Entry) (are : AllZip IsEntry lines entries) → names_of (listed_of lines entries are) ≡ entry_names entries
listed_names [] [] are = refl
listed_names [] (entry ∷ entries) are = absurd are
listed_names (line ∷ lines) [] are = absurd are
listed_names (line ∷ lines) (entry ∷ entries) are =
    ap (λ (name : List ℕ). name ∷ names_of (listed_of lines entries are.1)) (sym are.0.proof)
    ∙ ap (λ (names : List (List ℕ)). entry.proof.now ∷ names) (listed_names lines entries are.1)

-- the list of the entries that were read
pub list_is : (bytes : List ℕ) (entries : List Entry) (are : AllZip IsEntry (lines_of bytes) entries) → 1 ≤ length entries → length entries ≤ 1000
    → IsListOf IsListed 1000 bytes (listed_of (lines_of bytes) entries are)
list_is bytes entries are some few =
    let each = listed_are (lines_of bytes) entries are in
    let long = AllZip-long IsListed (lines_of bytes) (listed_of (lines_of bytes) entries are) each in
    let other = AllZip-long IsEntry (lines_of bytes) entries are in
    record { some = omega (arith, long, other, some); few = omega (arith, long, other, few); each = each }

-- what was read of a list, as what its lines ask for
read_listed : (bytes rest : List ℕ) (entries : List Entry) (read : AreRead IsEntry bytes rest entries) → AreRead IsListed bytes rest (listed_of read.done entries read.are)
read_listed bytes rest entries read = record { done = read.done; parts = read.parts; are = listed_are read.done entries read.are }

-- the next line is bad
pub next_line_bad : (bytes rest line after : List ℕ) (entries : List Entry) → AreRead IsEntry bytes rest entries → lines_of rest ≡ line ∷ lines_of after
    → length (lines_of bytes) ≤ 1000 → ((listed : Listed) → IsListed line listed → ⊥) → IsBadLine IsListed 1000 (lines_of bytes) (length entries + 1)
next_line_bad bytes rest line after entries read next few bad =
    let listed = listed_of read.done entries read.are in
    let same : length listed ≡ length entries =
    AllZip-long IsListed read.done listed (listed_are read.done entries read.are) ∙ sym (AllZip-long IsEntry read.done entries read.are) in
    subst (λ (n : ℕ). IsBadLine IsListed 1000 (lines_of bytes) (n + 1)) same
    (next_bad IsListed 1000 bytes rest line after listed (read_listed bytes rest entries read) next few bad)
