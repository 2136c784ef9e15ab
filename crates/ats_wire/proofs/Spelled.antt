-- A body that begins as a request spells one.
use Rattle.std.proofs.Common.{◌⊎◌, inl, inr, ◌≡◌, ◌≤◌, ◌<◌, ◌-◌, ◌∙◌, ℕ, zero, suc, List, [], ◌∷◌, ◌++◌, length, get_or, take, drop, take_all, length-drop, refl, sym, ap, arith}
use Rattle.std.specs.Int.{to_be_bytes, w16}
use Rattle.byteorder.specs.Endian.{big_number}
use Rattle.ats_proof.specs.declared.record.Algorithm.{Algorithm}
use Rattle.ats_proof.specs.declared.record.Algorithm.TheVariants.{Tra, Tnra}
use Rattle.byteorder.specs.Numbers.{big_number-reads_back}
use Rattle.ats_wire.specs.Requests.{Question, Spells, Asks, IsRefused, request_body, algorithm_byte}
use Rattle.ats_wire.proofs.Numbers.{number_2}

two_small : (a b : ℕ) → a < 256 → b < 256 → (i : ℕ) → get_or (a ∷ b ∷ []) i 0 < 256
two_small a b small_a small_b zero = small_a
two_small a b small_a small_b (suc zero) = small_b
two_small a b small_a small_b (suc (suc i)) = omega arith

pair : (a b : ℕ) (rest : List ℕ) → a < 256 → b < 256 → to_be_bytes w16 (big_number 2 (a ∷ b ∷ rest)) ≡ a ∷ b ∷ []
pair a b rest small_a small_b = number_2 (a ∷ b ∷ []) refl (two_small a b small_a small_b)

pub is_spelled : (body : List ℕ) (algorithm : Algorithm) (rows long : ℕ)
    → 6 ≤ length body → ((i : ℕ) → get_or body i 0 < 256)
    → get_or body 0 0 ≡ 1 → get_or body 1 0 ≡ algorithm_byte algorithm
    → rows ≡ big_number 2 (drop 2 body) → long ≡ big_number 2 (drop 4 body) → long ≡ length body - 6
    → body ≡ request_body algorithm rows (drop 6 body)
is_spelled [] algorithm rows long space small version which is_rows is_long fits = absurd (omega arith)
is_spelled (a ∷ []) algorithm rows long space small version which is_rows is_long fits = absurd (omega arith)
is_spelled (a ∷ b ∷ []) algorithm rows long space small version which is_rows is_long fits = absurd (omega arith)
is_spelled (a ∷ b ∷ c ∷ []) algorithm rows long space small version which is_rows is_long fits = absurd (omega arith)
is_spelled (a ∷ b ∷ c ∷ d ∷ []) algorithm rows long space small version which is_rows is_long fits = absurd (omega arith)
is_spelled (a ∷ b ∷ c ∷ d ∷ e ∷ []) algorithm rows long space small version which is_rows is_long fits = absurd (omega arith)
is_spelled (a ∷ b ∷ c ∷ d ∷ e ∷ f ∷ query) algorithm rows long space small version which is_rows is_long fits =
    let rows_bytes : to_be_bytes w16 rows ≡ c ∷ d ∷ [] = ap (to_be_bytes w16) is_rows ∙ pair c d (e ∷ f ∷ query) (small 2) (small 3) in
    let same_long : length query ≡ big_number 2 (e ∷ f ∷ query) = sym (sym is_long ∙ fits ∙ omega arith) in
    let long_bytes : to_be_bytes w16 (length query) ≡ e ∷ f ∷ [] = ap (to_be_bytes w16) same_long ∙ pair e f query (small 4) (small 5) in
    let kind : ℕ = algorithm_byte algorithm in
    ap (λ (x : ℕ). x ∷ b ∷ c ∷ d ∷ e ∷ f ∷ query) version
    ∙ ap (λ (x : ℕ). 1 ∷ x ∷ c ∷ d ∷ e ∷ f ∷ query) which
    ∙ ap (λ (x : List ℕ). 1 ∷ kind ∷ x ++ (e ∷ f ∷ query)) (sym rows_bytes)
    ∙ ap (λ (x : List ℕ). 1 ∷ kind ∷ to_be_bytes w16 rows ++ (x ++ query)) (sym long_bytes)

-- the range from a place to the end
pub to_end : (k : ℕ) (bytes : List ℕ) → take (length bytes - k) (drop k bytes) ≡ drop k bytes
to_end k bytes = take_all (length bytes - k) (drop k bytes) (omega (arith, length-drop k bytes))

same_algorithm : (one other : Algorithm) → algorithm_byte one ≡ algorithm_byte other → one ≡ other
same_algorithm Tra Tra is = refl
same_algorithm Tra Tnra is = absurd (cc)
same_algorithm Tnra Tra is = absurd (cc)
same_algorithm Tnra Tnra is = refl

rows_back : (body : List ℕ) (algorithm : Algorithm) (rows : ℕ) (query : List ℕ) → Spells body algorithm rows query → big_number 2 (drop 2 body) ≡ rows
rows_back body algorithm rows query spells =
    ap (λ (xs : List ℕ). big_number 2 (drop 2 xs)) spells.is ∙ big_number-reads_back 2 rows (to_be_bytes w16 (length query) ++ query) spells.small

-- a body spells one request at most
pub spelled_once : (body : List ℕ) (one other : Algorithm) (rows more : ℕ) (query words : List ℕ)
    → Spells body one rows query → Spells body other more words → (one ≡ other) × (rows ≡ more) × (query ≡ words)
spelled_once body one other rows more query words first second = (
  same_algorithm one other (sym (ap (λ (xs : List ℕ). get_or xs 1 0) first.is) ∙ ap (λ (xs : List ℕ). get_or xs 1 0) second.is),
  sym (rows_back body one rows query first) ∙ rows_back body other more words second,
  sym (ap (λ (xs : List ℕ). drop 6 xs) first.is) ∙ ap (λ (xs : List ℕ). drop 6 xs) second.is,
)

out_of_range : (top rows : ℕ) → top ≡ rows → 1 ≤ top → top ≤ 1000 → (rows ≡ 0) ⊎ (1000 < rows) → ⊥
out_of_range top rows same some few (inl none) = omega arith
out_of_range top rows same some few (inr many) = omega arith

-- what asks a question is refused by no code
pub not_refused : (body : List ℕ) (question : Question) (code : ℕ) → Asks body question → IsRefused body code → ⊥
not_refused body question code asks (inl (one, none)) = none question.algorithm question.top question.query asks.spells
not_refused body question code asks (inr (four, (algorithm, rows, query, spells, out))) =
    let same = spelled_once body question.algorithm algorithm question.top rows question.query query asks.spells spells in
    out_of_range question.top rows same.1 asks.some asks.few out
