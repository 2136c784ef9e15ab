-- Runs of like parts in bytes.
use Rattle.std.proofs.Common.{◌≡◌, ℕ, zero, suc, ◌+◌, List, [], ◌∷◌, ◌++◌, length, drop, refl, sym, ap, subst}
use Rattle.std.specs.List.{flat_map}
use Rattle.ats_grammar.specs.declared.fault.ShapeKind.{ShapeKind}
use Rattle.ats_grammar.specs.Table.{Table, Number}
use Rattle.ats_proof.specs.Parts.{spelled, number_in, parts_in, total_size, counted_in, counted_size, counted}
use Rattle.ats_proof.proofs.Standing.{Stands, HasFront, both, nothing, has_number}

-- n parts, each of which leads by a state to what the next may be, then the last argument
abbrev pub runs : {S : Type 0} → (S → (S → Table) → Table) → ℕ → S → (S → Table) → Table
runs part zero s last = last s
runs part (suc n) s last = part s (λ t. runs part n t last)

-- the state after the parts
abbrev pub state_after : {S X : Type 0} → (S → X → S) → S → List X → S
state_after next s [] = s
state_after next s (x ∷ xs) = state_after next (next s x) xs

pub length-parts : {X : Type 0} (size : List ℕ → ℕ) (read : List ℕ → X) (n : ℕ) (bytes : List ℕ) → length (parts_in size read n bytes) ≡ n
length-parts size read zero bytes = refl
length-parts size read (suc n) bytes = ap suc (length-parts size read n (drop (size bytes) bytes))

module _ {S X : Type 0} (part : S → (S → Table) → Table) (size : List ℕ → ℕ) (read : List ℕ → X) (spell : X → List (List ℕ)) (next : S → X → S) (one : (s : S) (k : S → Table) (fields : List (List ℕ)) (bytes : List ℕ) → Stands (part s k) fields bytes → HasFront (spell (read bytes)) (size bytes) (k (next s (read bytes))) fields bytes) where
  pub has_run : (n : ℕ) (s : S) (last : S → Table) (fields : List (List ℕ)) (bytes : List ℕ) → Stands (runs part n s last) fields bytes
      → HasFront (flat_map spell (parts_in size read n bytes)) (total_size size n bytes) (last (state_after next s (parts_in size read n bytes))) fields bytes
  has_run zero s last fields bytes is = nothing (last s) fields bytes is
  has_run (suc n) s last fields bytes is =
      let first = one s (λ t. runs part n t last) fields bytes is in
      let following = drop (size bytes) bytes in
      let more = has_run n (next s (read bytes)) last first.after following first.stands in
      both (spell (read bytes)) (size bytes) (runs part n (next s (read bytes)) last) fields bytes
      (flat_map spell (parts_in size read n following)) (total_size size n following) (last (state_after next (next s (read bytes)) (parts_in size read n following))) first more

  -- a front, and a run after it
  pub then_run : {a : List (List ℕ)} {k : ℕ} (n : ℕ) (s : S) (last : S → Table) {fields : List (List ℕ)} {bytes : List ℕ} → HasFront a k (runs part n s last) fields bytes
      → HasFront (a ++ flat_map spell (parts_in size read n (drop k bytes))) (k + total_size size n (drop k bytes)) (last (state_after next s (parts_in size read n (drop k bytes)))) fields bytes
  then_run {a} {k} n s last {fields} {bytes} is =
      let following = drop k bytes in
      both a k (runs part n s last) fields bytes (flat_map spell (parts_in size read n following)) (total_size size n following) (last (state_after next s (parts_in size read n following)))
      is (has_run n s last is.after following is.stands)

  -- a number of parts, and a run of as many
  pub has_counted : (width low high : ℕ) (kind : ShapeKind) (s : S) (last : ℕ → S → Table) (fields : List (List ℕ)) (bytes : List ℕ)
      → Stands (Number width low high kind (λ n. runs part n s (last n))) fields bytes
      → HasFront (counted width spell (counted_in width size read bytes)) (counted_size width size bytes) (last (number_in width bytes) (state_after next s (counted_in width size read bytes))) fields bytes
  has_counted width low high kind s last fields bytes is =
      let n = number_in width bytes in
      let a = has_number width low high kind (λ m. runs part m s (last m)) fields bytes is in
      subst (λ (m : ℕ). HasFront (spelled width m ∷ flat_map spell (counted_in width size read bytes)) (counted_size width size bytes) (last n (state_after next s (counted_in width size read bytes))) fields bytes)
      (sym (length-parts size read n (drop width bytes))) (then_run n s (last n) a.front)

  pub then_counted : {a : List (List ℕ)} {k width low high : ℕ} {kind : ShapeKind} (s : S) (last : ℕ → S → Table) {fields : List (List ℕ)} {bytes : List ℕ}
      → HasFront a k (Number width low high kind (λ n. runs part n s (last n))) fields bytes
      → HasFront (a ++ counted width spell (counted_in width size read (drop k bytes))) (k + counted_size width size (drop k bytes))
      (last (number_in width (drop k bytes)) (state_after next s (counted_in width size read (drop k bytes)))) fields bytes
  then_counted {a} {k} {width} {low} {high} {kind} s last {fields} {bytes} is =
      let following = drop k bytes in
      both a k (Number width low high kind (λ n. runs part n s (last n))) fields bytes (counted width spell (counted_in width size read following)) (counted_size width size following)
      (last (number_in width following) (state_after next s (counted_in width size read following))) is (has_counted width low high kind s last is.after following is.stands)
