-- What a reader knows of the bytes after some digests of a run.
use Rattle.std.proofs.Common.{◌≡◌, ◌∙◌, ℕ, suc, ◌+◌, ◌-◌, ◌<◌, ◌≤◌, List, [], ◌∷◌, ◌++◌, length, take, refl, sym, ap, subst, append_assoc, length-append, arith}
use Rattle.std.specs.List.{All, concat}
use Rattle.std.proofs.lemmas.List.{append-nil, take_at}
use Rattle.std.proofs.lemmas.List.Elements.{All-nil, All-cons, All-append}
use Rattle.std.proofs.lemmas.List.Folds.{concat-append}
use Rattle.ats_grammar.specs.declared.fault.ShapeFault.{ShapeFault}
use Rattle.ats_grammar.specs.declared.reader.Reader.{Reader}
use Rattle.ats_grammar.specs.Table.{Table, Bytes}
use Rattle.ats_grammar.specs.Grammar.{digests}
use Rattle.ats_grammar.specs.Position.{StandsBefore, Passes, HasFault, AreDigests}
use Rattle.ats_grammar.proofs.Positions.{passes_both, fault_after}

abbrev IsDigest : List ℕ → Type 0
IsDigest digest = length digest ≡ 32

-- the first i of `count` digests were taken
pub record IsInRun (count i : ℕ) (reader later : Reader) : Type 0 where
  pub taken : List (List ℕ)
  pub many : length taken ≡ i
  pub sized : All (λ digest. length digest ≡ 32) taken
  pub passes : (rest : Table) → Passes reader later (digests count rest) taken (digests (count - i) rest)
  pub parts : reader.rest.now ≡ concat taken ++ later.rest.now

pub run_start : (count : ℕ) (reader : Reader) → IsInRun count 0 reader reader
run_start count reader = record {
  taken = [];
  many = refl;
  sized = All-nil IsDigest;
  passes = λ rest schema bytes fields stands.
      let none : count ≡ count - 0 = omega arith in
      subst (λ (k : ℕ). StandsBefore schema bytes (fields ++ []) reader (digests k rest)) none
      (subst (λ (xs : List (List ℕ)). StandsBefore schema bytes xs reader (digests count rest)) (sym (append-nil fields)) stands);
  parts = refl;
}

-- one of those that are left
one_left : (count i : ℕ) (rest : Table) → i < count → digests (count - i) rest ≡ Bytes 32 (digests (count - (i + 1)) rest)
one_left count i rest below = let e : count - i ≡ suc (count - (i + 1)) = omega (arith, below) in ap (λ (k : ℕ). digests k rest) e

pub run_more : (count i : ℕ) (reader before later : Reader) (digest : List ℕ) → i < count → IsInRun count i reader before
    → ((rest : Table) → Passes before later (Bytes 32 rest) (digest ∷ []) rest) → length digest ≡ 32 → before.rest.now ≡ digest ++ later.rest.now
    → IsInRun count (i + 1) reader later
run_more count i reader before later digest below run read size parts = record {
  taken = run.taken ++ digest ∷ [];
  many = omega (arith, run.many, length-append run.taken (digest ∷ []));
  sized = All-append IsDigest run.taken (digest ∷ []) run.sized (All-cons IsDigest digest [] size (All-nil IsDigest));
  passes = λ rest.
      let first = subst (λ (t : Table). Passes reader before (digests count rest) run.taken t) (one_left count i rest below) (run.passes rest) in
      passes_both reader before later (digests count rest) (Bytes 32 (digests (count - (i + 1)) rest)) (digests (count - (i + 1)) rest) run.taken (digest ∷ []) first
      (read (digests (count - (i + 1)) rest));
  parts = run.parts ∙ ap (λ (xs : List ℕ). concat run.taken ++ xs) parts ∙ sym (append_assoc (concat run.taken) digest later.rest.now)
      ∙ ap (λ (xs : List ℕ). (concat run.taken ++ xs) ++ later.rest.now) (sym (append-nil digest))
      ∙ ap (λ (xs : List ℕ). xs ++ later.rest.now) (sym (concat-append run.taken (digest ∷ [])));
}

pub run_fault : (count i : ℕ) (reader before : Reader) (fault : ShapeFault) → i < count → IsInRun count i reader before
    → ((rest : Table) → HasFault before (Bytes 32 rest) fault) → (rest : Table) → HasFault reader (digests count rest) fault
run_fault count i reader before fault below run refused rest =
    let first = subst (λ (t : Table). Passes reader before (digests count rest) run.taken t) (one_left count i rest below) (run.passes rest) in
    fault_after reader before (digests count rest) (Bytes 32 (digests (count - (i + 1)) rest)) run.taken fault first (refused (digests (count - (i + 1)) rest))

-- ---- a whole run

pub run_passes : (count i : ℕ) (reader later : Reader) (run : IsInRun count i reader later) → count ≤ i → (rest : Table) → Passes reader later (digests count rest) run.taken rest
run_passes count i reader later run whole rest =
    let none : count - i ≡ 0 = omega (arith, whole) in
    subst (λ (k : ℕ). Passes reader later (digests count rest) run.taken (digests k rest)) none (run.passes rest)

pub run_digests : (count : ℕ) (reader later : Reader) (run : IsInRun count count reader later) (lent : List ℕ)
    → lent ≡ take (length reader.rest.now - length later.rest.now) reader.rest.now → AreDigests count lent run.taken
run_digests count reader later run lent is =
    let size : length (concat run.taken) ≡ length reader.rest.now - length later.rest.now = omega (arith, ap length run.parts, length-append (concat run.taken) later.rest.now) in
    record {
      many = run.many;
      sized = run.sized;
      join = is ∙ ap (take (length reader.rest.now - length later.rest.now)) run.parts ∙ take_at (concat run.taken) later.rest.now (length reader.rest.now - length later.rest.now) size;
    }
