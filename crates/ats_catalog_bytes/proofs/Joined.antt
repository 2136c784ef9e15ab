-- Proofs of shards one after another in bytes: what is read of the first, and of all.
use Rattle.std.proofs.Common.{◌≡◌, ◌∙◌, ℕ, List, [], ◌∷◌, ◌++◌, length, take, drop, refl, sym, ap, ap₂, append_assoc, length-append, arith}
use Rattle.std.specs.List.{concat, flat_map}
use Rattle.std.proofs.lemmas.List.{take_at, drop_at}
use Rattle.ats_grammar.specs.Table.{spelled, number}
use Rattle.ats_grammar.proofs.Public.{length-spelled, number-spelled}
use Rattle.ats_proof.specs.Parts.{number_in, total_size}
use Rattle.ats_catalog_bytes.specs.Bytes.{proof_size, proof_in, shards_in, HaveRoom}
use Rattle.ats_catalog_bytes.specs.Value.{Framed, shown_roots, proof_fields, proofs_fields}

-- a proof after its length, and what comes after it
abbrev pub with_proof : List ℕ → List ℕ → List ℕ
with_proof bytes rest = spelled 4 (length bytes) ++ (bytes ++ rest)

length-read : (bytes rest : List ℕ) → number_in 4 (with_proof bytes rest) ≡ length bytes
length-read bytes rest =
    ap number (take_at (spelled 4 (length bytes)) (bytes ++ rest) 4 (length-spelled 4 (length bytes))) ∙ number-spelled 3 (length bytes)

proof-read : (bytes rest : List ℕ) → proof_in (with_proof bytes rest) ≡ bytes
proof-read bytes rest =
    ap₂ (λ (n : ℕ) (xs : List ℕ). take n xs) (length-read bytes rest)
    (drop_at (spelled 4 (length bytes)) (bytes ++ rest) 4 (length-spelled 4 (length bytes)))
    ∙ take_at bytes rest (length bytes) refl

rest-read : (bytes rest : List ℕ) → drop (proof_size (with_proof bytes rest)) (with_proof bytes rest) ≡ rest
rest-read bytes rest =
    let front : List ℕ = spelled 4 (length bytes) in
    let parts : with_proof bytes rest ≡ (front ++ bytes) ++ rest = sym (append_assoc front bytes rest) in
    let size : length (front ++ bytes) ≡ proof_size (with_proof bytes rest) =
    omega (arith, length-append front bytes, length-spelled 4 (length bytes), length-read bytes rest) in
    ap (drop (proof_size (with_proof bytes rest))) parts ∙ drop_at (front ++ bytes) rest (proof_size (with_proof bytes rest)) size

-- the proofs joined, each after its length
abbrev pub joined : List (List ℕ) → List ℕ
joined proofs = concat (flat_map proof_fields proofs)

-- shards in any bytes have the roots that were given
pub roots-kept : (roots : List (List ℕ)) (bytes : List ℕ) → shown_roots (shards_in roots bytes) ≡ roots
roots-kept [] bytes = refl
roots-kept (root ∷ roots) bytes = ap (λ (more : List (List ℕ)). root ∷ more) (roots-kept roots (drop (proof_size bytes) bytes))

pub shards-counted : (roots : List (List ℕ)) (bytes : List ℕ) → length (shards_in roots bytes) ≡ length roots
shards-counted [] bytes = refl
shards-counted (root ∷ roots) bytes = omega (arith, shards-counted roots (drop (proof_size bytes) bytes))

-- the shards that such bytes have are those that were spelled
pub shards-joined : (shards : List Framed) → shards_in (shown_roots shards) (concat (proofs_fields shards)) ≡ shards
shards-joined [] = refl
shards-joined (one ∷ shards) =
    let rest : List ℕ = concat (proofs_fields shards) in
    let later : shards_in (shown_roots shards) (drop (proof_size (with_proof one.bytes rest)) (with_proof one.bytes rest)) ≡ shards =
    ap (shards_in (shown_roots shards)) (rest-read one.bytes rest) ∙ shards-joined shards in
    ap₂ (λ (bytes : List ℕ) (more : List Framed). let first : Framed = record { root = one.root; bytes = bytes } in first ∷ more)
    (proof-read one.bytes rest) later

-- and the proofs are those that were joined
pub proofs-kept : (roots proofs : List (List ℕ)) → length proofs ≡ length roots → proofs_fields (shards_in roots (joined proofs)) ≡ flat_map proof_fields proofs
proofs-kept [] [] same = refl
proofs-kept [] (bytes ∷ proofs) same = absurd (omega (arith, same))
proofs-kept (root ∷ roots) [] same = absurd (omega (arith, same))
proofs-kept (root ∷ roots) (bytes ∷ proofs) same =
    let rest : List ℕ = joined proofs in
    ap₂ (λ (first : List ℕ) (xs : List ℕ). proof_fields first ++ proofs_fields (shards_in roots xs)) (proof-read bytes rest) (rest-read bytes rest)
    ∙ ap (λ (more : List (List ℕ)). proof_fields bytes ++ more) (proofs-kept roots proofs (omega (arith, same)))

size-joined : (proofs : List (List ℕ)) → total_size proof_size (length proofs) (joined proofs) ≡ length (joined proofs)
size-joined [] = refl
size-joined (bytes ∷ proofs) =
    let rest : List ℕ = joined proofs in
    let later : total_size proof_size (length proofs) (drop (proof_size (with_proof bytes rest)) (with_proof bytes rest)) ≡ length rest =
    ap (total_size proof_size (length proofs)) (rest-read bytes rest) ∙ size-joined proofs in
    let first = length-read bytes rest in
    let all = length-append (spelled 4 (length bytes)) (bytes ++ rest) in
    let parts = length-append bytes rest in
    omega (arith, later, first, all, parts, length-spelled 4 (length bytes))

-- such bytes have room for the proofs
pub room : (roots proofs : List (List ℕ)) → length proofs ≡ length roots → HaveRoom roots (joined proofs)
room roots proofs same =
    let sizes : total_size proof_size (length roots) (joined proofs) ≡ length (joined proofs) =
    ap (λ (n : ℕ). total_size proof_size n (joined proofs)) (sym same) ∙ size-joined proofs in
    omega (arith, sizes)
