-- How the proofs of shards are passed, one after another.
use Rattle.std.proofs.Common.{◌≡◌, ◌∙◌, ℕ, suc, ◌+◌, ◌-◌, ◌<◌, ◌^◌, List, [], ◌∷◌, ◌++◌, length, refl, sym, ap, subst, append_assoc, length-append, arith}
use Rattle.std.specs.List.{flat_map}
use Rattle.std.proofs.lemmas.List.{append-nil}
use Rattle.std.proofs.lemmas.List.Concat.{flat_map-append}
use Rattle.ats_grammar.specs.declared.fault.ShapeFault.{ShapeFault}
use Rattle.ats_grammar.specs.declared.fault.ShapeKind.TheVariants.{Count}
use Rattle.ats_grammar.specs.declared.reader.Reader.{Reader}
use Rattle.ats_grammar.specs.Position.{StandsBefore, Passes, HasFault}
use Rattle.ats_grammar.specs.Table.{Table, End, Number, Bytes, spelled}
use Rattle.ats_catalog_bytes.specs.Grammar.{shard_proof, shard_proofs}
use Rattle.ats_catalog_bytes.specs.Value.{proof_fields}

-- a length and as many bytes are a proof
pub proof_passes : (a b c : Reader) (size : ℕ) (lent : List ℕ) → length lent ≡ size
    → ((rest : ℕ → Table) → Passes a b (Number 4 0 (2 ^ 26) Count rest) (spelled 4 size ∷ []) (rest size))
    → ((rest : Table) → Passes b c (Bytes size rest) (lent ∷ []) rest)
    → (rest : Table) → Passes a c (shard_proof rest) (proof_fields lent) rest
proof_passes a b c size lent same first second rest schema bytes fields stands =
    let one : List (List ℕ) = spelled 4 size ∷ [] in
    let read = second rest schema bytes (fields ++ one) (first (λ n. Bytes n rest) schema bytes fields stands) in
    let whole : (fields ++ one) ++ (lent ∷ []) ≡ fields ++ proof_fields lent =
    append_assoc fields one (lent ∷ []) ∙ ap (λ (n : ℕ). fields ++ (spelled 4 n ∷ lent ∷ [])) (sym same) in
    subst (λ (fs : List (List ℕ)). StandsBefore schema bytes fs c rest) whole read

-- the first i of so many proofs were passed
pub record ArePassed (count i : ℕ) (reader later : Reader) : Type 0 where
  pub proofs : List (List ℕ)
  pub many : length proofs ≡ i
  pub passes : Passes reader later (shard_proofs count) (flat_map proof_fields proofs) (shard_proofs (count - i))

pub none_passed : (count : ℕ) (reader : Reader) → ArePassed count 0 reader reader
none_passed count reader = record {
  proofs = [];
  many = refl;
  passes = λ schema bytes fields stands.
      let none : count ≡ count - 0 = omega arith in
      subst (λ (k : ℕ). StandsBefore schema bytes (fields ++ []) reader (shard_proofs k)) none
      (subst (λ (xs : List (List ℕ)). StandsBefore schema bytes xs reader (shard_proofs count)) (sym (append-nil fields)) stands);
}

-- one of those that are left
one_left : (count i : ℕ) → i < count → shard_proofs (count - i) ≡ shard_proof (shard_proofs (count - (i + 1)))
one_left count i below = let e : count - i ≡ suc (count - (i + 1)) = omega (arith, below) in ap shard_proofs e

pub one_passed : (count i : ℕ) (reader before later : Reader) → i < count → ArePassed count i reader before
    → ((bytes : List ℕ) × ((rest : Table) → Passes before later (shard_proof rest) (proof_fields bytes) rest))
    → ArePassed count (i + 1) reader later
one_passed count i reader before later below so_far (lent, passes) = record {
  proofs = so_far.proofs ++ lent ∷ [];
  many = omega (arith, so_far.many, length-append so_far.proofs (lent ∷ []));
  passes = λ schema bytes fields stands.
      let done : List (List ℕ) = flat_map proof_fields so_far.proofs in
      let here = subst (λ (t : Table). StandsBefore schema bytes (fields ++ done) before t) (one_left count i below)
      (so_far.passes schema bytes fields stands) in
      let next = passes (shard_proofs (count - (i + 1))) schema bytes (fields ++ done) here in
      let whole : (fields ++ done) ++ proof_fields lent ≡ fields ++ flat_map proof_fields (so_far.proofs ++ lent ∷ []) =
      append_assoc fields done (proof_fields lent)
      ∙ ap (λ (more : List (List ℕ)). fields ++ (done ++ more)) (sym (append-nil (proof_fields lent)))
      ∙ ap (λ (all : List (List ℕ)). fields ++ all) (sym (flat_map-append proof_fields so_far.proofs (lent ∷ []))) in
      subst (λ (fs : List (List ℕ)). StandsBefore schema bytes fs later (shard_proofs (count - (i + 1)))) whole next;
}

pub one_fails : (count i : ℕ) (reader before : Reader) (fault : ShapeFault) → i < count → ArePassed count i reader before
    → ((rest : Table) → HasFault before (shard_proof rest) fault) → HasFault reader (shard_proofs count) fault
one_fails count i reader before fault below so_far refused schema bytes fields stands =
    refused (shard_proofs (count - (i + 1))) schema bytes (fields ++ flat_map proof_fields so_far.proofs)
    (subst (λ (t : Table). StandsBefore schema bytes (fields ++ flat_map proof_fields so_far.proofs) before t) (one_left count i below)
    (so_far.passes schema bytes fields stands))

pub all_passed : (count i : ℕ) (reader later : Reader) → i ≡ count → ArePassed count i reader later
    → (proofs : List (List ℕ)) × (length proofs ≡ count) × Passes reader later (shard_proofs count) (flat_map proof_fields proofs) End
all_passed count i reader later whole so_far =
    let none : count - i ≡ 0 = omega (arith, whole) in (
      so_far.proofs,
      so_far.many ∙ whole,
      subst (λ (k : ℕ). Passes reader later (shard_proofs count) (flat_map proof_fields so_far.proofs) (shard_proofs k)) none so_far.passes,
    )
