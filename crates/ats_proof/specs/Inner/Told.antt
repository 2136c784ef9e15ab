-- The places of a proof's parts in its bytes, which a view keeps.
use Rattle.std.specs.Prelude.{◌≡◌, ◌≤◌, ◌+◌, ◌^◌, ℕ, Bool, true, List, length, drop}
use Rattle.ats_proof.specs.declared.places.Begun.{Begun}
use Rattle.ats_proof.specs.declared.places.Ended.{Ended}
use Rattle.ats_proof.specs.Parts.{counted_size}
use Rattle.ats_proof.specs.Value.{IsProof, present_in}
use Rattle.ats_proof.specs.Reading.{id_size, is_tra, terms_in, slots_in, met_in, dict_digests_place, slots_place, met_place, lists_place, docs_place, doc_digests_place, sections_place, answer_place, proof_in}

-- the bytes have room for their parts
pub record HasSpace (bytes : List ℕ) : Type 0 where
  pub few : length bytes ≤ 2 ^ 26
  pub docs : docs_place bytes ≤ length bytes
  pub answer : answer_place (is_tra bytes) bytes + counted_size 2 id_size (drop (answer_place (is_tra bytes) bytes) bytes) ≤ length bytes

-- the places and numbers up to the prefixes
pub record IsBegun (bytes : List ℕ) (begun : Begun) : Type 0 where
  pub dict_digests : begun.dict_digests ≡ dict_digests_place bytes
  pub terms : begun.terms ≡ terms_in bytes
  pub slots : begun.slots ≡ slots_place bytes
  pub present : begun.present ≡ present_in (slots_in bytes)
  pub met_at : begun.met_at ≡ met_place bytes
  pub met : begun.met ≡ met_in bytes
  pub lists : begun.lists ≡ lists_place bytes

-- the places of the documents and the answer
pub record IsEnded (bytes : List ℕ) (tra : Bool) (ended : Ended) : Type 0 where
  pub doc_digests : tra ≡ true → ended.doc_digests ≡ doc_digests_place bytes
  pub sections : tra ≡ true → ended.sections ≡ sections_place bytes
  pub answer : ended.answer ≡ answer_place tra bytes

-- all of these, of bytes that spell a proof
pub record IsPlaced (bytes : List ℕ) (tra : Bool) (begun : Begun) (ended : Ended) (docs : ℕ) : Type 0 where
  pub space : HasSpace bytes
  pub same : tra ≡ is_tra bytes
  pub first : IsBegun bytes begun
  pub rest : IsEnded bytes tra ended
  pub docs_at : docs ≡ docs_place bytes
  pub spelled : IsProof bytes (proof_in bytes)
