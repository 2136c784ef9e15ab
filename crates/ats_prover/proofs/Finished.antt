-- What a writer gives after all fields of a proof were appended to it.
use Rattle.std.proofs.Common.{◌≡◌, ◌<◌, ◌≤◌, ◌^◌, ◌++◌, ℕ, List, [], length, sym, ap, subst, ◌∙◌, arith, append-nil}
use Rattle.std.specs.List.{concat}
use Rattle.ats_proof.specs.Written.{Written, after, writing}
use Rattle.ats_proof.specs.Value.{IsProof, Proof, fields_of}
use Rattle.ats_honest.specs.Honest.{length_of}
use Rattle.ats_prover.specs.Inner.Writing.{IsWritten}

abbrev pub AreJoined : Type 0
AreJoined = (limit : ℕ) (bytes more : List ℕ) → after (writing limit bytes) more ≡ writing limit (bytes ++ more)

-- all fields of the one such proof were appended to a writer that was new
pub record IsFinished (IsSuch : Proof → Type 0) (limit : ℕ) (w : Written) : Type 0 where
  pub written : IsWritten IsSuch (writing limit []) w
  pub one : (a b : Proof) → IsSuch a → IsSuch b → a ≡ b
  pub all : w ≡ writing limit (concat (fields_of written.proof))

pub finished : (IsSuch : Proof → Type 0) → ((a b : Proof) → IsSuch a → IsSuch b → a ≡ b) → AreJoined → (limit : ℕ) (new w : Written) → new ≡ writing limit [] → IsWritten IsSuch new w
    → IsFinished IsSuch limit w
finished IsSuch one joined limit new w made is =
    let written : IsWritten IsSuch (writing limit []) w = subst (λ (v : Written). IsWritten IsSuch v w) made is in
    record { written = written; one = one; all = written.asked ∙ joined limit [] (concat (fields_of written.proof)) }

module _ {IsSuch : Proof → Type 0} {limit : ℕ} {w : Written} (is : IsFinished IsSuch limit w) where
  under : w.limit ≡ limit
  under = ap (λ (v : Written). v.limit) is.all

  size : (proof : Proof) → IsSuch proof → w.asked ≡ length_of proof
  size proof such = ap (λ (v : Written). v.asked) is.all ∙ ap length_of (is.one is.written.proof proof is.written.such such)

  pub size_within : (proof : Proof) → IsSuch proof → (bytes : ℕ) → bytes ≡ w.asked → w.asked ≤ w.limit → (bytes ≡ length_of proof) × (length_of proof ≤ limit)
  size_within proof such bytes same within = (omega (arith, size proof such, same), omega (arith, size proof such, under, within))

  pub size_beyond : (proof : Proof) → IsSuch proof → (bytes : ℕ) → bytes ≡ w.asked → w.limit < w.asked → (bytes ≡ length_of proof) × (limit < length_of proof)
  size_beyond proof such bytes same beyond = (omega (arith, size proof such, same), omega (arith, size proof such, under, beyond))

  -- what a writer within its limit returns spells the proof
  pub spelled : (bytes : List ℕ) → ((all : List ℕ) → w ≡ writing w.limit all → bytes ≡ all) → length bytes ≤ 2 ^ 26 → IsProof bytes is.written.proof
  spelled bytes returns few =
      let all : List ℕ = concat (fields_of is.written.proof) in
      let same : bytes ≡ all = returns all (subst (λ (n : ℕ). w ≡ writing n all) (sym under) is.all) in record {
        spells = record { whole = record { come = is.written.come; parts = same ∙ sym (append-nil all) }; few = few };
        prefix_each = is.written.prefix_each;
        documents = is.written.documents;
      }
