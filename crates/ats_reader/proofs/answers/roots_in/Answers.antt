use Rattle.std.proofs.Common.{◌≡◌, ◌∙◌, ◌*◌, ◌/◌, ℕ, List, length, refl, sym, ap, subst, arith}
use Rattle.std.specs.List.{All, concat}
use Rattle.std.specs.Simd.{first_chunks}
use Rattle.ats_proof.proofs.Public.{length_digests}
use Rattle.ats_reader.specs.Catalog.{AreRoots}
use Rattle.ats_reader.proofs.Chunks.{chunks_join, chunks_sized}
use Rattle.ats_reader.proofs.answers.roots_in.Goals as goal
use Rattle.ats_reader.proofs.answers.roots_in.Goals.{then-size-ne0-via-then-size-ne0, then-size-ne0-via-else-size-ne0+then-size-lt32, then-size-ne0-via-else-size-ne0+else-size-lt32+then-size}

-- so many bytes are roots
size_of : (bytes : List ℕ) (roots : List (List ℕ)) → AreRoots bytes roots → length bytes ≡ length roots * 32
size_of bytes roots are = ap length are.joined.join ∙ length_digests roots are.joined.sized

-- so many are no roots, or too few, or too many
pub returns-then-size-ne0-clause-fault : goal.returns-then-size-ne0-clause-fault
returns-then-size-ne0-clause-fault c = (
  refl,
  λ roots are.
      let size = size_of c.args.bytes.now roots are in
      elim c.then-size-ne0.branch [
        | then-size-ne0-via-then-size-ne0 w ↦ omega (arith, size, w.if-size-ne0.true)
        | then-size-ne0-via-else-size-ne0+then-size-lt32 w ↦ omega (arith, size, are.some, w.if-size-lt32.true)
        | then-size-ne0-via-else-size-ne0+else-size-lt32+then-size w ↦ omega (arith, size, are.few, w.if-size.true)
      ],
)

-- without a rest the bytes are their chunks
pub returns-clause-roots : goal.returns-clause-roots
returns-clause-roots c =
    let bytes = c.args.bytes.now in
    let roots = c.as_chunks.result.0.now in
    let k = length bytes / 32 in
    let whole : length bytes ≡ k * 32 = omega arith in
    let are : roots ≡ first_chunks 32 k bytes = c.as_chunks.ensures.front in
    record {
      some = omega arith;
      few = omega arith;
      joined = record {
        many = refl;
        sized = subst (All (λ (root : List ℕ). length root ≡ 32)) (sym are) (chunks_sized k bytes whole);
        join = sym (ap concat are ∙ chunks_join k bytes whole);
      };
    }
