use Rattle.std.proofs.Common.{◌≡◌, ◌∙◌, ◌+◌, ◌*◌, ◌^◌, ℕ, List, length, Some, sym, ap, arith}
use Rattle.ats_proof.specs.Written.{Written, writing}
use Rattle.ats_catalog_proof.proofs.Spelling.{all_written, front_size}
use Rattle.ats_catalog_proof.proofs.writer.CatalogWriter.begin.Goals as goal

pub invariant_of-result : goal.invariant_of-result
invariant_of-result c =
    let size : length c.in_ok-bytes.bytes ≡ 9 + length c.args.roots.now * 32 = ap length c.in_ok-bytes.ensures ∙ front_size c.args.roots.now c.requires.sized in (
      omega (arith, size, c.len-asked.ensures, c.requires.few),
      sym c.len-asked.ensures,
    )

pub returns-clause-front : goal.returns-clause-front
returns-clause-front c =
    let bytes : List ℕ = c.in_ok-bytes.bytes in
    let size : length bytes ≡ 9 + length c.args.roots.now * 32 = ap length c.in_ok-bytes.ensures ∙ front_size c.args.roots.now c.requires.sized in
    ap (λ (n : ℕ). let w : Written = record { limit = 2 ^ 28; asked = n; kept = Some bytes } in w) c.len-asked.ensures
    ∙ all_written bytes (omega (arith, size, c.requires.few))
    ∙ ap (writing (2 ^ 28)) c.in_ok-bytes.ensures

pub returns-clause-small : goal.returns-clause-small
returns-clause-small c =
    let size : length c.in_ok-bytes.bytes ≡ 9 + length c.args.roots.now * 32 = ap length c.in_ok-bytes.ensures ∙ front_size c.args.roots.now c.requires.sized in
    omega (arith, size, c.len-asked.ensures, c.requires.few)
