use Rattle.std.proofs.lemmas.Result.{err_from_is_err_and}
use Rattle.ats_grammar.specs.Table.{Bytes}
use Rattle.ats_catalog_bytes.proofs.Passing.{proof_passes}
use Rattle.ats_catalog_bytes.proofs.view.pass_proof.Goals as goal

pub returns-in_err-bytes-clause-refused : goal.returns-in_err-bytes-clause-refused
returns-in_err-bytes-clause-refused c =
    let told = err_from_is_err_and c.from_residual-in_err-bytes.result c.from_residual-in_err-bytes.ensures.1 in
    rw (told.1, told.2) (λ rest schema bytes fields stands.
    c.in_err-bytes.ensures.refused rest schema bytes _ (c.in_ok-size.ensures.read (λ size. Bytes size rest) schema bytes fields stands))

pub returns-clause-read : goal.returns-clause-read
returns-clause-read c = (
  c.in_ok-bytes.field-0.now,
  proof_passes c.args.reader.now c.number.new.self c.bytes.new.self c.in_ok-size.size c.in_ok-bytes.field-0.now
      c.in_ok-bytes.ensures.size c.in_ok-size.ensures.read c.in_ok-bytes.ensures.read,
)
