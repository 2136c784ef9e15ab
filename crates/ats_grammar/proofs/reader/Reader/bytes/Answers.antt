use Rattle.std.proofs.lemmas.Result.{err_from_is_err_and}
use Rattle.ats_grammar.specs.declared.field_kinds.Next.TheVariants as next
use Rattle.ats_grammar.specs.Table.{Bytes}
use Rattle.ats_grammar.specs.Inner.Reading.{IsTaken, IsRefused}
use Rattle.ats_grammar.proofs.Positions.{bytes_passes, has_fault}
use Rattle.ats_grammar.proofs.reader.Reader.bytes.Goals as goal

pub returns-in_err-pass-clause-refused : goal.returns-in_err-pass-clause-refused
returns-in_err-pass-clause-refused c =
    let fault = c.in_err-pass.field-0.0 in
    let is : IsRefused (next.Bytes c.args.size) c.args.self.now.rest.now fault.kind = rw c.bytes.ensures at c.in_err-pass.ensures.refused.0 in
    let told = err_from_is_err_and c.from_residual.result c.from_residual.ensures.1 in
    rw (told.1, told.2) (λ rest. has_fault c.args.self.now (Bytes c.args.size rest) fault is c.in_err-pass.ensures.refused.1)

pub returns-clause-read : goal.returns-clause-read
returns-clause-read c =
    let reader = c.args.self.now in
    let later = c.pass.new.self in
    let taken : IsTaken (next.Bytes c.args.size) reader.rest.now c.in_ok-pass.field-0 later.rest.now = rw c.bytes.ensures at c.in_ok-pass.ensures.taken in
    λ rest. bytes_passes reader later c.args.size c.in_ok-pass.field-0 taken rest c.split_at.result.0.now c.split_at.ensures.front c.pass.ensures.total
