use Rattle.std.specs.Prelude.{◌≡◌, ◌+◌, length, IfOk, IfErr}
use Rattle.std.proofs.lemmas.Result.{IfOk-weaker, IfErr-weaker}
use Rattle.ats_grammar.specs.declared.field_kinds.Next.TheVariants as next
use Rattle.ats_grammar.specs.Table.{Number}
use Rattle.ats_grammar.specs.Inner.Reading.{IsTaken, IsRefused}
use Rattle.ats_grammar.proofs.Positions.{number_passes, number_parts, has_fault}
use Rattle.ats_grammar.proofs.reader.Reader.number.Goals as goal

pub returns-clause-read : goal.returns-clause-read
returns-clause-read c =
    let reader = c.args.self.now in
    let later = c.pass.new.self in
    let taken : IfOk c.pass.result (λ n. IsTaken (next.Number c.args.size c.args.low c.args.high c.args.kind) reader.rest.now n later.rest.now) = rw c.number.ensures at c.pass.ensures.taken in
    IfOk-weaker c.pass.result _ _ (λ n is rest. number_passes reader later c.args.size c.args.low c.args.high n c.args.kind is rest c.are_bytes.ensures c.pass.ensures.total) taken

pub returns-clause-parts : goal.returns-clause-parts
returns-clause-parts c =
    let reader = c.args.self.now in
    let later = c.pass.new.self in
    let taken : IfOk c.pass.result (λ n. IsTaken (next.Number c.args.size c.args.low c.args.high c.args.kind) reader.rest.now n later.rest.now) = rw c.number.ensures at c.pass.ensures.taken in
    IfOk-weaker c.pass.result _ _ (λ n is. number_parts reader later c.args.size c.args.low c.args.high n c.args.kind is c.are_bytes.ensures) taken

pub returns-clause-refused : goal.returns-clause-refused
returns-clause-refused c =
    let reader = c.args.self.now in
    let is : IfErr c.pass.result (λ fault. IsRefused (next.Number c.args.size c.args.low c.args.high c.args.kind) reader.rest.now fault.kind × (fault.at + length reader.rest.now ≡ reader.total))
    = rw c.number.ensures at c.pass.ensures.refused in
    IfErr-weaker c.pass.result _ _ (λ fault both rest. has_fault reader (Number c.args.size c.args.low c.args.high c.args.kind rest) fault both.0 both.1) is
