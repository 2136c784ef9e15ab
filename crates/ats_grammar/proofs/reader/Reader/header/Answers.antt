use Rattle.std.proofs.Common.{length, length-append, ap, arith}
use Rattle.std.proofs.lemmas.Result.{err_from_is_err_and}
use Rattle.std.specs.List.{concat}
use Rattle.ats_grammar.specs.Grammar.{digests, header}
use Rattle.ats_grammar.specs.Position.{header_fields}
use Rattle.ats_grammar.proofs.Positions.{fault_after}
use Rattle.ats_grammar.proofs.Headers.{to_documents, to_leaves, to_roots, from_documents, from_leaves, all_read, lent_header}
use Rattle.ats_grammar.proofs.reader.Reader.header.Goals as goal

pub returns-in_err-number-2-clause-refused : goal.returns-in_err-number-2-clause-refused
returns-in_err-number-2-clause-refused c =
    let a = c.args.self.now in
    let one = to_documents a c.number.new.self c.in_ok-number.field-0 c.in_ok-number.ensures.read in
    let told = err_from_is_err_and c.from_residual-in_err-number-2.result c.from_residual-in_err-number-2.ensures.1 in
    rw (told.1, told.2) (λ rest. fault_after a c.number.new.self (header rest) (from_documents rest) _ c.in_err-number-2.field-0.0 (one rest) (c.in_err-number-2.ensures.refused (λ _. from_leaves rest)))

pub returns-in_err-number-3-clause-refused : goal.returns-in_err-number-3-clause-refused
returns-in_err-number-3-clause-refused c =
    let a = c.args.self.now in
    let one = to_documents a c.number.new.self c.in_ok-number.field-0 c.in_ok-number.ensures.read in
    let two = to_leaves a c.number.new.self c.number-2.new.self _ c.in_ok-number-2.field-0 one c.in_ok-number-2.ensures.read in
    let told = err_from_is_err_and c.from_residual-in_err-number-3.result c.from_residual-in_err-number-3.ensures.1 in
    rw (told.1, told.2) (λ rest. fault_after a c.number-2.new.self (header rest) (from_leaves rest) _ c.in_err-number-3.field-0.0 (two rest) (c.in_err-number-3.ensures.refused (λ _. digests 3 rest)))

pub returns-in_err-digests-clause-refused : goal.returns-in_err-digests-clause-refused
returns-in_err-digests-clause-refused c =
    let a = c.args.self.now in
    let one = to_documents a c.number.new.self c.in_ok-number.field-0 c.in_ok-number.ensures.read in
    let two = to_leaves a c.number.new.self c.number-2.new.self _ c.in_ok-number-2.field-0 one c.in_ok-number-2.ensures.read in
    let three = to_roots a c.number-2.new.self c.number-3.new.self _ c.in_ok-number-3.field-0 two c.in_ok-number-3.ensures.read in
    let told = err_from_is_err_and c.from_residual-in_err-digests.result c.from_residual-in_err-digests.ensures.1 in
    rw (told.1, told.2) (λ rest. fault_after a c.number-3.new.self (header rest) (digests 3 rest) _ c.in_err-digests.field-0.0 (three rest) (c.in_err-digests.ensures.refused rest))

pub split_at-requires : goal.split_at-requires
split_at-requires c =
    let h = all_read c.args.self.now _ _ _ c.digests.new.self _ _ _ _ c.in_ok-number.ensures.read c.in_ok-number.ensures.range c.in_ok-number-2.ensures.read c.in_ok-number-3.ensures.read c.in_ok-digests.ensures.read in
    omega (arith, ap length h.parts, length-append (concat (header_fields h.value)) c.digests.new.self.rest.now, h.long)

pub returns-clause-read : goal.returns-clause-read
returns-clause-read c =
    let h = all_read c.args.self.now _ _ _ c.digests.new.self _ _ _ _ c.in_ok-number.ensures.read c.in_ok-number.ensures.range c.in_ok-number-2.ensures.read c.in_ok-number-3.ensures.read c.in_ok-digests.ensures.read in
    (h.value, (lent_header c.args.self.now c.digests.new.self c.split_at.result.0.now h c.split_at.ensures.front).0, h.passes)

pub returns-clause-parts : goal.returns-clause-parts
returns-clause-parts c =
    let h = all_read c.args.self.now _ _ _ c.digests.new.self _ _ _ _ c.in_ok-number.ensures.read c.in_ok-number.ensures.range c.in_ok-number-2.ensures.read c.in_ok-number-3.ensures.read c.in_ok-digests.ensures.read in
    (lent_header c.args.self.now c.digests.new.self c.split_at.result.0.now h c.split_at.ensures.front).1
