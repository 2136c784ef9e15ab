use Rattle.std.proofs.lemmas.Result.{err_from_is_err_and}
use Rattle.ats_grammar.specs.Table.{Bytes}
use Rattle.ats_proof.specs.SharedTables.{archive, last_digests}
use Rattle.ats_text_check.specs.Grammar.{text_schema, text}
use Rattle.ats_text_check.proofs.Fields.{sized_text}
use Rattle.ats_text_check.proofs.view.TextView.fields.Goals as goal

pub returns-in_err-reader-clause-refused : goal.returns-in_err-reader-clause-refused
returns-in_err-reader-clause-refused c =
    let told = err_from_is_err_and c.from_residual.result c.from_residual.ensures.1 in
    rw (told.1, told.2) (c.in_err-reader.ensures.refused (archive text))

pub returns-in_err-format-clause-refused : goal.returns-in_err-format-clause-refused
returns-in_err-format-clause-refused c =
    let s0 = c.in_ok-reader.ensures.read (archive text) in
    let told = err_from_is_err_and c.from_residual-in_err-format.result c.from_residual-in_err-format.ensures.1 in
    rw (told.1, told.2) (c.in_err-format.ensures.refused text text_schema c.args.bytes.now _ s0)

pub returns-in_err-length-clause-refused : goal.returns-in_err-length-clause-refused
returns-in_err-length-clause-refused c =
    let s0 = c.in_ok-reader.ensures.read (archive text) in
    let s1 = c.in_ok-format.ensures.read text text_schema c.args.bytes.now _ s0 in
    let told = err_from_is_err_and c.from_residual-in_err-length.result c.from_residual-in_err-length.ensures.1 in
    rw (told.1, told.2) (c.in_err-length.ensures.refused (λ size. Bytes size (last_digests 32)) text_schema c.args.bytes.now _ s1)

pub returns-in_err-text-clause-refused : goal.returns-in_err-text-clause-refused
returns-in_err-text-clause-refused c =
    let s0 = c.in_ok-reader.ensures.read (archive text) in
    let s1 = c.in_ok-format.ensures.read text text_schema c.args.bytes.now _ s0 in
    let s2 = c.in_ok-length.ensures.read (λ size. Bytes size (last_digests 32)) text_schema c.args.bytes.now _ s1 in
    let told = err_from_is_err_and c.from_residual-in_err-text.result c.from_residual-in_err-text.ensures.1 in
    rw (told.1, told.2) (c.in_err-text.ensures.refused (last_digests 32) text_schema c.args.bytes.now _ s2)

pub returns-in_err-digests-clause-refused : goal.returns-in_err-digests-clause-refused
returns-in_err-digests-clause-refused c =
    let s0 = c.in_ok-reader.ensures.read (archive text) in
    let s1 = c.in_ok-format.ensures.read text text_schema c.args.bytes.now _ s0 in
    let s2 = c.in_ok-length.ensures.read (λ size. Bytes size (last_digests 32)) text_schema c.args.bytes.now _ s1 in
    let s3 = c.in_ok-text.ensures.read (last_digests 32) text_schema c.args.bytes.now _ s2 in
    let told = err_from_is_err_and c.from_residual-in_err-digests.result c.from_residual-in_err-digests.ensures.1 in
    rw (told.1, told.2) (c.in_err-digests.ensures.refused text_schema c.args.bytes.now _ s3)

pub returns-clause-spelled : goal.returns-clause-spelled
returns-clause-spelled c =
    let s0 = c.in_ok-reader.ensures.read (archive text) in
    let s1 = c.in_ok-format.ensures.read text text_schema c.args.bytes.now _ s0 in
    let s2 = c.in_ok-length.ensures.read (λ size. Bytes size (last_digests 32)) text_schema c.args.bytes.now _ s1 in
    let s3 = c.in_ok-text.ensures.read (last_digests 32) text_schema c.args.bytes.now _ s2 in
    sized_text c.args.bytes.now _ c.in_ok-length.length c.in_ok-text.ensures.size (c.in_ok-digests.ensures.spelled text_schema c.args.bytes.now _ s3)
