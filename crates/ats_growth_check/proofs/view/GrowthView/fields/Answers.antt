use Rattle.std.proofs.lemmas.Result.{err_from_is_err_and}
use Rattle.ats_proof.specs.SharedTables.{archive, last_digests}
use Rattle.ats_growth_check.specs.Grammar.{growth_schema, after_old}
use Rattle.ats_growth_check.proofs.view.GrowthView.fields.Goals as goal

pub returns-in_err-reader-clause-refused : goal.returns-in_err-reader-clause-refused
returns-in_err-reader-clause-refused c =
    let told = err_from_is_err_and c.from_residual.result c.from_residual.ensures.1 in
    rw (told.1, told.2) (c.in_err-reader.ensures.refused (archive after_old))

pub returns-in_err-old_format-clause-refused : goal.returns-in_err-old_format-clause-refused
returns-in_err-old_format-clause-refused c =
    let s0 = c.in_ok-reader.ensures.read (archive after_old) in
    let told = err_from_is_err_and c.from_residual-in_err-old_format.result c.from_residual-in_err-old_format.ensures.1 in
    rw (told.1, told.2) (c.in_err-old_format.ensures.refused after_old growth_schema c.args.bytes.now _ s0)

pub returns-in_err-new_format-clause-refused : goal.returns-in_err-new_format-clause-refused
returns-in_err-new_format-clause-refused c =
    let s0 = c.in_ok-reader.ensures.read (archive after_old) in
    let s1 = c.in_ok-old_format.ensures.read after_old growth_schema c.args.bytes.now _ s0 in
    let told = err_from_is_err_and c.from_residual-in_err-new_format.result c.from_residual-in_err-new_format.ensures.1 in
    rw (told.1, told.2) (c.in_err-new_format.ensures.refused (last_digests 64) growth_schema c.args.bytes.now _ s1)

pub returns-in_err-digests-clause-refused : goal.returns-in_err-digests-clause-refused
returns-in_err-digests-clause-refused c =
    let s0 = c.in_ok-reader.ensures.read (archive after_old) in
    let s1 = c.in_ok-old_format.ensures.read after_old growth_schema c.args.bytes.now _ s0 in
    let s2 = c.in_ok-new_format.ensures.read (last_digests 64) growth_schema c.args.bytes.now _ s1 in
    let told = err_from_is_err_and c.from_residual-in_err-digests.result c.from_residual-in_err-digests.ensures.1 in
    rw (told.1, told.2) (c.in_err-digests.ensures.refused growth_schema c.args.bytes.now _ s2)

pub returns-clause-spelled : goal.returns-clause-spelled
returns-clause-spelled c =
    let s0 = c.in_ok-reader.ensures.read (archive after_old) in
    let s1 = c.in_ok-old_format.ensures.read after_old growth_schema c.args.bytes.now _ s0 in
    let s2 = c.in_ok-new_format.ensures.read (last_digests 64) growth_schema c.args.bytes.now _ s1 in
    c.in_ok-digests.ensures.spelled growth_schema c.args.bytes.now _ s2
