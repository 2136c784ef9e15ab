use Rattle.std.proofs.Common.{◌≡◌, ◌∷◌, ℕ, [], refl, subst, inl, arith}
use Rattle.std.proofs.lemmas.Result.{err_from_is_err_and}
use Rattle.ats_grammar.specs.Position.{StandsBefore}
use Rattle.ats_grammar.specs.Table.{spelled}
use Rattle.ats_proof.specs.SharedTables.{file}
use Rattle.ats_proof.proofs.shared_fields.begin_file.Goals as goal

pub returns-in_err-reader-clause-refused : goal.returns-in_err-reader-clause-refused
returns-in_err-reader-clause-refused c =
    let told = err_from_is_err_and c.from_residual.result c.from_residual.ensures.1 in
    rw (told.1, told.2) (λ rest. inl (c.in_err-reader.ensures.long (file c.args.limit c.args.magic rest) refl))

pub returns-in_err-number-clause-refused : goal.returns-in_err-number-clause-refused
returns-in_err-number-clause-refused c =
    let told = err_from_is_err_and c.from_residual-in_err-number.result c.from_residual-in_err-number.ensures.1 in
    rw (told.1, told.2) (λ rest.
    let schema = file c.args.limit c.args.magic rest in c.in_err-number.ensures.refused (λ _. rest) schema c.args.bytes.now _ (c.in_ok-reader.ensures.stands schema refl))

pub returns-clause-read : goal.returns-clause-read
returns-clause-read c rest =
    let schema = file c.args.limit c.args.magic rest in
    let same : c.in_ok-number.field-0 ≡ c.args.magic = omega (arith, c.in_ok-number.ensures.range) in
    subst (λ (n : ℕ). StandsBefore schema c.args.bytes.now (spelled 4 n ∷ []) c.number.new.self rest) same
    (c.in_ok-number.ensures.read (λ _. rest) schema c.args.bytes.now _ (c.in_ok-reader.ensures.stands schema refl))
