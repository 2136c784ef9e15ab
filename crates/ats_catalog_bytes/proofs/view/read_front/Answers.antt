use Rattle.std.proofs.Common.{◌≡◌, ◌∷◌, ℕ, List, length, arith, ap, sym, ◌∙◌, subst}
use Rattle.std.proofs.lemmas.Result.{err_from_is_err_and}
use Rattle.ats_grammar.specs.declared.fault.ShapeKind.TheVariants.{Count}
use Rattle.ats_grammar.specs.Grammar.{digests}
use Rattle.ats_grammar.specs.Position.{StandsBefore}
use Rattle.ats_grammar.specs.Table.{Table, Number, spelled}
use Rattle.ats_catalog_bytes.specs.Grammar.{shard_proofs, after_magic, catalog_schema}
use Rattle.ats_catalog_bytes.proofs.Fields.{chunks-are}
use Rattle.ats_catalog_bytes.proofs.view.read_front.Goals as goal

-- what comes after the number of shards
abbrev pub after_count : ℕ → Table
after_count n = digests n (shard_proofs n)

pub returns-in_err-number-clause-refused : goal.returns-in_err-number-clause-refused
returns-in_err-number-clause-refused c =
    let told = err_from_is_err_and c.from_residual-in_err-number.result c.from_residual-in_err-number.ensures.1 in
    rw (told.1, told.2)
    (c.in_err-number.ensures.refused (λ _. Number 4 1 4096 Count after_count) catalog_schema c.args.bytes.now _ (c.in_ok-reader.ensures.read after_magic))

pub returns-in_err-count-clause-refused : goal.returns-in_err-count-clause-refused
returns-in_err-count-clause-refused c =
    let s0 = c.in_ok-reader.ensures.read after_magic in
    let s1 = c.in_ok-number.ensures.read (λ _. Number 4 1 4096 Count after_count) catalog_schema c.args.bytes.now _ s0 in
    let told = err_from_is_err_and c.from_residual-in_err-count.result c.from_residual-in_err-count.ensures.1 in
    rw (told.1, told.2) (c.in_err-count.ensures.refused after_count catalog_schema c.args.bytes.now _ s1)

pub returns-in_err-digests-clause-refused : goal.returns-in_err-digests-clause-refused
returns-in_err-digests-clause-refused c =
    let s0 = c.in_ok-reader.ensures.read after_magic in
    let s1 = c.in_ok-number.ensures.read (λ _. Number 4 1 4096 Count after_count) catalog_schema c.args.bytes.now _ s0 in
    let s2 = c.in_ok-count.ensures.read after_count catalog_schema c.args.bytes.now _ s1 in
    let told = err_from_is_err_and c.from_residual-in_err-digests.result c.from_residual-in_err-digests.ensures.1 in
    rw (told.1, told.2) (c.in_err-digests.ensures.refused (shard_proofs c.in_ok-count.count) catalog_schema c.args.bytes.now _ s2)

pub returns-clause-read : goal.returns-clause-read
returns-clause-read c =
    let one : c.in_ok-number.field-0 ≡ 1 = omega (arith, c.in_ok-number.ensures.range) in
    let n : ℕ = c.in_ok-count.count in
    let all : List (List ℕ) = c.in_ok-digests.ensures.read.0 in
    let s0 = c.in_ok-reader.ensures.read after_magic in
    let s1 = c.in_ok-number.ensures.read (λ _. Number 4 1 4096 Count after_count) catalog_schema c.args.bytes.now _ s0 in
    let s2 = c.in_ok-count.ensures.read after_count catalog_schema c.args.bytes.now _ s1 in
    let s3 = c.in_ok-digests.ensures.read.2 (shard_proofs n) catalog_schema c.args.bytes.now _ s2 in
    let roots : c.as_chunks.result.0.now ≡ all = c.as_chunks.ensures.front ∙ chunks-are n c.in_ok-digests.field-0.now all c.in_ok-digests.ensures.read.1 in
    let many : n ≡ length all = sym c.in_ok-digests.ensures.read.1.many in
    let With : ℕ → ℕ → List (List ℕ) → Type 0 = λ v k rs.
    StandsBefore catalog_schema c.args.bytes.now (spelled 4 0x41545353 ∷ spelled 1 v ∷ spelled 4 k ∷ rs) c.digests.new.self (shard_proofs k) in
    subst (λ (rs : List (List ℕ)). With 1 (length rs) rs) (sym roots)
    (subst (λ (k : ℕ). With 1 k all) many (subst (λ (v : ℕ). With v n all) one s3))

pub returns-clause-range : goal.returns-clause-range
returns-clause-range c =
    let all : List (List ℕ) = c.in_ok-digests.ensures.read.0 in
    let roots : c.as_chunks.result.0.now ≡ all =
    c.as_chunks.ensures.front ∙ chunks-are c.in_ok-count.count c.in_ok-digests.field-0.now all c.in_ok-digests.ensures.read.1 in
    let size = ap length roots in
    let many = c.in_ok-digests.ensures.read.1.many in
    let range = c.in_ok-count.ensures.range in
    (omega (arith, size, many, range.0), omega (arith, size, many, range.1))
