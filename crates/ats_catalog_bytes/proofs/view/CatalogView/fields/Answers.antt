use Rattle.std.proofs.Common.{ℕ, List, sym, subst}
use Rattle.std.proofs.lemmas.Result.{err_from_is_err_and}
use Rattle.ats_catalog_bytes.specs.Bytes.{shards_in, HaveRoom}
use Rattle.ats_catalog_bytes.specs.Grammar.{catalog_schema}
use Rattle.ats_catalog_bytes.specs.Value.{IsCatalogProof}
use Rattle.ats_catalog_bytes.proofs.Fields.{is_read, in_range}
use Rattle.ats_catalog_bytes.proofs.view.CatalogView.fields.Goals as goal

pub returns-in_err-pass_proofs-clause-refused : goal.returns-in_err-pass_proofs-clause-refused
returns-in_err-pass_proofs-clause-refused c =
    let told = err_from_is_err_and c.from_residual-in_err-pass_proofs.result c.from_residual-in_err-pass_proofs.ensures.1 in
    rw (told.1, told.2) (c.in_err-pass_proofs.ensures.refused catalog_schema c.args.bytes.now _ c.in_ok-reader.ensures.read)

pub returns-in_err-end-clause-refused : goal.returns-in_err-end-clause-refused
returns-in_err-end-clause-refused c =
    let proofs = c.in_ok-pass_proofs.ensures.read in
    let told = err_from_is_err_and c.from_residual-in_err-end.result c.from_residual-in_err-end.ensures.1 in
    rw (told.1, told.2)
    (c.in_err-end.ensures.refused catalog_schema c.args.bytes.now _ (proofs.2 catalog_schema c.args.bytes.now _ c.in_ok-reader.ensures.read))

pub split_at-requires : goal.split_at-requires
split_at-requires c =
    let proofs = c.in_ok-pass_proofs.ensures.read in
    let spells = c.in_ok-end.ensures.spelled catalog_schema c.args.bytes.now _ (proofs.2 catalog_schema c.args.bytes.now _ c.in_ok-reader.ensures.read) in
    (is_read c.args.bytes.now c.in_ok-reader.roots.now proofs.0 proofs.1 spells).fits

pub invariant_of-result : goal.invariant_of-result
invariant_of-result c =
    let proofs = c.in_ok-pass_proofs.ensures.read in
    let spells = c.in_ok-end.ensures.spelled catalog_schema c.args.bytes.now _ (proofs.2 catalog_schema c.args.bytes.now _ c.in_ok-reader.ensures.read) in
    let read = is_read c.args.bytes.now c.in_ok-reader.roots.now proofs.0 proofs.1 spells in
    record {
      few = c.in_ok-reader.ensures.range.1;
      room = subst (λ (xs : List ℕ). HaveRoom c.in_ok-reader.roots.now xs) (sym c.split_at.ensures.back) read.room;
    }

pub invariant_of-result-2 : goal.invariant_of-result-2
invariant_of-result-2 c =
    let proofs = c.in_ok-pass_proofs.ensures.read in
    let spells = c.in_ok-end.ensures.spelled catalog_schema c.args.bytes.now _ (proofs.2 catalog_schema c.args.bytes.now _ c.in_ok-reader.ensures.read) in
    let read = is_read c.args.bytes.now c.in_ok-reader.roots.now proofs.0 proofs.1 spells in
    in_range c.args.bytes.now (shards_in c.in_ok-reader.roots.now c.split_at.result.1.now)
    (subst (λ (xs : List ℕ). IsCatalogProof c.args.bytes.now (shards_in c.in_ok-reader.roots.now xs)) (sym c.split_at.ensures.back) read.is)

pub returns-clause-spelled : goal.returns-clause-spelled
returns-clause-spelled c =
    let proofs = c.in_ok-pass_proofs.ensures.read in
    let spells = c.in_ok-end.ensures.spelled catalog_schema c.args.bytes.now _ (proofs.2 catalog_schema c.args.bytes.now _ c.in_ok-reader.ensures.read) in
    let read = is_read c.args.bytes.now c.in_ok-reader.roots.now proofs.0 proofs.1 spells in
    subst (λ (xs : List ℕ). IsCatalogProof c.args.bytes.now (shards_in c.in_ok-reader.roots.now xs)) (sym c.split_at.ensures.back) read.is
