use Rattle.std.proofs.Common.{◌≤◌, [], length, ap, sym, arith}
use Rattle.ats_commit.specs.Places.{numbers_at}
use Rattle.ats_commit.proofs.Public.{none_past}
use Rattle.ats_index.proofs.index.Index.terms_string.Goals as goal

pub returns-then-doc-documents : goal.returns-then-doc-documents
returns-then-doc-documents g c =
    let past : length c.args.self.now.texts ≤ c.args.doc =
    omega (arith, ap length c.collection.ensures.same, c.documents.ensures.value, c.if-doc-documents.true) in
    sym (none_past g.H.HashKind.hash c.args.self.now [] c.args.doc (numbers_at c.args.place.now) past)
