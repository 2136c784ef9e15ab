use Rattle.std.proofs.Common.{ap, arith}
use Rattle.ats_dict.specs.declared.header.Header.{Header}
use Rattle.ats_proof.specs.Seen.{digests_of}
use Rattle.ats_growth_proof.proofs.Finding.{same-number, needed-all, compared-new, compared-old}
use Rattle.ats_growth_proof.proofs.auditing.compare_texts.Goals as goal

pub compare-requires-clause-within : goal.compare-requires-clause-within
compare-requires-clause-within g c =
    let p = c.args.proof.now in
    let m = same-number g.H.HashKind.hash g.H.HashKind.sized c.args.old.now p.old_format p.old c.collection.ensures.texts c.facts.ensures.old c.requires.old_header
    c.collection.result.now c.documents-m.result c.collection.ensures.same c.documents-m.ensures.value in
    let n = same-number g.H.HashKind.hash g.H.HashKind.sized c.args.new.now p.new_format p.new c.collection-2.ensures.texts c.facts.ensures.new c.requires.new_header
    c.collection-2.result.now c.documents-n.result c.collection-2.ensures.same c.documents-n.ensures.value in
    omega (arith, m, n, c.requires.accepts.holds.1.1.0)

pub compare-requires-clause-enough : goal.compare-requires-clause-enough
compare-requires-clause-enough g c =
    let p = c.args.proof.now in
    let m = same-number g.H.HashKind.hash g.H.HashKind.sized c.args.old.now p.old_format p.old c.collection.ensures.texts c.facts.ensures.old c.requires.old_header
    c.collection.result.now c.documents-m.result c.collection.ensures.same c.documents-m.ensures.value in
    let n = same-number g.H.HashKind.hash g.H.HashKind.sized c.args.new.now p.new_format p.new c.collection-2.ensures.texts c.facts.ensures.new c.requires.new_header
    c.collection-2.result.now c.documents-n.result c.collection-2.ensures.same c.documents-n.ensures.value in
    needed-all p c.documents-m.result c.documents-n.result (digests_of c.shown.result.1) m n c.shown.ensures.digests c.requires.accepts.holds.1.1.1.0

pub returns-clause-old : goal.returns-clause-old
returns-clause-old g c =
    let p = c.args.proof.now in
    let H = g.H.HashKind.hash in
    let m = same-number H g.H.HashKind.sized c.args.old.now p.old_format p.old c.collection.ensures.texts c.facts.ensures.old c.requires.old_header
    c.collection.result.now c.documents-m.result c.collection.ensures.same c.documents-m.ensures.value in
    let n = same-number H g.H.HashKind.sized c.args.new.now p.new_format p.new c.collection-2.ensures.texts c.facts.ensures.new c.requires.new_header
    c.collection-2.result.now c.documents-n.result c.collection-2.ensures.same c.documents-n.ensures.value in
    compared-old H c.args.old.now c.args.new.now p c.collection.result.now c.collection-2.result.now c.documents-m.result c.documents-n.result c.collection.ensures.same c.collection-2.ensures.same
    m n c.documents-m.ensures.value c.documents-n.ensures.value c.old.result.1.texts_root (digests_of c.shown.result.1) (digests_of c.compare.new.digests) c.compare.result
    (ap (λ (h : Header). h.texts_root) c.old.ensures.header) c.shown.ensures.digests c.requires.accepts.holds.1.1.1.0 c.compare.ensures.compared

pub returns-clause-new : goal.returns-clause-new
returns-clause-new g c =
    let p = c.args.proof.now in
    let H = g.H.HashKind.hash in
    let m = same-number H g.H.HashKind.sized c.args.old.now p.old_format p.old c.collection.ensures.texts c.facts.ensures.old c.requires.old_header
    c.collection.result.now c.documents-m.result c.collection.ensures.same c.documents-m.ensures.value in
    let n = same-number H g.H.HashKind.sized c.args.new.now p.new_format p.new c.collection-2.ensures.texts c.facts.ensures.new c.requires.new_header
    c.collection-2.result.now c.documents-n.result c.collection-2.ensures.same c.documents-n.ensures.value in
    compared-new H c.args.old.now c.args.new.now p c.collection.result.now c.collection-2.result.now c.documents-m.result c.documents-n.result c.collection.ensures.same c.collection-2.ensures.same
    m n c.documents-m.ensures.value c.documents-n.ensures.value c.old.result.1.texts_root (digests_of c.shown.result.1) (digests_of c.compare.new.digests) c.compare.result
    (ap (λ (h : Header). h.texts_root) c.old.ensures.header) c.shown.ensures.digests c.requires.accepts.holds.1.1.1.0 c.compare.ensures.compared
