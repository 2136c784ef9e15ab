use Rattle.std.proofs.Common.{arith}
use Rattle.ats_growth_proof.proofs.Finding.{same-number, compared-shared, prefix-shared}
use Rattle.ats_growth_proof.proofs.auditing.compare_shared.Goals as goal

pub compare_ranges-requires-clause-within : goal.compare_ranges-requires-clause-within
compare_ranges-requires-clause-within g c =
    let p = c.args.proof.now in
    let m = same-number g.H.HashKind.hash g.H.HashKind.sized c.args.old.now p.old_format p.old c.collection-older.ensures.texts c.facts.ensures.old c.requires.old_header
    c.collection-older.result.now c.documents-m.result c.collection-older.ensures.same c.documents-m.ensures.value in
    let n = same-number g.H.HashKind.hash g.H.HashKind.sized c.args.new.now p.new_format p.new c.collection-newer.ensures.texts c.facts.ensures.new c.requires.new_header
    c.collection-newer.result.now c.documents-n.result c.collection-newer.ensures.same c.documents-n.ensures.value in
    omega (arith, m, n, c.requires.accepts.holds.1.1.0)

pub returns-in_default : goal.returns-in_default
returns-in_default g c =
    let p = c.args.proof.now in
    let m = same-number g.H.HashKind.hash g.H.HashKind.sized c.args.old.now p.old_format p.old c.collection-older.ensures.texts c.facts.ensures.old c.requires.old_header
    c.collection-older.result.now c.documents-m.result c.collection-older.ensures.same c.documents-m.ensures.value in
    let n = same-number g.H.HashKind.hash g.H.HashKind.sized c.args.new.now p.new_format p.new c.collection-newer.ensures.texts c.facts.ensures.new c.requires.new_header
    c.collection-newer.result.now c.documents-n.result c.collection-newer.ensures.same c.documents-n.ensures.value in
    prefix-shared g.H.HashKind.hash c.args.old.now c.args.new.now p c.collection-older.result.now c.collection-newer.result.now c.documents-m.result c.documents-n.result
    c.collection-older.ensures.same c.collection-newer.ensures.same m n c.documents-m.ensures.value c.documents-n.ensures.value c.documents-m.ensures.some
    c.in_default.ensures.none

pub returns : goal.returns
returns g c =
    let p = c.args.proof.now in
    let m = same-number g.H.HashKind.hash g.H.HashKind.sized c.args.old.now p.old_format p.old c.collection-older.ensures.texts c.facts.ensures.old c.requires.old_header
    c.collection-older.result.now c.documents-m.result c.collection-older.ensures.same c.documents-m.ensures.value in
    let n = same-number g.H.HashKind.hash g.H.HashKind.sized c.args.new.now p.new_format p.new c.collection-newer.ensures.texts c.facts.ensures.new c.requires.new_header
    c.collection-newer.result.now c.documents-n.result c.collection-newer.ensures.same c.documents-n.ensures.value in
    compared-shared g.H.HashKind.hash c.args.old.now c.args.new.now p c.collection-older.result.now c.collection-newer.result.now c.documents-m.result c.documents-n.result
    c.collection-older.ensures.same c.collection-newer.ensures.same m n c.documents-m.ensures.value c.documents-n.ensures.value c.compare_ranges.result c.compare_ranges.ensures.unlike
