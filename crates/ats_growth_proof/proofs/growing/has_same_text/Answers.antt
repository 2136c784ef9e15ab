use Rattle.std.proofs.Common.{◌≤◌, ◌<◌, length, arith}
use Rattle.ats_growth_proof.proofs.Prefixes.{same_text_is, past_is}
use Rattle.ats_growth_proof.proofs.growing.has_same_text.Goals as goal

pub returns-then-doc-documents : goal.returns-then-doc-documents
returns-then-doc-documents c =
    let past : length c.args.new.now ≤ c.args.doc = omega (arith, c.documents.ensures.value) in
    past_is c.args.old.now c.args.new.now c.args.doc c.requires past

pub returns : goal.returns
returns c =
    let there : c.args.doc < length c.args.new.now = omega (arith, c.documents.ensures.value) in
    same_text_is c.args.old.now c.args.new.now c.args.doc c.text.result.now c.text-2.result.now c.eq.result c.requires there c.text.ensures c.text-2.ensures c.eq.ensures
