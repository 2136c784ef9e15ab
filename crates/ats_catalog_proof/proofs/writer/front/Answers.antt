use Rattle.std.proofs.Common.{◌∙◌, [], get_or}
use Rattle.std.proofs.lemmas.List.{get_or_default}
use Rattle.ats_catalog_proof.proofs.Spelling.{roots_more}
use Rattle.ats_catalog_proof.proofs.writer.front.Goals as goal

pub loop-root-preserved : goal.loop-root-preserved
loop-root-preserved c =
    let roots = c.args.roots.now in
    let i = c.loop-root.root-index in
    c.in_ok-extend-2.ensures
    ∙ roots_more roots i (get_or roots i []) c.loop-root.bytes c.extend.new.self c.loop-root-test.true (get_or_default roots i [] (get_or roots i []) c.loop-root-test.true)
    c.loop-root.invariant
