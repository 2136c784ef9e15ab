use Rattle.std.proofs.Common.{◌∙◌, ◌+◌, ◌++◌, drop, sym, ap, ap₂, arith}
use Rattle.std.proofs.lemmas.List.{length-take-le, length-drop}
use Rattle.ats_tree.specs.Shown.{first_leaf}
use Rattle.ats_proof.specs.Reading.{leaf_size, term_length_in}
use Rattle.ats_proof.specs.Runs.{leaf_in}
use Rattle.ats_proof.proofs.Taking.{parts_more, first_fits}
use Rattle.ats_proof.proofs.Cutting.{both_parts}
use Rattle.ats_proof.proofs.leaves.LeafRun.first.Goals as goal

pub cut_leaf-requires : goal.cut_leaf-requires
cut_leaf-requires c = first_fits (leaf_size c.args.self.now.after_term) c.args.self.now.left c.args.self.now.bytes.now c.requires c.args.self.now.fits

pub returns-clause-whole : goal.returns-clause-whole
returns-clause-whole c =
    let run = c.args.self.now in
    ap₂ (λ xs ys. xs ++ ys) c.cut_leaf.ensures.front c.cut_leaf.ensures.back ∙ both_parts run.after_term run.bytes.now
    ∙ ap first_leaf (sym (parts_more (leaf_size run.after_term) (leaf_in run.after_term) run.left run.bytes.now c.requires))

pub returns-clause-size : goal.returns-clause-size
returns-clause-size c =
    let run = c.args.self.now in
    let space = first_fits (leaf_size run.after_term) run.left run.bytes.now c.requires run.fits in
    rw c.cut_leaf.ensures.back (length-take-le run.after_term (drop (5 + term_length_in run.bytes.now) run.bytes.now)
    (omega (arith, space, length-drop (5 + term_length_in run.bytes.now) run.bytes.now)))
