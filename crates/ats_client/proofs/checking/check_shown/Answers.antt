use Rattle.std.proofs.Common.{◌≡◌, ℕ, List, Result}
use Rattle.std.specs.Result.{IfErr, IsErrAnd}
use Rattle.ats_bound.specs.Cut.{bracket}
use Rattle.ats_proof.specs.Value.{IsProof, Proof}
use Rattle.ats_refusal.specs.declared.proof.Refusal.{Refusal}
use Rattle.ats_client.specs.Accepts.{shown_rules, IsFirstShownRefusal}
use Rattle.ats_client.specs.Bracketing.{bounds_of}
use Rattle.ats_client.specs.Presented.{lanes_of}
use Rattle.ats_client.proofs.Faults.{passed_on}
use Rattle.ats_client.proofs.Headline.{bounded_or_collides}
use Rattle.ats_client.proofs.OneRefusal.{shown_accepted}
use Rattle.ats_client.proofs.TwoRuns.{AfterHolding, first_after}
use Rattle.ats_client.proofs.checking.check_shown.Goals as goal

-- the refusal of the first group that fails, after this many others, is passed on
refused_after : (H : List ℕ → List ℕ) (root : List ℕ) (query : List (List ℕ × ℕ)) (proof : Proof) (n : ℕ) (result : Result ℕ Refusal) (refusal : Refusal)
    → IsErrAnd result (λ told. told ≡ refusal) → AfterHolding n (shown_rules H root query proof) refusal (IfErr result (IsFirstShownRefusal H root query proof))
refused_after H root query proof n result refusal told =
    first_after n (shown_rules H root query proof) refusal (IfErr result (IsFirstShownRefusal H root query proof))
    (λ is. passed_on (IsFirstShownRefusal H root query proof) result refusal told (record { first = is }))

pub returns-in_err-met-clause-refused : goal.returns-in_err-met-clause-refused
returns-in_err-met-clause-refused g c =
    refused_after g.H.HashKind.hash c.args.root.now c.args.query.now c.args.proof.now 4 c.from_residual-in_err-met.result c.in_err-met.field-0.0
    c.from_residual-in_err-met.ensures.1 c.in_ok-opened.ensures.holds c.in_ok-dictionary.ensures.holds c.in_ok-slots.ensures.holds
    c.in_ok-threshold.ensures.right (c.in_err-met.ensures.unmet bracket _ c.in_ok-threshold.ensures.marks)

pub returns-in_err-documents_tree-clause-refused : goal.returns-in_err-documents_tree-clause-refused
returns-in_err-documents_tree-clause-refused g c =
    refused_after g.H.HashKind.hash c.args.root.now c.args.query.now c.args.proof.now 5 c.from_residual-in_err-documents_tree.result c.in_err-documents_tree.field-0.0
    c.from_residual-in_err-documents_tree.ensures.1 c.in_ok-opened.ensures.holds c.in_ok-dictionary.ensures.holds c.in_ok-slots.ensures.holds
    c.in_ok-threshold.ensures.right (c.in_ok-met.ensures.all bracket _ c.in_ok-threshold.ensures.marks) c.in_err-documents_tree.ensures.fault

pub returns-in_err-documents-clause-refused : goal.returns-in_err-documents-clause-refused
returns-in_err-documents-clause-refused g c =
    refused_after g.H.HashKind.hash c.args.root.now c.args.query.now c.args.proof.now 6 c.from_residual-in_err-documents.result c.in_err-documents.field-0.0
    c.from_residual-in_err-documents.ensures.1 c.in_ok-opened.ensures.holds c.in_ok-dictionary.ensures.holds c.in_ok-slots.ensures.holds
    c.in_ok-threshold.ensures.right (c.in_ok-met.ensures.all bracket _ c.in_ok-threshold.ensures.marks) c.in_ok-documents_tree.ensures.holds c.in_err-documents.ensures.fault

pub returns-in_err-rows-clause-refused : goal.returns-in_err-rows-clause-refused
returns-in_err-rows-clause-refused g c =
    refused_after g.H.HashKind.hash c.args.root.now c.args.query.now c.args.proof.now 7 c.from_residual-in_err-rows.result c.in_err-rows.field-0.0
    c.from_residual-in_err-rows.ensures.1 c.in_ok-opened.ensures.holds c.in_ok-dictionary.ensures.holds c.in_ok-slots.ensures.holds
    c.in_ok-threshold.ensures.right (c.in_ok-met.ensures.all bracket _ c.in_ok-threshold.ensures.marks) c.in_ok-documents_tree.ensures.holds c.in_ok-documents.ensures.right c.in_err-rows.ensures.fault

-- what is refused is not accepted
pub returns-in_err-threshold-clause-exact : goal.returns-in_err-threshold-clause-exact
returns-in_err-threshold-clause-exact g c =
    shown_accepted g.H.HashKind.hash c.args.root.now c.args.query.now c.args.proof.now c.from_residual-in_err-threshold.result
    (refused_after g.H.HashKind.hash c.args.root.now c.args.query.now c.args.proof.now 3 c.from_residual-in_err-threshold.result c.in_err-threshold.field-0.0
    c.from_residual-in_err-threshold.ensures.1 c.in_ok-opened.ensures.holds c.in_ok-dictionary.ensures.holds c.in_ok-slots.ensures.holds c.in_err-threshold.ensures.fault)

pub returns-in_err-met-clause-exact : goal.returns-in_err-met-clause-exact
returns-in_err-met-clause-exact g c =
    shown_accepted g.H.HashKind.hash c.args.root.now c.args.query.now c.args.proof.now c.from_residual-in_err-met.result (returns-in_err-met-clause-refused g c)

pub returns-in_err-documents_tree-clause-exact : goal.returns-in_err-documents_tree-clause-exact
returns-in_err-documents_tree-clause-exact g c =
    shown_accepted g.H.HashKind.hash c.args.root.now c.args.query.now c.args.proof.now c.from_residual-in_err-documents_tree.result
    (returns-in_err-documents_tree-clause-refused g c)

pub returns-in_err-documents-clause-exact : goal.returns-in_err-documents-clause-exact
returns-in_err-documents-clause-exact g c =
    shown_accepted g.H.HashKind.hash c.args.root.now c.args.query.now c.args.proof.now c.from_residual-in_err-documents.result (returns-in_err-documents-clause-refused g c)

pub returns-in_err-rows-clause-exact : goal.returns-in_err-rows-clause-exact
returns-in_err-rows-clause-exact g c =
    shown_accepted g.H.HashKind.hash c.args.root.now c.args.query.now c.args.proof.now c.from_residual-in_err-rows.result (returns-in_err-rows-clause-refused g c)

pub returns-clause-holds : goal.returns-clause-holds
returns-clause-holds g c = record {
  holds = (
    c.in_ok-opened.ensures.holds,
    (
      c.in_ok-dictionary.ensures.holds,
      (
        c.in_ok-slots.ensures.holds,
        (
          c.in_ok-threshold.ensures.right,
          (
            c.in_ok-met.ensures.all bracket _ c.in_ok-threshold.ensures.marks,
            (c.in_ok-documents_tree.ensures.holds, (c.in_ok-documents.ensures.right, (c.in_ok-rows.ensures.right, tt))),
          ),
        ),
      ),
    ),
  );
}

pub returns-clause-bounded : goal.returns-clause-bounded
returns-clause-bounded g c =
    let proof : Proof = c.args.proof.now in
    let is : IsProof c.facts.ensures.spelled.0 proof = c.facts.ensures.spelled.1 in
    bounded_or_collides g.H.HashKind.hash g.H.HashKind.sized c.args.root.now c.args.query.now proof c.in_ok-opened.ensures.asked c.facts.ensures.range
    is.prefix_each is.documents (returns-clause-holds g c)

pub returns-clause-marks : goal.returns-clause-marks
returns-clause-marks g c =
    let proof : Proof = c.args.proof.now in
    c.rows.ensures.marks (bounds_of proof) (lanes_of c.args.query.now proof) c.in_ok-documents.ensures.marks

pub returns-clause-left : goal.returns-clause-left
returns-clause-left g c = record {
  each = returns-clause-marks g c;
  rests = c.in_ok-threshold.ensures.threshold;
  small = c.in_ok-threshold.ensures.small;
  inside = c.in_ok-rows.ensures.right.inside;
}
