use Rattle.std.proofs.Common.{◌≡◌, ◌∙◌, ℕ, List, None, sym, ap, subst}
use Rattle.std.specs.Option.{option_map}
use Rattle.ats_commit.specs.Archive.{Archive}
use Rattle.ats_commit.specs.Root.{root_of}
use Rattle.ats_proof.specs.Value.{Proof}
use Rattle.ats_client.specs.Accepts.{Accepts}
use Rattle.ats_client.specs.Headline.{AreRight, IsTopOrCollides}
use Rattle.ats_client.specs.Sections.{difference_of}
use Rattle.ats_client.specs.Strings.{proof_collision}
use Rattle.ats_audit.proofs.Told.{right_rows}
use Rattle.ats_audit.proofs.auditing.audit.Goals as goal

-- an accepted proof with no collision
pub returns-in-None : goal.returns-in-None
returns-in-None g c =
    let H = g.H.HashKind.hash in
    let archive : Archive = c.args.index.now in
    let query = c.args.query.now in
    let proof : Proof = c.in-Ok.proof in
    let none : proof_collision H archive query proof ≡ None = sym c.in_ok-clash.ensures ∙ ap (option_map difference_of) c.in-None.is in
    let headline : IsTopOrCollides H (root_of H archive) query c.args.top proof =
    subst (λ (root : List ℕ). IsTopOrCollides H root query c.args.top proof) c.root-root.ensures c.in-Ok-check_rows.ensures.headline in
    record {
      proof = proof;
      accepted = record {
        says = c.in-Ok.ensures.spelled;
        accepts = subst (λ (root : List ℕ). Accepts H root query c.args.top proof) c.root-root.ensures c.in-Ok-check_rows.ensures.accepts;
      };
      none = none;
      answer = c.in-Ok-check_rows.ensures.rows;
      right = subst (AreRight archive.texts query c.args.top) (sym c.in-Ok-check_rows.ensures.rows)
          (right_rows H archive query c.args.top proof c.collection-facts.ensures.texts headline none);
    }
