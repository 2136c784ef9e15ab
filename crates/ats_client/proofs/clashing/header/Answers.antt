use Rattle.std.proofs.Common.{◌∙◌, refl, ap₂}
use Rattle.ats_lists.specs.declared.format.Format.{Format}
use Rattle.ats_commit.specs.Root.{header_string}
use Rattle.ats_dict.specs.declared.header.Header.{Header}
use Rattle.ats_client.specs.Strings.{hashed_header}
use Rattle.ats_client.proofs.Sections.{header_found, header_not, header_absent}
use Rattle.ats_client.proofs.clashing.header.Goals as goal
use Rattle.ats_client.proofs.clashing.header.Goals.{in_default-via-in-Some+else-collides, in_default-via-in_default}

pub returns-in-Some-clause-clash : goal.returns-in-Some-clause-clash
returns-in-Some-clause-clash g c =
    let same = c.string_of_header-theirs.ensures ∙ ap₂ (λ (f : Format) (h : Header). header_string f h) c.format-format.ensures c.header-header.ensures
    in header_found g.H.HashKind.hash _ _ c.in-Some.ours _ c.string_of_header-theirs.result c.in-Some.ensures same (c.if-collides.ensures.collides.0 refl)

pub returns-in_default-clause-clash : goal.returns-in_default-clause-clash
returns-in_default-clause-clash g c =
    let same = c.string_of_header-theirs.ensures ∙ ap₂ (λ (f : Format) (h : Header). header_string f h) c.format-format.ensures c.header-header.ensures
    in elim c.in_default.branch [
      | in_default-via-in-Some+else-collides w ↦
          header_not g.H.HashKind.hash _ _ w.in-Some.ours _ c.string_of_header-theirs.result w.in-Some.ensures same
          (λ both. let yes = w.if-collides.ensures.collides.1 both in absurd (cc))
      | in_default-via-in_default w ↦ header_absent g.H.HashKind.hash _ (hashed_header c.args.proof.now.format c.args.proof.now.header) w.in_default.ensures
    ]
