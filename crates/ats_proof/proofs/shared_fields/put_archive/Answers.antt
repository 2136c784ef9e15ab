use Rattle.std.proofs.Common.{◌∙◌, ◌++◌, ◌∷◌, [], ℕ, List, ap, ap₂, append_assoc}
use Rattle.ats_lists.specs.FormatNumber.{number_of_format}
use Rattle.ats_proof.proofs.Encoded.{archive_join}
use Rattle.ats_proof.proofs.shared_fields.put_archive.Goals as goal

pub returns : goal.returns
returns c =
    let old = c.args.bytes.now in
    c.in_ok-extend.ensures
    ∙ ap₂ (λ (front header : List ℕ). front ++ header) (c.in_ok-push.ensures ∙ ap (λ (n : ℕ). old ++ n ∷ []) c.number.ensures) c.bytes.ensures
    ∙ append_assoc old (number_of_format c.args.format ∷ []) _ ∙ ap (λ (xs : List ℕ). old ++ xs) (archive_join c.args.format c.args.header.now c.requires)
