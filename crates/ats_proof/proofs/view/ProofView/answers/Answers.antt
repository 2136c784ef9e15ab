use Rattle.std.proofs.Common.{◌≡◌, ◌∙◌, ℕ, length, drop, sym, ap}
use Rattle.ats_proof.specs.Parts.{number_in}
use Rattle.ats_proof.specs.Reading.{id_size, id_in, is_tra, answer_place}
use Rattle.ats_proof.specs.Value.{Proof}
use Rattle.ats_proof.proofs.Runs.{length-parts}
use Rattle.ats_proof.proofs.Answering.{answer_at}
use Rattle.ats_proof.proofs.view.ProofView.answers.Goals as goal

pub returns : goal.returns
returns c =
    let bytes = c.self.inside.bytes.now in
    let rows = drop (answer_place (is_tra bytes) bytes) bytes in
    let number : c.from.result ≡ number_in 2 rows =
    c.from.ensures ∙ c.number_2.ensures ∙ ap (number_in 2) (c.split_at.ensures.back ∙ ap (λ (n : ℕ). drop n bytes) (answer_at c.self.inside c.self.invariant)) in
    number ∙ sym (length-parts id_size id_in (number_in 2 rows) (drop 2 rows)) ∙ ap (λ (p : Proof). length p.answer) c.self.view_is
