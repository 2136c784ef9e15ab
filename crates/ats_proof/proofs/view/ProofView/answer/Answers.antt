use Rattle.std.proofs.Common.{◌≡◌, ◌∙◌, ℕ, ◌<◌, ◌+◌, length, drop, sym, ap, arith}
use Rattle.std.proofs.lemmas.List.{length-drop, drop-drop}
use Rattle.ats_proof.specs.Parts.{number_in}
use Rattle.ats_proof.specs.Reading.{id_size, id_in, is_tra, answer_place}
use Rattle.ats_proof.specs.Value.{Proof}
use Rattle.ats_proof.proofs.Runs.{length-parts}
use Rattle.ats_proof.proofs.Taking.{part_at, total_fixed}
use Rattle.ats_proof.proofs.Answering.{answer_at}
use Rattle.ats_proof.proofs.view.ProofView.answer.Goals as goal

pub nth-requires-clause-space : goal.nth-requires-clause-space
nth-requires-clause-space c =
    let bytes = c.self.inside.bytes.now in
    let place = answer_place (is_tra bytes) bytes in
    let rows = drop place bytes in
    let at = answer_at c.self.inside c.self.invariant in
    let count = length-parts id_size id_in (number_in 2 rows) (drop 2 rows) in
    let fours = total_fixed 4 (λ b. b) (number_in 2 rows) (drop 2 rows) in
    rw c.split_at.ensures.back (omega (arith, at, count, fours, c.answers.ensures, c.self.invariant.space.answer, ap (λ (p : Proof). length p.answer) c.self.view_is, length-drop (c.self.inside.ended.answer + 2) bytes))

pub returns-clause-row : goal.returns-clause-row
returns-clause-row c =
    let bytes = c.self.inside.bytes.now in
    let place = answer_place (is_tra bytes) bytes in
    let rows = drop place bytes in
    let count = length-parts id_size id_in (number_in 2 rows) (drop 2 rows) in
    let within : c.args.i < number_in 2 rows = omega (arith, c.requires.within, count, ap (λ (p : Proof). length p.answer) c.self.view_is) in
    let start : c.split_at.result.1.now ≡ drop 2 rows =
    c.split_at.ensures.back ∙ ap (λ (n : ℕ). drop (n + 2) bytes) (answer_at c.self.inside c.self.invariant) ∙ sym (drop-drop 2 place bytes) in
    rw (← c.self.view_is, c.number_4.ensures, c.nth.ensures.part, start) (part_at 4 id_in (number_in 2 rows) c.args.i (drop 2 rows) within)
