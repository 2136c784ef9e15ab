use Rattle.std.proofs.Common.{◌≡◌, ◌∙◌, map, drop, refl, sym, ap, ap₂, subst, arith}
use Rattle.std.specs.List.Sorted.{IsStrictlyIncreasing}
use Rattle.std.proofs.lemmas.List.{length-drop, drop-drop}
use Rattle.ats_proof.specs.Parts.{number_in, parts_in}
use Rattle.ats_proof.specs.Reading.{entry_size, entry_in, proof_in}
use Rattle.ats_proof.specs.Runs.{shown_entry}
use Rattle.ats_proof.specs.Value.{Proof}
use Rattle.ats_proof.proofs.Documents.{leaf_positions}
use Rattle.ats_proof.proofs.InRange.{in_range}
use Rattle.ats_proof.proofs.view.ProofView.dict.Goals as goal

pub invariant_of-leaves : goal.invariant_of-leaves
invariant_of-leaves c =
    let bytes = c.self.inside.bytes.now in
    let left : c.from-left.result ≡ number_in 2 (drop 113 bytes) = c.from-left.ensures ∙ c.number_2.ensures ∙ ap (number_in 2) c.split_at.ensures.back in
    let two = drop-drop 2 113 bytes in
    record {
      fits = rw (left, c.split_at-3.ensures.back, ← two) (omega (arith, c.self.invariant.space.docs, length-drop 2 (drop 113 bytes), length-drop 113 bytes));
      rises = rw (left, c.split_at-3.ensures.back, ← two)
          (subst IsStrictlyIncreasing (leaf_positions 36 entry_in (λ e. e.position) (λ _. refl) (number_in 2 (drop 113 bytes)) (drop 2 (drop 113 bytes))) (in_range bytes (proof_in bytes) c.self.invariant.spelled).terms.rises);
    }

pub returns-clause-entries : goal.returns-clause-entries
returns-clause-entries c =
    let bytes = c.self.inside.bytes.now in
    let left : c.from-left.result ≡ number_in 2 (drop 113 bytes) = c.from-left.ensures ∙ c.number_2.ensures ∙ ap (number_in 2) c.split_at.ensures.back in
    ap₂ (λ n xs. parts_in entry_size entry_in n xs) left (c.split_at-3.ensures.back ∙ sym (drop-drop 2 113 bytes)) ∙ ap (λ (p : Proof). p.dict) c.self.view_is

pub returns-clause-shown : goal.returns-clause-shown
returns-clause-shown c =
    let bytes = c.self.inside.bytes.now in
    let left : c.from-left.result ≡ number_in 2 (drop 113 bytes) = c.from-left.ensures ∙ c.number_2.ensures ∙ ap (number_in 2) c.split_at.ensures.back in
    c.are_shown.ensures ∙ ap₂ (λ n xs. map shown_entry (parts_in entry_size entry_in n xs)) left (c.split_at-3.ensures.back ∙ sym (drop-drop 2 113 bytes))
    ∙ ap (λ (p : Proof). map shown_entry p.dict) c.self.view_is
