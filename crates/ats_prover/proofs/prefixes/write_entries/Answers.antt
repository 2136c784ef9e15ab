use Rattle.std.proofs.Common.{ℕ, ◌<◌, ◌∷◌, [], length, map, get_or, ap, ◌∙◌, arith}
use Rattle.std.specs.List.{concat}
use Rattle.ats_postings.specs.declared.entry.Entry.{Entry}
use Rattle.ats_proof.specs.Written.{Written, after}
use Rattle.ats_proof.specs.Records.{entry_record}
use Rattle.ats_proof.specs.Parts.{spelled}
use Rattle.ats_proof.specs.Value.{posting_fields}
use Rattle.ats_honest.specs.Honest.{placed}
use Rattle.ats_prover.proofs.Records.{posting_is}
use Rattle.ats_prover.proofs.Putting.{put_made}
use Rattle.ats_prover.proofs.prefixes.write_entries.Goals as goal

pub loop-entry-preserved : goal.loop-entry-preserved
loop-entry-preserved c =
    let i = c.loop-entry.entry-index in
    let met = c.args.met.now in
    let entries = c.args.entries.now in
    let d : Entry = record { doc = 0; impact = 0 } in
    let inside : i < length entries = omega (arith, c.loop-entry-test.true) in record {
      fields = c.in_ok-entry.ensures.ok ∙ ap (λ (w : Written). after w (entry_record c.place.result (get_or entries i d).impact)) c.loop-entry.invariant.fields
          ∙ put_made posting_fields (placed met) c.args.writer.now (spelled 4 (length (map (placed met) entries)) ∷ []) entries i d (entry_record c.place.result (get_or entries i d).impact) inside
          (posting_is c.place.result (get_or entries i d).impact (omega (arith, c.place.ensures.within, c.requires.documents)) (c.requires.impacts i d inside)
          ∙ ap (λ (n : ℕ). concat (posting_fields (record { doc = n; impact = (get_or entries i d).impact }))) c.place.ensures.place);
      size = omega (arith, c.in_ok-entry.ensures.size, c.loop-entry.invariant.size);
    }
