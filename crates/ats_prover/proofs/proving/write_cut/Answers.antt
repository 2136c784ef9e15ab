use Rattle.std.proofs.Common.{◌≡◌, ◌≤◌, ◌++◌, ℕ, List, length, map, subst, sym, ap, ◌∙◌, arith, Bor}
use Rattle.std.specs.List.{All, flat_map}
use Rattle.std.proofs.lemmas.Result.{on_ok_weaker}
use Rattle.std.proofs.lemmas.List.{length-map}
use Rattle.ats_postings.specs.Lists.{IsList}
use Rattle.ats_lists.specs.declared.format.Format.{Format}
use Rattle.ats_lists.specs.declared.list_keeping.ListDigests.{ListDigests}
use Rattle.ats_bound.specs.Schedule.{AreWholeLanes, IsCut, WholeLane, whole_lanes, shown}
use Rattle.ats_bound.specs.declared.lane.Lane.{Lane}
use Rattle.ats_proof.specs.Written.{Written}
use Rattle.ats_proof.specs.Parts.{counted}
use Rattle.ats_proof.specs.Value.{documents_fields, id_fields, prefix_fields}
use Rattle.ats_honest.specs.Honest.{AreMet, prefixes}
use Rattle.ats_honest.specs.Lanes.{lane_of, lanes_of, present}
use Rattle.ats_prover.specs.Inner.Nodes.{list_digests}
use Rattle.ats_prover.specs.Inner.Writing.{AreDocumentsWritten, put}
use Rattle.ats_honest.proofs.Public.{lanes_have_lists, met_lists, met_low, rising_few, lists_below}
use Rattle.ats_prover.proofs.Putting.{put_put, started}
use Rattle.ats_prover.proofs.proving.write_cut.Goals as goal

-- no more ids than documents
few_ids : (given lanes : List WholeLane) (cut met : List ℕ) → given ≡ lanes → All (λ (lane : WholeLane). IsList 65536 lane.entries) given → AreMet (shown lanes cut) met → length met ≤ 65536
few_ids given lanes cut met own lists are =
    rising_few 65536 met are.rise (met_low 65536 lanes cut met (lists_below lanes (subst (All (λ (lane : WholeLane). IsList 65536 lane.entries)) own lists)) are)

-- the digests that are lent are those of the lanes that are lent
lent_digests : (H : List ℕ → List ℕ) (format : Format) (lent own : List Lane) (digests kept : List (Bor ListDigests)) → lent ≡ own → digests ≡ kept
    → map (λ (n : Bor ListDigests). n.now) kept ≡ list_digests H format (whole_lanes own) → map (λ (n : Bor ListDigests). n.now) digests ≡ list_digests H format (whole_lanes lent)
lent_digests H format lent own digests kept same also are =
    ap (map (λ (n : Bor ListDigests). n.now)) also ∙ are ∙ sym (ap (λ (ls : List Lane). list_digests H format (whole_lanes ls)) same)

pub write_lists-requires-clause-rise : goal.write_lists-requires-clause-rise
write_lists-requires-clause-rise g c = c.requires.met.rise

pub write_lists-requires-clause-documents : goal.write_lists-requires-clause-documents
write_lists-requires-clause-documents g c =
    few_ids _ (lanes_of c.args.index.now.texts c.args.query.now) c.args.cut.now c.args.met.now c.requires.terms.own c.requires.terms.lists c.requires.met

-- the lanes and the digests that are lent
pub write_lists-requires-clause-lanes : goal.write_lists-requires-clause-lanes
write_lists-requires-clause-lanes g c = subst (λ (ls : List Lane). AreWholeLanes (whole_lanes ls)) (sym c.deref.ensures.value) c.requires.terms.whole

pub write_lists-requires-clause-lists : goal.write_lists-requires-clause-lists
write_lists-requires-clause-lists g c =
    subst (λ (ls : List Lane). All (λ (lane : WholeLane). IsList 65536 lane.entries) (whole_lanes ls)) (sym c.deref.ensures.value) c.requires.terms.lists

pub write_lists-requires-clause-kept : goal.write_lists-requires-clause-kept
write_lists-requires-clause-kept g c =
    (c.args.index.now.format, lent_digests g.H.HashKind.hash c.args.index.now.format _ _ _ _ c.deref.ensures.value c.deref-2.ensures.value c.requires.terms.kept)

pub write_lists-requires-clause-cut : goal.write_lists-requires-clause-cut
write_lists-requires-clause-cut g c =
    subst (λ (ls : List WholeLane). IsCut ls c.args.cut.now) (sym (ap whole_lanes c.deref.ensures.value ∙ c.requires.terms.own)) c.requires.cut

pub write_documents-requires-clause-rise : goal.write_documents-requires-clause-rise
write_documents-requires-clause-rise g c = c.requires.met.rise

pub write_documents-requires-clause-within : goal.write_documents-requires-clause-within
write_documents-requires-clause-within g c =
    let texts = c.args.index.now.texts in
    met_low (length texts) (lanes_of texts c.args.query.now) c.args.cut.now c.args.met.now (λ k d inside. (lanes_have_lists texts c.args.query.now k d inside).documents) c.requires.met

pub write_documents-requires-clause-some : goal.write_documents-requires-clause-some
write_documents-requires-clause-some g c any =
    let terms = present c.args.index.now.texts c.args.query.now in
    let lanes = lanes_of c.args.index.now.texts c.args.query.now in
    omega (
      arith,
      met_lists lanes c.args.cut.now c.args.met.now c.requires.met (omega (arith, any)),
      length-map terms (lane_of c.args.index.now.texts),
      ap (λ (ts : List (List ℕ × ℕ)). length ts) c.requires.terms.have_lists,
    )

pub write_documents-requires-clause-few : goal.write_documents-requires-clause-few
write_documents-requires-clause-few g c =
    few_ids _ (lanes_of c.args.index.now.texts c.args.query.now) c.args.cut.now c.args.met.now c.requires.terms.own c.requires.terms.lists c.requires.met

pub write_documents-requires-clause-started : goal.write_documents-requires-clause-started
write_documents-requires-clause-started g c =
    started c.args.writer.now c.write_lists.new.writer _ (c.in_ok-write_lists.ensures.fields c.args.index.now.format
    (lent_digests g.H.HashKind.hash c.args.index.now.format _ _ _ _ c.deref.ensures.value c.deref-2.ensures.value c.requires.terms.kept))

pub returns : goal.returns
returns g c =
    let H = g.H.HashKind.hash in
    let archive = c.args.index.now in
    let lanes = lanes_of archive.texts c.args.query.now in
    let w : Written = c.args.writer.now in
    let Front : List WholeLane → List (List ℕ) = λ (ls : List WholeLane).
    counted 4 id_fields c.args.met.now ++ flat_map prefix_fields (prefixes H archive.format c.args.met.now ls c.args.cut.now) in
    let lists : c.write_lists.new.writer ≡ put w (Front lanes) = c.in_ok-write_lists.ensures.fields archive.format
    (lent_digests H archive.format _ _ _ _ c.deref.ensures.value c.deref-2.ensures.value c.requires.terms.kept)
    ∙ ap (λ (ls : List WholeLane). put w (Front ls)) (ap whole_lanes c.deref.ensures.value ∙ c.requires.terms.own) in
    let documents = subst (λ (ts : List (List ℕ × ℕ)). AreDocumentsWritten c.args.algorithm H archive.texts ts c.args.met.now c.write_lists.new.writer c.write_documents.new.writer)
    c.requires.terms.have_lists c.in_ok-write_documents.ensures.written in
    let shows : List (List ℕ) = documents_fields documents.docs in
    let rows : List (List ℕ) = counted 2 id_fields c.args.picks.now in
    let so_far : c.write_documents.new.writer ≡ put w (Front lanes ++ shows) = documents.asked ∙ ap (λ (v : Written). put v shows) lists ∙ put_put w (Front lanes) shows in
    on_ok_weaker c.write_answer.result (λ is. record {
      docs = documents.docs;
      honest = documents.honest;
      come = documents.come;
      asked = is ∙ ap (λ (v : Written). put v rows) so_far ∙ put_put w (Front lanes ++ shows) rows;
    }) c.write_answer.ensures.fields
