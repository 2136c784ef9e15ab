use Rattle.std.proofs.Common.{◌≡◌, ◌+◌, ◌<◌, ◌++◌, ℕ, List, length, map, subst, sym, ap, ap₂, ◌∙◌, arith}
use Rattle.std.specs.List.{All, flat_map}
use Rattle.std.proofs.lemmas.Result.{on_ok_weaker}
use Rattle.std.proofs.lemmas.List.{length-map, get_or_default}
use Rattle.ats_tree.specs.Elided.{elided_digests}
use Rattle.ats_tree.specs.Kept.{kept_digests}
use Rattle.ats_postings.specs.Lists.{IsList}
use Rattle.ats_dict.specs.Entry.{DictEntry}
use Rattle.ats_dict.specs.Dictionary.{IsDictionary, dict_leaves}
use Rattle.ats_dict.specs.declared.spot.Spot.{Spot}
use Rattle.ats_commit.specs.Archive.{Archive}
use Rattle.ats_commit.specs.Root.{header_parts}
use Rattle.ats_commit.specs.Trees.{dictionary_of}
use Rattle.ats_commit.proofs.Public.{few_within, header_in_range}
use Rattle.ats_bound.specs.Schedule.{WholeLane}
use Rattle.ats_proof.specs.Written.{Written}
use Rattle.ats_proof.specs.Parts.{counted}
use Rattle.ats_proof.specs.Value.{digest_fields, entry_fields, slot_fields}
use Rattle.ats_honest.specs.Terms.{AreNeeded, shown_entry, slot_of}
use Rattle.ats_honest.specs.Lanes.{present}
use Rattle.ats_honest.proofs.Public.{HasParts, spot_each, positions_below}
use Rattle.ats_prover.specs.Inner.Writing.{put}
use Rattle.ats_prover.proofs.Asked.{front_put, kind_of_documents, written}
use Rattle.ats_prover.proofs.proving.write_shown.Goals as goal

-- the nodes that are lent, of the dictionary that is lent
pub write_terms-requires-clause-nodes : goal.write_terms-requires-clause-nodes
write_terms-requires-clause-nodes g c =
    c.dict_nodes.ensures ∙ ap (λ (es : List DictEntry). kept_digests g.H.HashKind.hash (dict_leaves es)) (sym c.dictionary-2.ensures)

pub write_terms-requires-clause-within : goal.write_terms-requires-clause-within
write_terms-requires-clause-within g c =
    let entries = dictionary_of g.H.HashKind.hash c.args.index.now in
    let spots = c.args.terms.now.spots.items in
    let needed : AreNeeded spots c.keep_positions.new.positions.items =
    subst (λ (ss : List Spot). AreNeeded ss c.keep_positions.new.positions.items) c.deref.ensures.value c.in_ok-keep_positions.ensures.needed in
    let below = positions_below entries c.args.query.now spots c.keep_positions.new.positions.items c.requires.terms.found needed in
    let size : length c.dictionary-2.result.now ≡ length entries = ap (λ (es : List DictEntry). length es) c.dictionary-2.ensures in
    λ k d inside. omega (arith, subst (λ (ps : List ℕ). All (λ p. p < length entries + 2) ps) (sym c.deref-2.ensures.value) below k d inside, size)

pub returns-clause-texts : goal.returns-clause-texts
returns-clause-texts g c = on_ok_weaker c.write_cut.result (λ is. c.header.ensures.texts) c.write_cut.ensures

pub returns-clause-written : goal.returns-clause-written
returns-clause-written g c =
    let H = g.H.HashKind.hash in
    let archive : Archive = c.args.index.now in
    let texts = archive.texts in
    let query = c.args.query.now in
    let algorithm = c.args.algorithm in
    let entries = dictionary_of H archive in
    let given = c.requires.terms in
    let spots = c.args.terms.now.spots.items in
    let positions = c.keep_positions.new.positions.items in
    let cut = c.args.cut.now in
    let met = c.args.met.now in
    let picks = c.args.picks.now in
    let dictionary : IsDictionary entries = subst IsDictionary c.dictionary.ensures c.len.ensures.holds in
    let own = c.header.ensures.texts in
    let range = header_in_range H g.H.HashKind.sized archive own.within (few_within texts own.utf8 own.within) in
    let number : c.len-2.result ≡ length (map (slot_of positions) spots) =
    c.len-2.ensures.value ∙ sym (length-map spots (slot_of positions) ∙ spot_each entries query spots given.found) in
    let Terms : List DictEntry → List ℕ → List Spot → Written = λ (es : List DictEntry) (ps : List ℕ) (ss : List Spot).
    put c.front_in.new.self (counted 2 entry_fields (map (shown_entry es) ps) ++ counted 2 digest_fields (elided_digests H (dict_leaves es) ps) ++ flat_map slot_fields (map (slot_of ps) ss)) in
    let terms : c.write_terms.new.writer ≡ Terms entries positions spots = c.in_ok-write_terms.ensures.fields
    ∙ ap (λ (es : List DictEntry). Terms es c.deref-2.result.now c.deref-3.result.now) c.dictionary-2.ensures
    ∙ ap₂ (λ (ps : List ℕ) (ss : List Spot). Terms entries ps ss) c.deref-2.ensures.value c.deref-3.ensures.value in
    on_ok_weaker c.write_cut.result (λ shows.
    let parts : HasParts H archive query algorithm spots positions cut met shows.docs picks = record {
      sized = g.H.HashKind.sized;
      dictionary = dictionary;
      front = range;
      is_query = c.len-2.ensures.query;
      found = given.found;
      needed = subst (λ (ss : List Spot). AreNeeded ss positions) c.deref.ensures.value c.in_ok-keep_positions.ensures.needed;
      lists = subst (All (λ (lane : WholeLane). IsList 65536 lane.entries)) given.own given.lists;
      is_cut = c.requires.cut;
      met = c.requires.met;
      has_documents = shows.honest;
      documents_come = shows.come;
      rows = c.requires.rows;
      small = λ k d inside. omega (arith, c.type_inv.picks k, get_or_default picks k d 0 inside);
    } in
    let front = c.in_ok-front_in.ensures.ok
    ∙ front_put c.format.result archive.format algorithm shows.docs c.header.result.now (header_parts H archive) c.len-2.result (length (map (slot_of positions) spots)) c.args.writer.now
    (kind_of_documents H texts (present texts query) met algorithm shows.docs shows.honest) c.format.ensures c.header.ensures.parts number
    (omega (arith, range.numbers.few)) (omega (arith, range.numbers.terms)) (omega (arith, number, c.len-2.ensures.value, c.len-2.ensures.query.few)) in
    written H archive query algorithm spots positions cut met shows.docs picks c.args.writer.now c.front_in.new.self c.write_terms.new.writer c.write_cut.new.writer parts front terms shows.asked) c.write_cut.ensures
