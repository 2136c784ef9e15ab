use Rattle.std.proofs.Common.{◌≡◌, ◌<◌, ◌^◌, ◌∷◌, [], ℕ, List, length, map, get_or, sym, ap, ◌∙◌, arith}
use Rattle.std.specs.List.{concat}
use Rattle.ats_proof.specs.Written.{Written, after}
use Rattle.ats_proof.specs.Records.{dict_leaf_record}
use Rattle.ats_dict.specs.Entry.{DictEntry}
use Rattle.ats_dict.specs.Dictionary.{entry_at}
use Rattle.ats_proof.specs.Parts.{spelled}
use Rattle.ats_proof.specs.Value.{entry_fields}
use Rattle.ats_honest.specs.Terms.{shown_entry}
use Rattle.ats_prover.proofs.Records.{entry_is}
use Rattle.ats_honest.proofs.Public.{leaf_at}
use Rattle.ats_prover.proofs.Putting.{put_made}
use Rattle.ats_prover.proofs.dictionary.write_leaves.Goals as goal

pub loop-p-preserved : goal.loop-p-preserved
loop-p-preserved c =
    let i = c.loop-p.p-index in
    let entries = c.args.dictionary.now in
    let positions = c.args.positions.now in
    let p = get_or positions i 0 in
    let inside : i < length positions = omega (arith, c.loop-p-test.true) in
    let leaf = leaf_at entries p c.requires.dictionary (c.requires.within i 0 inside) in
    let e : DictEntry = record { term = c.leaf.result.term.now; f = c.leaf.result.f; root = c.leaf.result.list_root } in
    let is : entry_at entries p ≡ e = c.leaf.ensures in
    let few : e.f < 2 ^ 32 = omega (arith, leaf.number, ap (λ (x : DictEntry). x.f) is) in
    let bytes : List ℕ = dict_leaf_record p e.term e.f e.root in
    let same : bytes ≡ concat (entry_fields (shown_entry entries p)) =
    entry_is p e (omega (arith, c.type_inv.positions i)) few ∙ ap (λ (x : DictEntry). concat (entry_fields (record { position = p; entry = x }))) (sym is) in record {
      fields = c.in_ok-dict_leaf.ensures.ok ∙ ap (λ (w : Written). after w bytes) c.loop-p.invariant.fields
          ∙ put_made entry_fields (shown_entry entries) c.args.writer.now (spelled 2 (length (map (shown_entry entries) positions)) ∷ []) positions i 0 bytes inside same;
      size = omega (arith, c.in_ok-dict_leaf.ensures.size, c.loop-p.invariant.size, leaf.short, ap (λ (x : DictEntry). length x.term) is);
    }
