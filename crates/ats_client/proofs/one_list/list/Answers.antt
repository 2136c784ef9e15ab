use Rattle.std.proofs.Common.{◌≡◌, ◌+◌, ◌*◌, ◌∙◌, ℕ, ◌++◌, List, [], length, map, ap₂, subst}
use Rattle.ats_impact.specs.Numbers.{idf}
use Rattle.ats_bound.specs.Cut.{rest}
use Rattle.ats_client.specs.Presented.{Presented}
use Rattle.ats_client.specs.Indexes.{AreNames}
use Rattle.ats_client.specs.Groups.{indexes_of}
use Rattle.ats_client.specs.Inner.SeenLists.{prefix_of, presented_of}
use Rattle.ats_client.specs.Inner.Noting.{Note, note, AreNotes, index_lane}
use Rattle.ats_client.proofs.ListNotes.{names_inside, list_noted}
use Rattle.ats_client.proofs.one_list.list.Goals as goal

pub rooted-requires-clause-named : goal.rooted-requires-clause-named
rooted-requires-clause-named g c =
    let names = subst (λ (met : ℕ). AreNames met (indexes_of (prefix_of c.args.one.now.list).entries)) c.met.ensures c.in_ok-entries.ensures.names in
    names_inside (length c.args.proof.now.met) (prefix_of c.args.one.now.list).entries names

pub returns-clause-notes : goal.returns-clause-notes
returns-clause-notes g c =
    let one : Presented = presented_of c.args.one.now in
    let documents = c.args.proof.now.header.documents in
    let coefficient : c.args.coefficient ≡ one.weight * idf documents one.entry.f = c.requires.coefficient in
    let most : c.weighed-rest.result ≡ rest (index_lane documents one) = c.weighed-rest.ensures.value ∙ ap₂ (λ a b. a * b) coefficient c.rest_impact-impact.ensures.value in
    let notes = subst (λ (met : ℕ). (notes : List Note) → AreNotes met notes (c.args.one.now.number + 1) [] c.args.work.now.marks
    → AreNotes met (notes ++ map (note c.args.coefficient c.weighed-rest.result) one.prefix.entries) (c.args.one.now.number + 1) (indexes_of one.prefix.entries) c.entries.new.work.marks)
    c.met.ensures c.in_ok-entries.ensures.notes in
    λ (before : List Note) (from : AreNotes (length c.args.proof.now.met) before (c.args.one.now.number + 1) [] c.args.work.now.marks).
    list_noted (length c.args.proof.now.met) before c.args.one.now.number documents c.args.coefficient c.weighed-rest.result one c.entries.new.work.marks
    coefficient most (notes before from)
