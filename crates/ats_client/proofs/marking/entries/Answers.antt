use Rattle.std.proofs.Common.{◌≡◌, ◌≢◌, ◌≤◌, ◌+◌, ◌^◌, ◌∙◌, List, [], take, refl, ap, subst, arith, take_all, inl, inr}
use Rattle.std.proofs.lemmas.List.{length-map}
use Rattle.std.proofs.lemmas.Bool.{cases_eq}
use Rattle.ats_postings.specs.declared.entry.Entry.{Entry}
use Rattle.ats_bound.specs.Work.{Marked, mark_at}
use Rattle.ats_client.specs.Groups.{indexes_of}
use Rattle.ats_client.specs.Inner.SeenLists.{prefix_of}
use Rattle.ats_client.specs.Inner.Noting.{Note, AreNotes}
use Rattle.ats_client.proofs.Named.{out_at, again_at, names_more}
use Rattle.ats_client.proofs.Marks.{index_at, notes_next, named_before, not_named, space_for}
use Rattle.ats_client.proofs.marking.entries.Goals as goal

pub returns-then-entry-met-clause-fault : goal.returns-then-entry-met-clause-fault
unfolding prefix_of
returns-then-entry-met-clause-fault c =
    let entries : List Entry = (prefix_of c.args.one.now.list).entries in
    let at = index_at entries c.loop-i.i c.entry-entry.result c.entry-entry.ensures.entry in
    (refl, out_at c.args.met (indexes_of entries) c.loop-i.i c.entry-entry.result.doc at c.loop-i.invariant.names c.if-entry-met.true)

pub noted-requires-clause-inside : goal.noted-requires-clause-inside
noted-requires-clause-inside c =
    let are = c.loop-i.invariant.notes c.requires.notes.0 c.requires.notes.1 in
    let space = space_for c.args.met _ (c.args.one.now.number + 1) _ c.loop-i.work.marks c.entry-entry.result.doc are c.if-entry-met.false (omega (arith, c.requires.number)) in
    space.inside

pub noted-requires-clause-lo : goal.noted-requires-clause-lo
noted-requires-clause-lo c =
    let are = c.loop-i.invariant.notes c.requires.notes.0 c.requires.notes.1 in
    let space = space_for c.args.met _ (c.args.one.now.number + 1) _ c.loop-i.work.marks c.entry-entry.result.doc are c.if-entry-met.false (omega (arith, c.requires.number)) in
    omega (arith, space.lo, c.weighed-gain.ensures.small)

pub noted-requires-clause-held : goal.noted-requires-clause-held
noted-requires-clause-held c =
    let are = c.loop-i.invariant.notes c.requires.notes.0 c.requires.notes.1 in
    let space = space_for c.args.met _ (c.args.one.now.number + 1) _ c.loop-i.work.marks c.entry-entry.result.doc are c.if-entry-met.false (omega (arith, c.requires.number)) in
    omega (arith, space.held, c.requires.rest)

pub returns-then-not-noted-clause-fault : goal.returns-then-not-noted-clause-fault
unfolding prefix_of
returns-then-not-noted-clause-fault c =
    let entries : List Entry = (prefix_of c.args.one.now.list).entries in
    let x = c.entry-entry.result.doc in
    let are = c.loop-i.invariant.notes c.requires.notes.0 c.requires.notes.1 in
    let at = index_at entries c.loop-i.i c.entry-entry.result c.entry-entry.ensures.entry in
    elim (cases_eq (mark_at c.loop-i.work.marks x).list (c.args.one.now.number + 1)) [
      | inl same ↦
          let again = named_before c.args.met _ (c.args.one.now.number + 1) _ c.loop-i.work.marks x are c.if-entry-met.false same in
          (refl, again_at c.args.met (indexes_of entries) c.loop-i.i x at c.loop-i.invariant.names c.if-entry-met.false again)
      | inr other ↦ let first = c.noted.ensures.first.1 other in absurd (cc (first, c.if-not-noted.true))
    ]

pub loop-i-preserved : goal.loop-i-preserved
unfolding prefix_of
loop-i-preserved c =
    let entries : List Entry = (prefix_of c.args.one.now.list).entries in
    let e = c.entry-entry.result in
    let l = c.args.one.now.number + 1 in
    let are = c.loop-i.invariant.notes c.requires.notes.0 c.requires.notes.1 in
    let at = index_at entries c.loop-i.i e c.entry-entry.ensures.entry in
    let first : (mark_at c.loop-i.work.marks e.doc).list ≢ l = c.noted.ensures.first.0 c.if-not-noted.false in
    let none = not_named c.args.met _ l _ c.loop-i.work.marks e.doc are c.if-entry-met.false first in
    let put = c.noted.ensures.marks c.if-not-noted.false in
    let gain = c.weighed-gain.ensures.value in
    let small = subst (λ n. n ≤ 2 ^ 33) gain c.weighed-gain.ensures.small in
    record {
      names = names_more c.args.met (indexes_of entries) c.loop-i.i e.doc at c.loop-i.invariant.names c.if-entry-met.false none;
      notes = λ (notes : List Note) (from : AreNotes c.args.met notes l [] c.args.work.now.marks).
          notes_next c.args.met notes l c.args.coefficient c.args.rest entries c.loop-i.i e c.loop-i.work.marks c.noted.new.work.marks
          c.entry-entry.ensures.entry c.if-entry-met.false (omega arith) small c.requires.rest (c.loop-i.invariant.notes notes from) first
          (rw gain at (ap (λ (w : Marked). w.marks) put));
      room = c.noted.ensures.room ∙ c.loop-i.invariant.room;
      cost = omega (arith, c.noted.ensures.cost, c.entry-entry.ensures.cost, c.loop-i.invariant.cost);
    }

pub returns-clause-notes : goal.returns-clause-notes
unfolding prefix_of
returns-clause-notes c =
    let entries : List Entry = (prefix_of c.args.one.now.list).entries in
    let whole : take c.loop-i.i entries ≡ entries = take_all c.loop-i.i entries (omega (arith, c.len-i-end.ensures)) in
    let indexes : take c.loop-i.i (indexes_of entries) ≡ indexes_of entries =
    take_all c.loop-i.i (indexes_of entries) (omega (arith, c.len-i-end.ensures, length-map entries (λ (entry : Entry). entry.doc))) in
    λ (notes : List Note) (from : AreNotes c.args.met notes (c.args.one.now.number + 1) [] c.args.work.now.marks).
    rw (whole, indexes) at (c.loop-i.invariant.notes notes from)
