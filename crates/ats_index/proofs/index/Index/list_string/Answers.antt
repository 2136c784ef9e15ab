use Rattle.std.proofs.Common.{ℕ, List, [], ◌∙◌, ap₂, sym}
use Rattle.ats_lists.specs.Formats.{list_string}
use Rattle.ats_postings.specs.declared.entry.Entry.{Entry}
use Rattle.ats_lists.specs.declared.format.Format.{Format}
use Rattle.ats_commit.specs.Places.{numbers_at}
use Rattle.ats_index.proofs.StringLemmas.{entries_found, kept_own, list_absent}
use Rattle.ats_index.proofs.index.Index.list_string.Goals as goal

pub string_at-requires-clause-kept : goal.string_at-requires-clause-kept
string_at-requires-clause-kept g c =
    let entries = rw c.lists-lists.ensures at (c.list.ensures.value ([], [])) in
    (kept_own g.H.HashKind.hash c.args.self.now.format _ c.list.result.now c.list_digests-digests.result.now (c.list_digests-digests.ensures ([], [])) entries).1

pub returns-in-Some : goal.returns-in-Some
returns-in-Some g c =
    let H : List ℕ → List ℕ = g.H.HashKind.hash in
    let found = rw c.lists-lists.ensures at c.in-Some.ensures.found in
    let entries = rw c.lists-lists.ensures at (c.list.ensures.value ([], [])) in
    let own = kept_own H c.args.self.now.format _ c.list.result.now c.list_digests-digests.result.now (c.list_digests-digests.ensures ([], [])) entries in
    c.string_at.ensures
    ∙ ap₂ (λ (format : Format) (all : List Entry). list_string H format all (numbers_at c.args.place.now)) own.0
    (entries_found H c.args.self.now c.args.term.now c.in-Some.i c.list.result.now found.0 found.1 entries)

pub returns-in-None : goal.returns-in-None
returns-in-None g c =
    let none = rw c.lists-lists.ensures at c.in-None.ensures.none in
    sym (list_absent g.H.HashKind.hash c.args.self.now c.args.term.now (numbers_at c.args.place.now) none)
