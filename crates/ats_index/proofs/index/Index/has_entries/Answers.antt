use Rattle.std.proofs.Common.{ℕ, List, [], false, IsTrue, subst}
use Rattle.ats_lists.specs.KeptList.{format_of}
use Rattle.ats_postings.specs.Lists.{list}
use Rattle.ats_postings.specs.declared.entry.Entry.{Entry}
use Rattle.ats_lists.specs.declared.format.Format.{Format}
use Rattle.ats_commit.specs.OwnShown.{IsOwnListShown}
use Rattle.ats_index.proofs.StringLemmas.{entries_found, kept_own, own_absent}
use Rattle.ats_index.proofs.index.Index.has_entries.Goals as goal

pub list_has_shown-requires-clause-kept : goal.list_has_shown-requires-clause-kept
list_has_shown-requires-clause-kept g c =
    let entries = rw c.lists-lists.ensures at (c.list.ensures.value ([], [])) in
    (kept_own g.H.HashKind.hash c.args.self.now.format _ c.list.result.now c.list_digests.result.now (c.list_digests.ensures ([], [])) entries).1

pub returns-in-Some : goal.returns-in-Some
returns-in-Some g c =
    let H : List ℕ → List ℕ = g.H.HashKind.hash in
    let archive = c.args.self.now in
    let found = rw c.lists-lists.ensures at c.in-Some.ensures.found in
    let entries = rw c.lists-lists.ensures at (c.list.ensures.value ([], [])) in
    let own = kept_own H archive.format _ c.list.result.now c.list_digests.result.now (c.list_digests.ensures ([], [])) entries in
    let Told : Format → List Entry → Type 0 = λ format all.
    (IsTrue c.list_has_shown.result → IsOwnListShown H format all c.args.n (g.S.PartialTree.shown c.args.shown.now) (g.S.PartialTree.digests c.args.shown.now))
    × (IsOwnListShown H format all c.args.n (g.S.PartialTree.shown c.args.shown.now) (g.S.PartialTree.digests c.args.shown.now) → IsTrue c.list_has_shown.result) in
    subst (λ (format : Format). Told format (list archive.texts c.args.term.now)) own.0
    (subst (λ (all : List Entry). Told (format_of c.list_digests.result.now) all) (entries_found H archive c.args.term.now c.in-Some.i c.list.result.now found.0 found.1 entries) c.list_has_shown.ensures)

no : {X : Type 0} → IsTrue false → X
no holds = absurd (cc)

pub returns-in-None : goal.returns-in-None
returns-in-None g c =
    let none = rw c.lists-lists.ensures at c.in-None.ensures.none in
    (no, λ is. absurd (own_absent g.H.HashKind.hash c.args.self.now c.args.term.now none c.args.n _ _ is))
