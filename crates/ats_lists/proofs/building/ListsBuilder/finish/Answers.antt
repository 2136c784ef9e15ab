use Rattle.std.proofs.Common.{◌≡◌, ℕ, List, length, sym, ap, subst, ◌∙◌, arith}
use Rattle.ats_lists.specs.Inner.Gathered.{Pairs, HasRun}
use Rattle.ats_postings.specs.Lists.{lists_of}
use Rattle.ats_postings.proofs.Public.{lists_within}
use Rattle.ats_lists.proofs.building.ListsBuilder.finish.Goals as goal

-- the run ends with the last document
ends : (view : List (List ℕ) × ℕ × ℕ) (texts : List (List ℕ)) (first end : ℕ) → (texts, first, end) ≡ view → view.2 ≡ length view.0
    → end ≡ length texts
ends view texts first end is all =
    ap (λ (v : List (List ℕ) × ℕ × ℕ). v.2) is ∙ all ∙ sym (ap (λ (v : List (List ℕ) × ℕ × ℕ). length v.0) is)

-- all documents were added
whole : (view : List (List ℕ) × ℕ × ℕ) (texts : List (List ℕ)) (first end : ℕ) (gathered : Pairs) → (texts, first, end) ≡ view → view.1 ≡ 0
    → view.2 ≡ length view.0 → HasRun first end texts gathered → HasRun 0 (length texts) texts gathered
whole view texts first end gathered is begins all has =
    let start : first ≡ 0 = ap (λ (v : List (List ℕ) × ℕ × ℕ). v.1) is ∙ begins in
    subst (λ k. HasRun k (length texts) texts gathered) start (subst (λ k. HasRun first k texts gathered) (ends view texts first end is all) has)

pub sorted-requires : goal.sorted-requires
sorted-requires c =
    let b = c.self.inside in
    whole c.args.self b.collection.now b.first b.end b.gathered c.self.view_is c.requires.first c.requires.all c.self.invariant.2

pub new-requires : goal.new-requires
new-requires c =
    let b = c.self.inside in
    let size : b.end ≡ length b.collection.now = ends c.args.self b.collection.now b.first b.end c.self.view_is c.requires.all in
    rw c.in_ok-sorted.ensures.same
    (lists_within (length b.collection.now) 65536 (lists_of b.collection.now) (omega (arith, size, c.self.invariant.1)) c.in_ok-sorted.ensures.lists)

pub returns-clause-same : goal.returns-clause-same
returns-clause-same c =
    c.new.ensures ∙ c.in_ok-sorted.ensures.same ∙ ap (λ (v : List (List ℕ) × ℕ × ℕ). lists_of v.0) c.self.view_is

pub returns-clause-lists : goal.returns-clause-lists
returns-clause-lists c = rw (c.new.ensures, c.in_ok-sorted.ensures.same, ← c.self.view_is) c.in_ok-sorted.ensures.lists
