use Rattle.std.proofs.Common.{◌≡◌, ◌+◌, ◌∙◌, ℕ, List, length, drop, sym, ap, subst, arith}
use Rattle.std.specs.List.{All, flat_map}
use Rattle.std.proofs.lemmas.List.Elements.{All-head, All-tail}
use Rattle.ats_tree.specs.Differences.{first_collision}
use Rattle.ats_commit.specs.Ours.{ours}
use Rattle.ats_proof.specs.Ranges.{IsPrefixInRange}
use Rattle.ats_proof.specs.Value.{Prefix, Proof, present_in}
use Rattle.ats_client.specs.Groups.{IsListRight}
use Rattle.ats_client.specs.Inner.SeenLists.{prefix_of, prefixes_left, presented_of}
use Rattle.ats_client.specs.Presented.{Presented, presented, presented_from}
use Rattle.ats_client.specs.Sections.{difference_of}
use Rattle.ats_client.specs.Inner.Seen.{entries_left}
use Rattle.ats_client.specs.Strings.{list_strings}
use Rattle.ats_client.proofs.Sections.{found_here, not_here}
use Rattle.ats_client.proofs.clashing.lists.Goals as goal
use Rattle.ats_client.proofs.clashing.lists.Goals.{in-Some+in_default-list, in_default}

pub loop-i-init : goal.loop-i-init
unfolding prefixes_left entries_left
loop-i-init g c =
    let H = g.H.HashKind.hash in
    let query = c.args.query.now in
    let proof : Proof = c.args.proof.now in
    let all : prefixes_left c.lists-left.result ≡ proof.lists = c.lists-left.ensures in
    let size : length proof.lists ≡ present_in proof.slots = c.facts.ensures.spelled.1.prefix_each in
    let here : presented query proof ≡ presented_from proof.dict 0 query proof.slots (prefixes_left c.lists-left.result) =
    ap (λ (l : List Prefix). presented_from proof.dict 0 query proof.slots l) (sym all) in
    record {
      looked = ap (λ (ones : List Presented). first_collision H (ours H (g.O.OwnStrings.archive c.args.own.now) query) (flat_map (list_strings H proof.format proof.met) ones)) here;
      right = subst (All (IsListRight H proof.format proof.met)) here c.requires.right;
      ranges = subst (All IsPrefixInRange) (sym all) c.facts.ensures.range.fronts;
      enough = sym (ap (λ (l : List Prefix). length l) all ∙ size);
      dict = ap entries_left c.over-walk.ensures.all ∙ c.dict.ensures.entries;
      cost = omega arith;
    }

pub list-requires-clause-range : goal.list-requires-clause-range
list-requires-clause-range g c =
    All-head IsPrefixInRange (prefix_of c.in-Some.one.list) (prefixes_left c.present.new.left) (subst (All IsPrefixInRange) c.in-Some.ensures.taken c.loop-i.invariant.ranges)

pub list-requires-clause-right : goal.list-requires-clause-right
list-requires-clause-right g c =
    let proof : Proof = c.args.proof.now in
    let i : ℕ = c.loop-i.i in
    let after : List Presented = presented_from proof.dict (i + 1) (drop (i + 1) c.args.query.now) (drop (i + 1) proof.slots) (prefixes_left c.present.new.left) in
    All-head (IsListRight g.H.HashKind.hash proof.format proof.met) (presented_of c.in-Some.one) after
    (subst (All (IsListRight g.H.HashKind.hash proof.format proof.met)) c.in-Some.ensures.some c.loop-i.invariant.right)

pub returns-in-Some-list-clause-clash : goal.returns-in-Some-list-clause-clash
returns-in-Some-list-clause-clash g c =
    let H = g.H.HashKind.hash in
    let query = c.args.query.now in
    let proof : Proof = c.args.proof.now in
    let i : ℕ = c.loop-i.i in
    let left : List Presented = presented_from proof.dict i (drop i query) (drop i proof.slots) (prefixes_left c.loop-i.left) in
    let after : List Presented = presented_from proof.dict (i + 1) (drop (i + 1) query) (drop (i + 1) proof.slots) (prefixes_left c.present.new.left) in
    found_here H (ours H (g.O.OwnStrings.archive c.args.own.now) query) (list_strings H proof.format proof.met) left (presented_of c.in-Some.one) after
    (difference_of c.in-Some-list.clash) c.in-Some.ensures.some c.in-Some-list.ensures.clash
    ∙ sym c.loop-i.invariant.looked

pub loop-i-preserved : goal.loop-i-preserved
loop-i-preserved g c =
    let H = g.H.HashKind.hash in
    let query = c.args.query.now in
    let proof : Proof = c.args.proof.now in
    let i : ℕ = c.loop-i.i in
    let left : List Presented = presented_from proof.dict i (drop i query) (drop i proof.slots) (prefixes_left c.loop-i.left) in
    let after : List Presented = presented_from proof.dict (i + 1) (drop (i + 1) query) (drop (i + 1) proof.slots) (prefixes_left c.present.new.left) in
    elim c.match-present.branch [
      | in-Some+in_default-list w ↦ record {
        looked = c.loop-i.invariant.looked
            ∙ not_here H (ours H (g.O.OwnStrings.archive c.args.own.now) query) (list_strings H proof.format proof.met) left (presented_of w.in-Some.one) after
            w.in-Some.ensures.some w.in_default-list.ensures.clash;
        right = All-tail (IsListRight H proof.format proof.met) (presented_of w.in-Some.one) after
            (subst (All (IsListRight H proof.format proof.met)) w.in-Some.ensures.some c.loop-i.invariant.right);
        ranges = All-tail IsPrefixInRange (prefix_of w.in-Some.one.list) (prefixes_left c.present.new.left) (subst (All IsPrefixInRange) w.in-Some.ensures.taken c.loop-i.invariant.ranges);
        enough = w.in-Some.ensures.enough;
        dict = ap entries_left w.in-Some.ensures.dict ∙ c.loop-i.invariant.dict;
        cost = omega (arith, w.steps-is, w.list.ensures.cost, w.in-Some.ensures.cost, c.loop-i.invariant.cost);
      }
      | in_default w ↦ record {
        looked = c.loop-i.invariant.looked
            ∙ ap (λ (ones : List Presented). first_collision H (ours H (g.O.OwnStrings.archive c.args.own.now) query) (flat_map (list_strings H proof.format proof.met) ones))
            w.in_default.ensures.none;
        right = subst (All (IsListRight H proof.format proof.met)) w.in_default.ensures.none c.loop-i.invariant.right;
        ranges = subst (All IsPrefixInRange) (sym w.in_default.ensures.same) c.loop-i.invariant.ranges;
        enough = w.in_default.ensures.enough;
        dict = ap entries_left w.in_default.ensures.dict ∙ c.loop-i.invariant.dict;
        cost = omega (arith, w.steps-is, w.in_default.ensures.cost, c.loop-i.invariant.cost);
      }
    ]
