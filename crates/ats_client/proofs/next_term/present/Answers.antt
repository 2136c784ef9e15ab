use Rattle.std.proofs.Common.{◌≡◌, ◌∙◌, List, [], length, get_or, slice_get, Some, sym, ap, arith}
use Rattle.std.proofs.lemmas.Bool.{not-true, not-false}
use Rattle.std.proofs.lemmas.Option.{slice_get-get_or}
use Rattle.ats_commit.specs.Ours.{asked_term}
use Rattle.ats_proof.specs.Value.{ShownEntry, Prefix}
use Rattle.ats_client.specs.Inner.Seen.{shown_of}
use Rattle.ats_client.specs.Inner.SeenLists.{prefix_of, prefixes_left}
use Rattle.ats_client.specs.Slots.{entry_shown}
use Rattle.ats_client.proofs.Counts.{taken}
use Rattle.ats_client.proofs.Leaves.{present_leaf}
use Rattle.ats_client.proofs.Slotted.{slot_shows}
use Rattle.ats_client.proofs.Rising.{index_is}
use Rattle.ats_client.proofs.TermsLeft.{none_present, one_present, entry_there, prefix_there, fewer_absent, prefixes_fewer, has_prefix, same_one}
use Rattle.ats_client.proofs.next_term.present.Goals as goal

pub returns-then-not-slot-clause-none : goal.returns-then-not-slot-clause-none
returns-then-not-slot-clause-none c =
    let query = c.args.query.now in
    let proof = c.args.proof.now in
    none_present proof.dict c.args.i query proof.slots (prefixes_left c.args.left.now) (get_or query c.args.i ([], 0)) c.slot-slot.result
    (slice_get-get_or query c.args.i ([], 0) c.requires.inside) c.slot-slot.ensures.slot (not-true c.slot-slot.result.present c.if-not-slot.true)

pub returns-then-not-slot-clause-enough : goal.returns-then-not-slot-clause-enough
returns-then-not-slot-clause-enough c =
    fewer_absent c.args.proof.now.slots c.args.i (length (prefixes_left c.args.left.now)) c.slot-slot.result c.slot-slot.ensures.slot
    (not-true c.slot-slot.result.present c.if-not-slot.true) c.requires.enough

pub unreachable-requires : goal.unreachable-requires
unreachable-requires c =
    let proof = c.args.proof.now in
    let slot = c.slot-slot.result in
    let shows = slot_shows c.args.query.now proof c.args.i slot c.slot-slot.ensures.slot c.requires.right in
    let there = present_leaf entry_shown proof.dict (asked_term c.args.query.now c.args.i) slot shows (not-false slot.present c.if-not-slot.false) in
    cc (there.1, c.in_default.ensures.leaf, c.requires.dict)

pub unreachable-requires-in_default-next_list : goal.unreachable-requires-in_default-next_list
unreachable-requires-in_default-next_list c =
    has_prefix c.args.proof.now.slots c.args.i (prefixes_left c.args.left.now) c.slot-slot.result c.slot-slot.ensures.slot
    (not-false c.slot-slot.result.present c.if-not-slot.false) c.requires.enough c.in_default-next_list.ensures.first

pub returns-clause-some : goal.returns-clause-some
returns-clause-some c =
    let query = c.args.query.now in
    let proof = c.args.proof.now in
    let i = c.args.i in
    let left : List Prefix = prefixes_left c.args.left.now in
    let slot = c.slot-slot.result in
    let leaf : Some (shown_of c.in-Some.leaf) ≡ slice_get proof.dict slot.index = c.in-Some.ensures.leaf ∙ ap (λ (dict : List ShownEntry). slice_get dict slot.index) c.requires.dict in
    let entry = entry_there proof.dict slot.index (shown_of c.in-Some.leaf) leaf in
    let prefix = prefix_there left (prefix_of c.in-Some-next_list.list) c.in-Some-next_list.ensures.first in
    let same = same_one i _ _ _ _ _ _ (c.weight.ensures.value ([], 0)) entry prefix in
    one_present proof.dict i query proof.slots left (prefixes_left c.next_list.new.left) (get_or query i ([], 0)) slot _
    (slice_get-get_or query i ([], 0) c.requires.inside) c.slot-slot.ensures.slot (not-false slot.present c.if-not-slot.false) same c.next_list.ensures.passed

pub returns-clause-enough : goal.returns-clause-enough
returns-clause-enough c =
    prefixes_fewer c.args.proof.now.slots c.args.i (prefixes_left c.args.left.now) c.slot-slot.result c.slot-slot.ensures.slot
    (not-false c.slot-slot.result.present c.if-not-slot.false) c.requires.enough
    ∙ ap (λ (more : List Prefix). length more) (sym c.next_list.ensures.passed)

pub returns-clause-taken : goal.returns-clause-taken
returns-clause-taken c =
    taken (prefixes_left c.args.left.now) (prefixes_left c.next_list.new.left) (prefix_of c.in-Some-next_list.list) c.in-Some-next_list.ensures.first c.next_list.ensures.passed

pub returns-clause-before : goal.returns-clause-before
returns-clause-before c low =
    omega (arith, c.in-Some.ensures.place, index_is c.args.proof.now.slots c.args.i c.slot-slot.result c.slot-slot.ensures.slot)

pub returns-clause-most : goal.returns-clause-most
returns-clause-most c low =
    let at = index_is c.args.proof.now.slots c.args.i c.slot-slot.result c.slot-slot.ensures.slot in
    omega (arith, c.in-Some.ensures.most (omega (arith, at, low)), c.next_list.ensures.cost, c.slot-slot.ensures.cost)
