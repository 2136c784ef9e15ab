use Rattle.std.proofs.Common.{◌≡◌, ◌<◌, ◌≤◌, ◌+◌, ◌∙◌, ◌||◌, ℕ, true, false, List, ◌∷◌, length, drop, sym, ap, inl, inr, arith}
use Rattle.std.specs.List.{list_any}
use Rattle.std.proofs.lemmas.Bool.{cases_Bool, eq-eqb, eqb-true}
use Rattle.ats_proof.specs.Value.{ShownEntry, Prefix}
use Rattle.ats_proof.specs.declared.dict.DictView.{DictView}
use Rattle.ats_client.specs.Groups.{slot_at}
use Rattle.ats_client.specs.Inner.SeenLists.{prefix_of, prefixes_left, presented_of}
use Rattle.ats_client.specs.Presented.{Presented, presented_from}
use Rattle.ats_client.specs.Inner.Seen.{entries_left}
use Rattle.ats_client.specs.WholeLists.{is_whole}
use Rattle.ats_client.proofs.Rising.{before_first, before_next}
use Rattle.ats_client.proofs.whole_list.shows_whole_list.Goals as goal
use Rattle.ats_client.proofs.whole_list.shows_whole_list.Goals.{in-Some+else-len-f, in_default}

pub loop-i-init : goal.loop-i-init
unfolding prefixes_left entries_left
loop-i-init c =
    let proof = c.args.proof.now in
    let all : prefixes_left c.lists-left.result ≡ proof.lists = c.lists-left.ensures in
    record {
      later = ap (λ (l : List Prefix). list_any is_whole (presented_from proof.dict 0 c.args.query.now proof.slots l)) (sym all);
      enough = sym (ap (λ (l : List Prefix). length l) all ∙ c.facts.ensures.spelled.1.prefix_each);
      dict = ap entries_left c.over-walk.ensures.all ∙ c.dict.ensures.entries;
      before = before_first c.over-walk.result.place proof.slots c.over-walk.ensures.place;
      cost = omega arith;
      most = omega (
        arith,
        ap (λ (view : DictView). length (entries_left view)) c.over-walk.ensures.left,
        ap (λ (dict : List ShownEntry). length dict) c.dict.ensures.entries,
      );
    }

-- a term's list that is whole settles the answer
found : (one : Presented) (rest : List Presented) → is_whole one ≡ true → list_any is_whole (one ∷ rest) ≡ true
found one rest is = ap (λ b. b || list_any is_whole rest) is

-- any other leaves it to the later terms
passed_over : (one : Presented) (rest : List Presented) → is_whole one ≡ false → list_any is_whole (one ∷ rest) ≡ list_any is_whole rest
passed_over one rest not = ap (λ b. b || list_any is_whole rest) not

pub returns-then-len-f-clause-whole : goal.returns-then-len-f-clause-whole
unfolding prefix_of
returns-then-len-f-clause-whole c =
    let proof = c.args.proof.now in
    let i : ℕ = c.loop-i.i in
    let one : Presented = presented_of c.in-Some.one in
    let rest : List Presented = presented_from proof.dict (i + 1) (drop (i + 1) c.args.query.now) (drop (i + 1) proof.slots) (prefixes_left c.present.new.left) in
    let whole : is_whole one ≡ true = eq-eqb _ _ (sym c.len.ensures ∙ c.if-len-f.true) in
    sym (c.loop-i.invariant.later ∙ ap (list_any is_whole) c.in-Some.ensures.some ∙ found one rest whole)

pub loop-i-preserved : goal.loop-i-preserved
unfolding prefix_of
loop-i-preserved c =
    let proof = c.args.proof.now in
    let i : ℕ = c.loop-i.i in
    let low : i < length proof.slots = omega (arith, c.loop-i-test.true, c.len-i-end.ensures.value, c.requires.each) in
    let here : c.loop-i.walk.place ≤ (slot_at proof.slots i).index = c.loop-i.invariant.before i (omega arith) low in
    let rise = c.facts.ensures.range.spots.rise in
    elim c.match-present.branch [
      | in-Some+else-len-f w ↦
          let one : Presented = presented_of w.in-Some.one in
          let rest : List Presented = presented_from proof.dict (i + 1) (drop (i + 1) c.args.query.now) (drop (i + 1) proof.slots) (prefixes_left c.present.new.left) in
          let not : is_whole one ≡ false = elim (cases_Bool (is_whole one)) [
            | inl whole ↦ absurd (w.if-len-f.false (w.len.ensures ∙ eqb-true _ _ whole))
            | inr part ↦ part
          ] in
          record {
            later = c.loop-i.invariant.later ∙ ap (list_any is_whole) w.in-Some.ensures.some ∙ passed_over one rest not;
            enough = w.in-Some.ensures.enough;
            dict = ap entries_left w.in-Some.ensures.dict ∙ c.loop-i.invariant.dict;
            before = before_next c.present.new.walk.place proof.slots i rise (w.in-Some.ensures.before here);
            cost = omega (arith, w.in-Some.ensures.cost, c.loop-i.invariant.cost);
            most = omega (arith, w.in-Some.ensures.most here, c.loop-i.invariant.most);
          }
      | in_default w ↦
          record {
            later = c.loop-i.invariant.later ∙ ap (list_any is_whole) w.in_default.ensures.none;
            enough = w.in_default.ensures.enough;
            dict = ap entries_left w.in_default.ensures.dict ∙ c.loop-i.invariant.dict;
            before = before_next c.present.new.walk.place proof.slots i rise (w.in_default.ensures.before here);
            cost = omega (arith, w.in_default.ensures.cost, c.loop-i.invariant.cost);
            most = omega (arith, w.in_default.ensures.most here, c.loop-i.invariant.most);
          }
    ]
