-- Sessions at a door, one after another, and their lines.
use Rattle.std.proofs.Common.{◌≡◌, ◌≤◌, ◌+◌, ◌∙◌, ◌++◌, ◌∷◌, ℕ, Bool, true, List, [], length, take, fold, is_some, option_map, Option, Some, None, refl, sym, ap, subst, arith, append_assoc, append-nil, add-zero, cond}
use Rattle.std.specs.List.{All}
use Rattle.std.proofs.lemmas.List.Sums.{fold-append, sum_by_push}
use Rattle.std.proofs.lemmas.List.Elements.{All-append, All-cons, All-nil}
use Rattle.ats_base.specs.Outside.{Rose, SinkTold}
use Rattle.ats_base.specs.Links.{LinkTold, Opening, DoorTold, IsNew, counted_broken, accepting_out, accepted_back}
use Rattle.ats_wire.specs.Requests.{Question}
use Rattle.ats_wire.specs.Connections.{IsServed, is_fault}
use Rattle.ats_wire.specs.declared.reply.Reply.{Reply}
use Rattle.ats_wire.specs.declared.serving.Served.{Served}
use Rattle.ats_top.specs.Serving.{Session, IsSession, after_session, broken_after, HadSessions, Took, FailedToTake, faults_of, line_of_session, session_lines, session_lines_from}

pub map_twice : {A B C : Type 0} (f : B → C) (h : A → B) (o : Option A) → option_map f (option_map h o) ≡ option_map (λ x. f (h x)) o
map_twice f h None = refl
map_twice f h (Some x) = refl

some_kept : {A B : Type 0} (f : A → B) (o : Option A) → is_some (option_map f o) ≡ is_some o
some_kept f None = refl
some_kept f (Some x) = refl

-- what is had first and then is had
pub had_then : (gives : Question → Reply → Type 0) (sessions more : List Session) (before mid now : DoorTold)
    → HadSessions gives sessions before mid → HadSessions gives more mid now → HadSessions gives (sessions ++ more) before now
had_then gives sessions more before mid now first second =
    let tells : is_some mid.content ≡ is_some before.content = ap (λ (o : Option Opening). is_some o) first.content ∙ some_kept (λ (opening : Opening). fold after_session opening sessions) before.content in
    let all : All (IsSession gives (is_some before.content)) more = subst (λ (b : Bool). All (IsSession gives b) more) tells second.each in
    record {
      each = All-append (IsSession gives (is_some before.content)) sessions more first.each all;
      content = second.content
          ∙ ap (λ (o : Option Opening). option_map (λ opening. fold after_session opening more) o) first.content
          ∙ map_twice (λ (opening : Opening). fold after_session opening more) (λ (opening : Opening). fold after_session opening sessions) before.content
          ∙ ap (λ (f : Opening → Opening). option_map f before.content) (λ i. λ opening. sym (fold-append after_session opening sessions more) i);
      broken = second.broken ∙ ap (λ (n : ℕ). fold broken_after n more) first.broken ∙ sym (fold-append broken_after before.broken sessions more);
      same = second.same ∙ first.same;
    }

pub had_none : (gives : Question → Reply → Type 0) (before : DoorTold) → HadSessions gives [] before before
had_none gives before = record {
  each = All-nil (IsSession gives (is_some before.content));
  content = elim before.content as (λ o. o ≡ option_map (λ (opening : Opening). opening) o) [ None ↦ refl | Some x ↦ refl ];
  broken = refl;
  same = refl;
}

-- a link that was accepted, served and given back is a session
pub one_had : (gives : Question → Reply → Type 0) (came left : LinkTold) (served : Served) (before accepted now : DoorTold)
    → IsNew (is_some before.content) came → IsServed gives came left served
    → accepted.content ≡ option_map accepting_out before.content → accepted.broken ≡ before.broken → accepted.faults ≡ before.faults
    → now.content ≡ option_map (accepted_back left) accepted.content → now.broken ≡ counted_broken left.faults accepted.broken → now.faults ≡ accepted.faults
    → (session : Session) × (session.served ≡ served) × HadSessions gives (session ∷ []) before now
one_had gives came left served before accepted now new is out kept calm back broken still =
    let session : Session = record { came = came; left = left; served = served } in
    let held : IsSession gives (is_some before.content) session = record { new = new; served = is } in (
      session,
      refl,
      record {
        each = All-cons (IsSession gives (is_some before.content)) session [] held (All-nil (IsSession gives (is_some before.content)));
        content = back ∙ ap (λ (o : Option Opening). option_map (accepted_back left) o) out ∙ map_twice (accepted_back left) accepting_out before.content;
        broken = broken ∙ ap (λ (n : ℕ). counted_broken left.faults n) kept;
        same = still ∙ calm;
      },
    )

-- the lines of sessions and of one more
lines_more : (number : ℕ) (sessions : List Session) (session : Session)
    → session_lines_from number (sessions ++ session ∷ []) ≡ session_lines_from number sessions ++ line_of_session (number + length sessions) session.served
lines_more number [] session =
    append-nil (line_of_session number session.served) ∙ ap (λ (k : ℕ). line_of_session k session.served) (sym (add-zero number))
lines_more number (first ∷ rest) session =
    let line = line_of_session number first.served in
    let place : number + 1 + length rest ≡ number + length (first ∷ rest) = omega arith in
    ap (λ (x : List ℕ). line ++ x) (lines_more (number + 1) rest session)
    ∙ sym (append_assoc line (session_lines_from (number + 1) rest) (line_of_session (number + 1 + length rest) session.served))
    ∙ ap (λ (k : ℕ). (line ++ session_lines_from (number + 1) rest) ++ line_of_session k session.served) place

pub lines_then : (sessions : List Session) (session : Session) (served : Served) (n : ℕ) → length sessions ≡ n → session.served ≡ served
    → session_lines (sessions ++ session ∷ []) ≡ session_lines sessions ++ line_of_session (n + 1) served
lines_then sessions session served n is same =
    let place : 1 + length sessions ≡ n + 1 = omega (arith, is) in
    lines_more 1 sessions session
    ∙ ap (λ (k : ℕ). session_lines sessions ++ line_of_session k session.served) place
    ∙ ap (λ (s : Served). session_lines sessions ++ line_of_session (n + 1) s) same

-- the count of those that ended by a fault
pub faults_then : (sessions : List Session) (session : Session) (served : Served) → session.served ≡ served
    → faults_of (sessions ++ session ∷ []) ≡ faults_of sessions + cond (is_fault served.end) 1 0
faults_then sessions session served same =
    sum_by_push (λ (s : Session). cond (is_fault s.served.end) 1 0) sessions session
    ∙ ap (λ (s : Served). faults_of sessions + cond (is_fault s.end) 1 0) same

pub took_as : (before now : SinkTold) (bytes text : List ℕ) → bytes ≡ text
    → now.taken ≡ option_map (λ taken. taken ++ bytes) before.taken → now.faults ≡ before.faults → Took before now text
took_as before now bytes text is all kept =
    record { all = subst (λ (b : List ℕ). now.taken ≡ option_map (λ taken. taken ++ b) before.taken) is all; same = kept }

pub failed_as : (before now : SinkTold) (bytes text : List ℕ) → bytes ≡ text
    → ((n : ℕ) × (n ≤ length bytes) × (now.taken ≡ option_map (λ taken. taken ++ take n bytes) before.taken)) → Rose before.faults now.faults
    → before.faults ≤ now.faults → now.last_failed ≡ true → FailedToTake before now [] text
failed_as before now bytes text is (n, within, part) rose later last =
    let P : List ℕ → Type 0 = λ (b : List ℕ). (n ≤ length b) × (now.taken ≡ option_map (λ taken. taken ++ take n b) before.taken) in
    let both = subst P is (within, part) in
    record { n = n; within = both.0; part = both.1; cause = rose; later = later; last = last }

pub took_none : (before : SinkTold) → Took before before []
took_none before = record {
  all = elim before.taken as (λ o. o ≡ option_map (λ (taken : List ℕ). taken ++ []) o) [
    | None ↦ refl
    | Some x ↦ ap (λ (y : List ℕ). Some y) (sym (append-nil x))
  ];
  same = refl;
}

-- what was taken after all of a text, if the sink reports
taken_twice : (before mid now : Option (List ℕ)) (text more : List ℕ) → mid ≡ option_map (λ taken. taken ++ text) before → now ≡ option_map (λ taken. taken ++ more) mid
    → now ≡ option_map (λ taken. taken ++ (text ++ more)) before
taken_twice None mid now text more first second = second ∙ ap (λ (o : Option (List ℕ)). option_map (λ taken. taken ++ more) o) first
taken_twice (Some x) mid now text more first second =
    second ∙ ap (λ (o : Option (List ℕ)). option_map (λ taken. taken ++ more) o) first ∙ ap (λ (y : List ℕ). Some y) (append_assoc x text more)

pub took_then : (before mid now : SinkTold) (text more : List ℕ) → Took before mid text → Took mid now more → Took before now (text ++ more)
took_then before mid now text more first second = record {
  all = taken_twice before.taken mid.taken now.taken text more first.all second.all;
  same = second.same ∙ first.same;
}

-- what a sink took before a piece that it failed at is a part of the former text
pub failed_then : (before mid now : SinkTold) (text former more : List ℕ) → Took before mid text → FailedToTake mid now former more
    → FailedToTake before now (text ++ former) more
failed_then before mid now text former more first second = record {
  n = second.n;
  within = second.within;
  part = subst (λ (x : List ℕ). now.taken ≡ option_map (λ taken. taken ++ x) before.taken) (sym (append_assoc text former (take second.n more)))
      (taken_twice before.taken mid.taken now.taken text (former ++ take second.n more) first.all second.part);
  cause = rw (← first.same) second.cause;
  later = omega (arith, first.same, second.later);
  last = second.last;
}
