-- What serving leaves of the door.
use Rattle.std.proofs.Common.{◌≡◌, ◌≤◌, ◌<◌, ◌+◌, ◌-◌, ◌^◌, ◌∙◌, ◌∷◌, ℕ, zero, suc, min, Bool, true, false, List, [], length, fold, option_map, cond, Option, Some, None, Result, Ok, Err, refl, sym, ap, subst, inl, inr, arith}
use Rattle.std.specs.List.{All}
use Rattle.std.proofs.lemmas.List.Sums.{sum_by-cons}
use Rattle.std.proofs.lemmas.List.Elements.{All-head, All-tail}
use Rattle.ats_top.specs.Run.{HasRisen}
use Rattle.ats_base.specs.Links.{LinkTold, Opening, DoorTold, counted_broken, noting_listen, MayNoteListen, counting_accept}
use Rattle.ats_wire.specs.Requests.{Question}
use Rattle.ats_wire.specs.Connections.{is_fault}
use Rattle.ats_wire.specs.Moving.{FailsOnce}
use Rattle.ats_wire.specs.declared.reply.Reply.{Reply}
use Rattle.ats_console.specs.Words.{ServeWords}
use Rattle.ats_plan.specs.Files.{Files}
use Rattle.ats_top.specs.Serving.{Session, IsSession, after_session, broken_after, FailedToAccept, faults_of}
use Rattle.ats_top.specs.Inner.Serving.{DoorAndSink, ServesLinksOf}
use Rattle.ats_top.specs.Served.{HasServed, KeepsContent, Opens}
use Rattle.ats_top.specs.declared.serving.Halt.{Halt}
use Rattle.ats_top.specs.declared.serving.Halt.TheVariants.{Door, Sink, Memory}

-- sessions leave the addresses and the links that are out, and each is one call of `accept`
sessions_keep : (sessions : List Session) (opening : Opening)
    → ((fold after_session opening sessions).addresses ≡ opening.addresses)
    × ((fold after_session opening sessions).accepts ≤ opening.accepts + length sessions)
    × ((fold after_session opening sessions).out ≡ opening.out)
sessions_keep [] opening = (refl, omega arith, refl)
sessions_keep (session ∷ rest) opening =
    let kept = sessions_keep rest (after_session opening session) in
    (kept.0, omega (arith, kept.1), kept.2 ∙ omega arith)

-- then the door listened, sessions were had, and `accept` may have failed
listened_keep : (address : List ℕ) (sessions : List Session) (connections : ℕ) (before opened now : Option Opening)
    → opened ≡ option_map (noting_listen address) before → now ≡ option_map (λ opening. fold after_session opening sessions) opened
    → length sessions ≤ connections → KeepsContent address connections before now
listened_keep address sessions connections None opened now first second few =
    second ∙ ap (λ (o : Option Opening). option_map (λ opening. fold after_session opening sessions) o) first
listened_keep address sessions connections (Some was) opened now first second few =
    let kept = sessions_keep sessions (noting_listen address was) in (
      fold after_session (noting_listen address was) sessions,
      second ∙ ap (λ (o : Option Opening). option_map (λ opening. fold after_session opening sessions) o) first,
      record { addresses = inr kept.0; accepts = omega (arith, kept.1, few); out = kept.2 },
    )

accept_keep : (address : List ℕ) (fewer connections : ℕ) (before mid now : Option Opening) → KeepsContent address fewer before mid
    → now ≡ option_map counting_accept mid → fewer < connections → KeepsContent address connections before now
accept_keep address fewer connections None mid now kept counted less = counted ∙ ap (λ (o : Option Opening). option_map counting_accept o) kept
accept_keep address fewer connections (Some was) mid now (opening, is, kept) counted less = (
  counting_accept opening,
  counted ∙ ap (λ (o : Option Opening). option_map counting_accept o) is,
  record { addresses = kept.addresses; accepts = omega (arith, kept.accepts, less); out = kept.out },
)

-- if the door did not listen
noted_keep : (address : List ℕ) (connections : ℕ) (before now : Option Opening) → MayNoteListen address before now → KeepsContent address connections before now
noted_keep address connections None now (inl same) = same
noted_keep address connections None now (inr noted) = noted
noted_keep address connections (Some was) now (inl same) = (was, same, record { addresses = inl refl; accepts = omega arith; out = refl })
noted_keep address connections (Some was) now (inr noted) = (noting_listen address was, noted, record { addresses = inr refl; accepts = omega arith; out = refl })

module _ (H : List ℕ → List ℕ) (files : Files) (words : ServeWords) (before : DoorTold) where
  opens_if_steps_hold : (now : DoorTold) (sessions : List Session) → HasServed H files words before now sessions → Opens words before now
  opens_if_steps_hold now sessions served = record {
    content = listened_keep words.address sessions words.connections before.content served.opened.content now.content served.listened.content served.had.content served.few;
    later = omega (arith, served.listened.same, served.had.same);
  }

  broken_opens : (mid now : DoorTold) (sessions : List Session) → HasServed H files words before mid sessions → length sessions < words.connections
      → FailedToAccept mid now → Opens words before now
  broken_opens mid now sessions served fewer failed = record {
    content = accept_keep words.address (length sessions) words.connections before.content mid.content now.content
        (listened_keep words.address sessions (length sessions) before.content served.opened.content mid.content served.listened.content served.had.content (omega arith))
        failed.content fewer;
    later = omega (arith, served.listened.same, served.had.same, failed.later);
  }

  pub attends_opens : (was now : DoorAndSink) (result : Result ℕ Halt) → was.door ≡ before → ServesLinksOf H files words was now result → Opens words before now.door
  attends_opens was now (Ok faults) is (text, took, all) = opens_if_steps_hold now.door all.sessions (subst (λ (d : DoorTold). HasServed H files words d now.door all.sessions) is all.served)
  attends_opens was now (Err Door) is (text, took, inl shut) = subst (λ (d : DoorTold). Opens words d now.door) is (record {
    content = noted_keep words.address words.connections was.door.content now.door.content shut.failed.content;
    later = shut.failed.later;
  })
  attends_opens was now (Err Door) is (text, took, inr broken) =
      broken_opens broken.mid now.door broken.sessions (subst (λ (d : DoorTold). HasServed H files words d broken.mid broken.sessions) is broken.served) broken.fewer broken.failed
  attends_opens was now (Err Sink) is (former, last, failed, some) = opens_if_steps_hold now.door some.sessions (subst (λ (d : DoorTold). HasServed H files words d now.door some.sessions) is some.served)
  attends_opens was now (Err Memory) is (text, took, some) = opens_if_steps_hold now.door some.sessions (subst (λ (d : DoorTold). HasServed H files words d now.door some.sessions) is some.served)

-- over a link whose count of faults is 0 no connection ends by a fault
calm_end : (broken : Bool) (came left : LinkTold) → FailsOnce broken came left → came.faults ≡ 0 → left.faults ≡ 0 → broken ≡ false
calm_end false came left fails new calm = refl
calm_end true came left fails new calm = absurd (omega (arith, fails.0, new, calm))

one_still : (first now faults : ℕ) → HasRisen first now → HasRisen first (counted_broken faults now)
one_still first now zero rose = rose
one_still first now (suc faults) rose = omega (arith, rose)

-- a count that rose is not undone by further links
still_rose : (first now : ℕ) (sessions : List Session) → HasRisen first now → HasRisen first (fold broken_after now sessions)
still_rose first now [] rose = rose
still_rose first now (session ∷ rest) rose = still_rose first (broken_after now session) rest (one_still first now session.left.faults rose)

rise_by : (faults : ℕ) (session : Session) (rest : List Session) (before : ℕ) → session.left.faults ≡ faults
    → (faults ≡ 0 → HasRisen before (fold broken_after before rest)) → HasRisen before (fold broken_after (broken_after before session) rest)
rise_by zero session rest before is calm =
    subst (λ (n : ℕ). HasRisen before (fold broken_after (counted_broken n before) rest)) (sym is) (calm refl)
rise_by (suc faults) session rest before is calm =
    subst (λ (n : ℕ). HasRisen before (fold broken_after (counted_broken n before) rest)) (sym is)
    (still_rose before (min (before + 1) (2 ^ 64 - 1)) rest (omega arith))

-- if a session ended by a fault, the count of broken links rose
pub faults_rise : (gives : Question → Reply → Type 0) (must_tell : Bool) (sessions : List Session) (before : ℕ)
    → All (IsSession gives must_tell) sessions → 0 < faults_of sessions → HasRisen before (fold broken_after before sessions)
faults_rise gives must_tell [] before each some = absurd (omega arith)
faults_rise gives must_tell (session ∷ rest) before each some = rise_by session.left.faults session rest before refl (λ calm.
    let held = All-head (IsSession gives must_tell) session rest each in
    let clean = calm_end (is_fault session.served.end) session.came session.left held.served.moved.faults held.new.calm calm in
    let count = sum_by-cons (λ (s : Session). cond (is_fault s.served.end) 1 0) session rest in
    let one : Bool → ℕ = λ (b : Bool). cond b 1 0 in
    let none : one (is_fault session.served.end) ≡ 0 = ap one clean in
    faults_rise gives must_tell rest before (All-tail (IsSession gives must_tell) session rest each) (omega (arith, some, count, none)))
