-- How serving links ends.
use Rattle.std.proofs.Common.{◌≡◌, ◌≤◌, ◌<◌, ◌+◌, ◌++◌, ◌∷◌, ℕ, List, [], length, Result, Ok, Err, refl, sym, ap₂, subst, inr, arith, append-nil, length-append}
use Rattle.std.specs.Prelude.{codes, cond}
use Rattle.ats_base.specs.Outside.{SinkTold}
use Rattle.ats_base.specs.Links.{DoorTold}
use Rattle.ats_commit.specs.Archive.{Archive}
use Rattle.ats_wire.specs.Requests.{Question}
use Rattle.ats_wire.specs.Connections.{is_fault}
use Rattle.ats_wire.specs.declared.reply.Reply.{Reply}
use Rattle.ats_wire.specs.declared.serving.Served.{Served}
use Rattle.ats_console.specs.Words.{ServeWords}
use Rattle.ats_plan.specs.Files.{Files}
use Rattle.ats_console.specs.Read.{HasIndex}
use Rattle.ats_top.specs.Answering.{gives}
use Rattle.ats_top.specs.Serving.{Session, HadSessions, Took, FailedToTake, faults_of, line_of_session, session_lines}
use Rattle.ats_top.specs.Inner.Serving.{DoorAndSink, IsTextUnprinted, EndsServing, ServesLinks, ServesLinksOf}
use Rattle.ats_top.specs.Served.{Listened, HasServed, serving_text}
use Rattle.ats_top.specs.declared.serving.Halt.{Halt}
use Rattle.ats_top.specs.declared.serving.Halt.TheVariants.{Door, Sink, Memory}
use Rattle.ats_top.proofs.Sessions.{had_then, took_then, failed_then, lines_then, faults_then}

-- n links were served, of which `faults` ended by a fault
abbrev pub Had : (Question → Reply → Type 0) → (n faults : ℕ) → (door now : DoorTold) (sink told : SinkTold) → List Session → Type 0
Had gives n faults door now sink told sessions =
    (length sessions ≡ n) × (faults ≡ faults_of sessions) × HadSessions gives sessions door now × Took sink told (session_lines sessions)

module _ (gives : Question → Reply → Type 0) (n faults : ℕ) (door mid now : DoorTold) (sink told later : SinkTold) (sessions : List Session)
    (session : Session) (served : Served) where
  -- one more link was served, and its line was taken
  pub one_more : (all : ℕ) → all ≡ faults + cond (is_fault served.end) 1 0 → Had gives n faults door mid sink told sessions → session.served ≡ served
      → HadSessions gives (session ∷ []) mid now → Took told later (line_of_session (n + 1) served)
      → Had gives (n + 1) all door now sink later (sessions ++ session ∷ [])
  one_more all is (count, faulty, had, took) same one more =
      let lines = lines_then sessions session served n count same in
      let text : Took sink later (session_lines (sessions ++ session ∷ [])) = subst (λ (x : List ℕ). Took sink later x) (sym lines) (took_then sink told later (session_lines sessions) (line_of_session (n + 1) served) took more) in (
        omega (arith, count, length-append sessions (session ∷ [])),
        omega (arith, is, faulty, faults_then sessions session served same),
        had_then gives sessions (session ∷ []) door mid now had one,
        text,
      )

  -- one more link was served, and its line was not taken whole
  pub untold : (connections : ℕ) (halt : Halt) → n < connections → Had gives n faults door mid sink told sessions → session.served ≡ served
      → HadSessions gives (session ∷ []) mid now → IsTextUnprinted told later (line_of_session (n + 1) served) halt
      → EndsServing gives connections (record { door = door; sink = sink }) (record { door = now; sink = later }) (sessions ++ session ∷ []) (Err halt)
  untold connections Door few (count, faulty, had, took) same one why = absurd why
  untold connections Sink few (count, faulty, had, took) same one why =
      let line : line_of_session (n + 1) served ≡ line_of_session (length sessions + 1) session.served = ap₂ (λ (k : ℕ) (s : Served). line_of_session (k + 1) s) (sym count) (sym same) in
      let text = failed_then sink told later (session_lines sessions) [] (line_of_session (n + 1) served) took why in
      let whole : FailedToTake sink later (session_lines sessions) (line_of_session (n + 1) served) = subst (λ (x : List ℕ). FailedToTake sink later x (line_of_session (n + 1) served)) (append-nil (session_lines sessions)) text in (
        omega (arith, few, count, length-append sessions (session ∷ [])),
        had_then gives sessions (session ∷ []) door mid now had one,
        (sessions, session, refl, subst (λ (x : List ℕ). FailedToTake sink later (session_lines sessions) x) line whole),
      )
  untold connections Memory few (count, faulty, had, took) same one why =
      let text : Took sink later (session_lines sessions) = subst (λ (s : SinkTold). Took sink s (session_lines sessions)) (sym why) took in (
        omega (arith, few, count, length-append sessions (session ∷ [])),
        had_then gives sessions (session ∷ []) door mid now had one,
        (sessions, session, refl, text),
      )

module _ (H : List ℕ → List ℕ) (files : Files) (words : ServeWords) (archive : Archive) (index : HasIndex H files words.index archive)
    (before opened : DoorTold) (listened : Listened words.address before opened) where
  pub served_of : (now : DoorTold) (sessions : List Session) → HadSessions (gives H archive) sessions opened now → length sessions ≤ words.connections
      → HasServed H files words before now sessions
  served_of now sessions had few = record { archive = archive; index = index; opened = opened; listened = listened; had = had; few = few }

  -- the result for the links after the line that says that the door listens
  pub attends : (sink told : SinkTold) (now : DoorAndSink) (result : Result ℕ Halt) → Took sink told (codes "listening\n")
      → ServesLinks (gives H archive) words.connections (record { door = opened; sink = told }) now result
      → ServesLinksOf H files words (record { door = before; sink = sink }) now result
  attends sink told now (Ok faults) first (sessions, (all, faulty, had, took)) = (
    serving_text sessions,
    took_then sink told now.sink (codes "listening\n") (session_lines sessions) first took,
    record { sessions = sessions; served = served_of now.door sessions had (omega (arith, all)); all = all; faults_are = faulty; printed = refl },
  )
  attends sink told now (Err Door) first (sessions, (fewer, (mid, had, failed), took)) = (
    serving_text sessions,
    took_then sink told now.sink (codes "listening\n") (session_lines sessions) first took,
    inr (record { sessions = sessions; mid = mid; served = served_of mid sessions had (omega (arith, fewer)); failed = failed; fewer = fewer; printed = refl }),
  )
  attends sink told now (Err Sink) first (sessions, (few, had, (lines, last, is, failed))) = (
    serving_text lines,
    line_of_session (length lines + 1) last.served,
    failed_then sink told now.sink (codes "listening\n") (session_lines lines) (line_of_session (length lines + 1) last.served) first failed,
    record { sessions = sessions; served = served_of now.door sessions had few; cut = inr (lines, last, is, refl, refl) },
  )
  attends sink told now (Err Memory) first (sessions, (few, had, (lines, last, is, took))) = (
    serving_text lines,
    took_then sink told now.sink (codes "listening\n") (session_lines lines) first took,
    record { sessions = sessions; told = lines; served = served_of now.door sessions had few; but_last = inr (last, is); printed = refl },
  )
