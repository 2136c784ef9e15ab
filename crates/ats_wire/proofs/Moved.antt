-- What goes over a link in parts goes over it as a whole.
use Rattle.std.proofs.Common.{◌≡◌, ◌≤◌, ◌<◌, ◌+◌, ◌-◌, sym, ◌∙◌, ◌++◌, ℕ, Bool, true, false, refl, List, [], ◌∷◌, length, take, drop, subst, Result, Ok, Err, OnErr, append_assoc, add-one, ap, arith, length-append}
use Rattle.std.proofs.lemmas.List.{length-take-le, take-append-le, take-append-drop}
use Rattle.std.proofs.Math.Seq.{take-append-add}
use borrow.Rule.Slice.PartMut.{put_mid, post_of}
use Rattle.ats_base.specs.Outside.{IsCounted}
use Rattle.ats_base.specs.Links.{LinkTold, Exchanged}
use Rattle.ats_base.proofs.Public.{exchanged_none, exchanged_then}
use Rattle.std.specs.Int.{to_be_bytes, w32}
use Rattle.ats_wire.specs.Requests.{framed}
use Rattle.ats_wire.specs.Moving.{FailsOnce, Moves}
use Rattle.ats_wire.specs.Inner.Moving.{IsCutOff}

pub moves_none : (before : LinkTold) → Moves before before [] [] 0 false
moves_none before = record { over = exchanged_none before.traffic; turns = omega arith; faults = refl }

-- if the first part has no fault, the faults of the second are those of the whole
fails_then : (broken : Bool) (before mid now : LinkTold) → mid.faults ≡ before.faults → FailsOnce broken mid now → FailsOnce broken before now
fails_then false before mid now first second = second ∙ first
fails_then true before mid now first (rose, last) = (rw (← first) rose, last)

pub moves_then : {broken : Bool} (before mid now : LinkTold) (read written more_read more_written : List ℕ) (idle : ℕ)
    → Moves before mid read written 0 false → Moves mid now more_read more_written idle broken → Moves before now (read ++ more_read) (written ++ more_written) idle broken
moves_then before mid now read written more_read more_written idle first second = record {
  over = exchanged_then _ _ _ _ _ _ _ first.over second.over;
  turns = omega (arith, first.turns, second.turns, length-append read more_read, length-append written more_written);
  faults = fails_then _ before mid now first.faults second.faults;
}

-- one reading that moved a byte or more
pub moves_read : (before now : LinkTold) (buf : List ℕ) (n : ℕ)
    → n ≤ length buf → 0 < n → Exchanged before.traffic now.traffic (take n buf) [] → IsCounted before.calls now.calls → now.faults ≡ before.faults
    → Moves before now (take n buf) [] 0 false
moves_read before now buf n within some over counted kept = record {
  over = over;
  turns = omega (arith, counted, length-take-le n buf within);
  faults = kept;
}

-- what was read into the rest of a buffer follows what was read before
pub took_mid : (done n : ℕ) (buf new : List ℕ) → done ≤ length buf → n ≤ length new
    → take (done + n) (put_mid done (length buf - done) buf new) ≡ take done buf ++ take n new
took_mid done n buf new few within =
    let front : length (take done buf) ≡ done = length-take-le done buf few in
    ap (λ (k : ℕ). take (k + n) (take done buf ++ (new ++ post_of done (length buf - done) buf))) (sym front)
    ∙ take-append-add (take done buf) (new ++ post_of done (length buf - done) buf) n
    ∙ ap (λ (x : List ℕ). take done buf ++ x) (take-append-le n new (post_of done (length buf - done) buf) within)

pub moves_idle : (before now : LinkTold) (read written : List ℕ) → Moves before now read written 0 false → Moves before now read written 1 false
moves_idle before now read written moves = record { over = moves.over; turns = omega (arith, moves.turns); faults = moves.faults }

-- bytes of which the front was cut off
pub cut_first : (before now : LinkTold) (piece rest : List ℕ) → IsCutOff before now piece → IsCutOff before now (piece ++ rest)
cut_first before now piece rest (n, few, moves) = (
  n,
  omega (arith, few, length-append piece rest),
  subst (λ (x : List ℕ). Moves before now [] x 1 true) (sym (take-append-le n piece rest (omega (arith, few)))) moves,
)

-- bytes of which the back was cut off
pub cut_second : (before mid now : LinkTold) (piece rest : List ℕ) → Moves before mid [] piece 0 false → IsCutOff mid now rest → IsCutOff before now (piece ++ rest)
cut_second before mid now piece rest first (n, few, moves) = (
  length piece + n,
  omega (arith, few, length-append piece rest),
  subst (λ (x : List ℕ). Moves before now [] x 1 true) (sym (take-append-add piece rest n)) (moves_then before mid now [] piece [] (take n rest) 1 first moves),
)

-- the head and the front of a frame in one piece, and what is left of it
frame_joined : (piece head bytes : List ℕ) (kind front : ℕ) → piece ≡ head ++ kind ∷ take front bytes → piece ++ drop front bytes ≡ head ++ kind ∷ bytes
frame_joined piece head bytes kind front is =
    ap (λ (x : List ℕ). x ++ drop front bytes) is ∙ append_assoc head (kind ∷ take front bytes) (drop front bytes)
    ∙ ap (λ (x : List ℕ). head ++ kind ∷ x) (take-append-drop front bytes)

-- a cause holds whatever the error is
pub on_err_any : {T E P : Type 0} (result : Result T E) → P → OnErr result P
on_err_any (Ok done) holds = tt
on_err_any (Err fault) holds = holds

-- the last part of what was to be sent was cut off
pub cut_rest : {T E : Type 0} (result : Result T E) (before mid now : LinkTold) (piece rest whole : List ℕ)
    → piece ++ rest ≡ whole → Moves before mid [] piece 0 false → OnErr result (IsCutOff mid now rest) → OnErr result (IsCutOff before now whole)
cut_rest (Ok done) before mid now piece rest whole is first second = tt
cut_rest (Err fault) before mid now piece rest whole is first second = subst (λ (x : List ℕ). IsCutOff before now x) is (cut_second before mid now piece rest first second)

-- the head and the front of a frame's bytes in one piece, and what is left of them
pub frame_sent : (piece bytes : List ℕ) (kind front : ℕ)
    → piece ≡ to_be_bytes w32 (length bytes + 1) ++ kind ∷ take front bytes → piece ++ drop front bytes ≡ framed (kind ∷ bytes)
frame_sent piece bytes kind front is =
    frame_joined piece (to_be_bytes w32 (length bytes + 1)) bytes kind front is
    ∙ ap (λ (k : ℕ). to_be_bytes w32 k ++ kind ∷ bytes) (add-one (length bytes))
