use Rattle.std.proofs.Common.{◌≡◌, ◌+◌, ◌-◌, ◌∙◌, ◌++◌, ◌∷◌, List, ℕ, length, take, drop, ap, subst}
use Rattle.ats_wire.specs.Requests.{framed}
use Rattle.ats_wire.specs.Inner.Moving.{IsCutOff}
use Rattle.ats_wire.proofs.Moved.{frame_sent, cut_first, cut_rest, on_err_any}
use Rattle.ats_wire.proofs.Spelled.{to_end}
use Rattle.ats_wire.proofs.sending.send_frame.Goals as goal

pub returns-in_err-send-clause-part : goal.returns-in_err-send-clause-part
returns-in_err-send-clause-part g c =
    let bytes : List ℕ = c.args.bytes.now in
    let front = c.pack-front.result in
    let piece : List ℕ = take (front + 5) c.pack-front.new.buffer in
    let before = g.L.Link.told c.args.link.now in
    let now = g.L.Link.told c.send.new.link in
    let whole : piece ++ drop front bytes ≡ framed (c.args.kind ∷ bytes) = frame_sent piece bytes c.args.kind front c.pack-front.ensures.packed in
    on_err_any _ (subst (λ (x : List ℕ). IsCutOff before now x) whole (cut_first before now piece (drop front bytes) c.in_err-send.ensures.part))

pub returns-clause-part : goal.returns-clause-part
returns-clause-part g c =
    let bytes : List ℕ = c.args.bytes.now in
    let front = c.pack-front.result in
    let piece : List ℕ = take (front + 5) c.pack-front.new.buffer in
    let whole : piece ++ drop front bytes ≡ framed (c.args.kind ∷ bytes) = frame_sent piece bytes c.args.kind front c.pack-front.ensures.packed in
    cut_rest c.send-2.result (g.L.Link.told c.args.link.now) (g.L.Link.told c.send.new.link) (g.L.Link.told c.send-2.new.link)
    piece (take (length bytes - front) (drop front bytes)) (framed (c.args.kind ∷ bytes))
    (ap (λ (x : List ℕ). piece ++ x) (to_end front bytes) ∙ whole) c.in_ok-send.ensures.all c.send-2.ensures.part
