use Rattle.std.proofs.Common.{◌≡◌, ◌+◌, ◌<◌, ℕ, true, false, nat_eq, List, length, take, set, refl, sym, ap, subst, ◌∙◌, arith}
use Rattle.std.specs.List.{list_any}
use Rattle.ats_bound.specs.declared.work.Mark.{Mark}
use Rattle.ats_bound.specs.Work.{Marked, mark_at}
use Rattle.ats_proof.specs.Value.{Proof}
use Rattle.ats_client.specs.Marked.{AreMarks, AreNoted}
use Rattle.ats_client.proofs.Named.{any_none, any_some, out_at, again_at, names_more}
use Rattle.ats_client.proofs.Noting.{noted_more, marks_kept}
use Rattle.ats_client.proofs.rows.read_row.Goals as goal

pub returns-then-index-met-clause-fault : goal.returns-then-index-met-clause-fault
returns-then-index-met-clause-fault c =
    let proof : Proof = c.args.proof.now in
    out_at (length proof.met) proof.answer c.args.row c.answer-index.result c.answer-index.ensures.row c.requires.before (omega (arith, c.met.ensures, c.if-index-met.true))

pub returns-then-mark-clause-fault : goal.returns-then-mark-clause-fault
returns-then-mark-clause-fault c =
    let proof : Proof = c.args.proof.now in
    let index : ℕ = c.answer-index.result in
    let low : index < length proof.met = omega (arith, c.met.ensures, c.if-index-met.false) in
    let seen : list_any (λ x. nat_eq x index) (take c.args.row proof.answer) ≡ true =
    sym (c.requires.noted index (omega (arith, low, c.requires.size))) ∙ (sym (ap (λ (m : Mark). m.row) c.get-mark.ensures.mark) ∙ c.if-mark.true) in
    again_at (length proof.met) proof.answer c.args.row index c.answer-index.ensures.row c.requires.before low (any_some index (take c.args.row proof.answer) seen)

pub returns-clause-names : goal.returns-clause-names
returns-clause-names c =
    let proof : Proof = c.args.proof.now in
    let index : ℕ = c.answer-index.result in
    let low : index < length proof.met = omega (arith, c.met.ensures, c.if-index-met.false) in
    let unseen : list_any (λ x. nat_eq x index) (take c.args.row proof.answer) ≡ false =
    sym (c.requires.noted index (omega (arith, low, c.requires.size))) ∙ (sym (ap (λ (m : Mark). m.row) c.get-mark.ensures.mark) ∙ c.if-mark.false) in
    names_more (length proof.met) proof.answer c.args.row index c.answer-index.ensures.row c.requires.before low (any_none index (take c.args.row proof.answer) unseen)

pub returns-clause-noted : goal.returns-clause-noted
returns-clause-noted c =
    let proof : Proof = c.args.proof.now in
    let index : ℕ = c.answer-index.result in
    let marks : List Mark = c.args.work.now.marks in
    let mark : Mark = c.get-mark.result in
    let new : Mark = record { lo = mark.lo; held = mark.held; list = mark.list; row = true } in
    let low : index < length proof.met = omega (arith, c.met.ensures, c.if-index-met.false) in
    let is : c.put.new.self.marks ≡ set marks index new = ap (λ (w : Marked). w.marks) c.put.ensures.marks in
    let more : AreNoted (take (c.args.row + 1) proof.answer) (set marks index new) =
    noted_more proof.answer c.args.row index marks new c.answer-index.ensures.row c.requires.within c.requires.noted (omega (arith, low, c.requires.size)) refl in
    subst (λ (ms : List Mark). AreNoted (take (c.args.row + 1) proof.answer) ms) (sym is) more

pub returns-clause-marks : goal.returns-clause-marks
returns-clause-marks c bounds lanes are =
    let proof : Proof = c.args.proof.now in
    let index : ℕ = c.answer-index.result in
    let marks : List Mark = c.args.work.now.marks in
    let low : index < length marks = omega (arith, c.met.ensures, c.if-index-met.false, c.requires.size) in
    let noted : Mark → Mark = λ (m : Mark). record { lo = m.lo; held = m.held; list = m.list; row = true } in
    let is : c.put.new.self.marks ≡ set marks index (noted (mark_at marks index)) =
    ap (λ (w : Marked). w.marks) c.put.ensures.marks ∙ ap (λ (m : Mark). set marks index (noted m)) c.get-mark.ensures.mark in
    subst (λ (ms : List Mark). AreMarks bounds lanes proof.met ms) (sym is) (marks_kept bounds lanes proof.met marks index true are low)
