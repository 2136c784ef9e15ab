use Rattle.std.proofs.Common.{◌≡◌, ◌+◌, ℕ, List, length, true, sym, ap, ap₂, subst, ◌∙◌, arith}
use Rattle.std.specs.Int.{from_bool}
use Rattle.std.specs.Result.{is_ok}
use Rattle.ats_proof.specs.Value.{Proof, IsProof}
use Rattle.ats_proof.proofs.Public.{one_value}
use Rattle.ats_client.specs.Accepts.{Accepts}
use Rattle.ats_honest.specs.Honest.{IsHonest, IsProved, length_of}
use Rattle.ats_audit.specs.Verdicts.{IsVerdict}
use Rattle.ats_audit.specs.declared.auditing.Verdict.{Verdict}
use Rattle.ats_auditors.specs.Inner.Trial.{IsSmall}
use Rattle.ats_auditors.specs.Trial.{IsTried, shown_entries}
use Rattle.ats_auditors.specs.declared.trials.Tally.{Tally}
use Rattle.ats_auditors.proofs.Tried.{tried, audited_right}
use Rattle.ats_auditors.proofs.trials.count.Goals as goal
use Rattle.ats_auditors.proofs.trials.count.Goals.{then-accepted, else-accepted}

pub returns : goal.returns
returns g c =
    let H = g.H.HashKind.hash in
    let archive = c.args.index.now in
    let query = c.args.query.now in
    let algorithm = c.args.algorithm in
    let bytes = c.as_slice-bytes.result.now in
    let proof : Proof = c.in-Ok.proof in
    let says : IsProof bytes proof = c.in-Ok.ensures.spelled in
    let at : IsProved H archive query c.args.top algorithm bytes =
    subst (λ (b : List ℕ). IsProved H archive query c.args.top algorithm b) (sym c.as_slice-bytes.ensures) c.in_ok-bytes.ensures.ok in
    let honest : IsHonest H archive query c.args.top algorithm proof =
    subst (IsHonest H archive query c.args.top algorithm) (one_value bytes at.proof proof at.spells says) at.honest in
    let size = c.in_ok-bytes.ensures.size proof honest in
    let ten : IsProved H archive query 10 algorithm bytes = subst (λ (n : ℕ). IsProved H archive query n algorithm bytes) c.requires.ten at in
    let own : IsTried H archive query algorithm proof = tried H archive query algorithm bytes proof ten says size.1 in
    let verdict : Verdict = c.in_ok-is_right.ensures.ok.0 in
    let found : IsVerdict H archive query 10 bytes verdict =
    subst (λ (n : ℕ). IsVerdict H archive query n bytes verdict) c.requires.ten c.in_ok-is_right.ensures.ok.1 in
    let one : c.from.result ≡ 1 = c.from.ensures ∙ ap from_bool (c.in_ok-is_right.ensures.ok.2 ∙ audited_right H archive query algorithm bytes proof verdict ten says found) in
    elim c.if-accepted.branch [
      | then-accepted w ↦
          let tally = c.args.tally.now in
          let long : length bytes ≡ length_of proof = ap (λ (b : List ℕ). length b) c.as_slice-bytes.ensures ∙ size.0 in
          record {
            counted = (
              proof,
              own,
              w.tally-is
                  ∙ ap₂ (λ (e b : ℕ). let t : Tally = record { accepted = tally.accepted + 1; entries = tally.entries + e; bytes = tally.bytes + b; right = tally.right + c.from.result } in t)
                  w.shown_entries.ensures.value long
                  ∙ ap (λ (n : ℕ). let t : Tally = record { accepted = tally.accepted + 1; entries = tally.entries + shown_entries proof; bytes = tally.bytes + length_of proof; right = tally.right + n } in t) one,
            );
            small = subst IsSmall (sym w.tally-is) (record {
              accepted = omega (arith, c.requires.space);
              entries = omega (arith, c.requires.small.entries, w.shown_entries.ensures.few);
              bytes = omega (arith, c.requires.small.bytes, c.in_ok-bytes.ensures.within, ap (λ (b : List ℕ). length b) c.as_slice-bytes.ensures);
              right = omega (arith, c.requires.small.right, one);
            });
            stop = tt;
          }
      | else-accepted w ↦
          let accepted : Accepts H c.root.result c.args.query.now c.args.top proof =
          subst (λ (n : ℕ). Accepts H c.root.result query n proof) (sym c.requires.ten) (subst (λ (root : List ℕ). Accepts H root query 10 proof) (sym c.root.ensures) own.accepted) in
          let yes : is_ok c.check.result ≡ true = c.check.ensures.exact accepted in
          let value = c.is_ok-accepted.ensures.value in
          let no = w.if-accepted.false in
          absurd (cc)
    ]
