-- What arrived over the link of `ask` decides one status.
use Rattle.std.proofs.Common.{◌≡◌, ◌∙◌, ℕ, List, Ok, Err, IsSome, sym, subst, inl, inr}
use Rattle.ats_base.specs.Links.{CallerTold}
use Rattle.ats_client.specs.Bytes.{IsAcceptedBytes}
use Rattle.ats_refusal.specs.declared.proof.Rejection.{Rejection}
use Rattle.ats_client.proofs.Public.{accepted_not_refused}
use Rattle.ats_console.specs.Words.{AskWords, Command, Ask}
use Rattle.ats_top.specs.Calling.{ReplyDecides}
use Rattle.ats_top.specs.Asked.{question_of, IsReplyRead, IsReplyAccepted, IsReplyRejected, IsReplyFault, Decides}
use Rattle.ats_top.proofs.Conversing.{one_reply}

module _ (H : List ℕ → List ℕ) (before now : CallerTold) (words : AskWords) (tells : IsSome before.content) where
  same_bytes : (query other : List (List ℕ × ℕ)) (bytes more : List ℕ) → IsReplyRead before now words query bytes → IsReplyRead before now words other more → bytes ≡ more
  same_bytes query other bytes more is also =
      let same = one_reply words.address words.address (question_of words) (question_of words) before now (Ok bytes) (Ok more) tells is.conversation also.conversation tt tt in cc

  accepted_rejected : IsReplyAccepted H before now words → (rejection : Rejection) → IsReplyRejected H before now words rejection → ⊥
  accepted_rejected is rejection also =
      let same = same_bytes is.query also.query is.bytes also.bytes is.replied also.replied in
      let asked : is.query ≡ also.query = is.replied.asked.same ∙ sym also.replied.asked.same in
      let accepted = subst (λ (bytes : List ℕ). IsAcceptedBytes H words.root also.query words.r bytes is.proof) same
      (subst (λ (query : List (List ℕ × ℕ)). IsAcceptedBytes H words.root query words.r is.bytes is.proof) asked is.accepted) in
      accepted_not_refused H words.root also.query words.r also.bytes is.proof rejection accepted also.rejected

  -- a reply with a proof has no fault
  replied_fault : (query : List (List ℕ × ℕ)) (bytes : List ℕ) → IsReplyRead before now words query bytes → (line : List ℕ) → IsReplyFault before now words line → ⊥
  replied_fault query bytes is line also =
      let same = one_reply words.address words.address (question_of words) (question_of words) before now (Ok bytes) (Err also.heard.fault) tells
      is.conversation also.heard.conversation tt also.heard.heard in cc

  -- an accepted reply decides status 0, a rejected one 1, and one that is no proof 9
  pub accepted_decides : (k : ℕ) → Decides H before now words k → IsReplyAccepted H before now words → 0 ≡ k
  accepted_decides k (inl (is, accepted)) also = sym is
  accepted_decides k (inr (inl (is, (rejection, rejected)))) also = absurd (accepted_rejected also rejection rejected)
  accepted_decides k (inr (inr (is, (line, faulty)))) also = absurd (replied_fault also.query also.bytes also.replied line faulty)

  pub rejected_decides : (k : ℕ) → Decides H before now words k → (rejection : Rejection) → IsReplyRejected H before now words rejection → 1 ≡ k
  rejected_decides k (inl (is, accepted)) rejection also = absurd (accepted_rejected accepted rejection also)
  rejected_decides k (inr (inl (is, rejected))) rejection also = sym is
  rejected_decides k (inr (inr (is, (line, faulty)))) rejection also = absurd (replied_fault also.query also.bytes also.replied line faulty)

  pub fault_decides : (k : ℕ) → Decides H before now words k → (line : List ℕ) → IsReplyFault before now words line → 9 ≡ k
  fault_decides k (inl (is, accepted)) line also = absurd (replied_fault accepted.query accepted.bytes accepted.replied line also)
  fault_decides k (inr (inl (is, (rejection, rejected)))) line also = absurd (replied_fault rejected.query rejected.bytes rejected.replied line also)
  fault_decides k (inr (inr (is, faulty))) line also = sym is

  ask_status : (a b : ℕ) → Decides H before now words a → Decides H before now words b → a ≡ b
  ask_status a b decides (inl (is, accepted)) = sym (is ∙ accepted_decides a decides accepted)
  ask_status a b decides (inr (inl (is, (rejection, rejected)))) = sym (is ∙ rejected_decides a decides rejection rejected)
  ask_status a b decides (inr (inr (is, (line, faulty)))) = sym (is ∙ fault_decides a decides line faulty)

-- a reply decides one status
pub one_status : (H : List ℕ → List ℕ) (before now : CallerTold) (command : Command) (a b : ℕ) → IsSome before.content
    → ReplyDecides H before now command a → ReplyDecides H before now command b → a ≡ b
one_status H before now (Ask words) a b tells is also = ask_status H before now words tells a b is also
one_status H before now other a b tells is also = absurd is
