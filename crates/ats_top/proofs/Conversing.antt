-- A caller that reports has one reply in a conversation.
use Rattle.std.proofs.Common.{◌≡◌, ◌∙◌, ◌++◌, ◌∷◌, ℕ, List, [], Option, Some, None, MatchOption, IsSome, Result, refl, sym, ap}
use Rattle.std.specs.Prelude.{option_map}
use Rattle.std.proofs.lemmas.List.{append_cancel_left}
use Rattle.ats_base.specs.Links.{LinkTold, Traffic, CallerTold, Calling, calling_out, called_back}
use Rattle.ats_wire.specs.Requests.{Question}
use Rattle.ats_wire.specs.Asking.{IsHeard}
use Rattle.ats_wire.specs.declared.asking.AskFault.{AskFault}
use Rattle.ats_wire.proofs.Public.{asked_alike}
use Rattle.ats_top.specs.Conversation.{Converses}

same_some : {X : Type 0} (o : Option X) (x y : X) → o ≡ Some x → o ≡ Some y → x ≡ y
same_some o x y first second = let both = sym first ∙ second in cc

-- what a link that reports, and over which nothing went, reports
new_traffic : (o : Option Traffic) → IsSome o → MatchOption o (Unit {0}) (λ traffic. (traffic.read ≡ []) × (traffic.written ≡ []))
    → (traffic : Traffic) × (o ≡ Some traffic) × (traffic.read ≡ [])
new_traffic None tells unused = absurd (cc)
new_traffic (Some traffic) tells unused = (traffic, refl, unused.0)

first_is : (a b : LinkTold) → a ∷ [] ≡ b ∷ [] → a ≡ b
first_is a b same = cc

-- the last of the links given back
one_back : (before now : Option Calling) (address other : List ℕ) (a b : LinkTold) → IsSome before
    → now ≡ option_map (called_back a) (option_map (calling_out address) before)
    → now ≡ option_map (called_back b) (option_map (calling_out other) before) → a ≡ b
one_back None now address other a b tells is also = absurd (cc)
one_back (Some calling) now address other a b tells is also =
    let same = same_some now (called_back a (calling_out address calling)) (called_back b (calling_out other calling)) is also in
    let lists = append_cancel_left calling.given_back (a ∷ []) (b ∷ []) (ap (λ (c : Calling). c.given_back) same) in
    first_is a b lists

-- what was read over the link of a conversation of a caller that reports: the front of all that was still to come when
-- it was new
record Came (link back : LinkTold) : Type 0 where
  traffic : Traffic
  is : link.traffic ≡ Some traffic
  later : Traffic
  now : back.traffic ≡ Some later
  stream : traffic.rest ≡ later.read ++ later.rest

came : (address : List ℕ) (question : Question) (before now : CallerTold) (result : Result (List ℕ) AskFault) → IsSome before.content
    → (is : Converses address question before now result) → Came is.link is.back
came address question before now result tells is =
    let new = new_traffic is.link.traffic (is.new.tells tells) is.new.unused in
    let traffic : Traffic = new.0 in
    let carried = rw new.1 at is.asked.moved.over.carried in
    record {
      traffic = traffic;
      is = new.1;
      later = record traffic { read = traffic.read ++ is.asked.read; rest = carried.0; written = traffic.written ++ is.asked.written };
      now = carried.2;
      stream = carried.1 ∙ ap (λ (front : List ℕ). (front ++ is.asked.read) ++ carried.0) (sym new.2);
    }

-- the link given back is one, so what was read over it is, and so is its result
pub one_reply : (address other : List ℕ) (question asking : Question) (before now : CallerTold) (one two : Result (List ℕ) AskFault) → IsSome before.content
    → Converses address question before now one → Converses other asking before now two → IsHeard one → IsHeard two → one ≡ two
one_reply address other question asking before now one two tells is also heard too =
    let same = one_back before.content now.content address other is.back also.back tells is.content also.content in
    let first = came address question before now one tells is in
    let second = came other asking before now two tells also in
    let later : first.later ≡ second.later = same_some is.back.traffic first.later second.later first.now (ap (λ (link : LinkTold). link.traffic) same ∙ second.now) in
    let stream : first.traffic.rest ≡ second.traffic.rest = first.stream ∙ ap (λ (t : Traffic). t.read ++ t.rest) later ∙ sym second.stream in
    asked_alike question asking is.link is.back also.link also.back first.traffic second.traffic one two first.is second.is stream is.asked also.asked heard too
