use Rattle.std.proofs.Common.{◌≡◌, ℕ, ◌*◌, ◌<◌, List, [], ◌∷◌, length, drop, true, false, nat_lt, if◌then◌else◌, ◌∙◌, ap, sym, arith}
use Rattle.std.proofs.lemmas.Slice.Eq.{bytes_eq-Decides}
use Rattle.ats_lists.specs.Chain.{chain_from}
use Rattle.ats_lists.proofs.KeptChains.{next-seen, none-left, none-told, one-left, left-one}
use Rattle.ats_lists.proofs.chain_keeping.Chain.is_link.Goals as goal

abbrev next : (List ℕ → List ℕ) → List (List ℕ) → ℕ → List (List ℕ)
next H leaves j = if nat_lt (64 * j) (length leaves) then chain_from H leaves j ∷ [] else []

pub returns-then-eq : goal.returns-then-eq
returns-then-eq g c H leaves same =
    let run : List (List ℕ) = c.self.inside.digests.items
    in let ds : List (List ℕ) = g.S.PartialTree.digests c.args.shown.now
    in let after : List (List ℕ) = g.S.PartialTree.digests c.take_digest-2.new.self
    in let theirs : List ℕ = c.in-Some.theirs
    in let inside : 128 * c.args.j < length run = omega (arith, c.if-at-len.false, c.len.ensures)
    in let own : next H leaves c.args.j ≡ c.index.result.now ∷ [] =
    next-seen H leaves run (c.self.view_is ∙ same) c.args.j c.index.result.now _ c.self.invariant.even inside c.index.ensures
    in let equal : theirs ≡ c.index.result.now = (bytes_eq-Decides theirs c.index.result.now).0 (sym c.eq.ensures ∙ c.if-eq.true)
    in let passed : after ≡ drop 1 ds = c.take_digest-2.ensures.passed
    in let none = none-left after c.take_digest-then-eq.result c.take_digest-then-eq.ensures.first
    in let told = none-told c.is_none-then-eq.result c.take_digest-then-eq.result (sym c.is_none-then-eq.ensures)
    in (
      λ holds. one-left ds theirs c.in-Some.ensures.first (sym passed ∙ none.0 (sym told ∙ holds))
          ∙ ap (λ (d : List ℕ). d ∷ []) equal ∙ sym own,
      λ is. told ∙ none.1 (passed ∙ (left-one ds theirs c.index.result.now c.in-Some.ensures.first (is ∙ own)).1),
    )

pub returns-else-eq : goal.returns-else-eq
returns-else-eq g c H leaves same =
    let run : List (List ℕ) = c.self.inside.digests.items
    in let theirs : List ℕ = c.in-Some.theirs
    in let inside : 128 * c.args.j < length run = omega (arith, c.if-at-len.false, c.len.ensures)
    in let own : next H leaves c.args.j ≡ c.index.result.now ∷ [] =
    next-seen H leaves run (c.self.view_is ∙ same) c.args.j c.index.result.now _ c.self.invariant.even inside c.index.ensures
    in (
      λ holds. let clash : true ≡ false = sym holds ∙ c.if-eq.false in absurd (cc),
      λ is. c.eq.ensures
          ∙ (bytes_eq-Decides theirs c.index.result.now).1
          (left-one (g.S.PartialTree.digests c.args.shown.now) theirs c.index.result.now c.in-Some.ensures.first (is ∙ own)).0,
    )
