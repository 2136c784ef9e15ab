-- The numbers of a growth in range, and the roots that all its digests give.
use Rattle.std.proofs.Common.{◌≡◌, ℕ, ◌^◌, ◌≤◌, List, length, take, reverse, true, sym, ◌∙◌, ap}
use Rattle.std.proofs.Math.Seq.{take-length}
use Rattle.ats_growth_check.specs.Pair.{Roots, roots}
use Rattle.ats_growth_check.specs.Inner.Paired.{ArePaired}
use Rattle.ats_growth_check.specs.Rules.{digests_needed, texts_roots}
use Rattle.ats_growth_check.specs.Shape.{turns, need}
use Rattle.ats_growth_check.specs.Value.{Growth, AreInRange}
use Rattle.ats_growth_check.proofs.Leads.{leads, depth}

-- at most 16 turns lead to the end of the old documents
pub few_turns : (g : Growth) → AreInRange g → g.old.documents ≤ g.new.documents → length (turns g.old.documents g.new.documents) ≤ 16
few_turns g range within =
    let few : g.new.documents ≤ 2 ^ 16 = range.new.numbers.few
    in depth (leads g.old.documents g.new.documents range.old.numbers.some within) 16 few

-- the digests are as many as are needed, so all are taken
module _ (H : List ℕ → List ℕ) (g : Growth) (ds rest : List (List ℕ)) (old new : List ℕ) (same : ds ≡ g.digests)
    (many : length g.digests ≡ digests_needed g.old.documents g.new.documents)
    (pair : ArePaired H g.old.texts_root (turns g.old.documents g.new.documents) true ds old new rest) where
  all-taken : take (need (turns g.old.documents g.new.documents) true) ds ≡ g.digests
  all-taken = ap (λ (k : ℕ). take k ds) (sym many) ∙ ap (take (length g.digests)) same ∙ take-length g.digests

  both : roots H g.old.texts_root (turns g.old.documents g.new.documents) true (reverse (take (need (turns g.old.documents g.new.documents) true) ds)) ≡ texts_roots H g
  both = ap (λ (digests : List (List ℕ)). roots H g.old.texts_root (turns g.old.documents g.new.documents) true (reverse digests)) all-taken

  pub old_texts : old ≡ (texts_roots H g).old
  old_texts = pair.old_root ∙ ap (λ (r : Roots). r.old) both

  pub new_texts : new ≡ (texts_roots H g).new
  new_texts = pair.new_root ∙ ap (λ (r : Roots). r.new) both
