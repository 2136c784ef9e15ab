-- When a growth is accepted under two roots, and by which rule it is refused otherwise.
use Rattle.std.specs.Prelude.{◌≡◌, ◌≤◌, ℕ, List, [], ◌∷◌, length, reverse, true}
use Rattle.ats_base.specs.Rules.{Group, rule, AllHold, IsFirstFault}
use Rattle.ats_commit.specs.Root.{header_root}
use Rattle.ats_growth_check.specs.Pair.{Roots, roots}
use Rattle.ats_growth_check.specs.Shape.{turns, need}
use Rattle.ats_growth_check.specs.Value.{Growth}
use Rattle.ats_refusal.specs.declared.growth.GrowthRefusal.{GrowthRefusal}
use Rattle.ats_refusal.specs.declared.growth.GrowthRefusal.TheVariants.{OtherOld, OtherNew, Shrunk, GrowthMisfit, OldTexts, NewTexts}

-- how many digests show the growth from m to n documents
abbrev pub digests_needed : ℕ → ℕ → ℕ
digests_needed m n = need (turns m n) true

-- the roots that the digests give for the old texts and for the new ones
abbrev pub texts_roots : (List ℕ → List ℕ) → Growth → Roots
texts_roots H g = roots H g.old.texts_root (turns g.old.documents g.new.documents) true (reverse g.digests)

-- The rules of a growth in their order, each with its fault: the two headers have these roots, under the tags of their
-- formats; there are no fewer documents than before; there are as many digests as the growth needs; they give the roots of
-- the old texts and of the new ones that the headers have.
abbrev pub rules : (List ℕ → List ℕ) → List ℕ → List ℕ → Growth → List (Group GrowthRefusal)
rules H old new g =
    rule (header_root H g.old_format g.old ≡ old) OtherOld
    ∷ rule (header_root H g.new_format g.new ≡ new) OtherNew
    ∷ rule (g.old.documents ≤ g.new.documents) (Shrunk g.old.documents g.new.documents)
    ∷ rule (length g.digests ≡ digests_needed g.old.documents g.new.documents) (GrowthMisfit (length g.digests))
    ∷ rule ((texts_roots H g).old ≡ g.old.texts_root) OldTexts
    ∷ rule ((texts_roots H g).new ≡ g.new.texts_root) NewTexts
    ∷ []

-- all rules hold
pub record AcceptsGrowth (H : List ℕ → List ℕ) (old new : List ℕ) (g : Growth) : Type 0 where
  pub holds : AllHold (rules H old new g)

-- the first rule that the growth breaks
pub record IsFirstGrowthRefusal (H : List ℕ → List ℕ) (old new : List ℕ) (g : Growth) (refusal : GrowthRefusal) : Type 0 where
  pub first : IsFirstFault (rules H old new g) refusal
