-- What is left of all shards accepts or refuses.
use Rattle.std.proofs.Common.{◌≡◌, ◌≤◌, ◌++◌, ◌∙◌, ℕ, Bool, true, List, [], ◌∷◌, length, map, ap, subst, inl, inr, arith}
use Rattle.ats_base.specs.Rules.{IsFirstFault}
use Rattle.ats_refusal.specs.declared.catalog.CatalogRefusal.{CatalogRefusal}
use Rattle.ats_refusal.specs.declared.catalog.CatalogRefusal.TheVariants.{Shard, NotSettled}
use Rattle.ats_catalog_bytes.specs.Catalog.{root_over}
use Rattle.ats_catalog_bytes.specs.Value.{Framed, AreFrames, shown_roots}
use Rattle.ats_catalog_check.specs.declared.row.CatalogRow.{CatalogRow}
use Rattle.ats_catalog_check.specs.Accepts.{AreProofs, AreRowsOf, AreRowsSettled, IsSettledFault, shown_of, shard_rules, AcceptsCatalog, IsFirstCatalogRefusal}
use Rattle.ats_catalog_check.specs.Headline.{IsCatalogTopOrCollides}
use Rattle.ats_catalog_check.specs.Merge.{Shown, merged, floor, IsSettled}
use Rattle.ats_catalog_check.specs.Inner.Checked.{AreLeft, ShardsFail}
use Rattle.ats_catalog_check.proofs.Refusals.{shards_hold, after_shards, shard_fails}
use Rattle.ats_catalog_check.proofs.Soundness.{checked_say, checked_bounded, top_or_collides}

module _ (H : List ℕ → List ℕ) (root : List ℕ) (query : List (List ℕ × ℕ)) (r : ℕ) (shards : List Framed) (root_is : root_over H (shown_roots shards) ≡ root) where
  pub shards_fail : (refusal : CatalogRefusal) → ShardsFail H query shards refusal → IsFirstCatalogRefusal H root query r shards refusal
  shards_fail (Shard shard rejection) fails = record {
    first = inr (
      root_is,
      subst (λ (n : ℕ). IsFirstFault (shard_rules H query 0 shards ++ record { holds = AreRowsSettled query r shards; fault = IsSettledFault query r shards } ∷ []) (Shard n rejection))
          (omega arith) (shard_fails H query 0 shard shards fails.proofs _ rejection fails.inside fails.before fails.refused),
    );
  }
  shards_fail _ fails = absurd fails

  module _ (most : ℕ) (all : most ≡ r) (rows : List CatalogRow) (fall : Bool) (rest : ℕ) (found : AreLeft H query most shards rows fall rest) where
    left : AreLeft H query r shards rows fall rest
    left = subst (λ (n : ℕ). AreLeft H query n shards rows fall rest) all found

    abbrev shown : List Shown
    shown = map (shown_of query) left.proofs

    say : AreProofs shards left.proofs
    say = checked_say H query shards left.proofs left.checked

    same_floor : fall ≡ true → floor most rows ≡ floor r (merged shown)
    same_floor fell = ap (λ (n : ℕ). floor n rows) all ∙ ap (floor r) (left.kept.rows fell)

    module _ (is : (fall ≡ true) × (rest ≤ floor most rows)) where
      settled : IsSettled r shown
      settled = record { falling = left.kept.falls.0 is.0; rests = omega (arith, is.1, left.rest_is, same_floor is.0) }

      pub accepts : AcceptsCatalog H root query r shards
      accepts = record {
        holds = (root_is, shards_hold H query 0 shards left.proofs _ left.checked (record { proofs = left.proofs; say = say; settled = settled }, tt));
      }

      pub are_rows : AreRowsOf query shards rows
      are_rows = record { proofs = left.proofs; say = say; are = left.kept.rows is.0 }

      pub headline : ((m : List ℕ) → length (H m) ≡ 32) → AreFrames shards → IsCatalogTopOrCollides H root query r shards
      headline sized range = top_or_collides H sized root query r shards left.proofs range root_is (checked_bounded H query shards left.proofs left.checked) settled

    unsettled : IsSettled r shown → (fall ≡ true) × (rest ≤ floor most rows)
    unsettled is =
        let fell : fall ≡ true = left.kept.falls.1 is.falling in
        (fell, omega (arith, is.rests, left.rest_is, same_floor fell))

    pub refuses : ((fall ≡ true) × (rest ≤ floor most rows) → ⊥) → IsFirstCatalogRefusal H root query r shards NotSettled
    refuses not = record {
      first = inr (
        root_is,
        after_shards H query 0 shards left.proofs _ NotSettled left.checked (inl (left.proofs, say, λ is. not (unsettled is))),
      );
    }
