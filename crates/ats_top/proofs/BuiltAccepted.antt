-- What a file with the bytes of an index is to each command that reads one.
use Rattle.std.proofs.Common.{◌≡◌, ◌≤◌, ℕ, List, length, ap, arith}
use Rattle.ats_base.specs.Outside.{Holds}
use Rattle.ats_proof.specs.declared.record.Algorithm.TheVariants.{Tnra}
use Rattle.ats_terms.specs.Query.{IsQueryOf}
use Rattle.ats_commit.specs.Archive.{Archive}
use Rattle.ats_index.specs.Spelling.{IsSpelling}
use Rattle.ats_index.proofs.Public.{index_size}
use Rattle.ats_honest.proofs.Public.{honest_short}
use Rattle.ats_plan.specs.Files.{Files}
use Rattle.ats_console.specs.Making.{IsNotTooLong}
use Rattle.ats_console.specs.Read.{HasIndex}
use Rattle.ats_console.proofs.Public.{texts_of}

module _ (H : List ℕ → List ℕ) (sized : (m : List ℕ) → length (H m) ≡ 32) (files : Files) (archive : Archive) (bytes : List ℕ) (name : List ℕ)
    (spelling : IsSpelling H bytes archive) (held : Holds files name bytes) where
  -- the named file is the index of the archive
  pub has_index : HasIndex H files name archive
  has_index = record { bytes = bytes; file = record { held = held; short = index_size H sized bytes archive spelling }; spelling = spelling }

  -- no TNRA proof has more bytes than a proof may have
  pub none_too_long : (query : List ℕ) (asked : List (List ℕ × ℕ)) (rows : ℕ) → IsQueryOf query asked → rows ≤ 1000 → IsNotTooLong H archive asked rows Tnra
  none_too_long query asked rows is few size long =
      let terms : length asked ≤ 32 = omega (arith, ap (λ (q : List (List ℕ × ℕ)). length q) is.same, is.has.distinct) in
      let short = honest_short H sized archive asked rows long.proof (texts_of has_index) terms few long.honest in
      omega (arith, short, long.bytes_are, long.beyond)
