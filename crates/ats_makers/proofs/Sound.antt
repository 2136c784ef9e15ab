-- The plan of each command goes one way at most, and stops none for its words.
use Rattle.std.proofs.Common.{◌∙◌, ℕ, List, [], sym}
use Rattle.ats_commit.specs.Archive.{Archive}
use Rattle.ats_text_check.proofs.Public.{one_join}
use Rattle.ats_growth_proof.specs.Honest.{honest}
use Rattle.ats_growth_check.proofs.Public.{one_join as one_growth_join}
use Rattle.ats_catalog_bytes.specs.Catalog.{roots_of}
use Rattle.ats_catalog_check.specs.Headline.{score_in, size_in}
use Rattle.ats_catalog_honest.proofs.Public.{one_ranking}
use Rattle.ats_catalog_proof.specs.Written.{bytes_of}
use Rattle.ats_plan.specs.Inner.Sound.{IsExact}
use Rattle.ats_console.specs.Words.{MakerCommand, Rank, Build, Migrate, Root, Prove, Give, ProveBoth, Grow, ProveCatalog}
use Rattle.ats_console.proofs.Public.{Sound, ends, stores, tries, makes, not_input, query_sound, ranking_sound, collection_sound, index_sound, names_sound, archives_sound, one_made, length_exact}
use Rattle.ats_makers.specs.Commands.{maker_plan, HasDocument, LacksDocument, asked_by}
use Rattle.ats_makers.proofs.OneBoth.{both_length_exact, one_both_bytes}
use Rattle.ats_makers.proofs.OneCatalog.{one_asked, file_exact, shards_sound}
use Rattle.ats_makers.proofs.OneGrowth.{withdrawing_exact}

document_exact : (archive : Archive) (doc : ℕ) → IsExact (HasDocument archive doc) (LacksDocument archive doc)
document_exact archive doc = record {
  breaks = λ stop lacks has. lacks.0 has;
  one = λ a b is also. is.1 ∙ sym also.1;
}

pub maker_sound : (H : List ℕ → List ℕ) (command : MakerCommand) → Sound (maker_plan H command)
maker_sound H (Rank words) = ranking_sound (λ query. collection_sound (λ texts. ends))
maker_sound H (Build words) = collection_sound (λ texts. makes (λ a b is also. is.same ∙ sym also.same) (λ bytes. stores))
maker_sound H (Migrate words) = index_sound (λ archive. makes (λ a b is also. is.same ∙ sym also.same) (λ bytes. stores))
maker_sound H (Root words) = index_sound (λ archive. ends)
maker_sound H (Prove words) = ranking_sound (λ query. index_sound (λ archive.
    tries (length_exact H archive query words.r words.algorithm) (λ stops. not_input stops.2)
    (makes (one_made H archive query words.r words.algorithm) (λ bytes. stores))))
maker_sound H (Give words) = index_sound (λ archive. tries (document_exact archive words.doc) (λ stops. not_input stops.1)
    (makes (λ a b is also. one_join a b _ is also) (λ bytes. stores)))
maker_sound H (ProveBoth words) = query_sound (λ query. index_sound (λ archive. tries (both_length_exact H archive query) (λ stops. not_input stops.2)
    (makes (one_both_bytes H archive query) (λ bytes. stores))))
maker_sound H (Grow words) = index_sound (λ older. index_sound (λ newer. tries (withdrawing_exact older newer) (λ stops. not_input stops.2)
    (makes (λ a b is also. one_growth_join a b (honest H older newer) is also) (λ bytes. stores))))
maker_sound H (ProveCatalog words) = ranking_sound (λ query. names_sound (λ names. archives_sound H [] names (λ catalog.
    makes (one_ranking (size_in catalog) (score_in catalog query)) (λ ranking.
    shards_sound H catalog (asked_by H query words.algorithm words.r ranking) (one_asked H query words.algorithm words.r ranking) [] names (λ proofs.
    tries (file_exact (bytes_of (roots_of H catalog) proofs)) (λ stops. not_input stops.1) stores)))))
