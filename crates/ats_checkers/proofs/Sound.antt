-- The plan of each command goes one way at most, and stops none for its words.
use Rattle.std.proofs.Common.{ℕ, List}
use Rattle.ats_console.specs.Words.{CheckerCommand, Verify, Fetch, Both, Growth, CatalogRoot, Catalog}
use Rattle.ats_console.proofs.Public.{Sound, ends, fails, reads, not_rejected, query_sound, ranking_sound, checks_sound, roots_sound, named_sound, text_one, both_one, growth_one, catalog_one}
use Rattle.ats_checkers.specs.Commands.{checker_plan}

pub checker_sound : (H : List ℕ → List ℕ) (command : CheckerCommand) → Sound (checker_plan H command)
checker_sound H (Verify words) = ranking_sound (λ query. reads (fails not_rejected) (λ bytes. checks_sound (λ proof. ends)))
checker_sound H (Fetch words) = named_sound (text_one H words.root words.doc) (λ proof. ends)
checker_sound H (Both words) = query_sound (λ query. named_sound (both_one H words.root query) (λ proof. ends))
checker_sound H (Growth words) = named_sound (growth_one H words.old words.new) (λ growth. ends)
checker_sound H (CatalogRoot words) = roots_sound (λ roots. ends)
checker_sound H (Catalog words) = ranking_sound (λ query. named_sound (catalog_one H words.root query words.r) (λ shards. ends))
