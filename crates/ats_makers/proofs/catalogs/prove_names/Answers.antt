use Rattle.std.proofs.Common.{◌≡◌, ◌^◌, ◌≤◌, ℕ, List, [], length, sym, ap, subst, inr, rules, arith}
use Rattle.std.proofs.lemmas.List.{length-map}
use Rattle.std.proofs.lemmas.Result.{IfErr-weaker, IfOk-weaker}
use Rattle.ats_commit.specs.Root.{root_of}
use Rattle.ats_catalog_bytes.specs.Catalog.{roots_of}
use Rattle.ats_catalog_proof.specs.Written.{bytes_of}
use Rattle.ats_plan.specs.Files.{Files}
use Rattle.ats_console.specs.Names.{HasNames}
use Rattle.ats_console.specs.Words.{ProveCatalogWords}
use Rattle.ats_console.proofs.Public.{passed, at_archives, try_stops}
use Rattle.ats_makers.specs.Commands.{asked_by}
use Rattle.ats_makers.proofs.Stored.{stored, not_stored}
use Rattle.ats_makers.proofs.ShardSteps.{at_shards}
use Rattle.ats_makers.proofs.CatalogSteps.{then_proves, then_stores, leads_ranked, as_many}
use Rattle.ats_makers.proofs.CatalogFile.{all_passed, leads_file, leads_stored, file_bytes, every, whole, same_files, is_file}
use Rattle.ats_makers.proofs.catalogs.prove_names.Goals as goal

pub rank_all-requires : goal.rank_all-requires
rank_all-requires g c = search (rules, arith, ap length c.begin-ranking.ensures.roots, c.requires.few)

pub returns-in-Err-clause-stop : goal.returns-in-Err-clause-stop
returns-in-Err-clause-stop g c list text =
    let words : ProveCatalogWords = record { list = list; algorithm = c.args.algorithm; r = c.args.top; query = text; file = c.args.file.now } in
    at_archives g.H.HashKind.hash (then_proves g.H.HashKind.hash words c.args.names.now c.args.query.now) c.args.names.now c.in-Err.ensures.stop

pub prove_all-requires : goal.prove_all-requires
prove_all-requires g c =
    let H = g.H.HashKind.hash in
    let got = c.in-Ok.ensures.ok c.args.query.now c.args.top c.begin-ranking.ensures in
    let words : ProveCatalogWords = record { list = []; algorithm = c.args.algorithm; r = c.args.top; query = []; file = c.args.file.now } in
    let many : length c.args.names.now ≡ length got.0 =
    as_many H words c.args.names.now c.args.query.now (g.S.Shelf.told c.args.shelf.now) (g.S.Shelf.told c.rank_all.new.shelf) got.0 got.2 in
    let all : length c.args.names.now ≡ length c.rank_all.new.ranking.roots = omega (arith, many, ap length got.1.roots, length-map got.0 (root_of H)) in
    search (rules, all)

pub returns-in_err-prover-clause-stop : goal.returns-in_err-prover-clause-stop
returns-in_err-prover-clause-stop g c list text =
    let H = g.H.HashKind.hash in
    let words : ProveCatalogWords = record { list = list; algorithm = c.args.algorithm; r = c.args.top; query = text; file = c.args.file.now } in
    let query = c.args.query.now in
    let names = c.args.names.now in
    let got = c.in-Ok.ensures.ok query c.args.top c.begin-ranking.ensures in
    passed _ c.from_residual.result c.from_residual.ensures.1
    ((leads_ranked H words names query (g.S.Shelf.told c.args.shelf.now) (g.S.Shelf.told c.rank_all.new.shelf) got.0 got.2 got.1.ranking got.1.ranked).stops _ _
    (at_shards H got.0 (asked_by H query words.algorithm words.r got.1.ranking) (then_stores H words names query got.0) names
    (c.in_err-prover.ensures.stop got.0 query words.r got.1)))

pub file_of-requires : goal.file_of-requires
file_of-requires g c =
    let H = g.H.HashKind.hash in
    let words : ProveCatalogWords = record { list = []; algorithm = c.args.algorithm; r = c.args.top; query = []; file = c.args.file.now } in
    let query = c.args.query.now in
    let names = c.args.names.now in
    let got = c.in-Ok.ensures.ok query c.args.top c.begin-ranking.ensures in
    let done = all_passed H words names query _ _ _ _ _ got c.in_ok-prover.ensures.ok in
    let all = every H words names query _ _ _ _ _ done in
    record { whole = whole H words names query _ _ _ _ _ done; some = omega (arith, all, c.requires.some) }

pub returns-in_err-bytes-clause-stop : goal.returns-in_err-bytes-clause-stop
returns-in_err-bytes-clause-stop g c list text =
    let H = g.H.HashKind.hash in
    let words : ProveCatalogWords = record { list = list; algorithm = c.args.algorithm; r = c.args.top; query = text; file = c.args.file.now } in
    let query = c.args.query.now in
    let names = c.args.names.now in
    let got = c.in-Ok.ensures.ok query c.args.top c.begin-ranking.ensures in
    let done = all_passed H words names query _ _ _ _ _ got c.in_ok-prover.ensures.ok in
    passed _ c.from_residual-in_err-bytes.result c.from_residual-in_err-bytes.ensures.1
    (try_stops (leads_file H words names query _ _ _ _ _ done) (inr (c.in_err-bytes.ensures.stop (bytes_of (roots_of H done.catalog) done.proofs) (file_bytes H words names query _ _ _ _ _ done))))

pub returns-clause-stop : goal.returns-clause-stop
returns-clause-stop g c list text =
    let H = g.H.HashKind.hash in
    let words : ProveCatalogWords = record { list = list; algorithm = c.args.algorithm; r = c.args.top; query = text; file = c.args.file.now } in
    let query = c.args.query.now in
    let names = c.args.names.now in
    let got = c.in-Ok.ensures.ok query c.args.top c.begin-ranking.ensures in
    let done = all_passed H words names query _ _ _ _ _ got c.in_ok-prover.ensures.ok in
    let file = c.in_ok-bytes.ensures.made (bytes_of (roots_of H done.catalog) done.proofs) (file_bytes H words names query _ _ _ _ _ done) in
    IfErr-weaker c.store_sized.result _ _ (λ stop. not_stored (leads_stored H words names query _ _ _ _ _ done c.in_ok-bytes.bytes file.0 file.1)) c.store_sized.ensures.stop

pub returns-clause-ok : goal.returns-clause-ok
returns-clause-ok g c list text asks asked listed =
    let H = g.H.HashKind.hash in
    let words : ProveCatalogWords = record { list = list; algorithm = c.args.algorithm; r = c.args.top; query = text; file = c.args.file.now } in
    let query = c.args.query.now in
    let names = c.args.names.now in
    let got = c.in-Ok.ensures.ok query c.args.top c.begin-ranking.ensures in
    let done = all_passed H words names query _ _ _ _ _ got c.in_ok-prover.ensures.ok in
    let file = c.in_ok-bytes.ensures.made (bytes_of (roots_of H done.catalog) done.proofs) (file_bytes H words names query _ _ _ _ _ done) in
    let short = subst (λ (bytes : List ℕ). length bytes ≤ 2 ^ 28) (sym file.0) file.1 in
    IfOk-weaker c.store_sized.result _ _ (λ text done_now. stored (leads_stored H words names query _ _ _ _ _ done c.in_ok-bytes.bytes file.0 file.1) done_now (λ puts printed. record {
      asks = asks;
      query = query;
      asked = asked;
      names = names;
      listed = subst (λ (files : Files). HasNames files list names) (sym (same_files H words names query _ _ _ _ _ done)) listed;
      bytes = c.in_ok-bytes.bytes;
      file = is_file H words names query _ _ _ _ _ done c.in_ok-bytes.bytes short (λ catalog query r is. c.in_ok-bytes.ensures.proved catalog query r is);
      stored = puts;
      printed = printed;
    })) c.store_sized.ensures.ok
