use Rattle.std.proofs.Common.{[], ◌∷◌, codes}
use Rattle.ats_console.specs.Words.{verify_words, fetch_words, both_words, growth_words, catalog_words}
use Rattle.ats_top.proofs.Printed.{verified, replied, fetched, both_checked, growth_checked, catalog_checked}
use Rattle.ats_top.proofs.SaidWords.{verify_said, ask_said, fetch_said, both_said, growth_said, catalog_said}
use Rattle.ats_top.proofs.theorem.accepted_answers_are_printed.Goals as goal

pub returns-clause-verify : goal.returns-clause-verify
returns-clause-verify g c root r query proof digest n before now is_root is_rows =
    verified g.H.HashKind.hash (verify_words root r query proof) before now (record { root = digest; r = n; query = query; proof = proof })
    (verify_said root digest r query proof n is_root is_rows)

pub returns-clause-ask : goal.returns-clause-ask
returns-clause-ask g c root algorithm r query address digest by n before now is_root is_algorithm is_rows =
    replied g.H.HashKind.hash (codes "ask" ∷ root ∷ algorithm ∷ r ∷ query ∷ address ∷ []) before now
    (record { root = digest; algorithm = by; r = n; query = query; address = address })
    (ask_said root digest algorithm r query address by n is_root is_algorithm is_rows)

pub returns-clause-fetch : goal.returns-clause-fetch
returns-clause-fetch g c root doc file digest n before now is_root is_doc =
    fetched g.H.HashKind.hash (fetch_words root doc file) before now (record { root = digest; doc = n; file = file })
    (fetch_said root digest doc file n is_root is_doc)

pub returns-clause-both : goal.returns-clause-both
returns-clause-both g c root query proof digest before now is_root =
    both_checked g.H.HashKind.hash (both_words root query proof) before now (record { root = digest; query = query; proof = proof })
    (both_said root digest query proof is_root)

pub returns-clause-growth : goal.returns-clause-growth
returns-clause-growth g c old new file older_root newer_root before now is_old is_new =
    growth_checked g.H.HashKind.hash (growth_words old new file) before now (record { old = older_root; new = newer_root; file = file })
    (growth_said old older_root new newer_root file is_old is_new)

pub returns-clause-catalog : goal.returns-clause-catalog
returns-clause-catalog g c root r query file digest n before now is_root is_rows =
    catalog_checked g.H.HashKind.hash (catalog_words root r query file) before now (record { root = digest; r = n; query = query; file = file })
    (catalog_said root digest r query file n is_root is_rows)
