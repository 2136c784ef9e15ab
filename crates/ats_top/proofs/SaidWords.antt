-- Words say their command, if the parts of them spell its root, its algorithm and its numbers.
use Rattle.std.proofs.Common.{◌≡◌, ℕ, List, [], ◌∷◌, codes, Some, refl}
use Rattle.ats_proof.specs.declared.record.Algorithm.{Algorithm}
use Rattle.ats_console.specs.Words.{Ask, Both, Fetch, Growth, Prove, Verify, algorithm_of, command_of, number_of, root_word, prove_words, verify_words, fetch_words, both_words, growth_words, Catalog, catalog_words, Checker, Maker}

pub verify_said : (root digest r query name : List ℕ) (rows : ℕ) → root_word root ≡ Some digest → number_of r ≡ Some rows
    → command_of (verify_words root r query name) ≡ Some (Checker (Verify (record { root = digest; r = rows; query = query; proof = name })))
verify_said root digest r query name rows is_root is_rows = rw (is_root, is_rows) refl

pub ask_said : (root digest algorithm r query address : List ℕ) (by : Algorithm) (n : ℕ) → root_word root ≡ Some digest → algorithm_of algorithm ≡ Some by → number_of r ≡ Some n
    → command_of (codes "ask" ∷ root ∷ algorithm ∷ r ∷ query ∷ address ∷ []) ≡ Some (Ask (record { root = digest; algorithm = by; r = n; query = query; address = address }))
ask_said root digest algorithm r query address by n is_root is_algorithm is_rows = rw (is_root, is_algorithm, is_rows) refl

pub prove_said : (name word r query proof : List ℕ) (algorithm : Algorithm) (rows : ℕ) → algorithm_of word ≡ Some algorithm → number_of r ≡ Some rows
    → command_of (prove_words name word r query proof) ≡ Some (Maker (Prove (record { index = name; algorithm = algorithm; r = rows; query = query; proof = proof })))
prove_said name word r query proof algorithm rows is_algorithm is_rows = rw (is_algorithm, is_rows) refl

pub fetch_said : (root digest word name : List ℕ) (doc : ℕ) → root_word root ≡ Some digest → number_of word ≡ Some doc
    → command_of (fetch_words root word name) ≡ Some (Checker (Fetch (record { root = digest; doc = doc; file = name })))
fetch_said root digest word name doc is_root is_doc = rw (is_root, is_doc) refl

pub both_said : (root digest query name : List ℕ) → root_word root ≡ Some digest
    → command_of (both_words root query name) ≡ Some (Checker (Both (record { root = digest; query = query; proof = name })))
both_said root digest query name is_root = rw is_root refl

pub growth_said : (old before new now name : List ℕ) → root_word old ≡ Some before → root_word new ≡ Some now
    → command_of (growth_words old new name) ≡ Some (Checker (Growth (record { old = before; new = now; file = name })))
growth_said old before new now name is_old is_new = rw (is_old, is_new) refl

pub catalog_said : (root digest r query name : List ℕ) (rows : ℕ) → root_word root ≡ Some digest → number_of r ≡ Some rows
    → command_of (catalog_words root r query name) ≡ Some (Checker (Catalog (record { root = digest; r = rows; query = query; file = name })))
catalog_said root digest r query name rows is_root is_rows = rw (is_root, is_rows) refl
