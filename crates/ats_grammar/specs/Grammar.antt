-- The fields of a proof's bytes, in their order. A run of n like parts is followed by its last argument.
use Rattle.std.specs.Prelude.{ℕ, zero, suc, ◌+◌, ◌^◌, ◌==◌, Bool, true, false}
use Rattle.ats_grammar.specs.declared.fault.ShapeKind.TheVariants.{Magic, Version, Algorithm, Count, Order}
use Rattle.ats_grammar.specs.Table.{Table, Schema, End, Number, Bytes}

-- any number of 2 bytes, or of 4; its kind of fault never occurs
abbrev pub any_2 : (ℕ → Table) → Table
any_2 rest = Number 2 0 0xffff Count rest

abbrev pub any_4 : (ℕ → Table) → Table
any_4 rest = Number 4 0 0xffff_ffff Count rest

-- a number of 4 bytes that is at least low
abbrev pub rising : ℕ → (ℕ → Table) → Table
rising low rest = Number 4 low 0xffff_ffff Order rest

-- the index of a leaf, at least low
abbrev pub index : ℕ → (ℕ → Table) → Table
index low rest = Number 2 low 0xffff Order rest

-- 1 if the term is present, else 0
abbrev pub kind : (ℕ → Table) → Table
kind rest = Number 1 0 1 Count rest

abbrev pub leaf_count : (ℕ → Table) → Table
leaf_count rest = Number 2 1 64 Count rest

abbrev pub term_length : (ℕ → Table) → Table
term_length rest = Number 1 0 64 Count rest

abbrev pub digests : ℕ → Table → Table
digests zero rest = rest
digests (suc n) rest = Bytes 32 (digests n rest)

-- ---- answer

-- the met indexes of the rows
abbrev pub rows : ℕ → Table
rows zero = End
rows (suc n) = any_4 (λ _. rows n)

abbrev pub answer : Table
answer = Number 2 0 1000 Count (λ n. rows n)

-- ---- terms sections, one per met id

-- one slot per present term; indexes never fall
abbrev pub doc_slots : ℕ → ℕ → Table → Table
doc_slots zero low rest = rest
doc_slots (suc n) low rest = kind (λ _. index low (λ i. doc_slots n i rest))

-- position, length, term, impact; positions rise
abbrev pub term_leaves : ℕ → ℕ → Table → Table
term_leaves zero low rest = rest
term_leaves (suc n) low rest = rising low (λ p. term_length (λ size. Bytes size (any_2 (λ _. term_leaves n (p + 1) rest))))

abbrev pub term_digests : ℕ → Table → Table
term_digests present rest = any_2 (λ n. digests n (doc_slots present 0 rest))

abbrev pub term_section : ℕ → Table → Table
term_section present rest = leaf_count (λ n. term_leaves n 0 (term_digests present rest))

abbrev pub term_sections : ℕ → ℕ → Table
term_sections zero present = answer
term_sections (suc n) present = term_section present (term_sections n present)

-- ---- documents section, one leaf per met id: number of leaves, terms root

abbrev pub doc_leaves : ℕ → Table → Table
doc_leaves zero rest = rest
doc_leaves (suc n) rest = any_4 (λ _. Bytes 32 (doc_leaves n rest))

abbrev pub doc_digests : Table → Table
doc_digests rest = Number 4 0 65536 Count (λ n. digests n rest)

-- these two only for TRA
abbrev pub documents : Bool → ℕ → ℕ → Table
documents true met present = doc_leaves met (doc_digests (term_sections met present))
documents false met present = answer

-- ---- prefixes, one per present term: met index and impact of each entry

abbrev pub entries : ℕ → Table → Table
entries zero rest = rest
entries (suc n) rest = any_4 (λ _. any_2 (λ _. entries n rest))

abbrev pub list_digests : Table → Table
list_digests rest = any_2 (λ n. digests n rest)

abbrev pub prefix : Table → Table
prefix rest = Number 4 1 65536 Count (λ n. entries n (list_digests rest))

abbrev pub prefixes : ℕ → Table → Table
prefixes zero rest = rest
prefixes (suc n) rest = prefix (prefixes n rest)

-- ---- met ids, which rise

abbrev pub met_ids : ℕ → ℕ → Table → Table
met_ids zero low rest = rest
met_ids (suc n) low rest = rising low (λ id. met_ids n (id + 1) rest)

abbrev pub met : Bool → ℕ → Table
met tra present = Number 4 0 65536 Count (λ n. met_ids n 0 (prefixes present (documents tra n present)))

-- ---- slots, one per query term; indexes never fall; `present` counts the terms that are present so far

abbrev pub slots : Bool → ℕ → ℕ → ℕ → Table
slots tra zero low present = met tra present
slots tra (suc n) low present = kind (λ k. index low (λ i. slots tra n i (present + k)))

-- ---- dictionary section

abbrev pub dict_digests : Bool → ℕ → Table
dict_digests tra terms = any_2 (λ n. digests n (slots tra terms 0 0))

-- position, length, term, number of documents, list root; positions rise
abbrev pub dict_leaves : ℕ → ℕ → Table → Table
dict_leaves zero low rest = rest
dict_leaves (suc n) low rest = rising low (λ p. term_length (λ size. Bytes size (any_4 (λ _. Bytes 32 (dict_leaves n (p + 1) rest)))))

abbrev pub dictionary : Bool → ℕ → Table
dictionary tra terms = leaf_count (λ n. dict_leaves n 0 (dict_digests tra terms))

-- ---- number of query terms

abbrev pub query_terms : Bool → Table
query_terms tra = Number 2 1 32 Count (λ n. dictionary tra n)

-- ---- header: version, documents, dictionary leaves, three roots

abbrev pub header : Table → Table
header rest = Number 1 1 1 Version (λ _. Number 4 1 65536 Count (λ _. Number 4 2 16777218 Count (λ _. Bytes 32 (Bytes 32 (Bytes 32 rest)))))

-- ---- front: magic ATSP, version by the format of the lists, algorithm

abbrev pub proof : Table
proof = Number 4 0x41545350 0x41545350 Magic (λ _. Number 1 1 2 Version (λ _. Number 1 1 2 Algorithm (λ a. header (query_terms (a == 1)))))

-- what the bytes of a proof must be: at most 2^26
abbrev pub proof_schema : Schema
proof_schema = record { table = proof; limit = 2 ^ 26 }
