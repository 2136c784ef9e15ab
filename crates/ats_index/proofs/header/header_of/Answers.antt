use Rattle.std.proofs.Common.{ℕ, List, refl}
use Rattle.ats_dict.specs.Dictionary.{dict_leaves}
use Rattle.ats_commit.specs.Trees.{documents_of}
use Rattle.ats_index.proofs.header.header_of.Goals as goal

pub returns-clause-parts : goal.returns-clause-parts
returns-clause-parts g c format own =
    let H : List ℕ → List ℕ = g.H.HashKind.hash in
    let dictionary = c.root.ensures.value H (dict_leaves c.args.dictionary.now.dictionary) c.requires.dict_nodes in
    let documents = c.root-2.ensures.value H (documents_of H c.args.collection.now) c.requires.docs_nodes in
    rw (c.documents.ensures.value, c.len.ensures.value, dictionary, documents, c.requires.texts_root, own) refl
