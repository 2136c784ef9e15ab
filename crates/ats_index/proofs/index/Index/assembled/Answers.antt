use Rattle.std.proofs.Common.{ℕ, List, ap, ◌∙◌}
use Rattle.ats_tree.specs.Kept.{kept_digests}
use Rattle.ats_dict.specs.Dictionary.{dict_leaves}
use Rattle.ats_dict.specs.Entry.{DictEntry}
use Rattle.ats_dict.specs.declared.header.Header.{Header}
use Rattle.ats_commit.specs.Root.{header_root}
use Rattle.ats_index.proofs.index.Index.assembled.Goals as goal

pub invariant_of-result : goal.invariant_of-result
invariant_of-result g c =
    let H : List ℕ → List ℕ = g.H.HashKind.hash in (
      record {
        texts_within = c.header_of-header.ensures.texts;
        own_lists = c.requires.lists;
        own_dictionary = c.requires.dictionary;
        own_terms = c.requires.terms;
        own_leaves = c.requires.leaves;
        own_header = c.header_of-header.ensures.parts c.args.format c.requires.dictionary;
        own_root = c.root_of_header_in-root.ensures.value ∙ ap (λ (header : Header). header_root H c.args.format header) (c.header_of-header.ensures.parts c.args.format c.requires.dictionary);
      },
      record {
        own_lists = c.requires.list_digests;
        own_terms = c.requires.term_nodes;
        own_dictionary = c.requires.dict_nodes ∙ ap (λ (entries : List DictEntry). kept_digests H (dict_leaves entries)) c.requires.dictionary;
        own_documents = c.requires.docs_nodes;
      },
    )
