-- The words of each refusal.
use Rattle.std.specs.Prelude.{◌++◌, ℕ, List, codes, decimal}
use Rattle.ats_grammar.specs.declared.fault.ShapeKind.{ShapeKind}
use Rattle.ats_grammar.specs.declared.fault.ShapeKind.TheVariants.{Long, Cut, Magic, Version, Algorithm, Count, Order, Trailing}
use Rattle.ats_refusal.specs.declared.proof.Refusal.{Refusal}
use Rattle.ats_refusal.specs.declared.proof.Refusal.TheVariants.{OtherRoot, SlotCount, DictMisfit, DictRoot, SlotWrong, IndexOut, Repeated, ListMisfit, ListRoot, Unmet, DocsMisfit, DocsRoot, TermsMisfit, TermsRoot, TermSlot, AnswerOut, AnswerRepeated, NotSettled}
use Rattle.ats_refusal.specs.declared.proof.Rejection.{Rejection}
use Rattle.ats_refusal.specs.declared.proof.Rejection.TheVariants.{Shape, Check}
use Rattle.ats_refusal.specs.declared.catalog.CatalogRefusal.{CatalogRefusal}
use Rattle.ats_refusal.specs.declared.catalog.CatalogRefusal.TheVariants as catalog
use Rattle.ats_refusal.specs.declared.text.TextRefusal.{TextRefusal}
use Rattle.ats_refusal.specs.declared.text.TextRefusal.TheVariants as text
use Rattle.ats_refusal.specs.declared.documents.BothRefusal.{BothRefusal}
use Rattle.ats_refusal.specs.declared.documents.BothRefusal.TheVariants.{NotTra, AnswerShown, Section, NoWholeList}
use Rattle.ats_refusal.specs.declared.growth.GrowthRefusal.{GrowthRefusal}
use Rattle.ats_refusal.specs.declared.growth.GrowthRefusal.TheVariants.{OtherOld, OtherNew, Shrunk, GrowthMisfit, OldTexts, NewTexts}

-- the words before the place of a fault of the shape
abbrev pub shape_words : ShapeKind → List ℕ
shape_words Long = codes "shape long "
shape_words Cut = codes "shape cut "
shape_words Magic = codes "shape magic "
shape_words Version = codes "shape version "
shape_words Algorithm = codes "shape algorithm "
shape_words Count = codes "shape count "
shape_words Order = codes "shape order "
shape_words Trailing = codes "shape trailing "

-- of a proof of an answer
abbrev pub refusal_words : Refusal → List ℕ
refusal_words OtherRoot = codes "other-root"
refusal_words (SlotCount shown) = codes "slot-count " ++ decimal shown
refusal_words DictMisfit = codes "dict-misfit"
refusal_words DictRoot = codes "dict-root"
refusal_words (SlotWrong term) = codes "slot-wrong " ++ decimal term
refusal_words (IndexOut term entry) = codes "index-out " ++ (decimal term ++ (codes " " ++ decimal entry))
refusal_words (Repeated term entry) = codes "repeated " ++ (decimal term ++ (codes " " ++ decimal entry))
refusal_words (ListMisfit term) = codes "list-misfit " ++ decimal term
refusal_words (ListRoot term) = codes "list-root " ++ decimal term
refusal_words (Unmet index) = codes "unmet " ++ decimal index
refusal_words DocsMisfit = codes "docs-misfit"
refusal_words DocsRoot = codes "docs-root"
refusal_words (TermsMisfit doc) = codes "terms-misfit " ++ decimal doc
refusal_words (TermsRoot doc) = codes "terms-root " ++ decimal doc
refusal_words (TermSlot doc term) = codes "term-slot " ++ (decimal doc ++ (codes " " ++ decimal term))
refusal_words (AnswerOut row) = codes "answer-out " ++ decimal row
refusal_words (AnswerRepeated row) = codes "answer-repeated " ++ decimal row
refusal_words NotSettled = codes "not-settled"

-- of bytes that are no accepted proof
abbrev pub rejection_words : Rejection → List ℕ
rejection_words (Shape fault) = shape_words fault.kind ++ decimal fault.at
rejection_words (Check refusal) = refusal_words refusal

-- of the proof of a catalog's answer
abbrev pub catalog_refusal_words : CatalogRefusal → List ℕ
catalog_refusal_words catalog.OtherRoot = codes "other-root"
catalog_refusal_words (catalog.Shard shard rejection) =
    codes "shard " ++ (decimal shard ++ (codes " " ++ rejection_words rejection))
catalog_refusal_words catalog.NotSettled = codes "not-settled"

-- of the text of a document
abbrev pub text_refusal_words : TextRefusal → List ℕ
text_refusal_words text.OtherRoot = codes "other-root"
text_refusal_words (text.DocOut documents) = codes "doc-out " ++ decimal documents
text_refusal_words (text.TextMisfit digests) = codes "text-misfit " ++ decimal digests
text_refusal_words text.TextRoot = codes "text-root"

-- of a proof of all documents with every term; a rule of what is shown has the words that it has in every check
abbrev pub both_refusal_words : BothRefusal → List ℕ
both_refusal_words NotTra = codes "not-tra"
both_refusal_words (AnswerShown rows) = codes "answer-shown " ++ decimal rows
both_refusal_words (Section refusal) = refusal_words refusal
both_refusal_words NoWholeList = codes "no-whole-list"

-- of a growth
abbrev pub growth_refusal_words : GrowthRefusal → List ℕ
growth_refusal_words OtherOld = codes "other-old"
growth_refusal_words OtherNew = codes "other-new"
growth_refusal_words (Shrunk old new) = codes "shrunk " ++ (decimal old ++ (codes " " ++ decimal new))
growth_refusal_words (GrowthMisfit digests) = codes "growth-misfit " ++ decimal digests
growth_refusal_words OldTexts = codes "old-texts"
growth_refusal_words NewTexts = codes "new-texts"
