-- The numbers of each verdict: the status is the one with which the command ends, and the reason numbers the faults.
use Rattle.std.specs.Prelude.{◌++◌, ◌+◌, ◌-◌, ℕ, List, length, replicate}
use Rattle.ats_terms.specs.declared.query.QueryFault.{QueryFault}
use Rattle.ats_terms.specs.declared.query.QueryFault.TheVariants as query
use Rattle.ats_impact.specs.declared.rank.Row.{Row}
use Rattle.ats_grammar.specs.declared.fault.ShapeKind.{ShapeKind}
use Rattle.ats_grammar.specs.declared.fault.ShapeKind.TheVariants.{Long, Cut, Magic, Version, Algorithm, Count, Order, Trailing}
use Rattle.ats_refusal.specs.declared.proof.Refusal.{Refusal}
use Rattle.ats_refusal.specs.declared.proof.Refusal.TheVariants.{OtherRoot, SlotCount, DictMisfit, DictRoot, SlotWrong, IndexOut, Repeated, ListMisfit, ListRoot, Unmet, DocsMisfit, DocsRoot, TermsMisfit, TermsRoot, TermSlot, AnswerOut, AnswerRepeated, NotSettled}
use Rattle.ats_refusal.specs.declared.proof.Rejection.{Rejection}
use Rattle.ats_refusal.specs.declared.proof.Rejection.TheVariants.{Shape, Check}
use Rattle.ats_refusal.specs.declared.catalog.CatalogRefusal.{CatalogRefusal}
use Rattle.ats_refusal.specs.declared.catalog.CatalogRefusal.TheVariants as catalog
use Rattle.ats_refusal.specs.declared.documents.BothRefusal.{BothRefusal}
use Rattle.ats_refusal.specs.declared.documents.BothRefusal.TheVariants.{NotTra, AnswerShown, Section, NoWholeList}
use Rattle.ats_refusal.specs.declared.text.TextRefusal.{TextRefusal}
use Rattle.ats_refusal.specs.declared.text.TextRefusal.TheVariants as text
use Rattle.ats_refusal.specs.declared.growth.GrowthRefusal.{GrowthRefusal}
use Rattle.ats_refusal.specs.declared.growth.GrowthRefusal.TheVariants.{OtherOld, OtherNew, Shrunk, GrowthMisfit, OldTexts, NewTexts}
use Rattle.ats_catalog_check.specs.declared.row.CatalogRow.{CatalogRow}
use Rattle.ats_reader.specs.declared.fault.Fault.{Fault}
use Rattle.ats_reader.specs.declared.fault.Fault.TheVariants.{NoText, RowsOut, FewRows, NoQuery, BadShape, Refused, BothRefused, FewDocuments, TextRefused, GrowthRefused, FewTerms, CatalogRefused, RootsOut, OutOfMemory}
use Rattle.ats_reader.specs.declared.shown.ShownRow.{ShownRow}
use Rattle.ats_reader.specs.declared.shown.ShownCatalogRow.{ShownCatalogRow}
use Rattle.ats_reader.specs.declared.shown.ShownTerm.{ShownTerm}
use Rattle.ats_reader.specs.declared.shown.Verdict.{Verdict}

abbrev pub shown_row : Row → ShownRow
shown_row row = record { doc = row.doc; lower = row.lower; upper = row.upper }

abbrev pub shown_catalog_row : CatalogRow → ShownCatalogRow
shown_catalog_row row = record { shard = row.shard; doc = row.doc; lower = row.lower; upper = row.upper }

-- a term and its weight: the bytes of the term, and 0 up to 64 bytes
abbrev pub shown_term : List ℕ × ℕ → ShownTerm
shown_term pair =
    record { word = pair.0 ++ replicate (64 - length pair.0) 0; size = length pair.0; weight = pair.1 }

-- of what is accepted: how many rows, documents, terms or shards there are, and what else is said
abbrev pub accepted : (count first second : ℕ) → Verdict
accepted count first second = record { status = 0; reason = 0; count = count; first = first; second = second }

-- of what is not, which shows nothing
abbrev pub refused : (status reason first second : ℕ) → Verdict
refused status reason first second = record { status = status; reason = reason; count = 0; first = first; second = second }

abbrev pub verdict_of_query : QueryFault → Verdict
verdict_of_query (query.TooLong bytes) = refused 4 4 bytes 0
verdict_of_query query.NoTerm = refused 4 5 0 0
verdict_of_query (query.TooManyWords count) = refused 4 6 count 0
verdict_of_query (query.TooManyTerms distinct) = refused 4 7 distinct 0
verdict_of_query query.OutOfMemory = refused 6 34 0 0

abbrev pub verdict_of_shape : ShapeKind → ℕ → Verdict
verdict_of_shape Long at = refused 1 8 at 0
verdict_of_shape Cut at = refused 1 9 at 0
verdict_of_shape Magic at = refused 1 10 at 0
verdict_of_shape Version at = refused 1 11 at 0
verdict_of_shape Algorithm at = refused 1 12 at 0
verdict_of_shape Count at = refused 1 13 at 0
verdict_of_shape Order at = refused 1 14 at 0
verdict_of_shape Trailing at = refused 1 15 at 0

abbrev pub verdict_of_refusal : Refusal → Verdict
verdict_of_refusal OtherRoot = refused 1 16 0 0
verdict_of_refusal (SlotCount shown) = refused 1 17 shown 0
verdict_of_refusal DictMisfit = refused 1 18 0 0
verdict_of_refusal DictRoot = refused 1 19 0 0
verdict_of_refusal (SlotWrong term) = refused 1 20 term 0
verdict_of_refusal (IndexOut term entry) = refused 1 21 term entry
verdict_of_refusal (Repeated term entry) = refused 1 22 term entry
verdict_of_refusal (ListMisfit term) = refused 1 23 term 0
verdict_of_refusal (ListRoot term) = refused 1 24 term 0
verdict_of_refusal (Unmet index) = refused 1 25 index 0
verdict_of_refusal DocsMisfit = refused 1 26 0 0
verdict_of_refusal DocsRoot = refused 1 27 0 0
verdict_of_refusal (TermsMisfit doc) = refused 1 28 doc 0
verdict_of_refusal (TermsRoot doc) = refused 1 29 doc 0
verdict_of_refusal (TermSlot doc term) = refused 1 30 doc term
verdict_of_refusal (AnswerOut row) = refused 1 31 row 0
verdict_of_refusal (AnswerRepeated row) = refused 1 32 row 0
verdict_of_refusal NotSettled = refused 1 33 0 0

abbrev pub verdict_of_rejection : Rejection → Verdict
verdict_of_rejection (Shape fault) = verdict_of_shape fault.kind fault.at
verdict_of_rejection (Check refusal) = verdict_of_refusal refusal

-- the verdict of a proof as that of a shard, whose number takes the place of the count
abbrev pub of_shard : ℕ → Verdict → Verdict
of_shard shard verdict =
    record { status = verdict.status; reason = verdict.reason + 64; count = shard; first = verdict.first; second = verdict.second }

abbrev pub verdict_of_catalog : CatalogRefusal → Verdict
verdict_of_catalog catalog.OtherRoot = refused 1 16 0 0
verdict_of_catalog (catalog.Shard shard rejection) = of_shard shard (verdict_of_rejection rejection)
verdict_of_catalog catalog.NotSettled = refused 1 33 0 0

abbrev pub verdict_of_both : BothRefusal → Verdict
verdict_of_both NotTra = refused 1 35 0 0
verdict_of_both (AnswerShown rows) = refused 1 36 rows 0
verdict_of_both (Section refusal) = verdict_of_refusal refusal
verdict_of_both NoWholeList = refused 1 37 0 0

abbrev pub verdict_of_text : TextRefusal → Verdict
verdict_of_text text.OtherRoot = refused 1 16 0 0
verdict_of_text (text.DocOut documents) = refused 1 39 documents 0
verdict_of_text (text.TextMisfit digests) = refused 1 40 digests 0
verdict_of_text text.TextRoot = refused 1 41 0 0

abbrev pub verdict_of_growth : GrowthRefusal → Verdict
verdict_of_growth OtherOld = refused 1 42 0 0
verdict_of_growth OtherNew = refused 1 43 0 0
verdict_of_growth (Shrunk old new) = refused 1 44 old new
verdict_of_growth (GrowthMisfit digests) = refused 1 45 digests 0
verdict_of_growth OldTexts = refused 1 46 0 0
verdict_of_growth NewTexts = refused 1 47 0 0

abbrev pub verdict_of : Fault → Verdict
verdict_of NoText = refused 2 1 0 0
verdict_of (RowsOut r) = refused 4 2 r 0
verdict_of (FewRows room) = refused 2 3 room 0
verdict_of (NoQuery fault) = verdict_of_query fault
verdict_of (BadShape fault) = verdict_of_shape fault.kind fault.at
verdict_of (Refused refusal) = verdict_of_refusal refusal
verdict_of (BothRefused refusal) = verdict_of_both refusal
verdict_of (FewDocuments room documents) = refused 2 38 room documents
verdict_of (TextRefused refusal) = verdict_of_text refusal
verdict_of (GrowthRefused refusal) = verdict_of_growth refusal
verdict_of (FewTerms room terms) = refused 2 48 room terms
verdict_of (CatalogRefused refusal) = verdict_of_catalog refusal
verdict_of (RootsOut bytes) = refused 4 49 bytes 0
verdict_of OutOfMemory = refused 6 34 0 0
