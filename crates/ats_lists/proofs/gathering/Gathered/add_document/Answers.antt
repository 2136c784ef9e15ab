use Rattle.std.proofs.Common.{◌≡◌, ◌<◌, ◌-◌, ◌++◌, ◌∷◌, ℕ, cond, List, [], length, get_or, take, take_all, ap, ◌∙◌, refl, arith}
use Rattle.std.specs.Str.{bytes_eq}
use Rattle.std.proofs.lemmas.List.Elements.{All-push}
use Rattle.ats_terms.specs.Terms.{terms, IsTerm}
use Rattle.ats_terms.specs.Counted.{Counts}
use Rattle.ats_terms.proofs.Public.{counted_counts}
use Rattle.ats_impact.specs.Numbers.{impact}
use Rattle.ats_impact.specs.Score.{total_terms}
use Rattle.ats_postings.specs.Postings.{text_of, postings_of_run}
use Rattle.ats_lists.specs.Inner.Gathered.{Pairs, entries_for, pairs_of}
use Rattle.ats_postings.specs.declared.entry.Entry.{Entry}
use Rattle.ats_lists.proofs.DocumentLemmas.{pair_within, part_more, part_all, entry_is, entries_push}
use Rattle.ats_lists.proofs.LogLemmas.{pairs_push, log_push}
use Rattle.ats_lists.proofs.gathering.Gathered.add_document.Goals as goal

pub impact-impact-requires-clause-within : goal.impact-impact-requires-clause-within
impact-impact-requires-clause-within c =
    let pairs : List (List ℕ × ℕ) = c.args.counts.now in
    let all : List (List ℕ) = terms (text_of c.args.collection.now c.args.doc) in
    let counts : Counts all pairs = rw c.requires.counts (counted_counts all) in
    let inside : c.loop-i.i < length pairs = omega (arith, c.len-i-end.ensures.value) in
    omega (arith, c.count.ensures.value ([], 0), pair_within all pairs c.loop-i.i ([], 0) counts inside, c.len-len.ensures, ap length c.terms.ensures.value)

pub loop-i-preserved : goal.loop-i-preserved
loop-i-preserved c =
    let texts : List (List ℕ) = c.args.collection.now in
    let pairs : List (List ℕ × ℕ) = c.args.counts.now in
    let all : List (List ℕ) = terms (text_of texts c.args.doc) in
    let counts : Counts all pairs = rw c.requires.counts (counted_counts all) in
    let inside : c.loop-i.i < length pairs = omega (arith, c.len-i-end.ensures.value) in
    let len : c.len-len.result ≡ length all = c.len-len.ensures ∙ ap length c.terms.ensures.value in
    let entry : Entry = record { doc = c.args.doc; impact = c.impact-impact.result } in
    let value : entry.impact ≡ impact (get_or pairs c.loop-i.i ([], 0)).1 (total_terms texts) (length all) (length texts) =
    rw (← c.count.ensures.value ([], 0), ← c.total-total.ensures.value, ← len, ← c.documents-documents.ensures.value) c.impact-impact.ensures.value in
    let some : 0 < (get_or pairs c.loop-i.i ([], 0)).1 = omega (arith, c.count.ensures.value ([], 0), c.count.ensures.some) in
    let old : List (List ℕ) = c.loop-i.numbering in
    let new : List (List ℕ) = c.number.new.self in
    let term : List ℕ = c.term.result.now in
    let number = c.in_ok-number.ensures.number in
    let so_far : Pairs = pairs_of old c.loop-i.log.items in
    let put : pairs_of new c.push.new.self.items ≡ so_far ++ (term, entry) ∷ [] =
    ap (pairs_of new) c.in_ok-push.ensures.items
    ∙ pairs_push old new term c.in_ok-number.number c.in_ok-number.ensures.more number.0 number.1 c.loop-i.log.items c.loop-i.invariant.log entry in
    let gives : (t : List ℕ) → entries_for t (pairs_of new c.push.new.self.items) ≡ entries_for t so_far ++ cond (bytes_eq term t) (entry ∷ []) [] =
    λ t. ap (entries_for t) put ∙ entries_push t so_far term entry in
    record {
      log = rw c.in_ok-push.ensures.items
          (log_push old new term c.in_ok-number.number c.in_ok-number.ensures.more number.0 number.1 c.loop-i.log.items c.loop-i.invariant.log entry);
      has = λ before has.
          let was = c.loop-i.invariant.has before has in
          record {
            entries = part_more before c.args.doc texts pairs c.loop-i.i ([], 0) (λ t. entries_for t so_far)
                (λ t. entries_for t (pairs_of new c.push.new.self.items)) entry counts.rises inside some
                (entry_is c.args.doc texts pairs c.loop-i.i ([], 0) entry counts inside refl value) was.entries
                (rw (c.term.ensures.value ([], 0)) at gives);
            terms = rw put (All-push (λ (pair : List ℕ × Entry). IsTerm pair.0) so_far (term, entry) was.terms c.term.ensures.term);
          };
    }

pub returns-clause-after : goal.returns-clause-after
returns-clause-after c first up has =
    let texts : List (List ℕ) = c.args.collection.now in
    let pairs : List (List ℕ × ℕ) = c.args.counts.now in
    let all : List (List ℕ) = terms (text_of texts c.args.doc) in
    let counts : Counts all pairs = rw c.requires.counts (counted_counts all) in
    let whole : take c.loop-i.i pairs ≡ pairs = take_all c.loop-i.i pairs (omega (arith, c.len-i-end.ensures.value)) in
    part_all first c.args.doc texts pairs (pairs_of c.loop-i.numbering c.loop-i.log.items) up counts
    (rw whole at (c.loop-i.invariant.has (postings_of_run first (c.args.doc - first) texts) has))
