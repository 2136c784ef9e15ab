-- The lists of all texts, from the entries under the numbers of their terms.
use Rattle.std.proofs.Common.{◌≡◌, ◌<◌, ℕ, List, [], length, get_or, map, ap, subst, sym, ◌∙◌}
use Rattle.std.specs.List.{All}
use Rattle.std.specs.List.Sorted.{IsStrictlySortedBy}
use Rattle.std.specs.BTreeMap.{is_at}
use Rattle.std.specs.Map.{lookup, keys_of}
use Rattle.ats_terms.specs.Terms.{IsTerm}
use Rattle.ats_terms.specs.Query.{byte_cmp}
use Rattle.ats_postings.specs.Postings.{postings}
use Rattle.ats_postings.specs.Lists.{by_impact, vocabulary, lists_of}
use Rattle.ats_postings.specs.Inner.Lists.{AreGathered}
use Rattle.ats_lists.specs.Inner.Gathered.{Pairs, entries_for, entries_under, term_of, pairs_of, HasRun, IsLogOf}
use Rattle.ats_postings.specs.declared.entry.Entry.{Entry}
use Rattle.ats_lists.specs.declared.gathering.Logged.{Logged}
use Rattle.ats_postings.proofs.Public.{run_of_all, if_some, keys_made, all_gathered, made_lists, terms_are}
use Rattle.ats_lists.proofs.LogLemmas.{parted_is, parted_finds, numbered_terms}

module _ (texts : List (List ℕ)) (terms : List (List ℕ)) (log : List Logged) (run : Pairs) (pairs : pairs_of terms log ≡ run)
    (gathered : HasRun 0 (length texts) texts run) (rises : IsStrictlySortedBy byte_cmp terms) (is : IsLogOf terms log) (slice : List Logged) (same : slice ≡ log)
    (lists : List (List ℕ × List Entry)) (size : length lists ≡ length terms)
    (entries : (n : ℕ) → n < length terms → get_or lists n ([], []) ≡ (term_of terms n, entries_under n slice)) where
  has : HasRun 0 (length texts) texts (pairs_of terms log)
  has = subst (HasRun 0 (length texts) texts) (sym pairs) gathered

  made : lists ≡ map (λ term. (term, entries_for term (pairs_of terms log))) terms
  made = parted_is terms log rises is lists size (rw same at entries)

  keys : keys_of lists ≡ terms
  keys = ap keys_of made ∙ keys_made (λ term. entries_for term (pairs_of terms log)) terms

  keys_rise : IsStrictlySortedBy byte_cmp (keys_of lists)
  keys_rise = rw keys rises

  finds : (q : List ℕ) → lookup (is_at (byte_cmp q)) lists ≡ if_some (postings texts q)
  finds q = ap (lookup (is_at (byte_cmp q))) made ∙ parted_finds terms log rises is q ∙ ap if_some (has.entries q ∙ run_of_all texts q)

  pub parted_gathered : All (λ e. AreGathered e.1) lists
  parted_gathered = all_gathered texts lists keys_rise finds

  pub parted_lists : map (λ e. (e.0, by_impact 2200 e.1)) lists ≡ lists_of texts
  parted_lists = made_lists texts lists keys_rise finds

  pub parted_terms : All IsTerm (vocabulary texts)
  parted_terms = terms_are texts lists keys_rise finds (rw keys (numbered_terms terms log rises is has.terms))
