-- What `ats_query` shows, and why it shows nothing.
use Rattle.std.specs.Prelude.{◌≡◌, ◌<◌, ℕ, List, length, map}
use Rattle.ats_terms.specs.Query.{IsQueryOf}
use Rattle.ats_reader.specs.Asked.{IsReadFault}
use Rattle.ats_reader.specs.Shown.{IsShown}
use Rattle.ats_reader.specs.Verdicts.{shown_term, accepted}
use Rattle.ats_reader.specs.declared.fault.Fault.{Fault}
use Rattle.ats_reader.specs.declared.fault.Fault.TheVariants.{NoText, NoQuery, FewTerms}
use Rattle.ats_reader.specs.declared.shown.ShownTerm.{ShownTerm}
use Rattle.ats_reader.specs.declared.shown.Verdict.{Verdict}

-- the text is a query, and its terms are shown with their weights
pub record IsQueryAnswer (text : List ℕ) (before after : List ShownTerm) (verdict : Verdict) : Type 0 where
  pub query : List (List ℕ × ℕ)
  pub terms : IsQueryOf text query
  pub shown : IsShown ShownTerm (map shown_term query) before after
  pub counted : verdict ≡ accepted (length query) 0 0

-- why no terms are shown, in the order in which it is found
abbrev pub IsQueryFault : List ℕ → ℕ → Fault → Type 0
IsQueryFault text room NoText = IsReadFault text NoText
IsQueryFault text room (NoQuery fault) = IsReadFault text (NoQuery fault)
IsQueryFault text room (FewTerms told many) =
    (told ≡ room) × (room < many) × (query : List (List ℕ × ℕ)) × IsQueryOf text query × (many ≡ length query)
IsQueryFault text room _ = ⊥
