-- The plan of each command. What `ask` and `serve` do after it, over links, is in Asked and Served.
use Rattle.std.specs.Prelude.{ℕ, List}
use Rattle.ats_plan.specs.Plan.{Plan, Finishes}
use Rattle.ats_console.specs.Steps.{asks_ranking, reads_index}
use Rattle.ats_console.specs.Words.{Command, Maker, Checker, Auditor, AskWords, ServeWords}
use Rattle.ats_console.specs.declared.stops.Stop.{Stop}
use Rattle.ats_makers.specs.Commands.{maker_plan}
use Rattle.ats_checkers.specs.Commands.{checker_plan}
use Rattle.ats_auditors.specs.Commands.{auditor_plan}
use Rattle.ats_console.specs.Words as command

-- ---- `ask ROOT ALG R QUERY ADDRESS`, up to its call

abbrev pub ask_plan : AskWords → Plan Stop
ask_plan words = asks_ranking words.r words.query (λ query. Finishes (λ files text. Unit {0}))

-- ---- `serve INDEX CONNECTIONS ADDRESS`, up to its listening

abbrev pub serve_plan : (List ℕ → List ℕ) → ServeWords → Plan Stop
serve_plan H words = reads_index H words.index (λ archive. Finishes (λ files text. Unit {0}))

-- ---- all

abbrev pub plan_of : (List ℕ → List ℕ) → Command → Plan Stop
plan_of H (Maker command) = maker_plan H command
plan_of H (Checker command) = checker_plan H command
plan_of H (Auditor command) = auditor_plan H command
plan_of H (command.Ask words) = ask_plan words
plan_of H (command.Serve words) = serve_plan H words
