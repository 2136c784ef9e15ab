use Rattle.ats_plan.proofs.Public.{leads_none, done_end}
use Rattle.ats_console.proofs.Public.{leads_ranking, leads_collection, still_collection, asks_of}
use Rattle.ats_makers.proofs.ranking.rank.Goals as goal

pub returns-clause-ok : goal.returns-clause-ok
returns-clause-ok g c =
    let asks = asks_of c.args.r c.args.query.now c.in_ok-query.query c.in_ok-top.ensures.within c.in_ok-query.ensures.ok in
    let leads = leads_collection (leads_ranking leads_none asks.rows c.in_ok-query.ensures.ok) c.in_ok-collection.ensures.ok in
    leads.does _ _ (done_end (record {
      asks = asks;
      texts = c.in_ok-collection.collection;
      query = c.in_ok-query.query;
      rows = c.in_ok-rows.rows;
      collection = still_collection c.in_ok-collection.ensures.ok;
      asked = c.in_ok-query.ensures.ok;
      ranking = rw c.in_ok-top.ensures.ok at c.in_ok-rows.ensures.ranking;
      top = rw c.in_ok-top.ensures.ok at c.in_ok-rows.ensures.top;
      printed = c.in_ok-lines.ensures;
    }))
