use Rattle.std.proofs.Common.{Ok, inr, vec_items}
use Rattle.ats_console.specs.Words.{AskWords}
use Rattle.ats_top.specs.Conversation.{Converses}
use Rattle.ats_top.specs.Asked.{question_of}
use Rattle.ats_console.proofs.Public.{passed, rows_of_range, asks_of}
use Rattle.ats_top.proofs.AskEnds.{whole_reply, refused_stops, bytes_stops, bytes_end, rows_refused, query_refused, unheard_stops}
use Rattle.ats_top.proofs.asking.ask.Goals as goal

pub returns-in-Whole-clause-ok : goal.returns-in-Whole-clause-ok
returns-in-Whole-clause-ok g c =
    let asks = asks_of c.args.r c.args.query.now c.in_ok-asked.asked c.in_ok-rows.ensures.within c.in_ok-asked.ensures.ok in
    let words : AskWords = record { root = c.args.root.now; algorithm = c.args.algorithm; r = c.args.r; query = c.args.query.now; address = c.args.address.now } in
    let conversation : Converses words.address (question_of words) (g.C.Caller.told c.args.caller.now) (g.C.Caller.told c.converse.new.caller) (Ok c.as_slice.result.now) =
    rw c.as_slice.ensures (whole_reply words.address (question_of words) (g.C.Caller.told c.args.caller.now) (g.C.Caller.told c.converse.new.caller)
    c.in_ok-fed.fed c.in-Whole.bytes c.in-Whole.is (rw c.in_ok-rows.ensures.ok at c.in_ok-fed.ensures.ok)) in
    bytes_end g.H.HashKind.hash (g.C.Caller.told c.args.caller.now) (g.C.Caller.told c.converse.new.caller) words
    c.in_ok-asked.asked c.as_slice.result.now (record { asks = asks; asked = c.in_ok-asked.ensures.ok; conversation = conversation })
    g.H.HashKind.sized c.verify_to_lines.ensures.asked vec_items c.verify_to_lines.result (rw c.in_ok-rows.ensures.ok at c.verify_to_lines.ensures.ok)

pub returns-in-Whole-clause-stop : goal.returns-in-Whole-clause-stop
returns-in-Whole-clause-stop g c =
    let asks = asks_of c.args.r c.args.query.now c.in_ok-asked.asked c.in_ok-rows.ensures.within c.in_ok-asked.ensures.ok in
    let words : AskWords = record { root = c.args.root.now; algorithm = c.args.algorithm; r = c.args.r; query = c.args.query.now; address = c.args.address.now } in
    let conversation : Converses words.address (question_of words) (g.C.Caller.told c.args.caller.now) (g.C.Caller.told c.converse.new.caller) (Ok c.as_slice.result.now) =
    rw c.as_slice.ensures (whole_reply words.address (question_of words) (g.C.Caller.told c.args.caller.now) (g.C.Caller.told c.converse.new.caller)
    c.in_ok-fed.fed c.in-Whole.bytes c.in-Whole.is (rw c.in_ok-rows.ensures.ok at c.in_ok-fed.ensures.ok)) in
    bytes_stops g.H.HashKind.hash (g.C.Caller.told c.args.caller.now) (g.C.Caller.told c.converse.new.caller) words
    c.in_ok-asked.asked c.as_slice.result.now (record { asks = asks; asked = c.in_ok-asked.ensures.ok; conversation = conversation })
    c.verify_to_lines.result (rw c.in_ok-rows.ensures.ok at c.verify_to_lines.ensures.stop)

pub returns-clause-stop : goal.returns-clause-stop
returns-clause-stop g c =
    let asks = asks_of c.args.r c.args.query.now c.in_ok-asked.asked c.in_ok-rows.ensures.within c.in_ok-asked.ensures.ok in
    let words : AskWords = record { root = c.args.root.now; algorithm = c.args.algorithm; r = c.args.r; query = c.args.query.now; address = c.args.address.now } in
    rw c.rejected.ensures (refused_stops g.H.HashKind.hash (g.C.Caller.told c.args.caller.now) (g.C.Caller.told c.converse.new.caller) words
    c.in_ok-asked.asked c.in_ok-fed.fed c.in-Refused.fault c.in-Refused.is asks c.in_ok-asked.ensures.ok (rw c.in_ok-rows.ensures.ok at c.in_ok-fed.ensures.ok))

pub returns-in_err-fed-clause-calls : goal.returns-in_err-fed-clause-calls
returns-in_err-fed-clause-calls g c =
    let asks = asks_of c.args.r c.args.query.now c.in_ok-asked.asked c.in_ok-rows.ensures.within c.in_ok-asked.ensures.ok in
    inr (asks, rw c.in_ok-rows.ensures.ok at c.converse.ensures.calls)

pub returns-in-Whole-clause-calls : goal.returns-in-Whole-clause-calls
returns-in-Whole-clause-calls g c =
    let asks = asks_of c.args.r c.args.query.now c.in_ok-asked.asked c.in_ok-rows.ensures.within c.in_ok-asked.ensures.ok in
    inr (asks, rw c.in_ok-rows.ensures.ok at c.in_ok-fed.ensures.calls)

pub returns-clause-calls : goal.returns-clause-calls
returns-clause-calls g c =
    let asks = asks_of c.args.r c.args.query.now c.in_ok-asked.asked c.in_ok-rows.ensures.within c.in_ok-asked.ensures.ok in
    inr (asks, rw c.in_ok-rows.ensures.ok at c.in_ok-fed.ensures.calls)

pub returns-in_err-rows-clause-stop : goal.returns-in_err-rows-clause-stop
returns-in_err-rows-clause-stop g c =
    passed _ c.from_residual.result c.from_residual.ensures.1
    (rows_refused g.H.HashKind.hash (g.C.Caller.told c.args.caller.now) (g.C.Caller.told c.args.caller.now) (record { root = c.args.root.now; algorithm = c.args.algorithm; r = c.args.r; query = c.args.query.now; address = c.args.address.now }) c.in_err-rows.field-0.0.r c.in_err-rows.ensures.out)

pub returns-in_err-asked-clause-stop : goal.returns-in_err-asked-clause-stop
returns-in_err-asked-clause-stop g c =
    passed _ c.from_residual-in_err-asked.result c.from_residual-in_err-asked.ensures.1
    (query_refused g.H.HashKind.hash (g.C.Caller.told c.args.caller.now) (g.C.Caller.told c.args.caller.now) (record { root = c.args.root.now; algorithm = c.args.algorithm; r = c.args.r; query = c.args.query.now; address = c.args.address.now }) (rows_of_range c.args.r c.in_ok-rows.ensures.within) c.in_err-asked.field-0.0 c.in_err-asked.ensures.fault)

pub returns-in_err-fed-clause-stop : goal.returns-in_err-fed-clause-stop
returns-in_err-fed-clause-stop g c =
    let asks = asks_of c.args.r c.args.query.now c.in_ok-asked.asked c.in_ok-rows.ensures.within c.in_ok-asked.ensures.ok in
    passed _ c.from_residual-in_err-fed.result c.from_residual-in_err-fed.ensures.1
    (unheard_stops g.H.HashKind.hash _ _ (record { root = c.args.root.now; algorithm = c.args.algorithm; r = c.args.r; query = c.args.query.now; address = c.args.address.now }) asks c.in_err-fed.field-0.0 (rw c.in_ok-rows.ensures.ok at c.in_err-fed.ensures.stop))
