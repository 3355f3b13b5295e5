use Rattle.std.proofs.Crossing.{send}
use denote.Param.Send.{IsSend, AllSend, param_send, arg_send, shr_send, plain_send, plain_sync, sendable}
use denote.Struct.Tuple.{TupleAt}
use denote.Exit.{no}
use mir.Syntax.{named}
use Rattle.small_jobs.proofs.Sent.{small_sync, seat_send, table_sync, captures_send}
use Rattle.small_jobs.proofs.tests.force_both.Lts as lts
use Rattle.small_jobs.proofs.tests.force_both.Goals as goal

pub join-seat-requires-send-F : goal.join-seat-requires-send-F
join-seat-requires-send-F g c κs within =
    let name = lts.name-19 g.row.R g.R.laws g.R.Threads-dict g.R.Wait-dict in
    let rows = lts.of-18 g.row.R g.R.laws g.R.Threads-dict g.R.Wait-dict record { mir = named 6; lft = κs.1.1.1.1.1.1.0 } record { mir = named 7; lft = κs.1.1.1.1.1.1.1.0 } in
    let all : AllSend rows = (search (c.type_bounds.sync-R, sendable) depth 6, (send, (search (table_sync, small_sync, shr_send, plain_send, plain_sync) depth 6, (seat_send, tt)))) in
    let captures : IsSend (TupleAt name rows) = captures_send name _ _ _ _ all.0 all.1.0 all.1.1.0 all.1.1.1.0 in
    param_send 1 (lts.arg-0-1 g.row.R g.R.laws g.R.Threads-dict g.R.Wait-dict κs) (arg_send _ no _ captures)
