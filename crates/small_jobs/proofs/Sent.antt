-- A table of words may be shared, and a seat may go to another thread.
use denote.RattleType.{RattleType}
use denote.Param.Send.{IsSend, IsSync, sendable}
use denote.Struct.Tuple.{TupleAt}
use mir.Syntax.{Sym}
use mathlib.Core.List.{[], ◌∷◌}
use Rattle.std.proofs.Crossing.{crosses, send, sync, frees}
use Rattle.atomic_table.proofs.send_lease.SendLease.TheSendSync as lease
use Rattle.atomic_table.proofs.shared.Shared.TheSendSync as shared
use Rattle.atomic_table.proofs.shared.Seat.TheSendSync as token
use Rattle.counted_slot.proofs.Counted.TheSendSync as counted
use Rattle.counted_slot.specs.declared.Fits as fits
use Rattle.sched_core.specs.declared.Jobs as jobs
use Rattle.query_table.specs.contracts.table.QueryTable as QueryTable
use Rattle.query_table.specs.contracts.slots.Slots as Slots
use Rattle.query_table.specs.contracts.table.Seat as Seat
use Rattle.steal_slot.specs.contracts.StealSlot as StealSlot
use Rattle.small_jobs.specs.contracts.Small as Small

pub small_sync : IsSync Small.the_row
small_sync = search (sendable, crosses) depth 20

pub seat_send : IsSend Seat.the_row
seat_send = search (sendable, crosses, token.the_send) depth 20

pub slot_sync : (T G : RattleType) (g : fits.Ghosts T.Denot G.Denot) → IsSend T → IsSync T → IsSync (StealSlot.the_row T G g)
slot_sync T G g s y = search (sendable, crosses, counted.the_sync) depth 20

pub slots_sync : (J A W : RattleType) (g : jobs.Ghosts J.Denot A.Denot W.Denot) → IsSend A → IsSync A → IsSync (Slots.the_row J A W g)
slots_sync J A W g s y = search (sendable, crosses, slot_sync) depth 20

pub table_sync : (J A W : RattleType) (g : jobs.Ghosts J.Denot A.Denot W.Denot) → IsSync J → IsSend A → IsSync A → IsSync (QueryTable.the_row J A W g)
table_sync J A W g j s y =
    let lease_sync = λ (T : RattleType). lease.the_sync T _ _ send frees in
    search (sendable, crosses, slots_sync, shared.the_sync, lease_sync, sync) depth 20

-- what a closure captures, where it is four values
pub captures_send : (ν : Sym) (A B C D : RattleType) → IsSend A → IsSend B → IsSend C → IsSend D → IsSend (TupleAt ν (A ∷ B ∷ C ∷ D ∷ []))
captures_send ν A B C D a b c d = search sendable depth 8
