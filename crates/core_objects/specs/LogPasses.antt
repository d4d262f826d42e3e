-- The passes of a log: for which caller a pass was made, and what it knows of the log.
use Rattle.std.specs.Prelude.{◌≡◌, ℕ, ◌*◌, ◌≤◌, List, length, vec_capacity}
use Rattle.book_base.specs.SeqSpec.{SeqSpec}
use Rattle.book_base.specs.Reaching.{IsCapacityFor}
use Rattle.world_core.specs.Local.{Object_step}
use Rattle.world_objects.specs.LogProgram.{list_of}
use Rattle.core_objects.specs.declared.core_log.CoreLog.{CoreLog}
use Rattle.core_objects.specs.declared.log_pass.CorePass.{CorePass}
use Rattle.core_objects.specs.LogCalls.{KnowsTickets, KnowsOperations}

-- The sequential object of a log.
abbrev pub object_of : {S : Type 0} → CoreLog S → S
object_of log = log.object

-- A pass of the log of a sequential object fits a caller, n callers, a cap and some object steps:
-- it was made for this caller, this n and this cap, has capacity for the whole log, and knows just
-- the tickets and the operations that these steps show. Its state is the object's list after these
-- operations, with a capacity that suffices for all operations of the log.
pub record FitsLog (spec : SeqSpec) (pass : CorePass) (caller n cap : ℕ)
    (steps : List Object_step) : Type 0 where
  pub caller_is : pass.caller ≡ caller
  pub callers_are : pass.callers ≡ n
  pub cap_is : pass.cap ≡ cap
  pub tickets_fit : n * cap ≤ vec_capacity pass.tickets
  pub log_fits : n * cap ≤ vec_capacity pass.log
  pub state_fits : IsCapacityFor spec (n * cap) pass.state.room
  pub tickets_known : KnowsTickets (n * cap) pass.tickets.items steps
  pub log_known : KnowsOperations (n * cap) pass.log.items steps
  pub state_is : pass.state.words ≡ list_of spec.next spec.init pass.log.items
  pub whole : length pass.log.items ≡ length pass.tickets.items
