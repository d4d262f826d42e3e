-- The callers inside the states that a call passes through, and the parts of these states.
use Rattle.std.specs.Prelude.{ℕ}
use Rattle.book_base.specs.declared.call.Record.{Record}
use Rattle.world_core.specs.Local.{Local}
use Rattle.row_table.specs.declared.caller.Caller.{Caller}
use Rattle.row_table.specs.Callers.{who_of, local_with}
use Rattle.drv_wrapper.specs.declared.announced.Announced.{Announced}
use Rattle.drv_wrapper.specs.declared.answered.Answered.{Answered}
use Rattle.drv_wrapper.specs.declared.viewed.Viewed.{Viewed}

module _ {P : Type 0} where
  -- The caller of an announced call.
  abbrev pub caller_announced : Announced P → Caller P
  caller_announced a = a.caller

  -- The caller of an answered call.
  abbrev pub caller_answered : Answered P → Caller P
  caller_answered a = a.caller

  -- The caller of a call that has its view.
  abbrev pub caller_viewed : Viewed P → Caller P
  caller_viewed v = v.caller

  -- The local of the caller of an announced call.
  abbrev pub announced_local : Announced P → Local
  announced_local a = local_with a.caller

  -- The local of the caller of an answered call.
  abbrev pub answered_local : Answered P → Local
  answered_local a = local_with a.caller

  -- The local of the caller of a call that has its view.
  abbrev pub viewed_local : Viewed P → Local
  viewed_local v = local_with v.caller

  -- The number of the caller of an announced call.
  abbrev pub who_announced : Announced P → ℕ
  who_announced a = who_of a.caller

  -- The number of an announced call among its caller's calls, the first of which is 0.
  abbrev pub number_announced : Announced P → ℕ
  number_announced a = (local_with a.caller).published

  -- The operation of an announced call.
  abbrev pub op_announced : Announced P → ℕ
  op_announced a = a.op

  -- The operation of an answered call.
  abbrev pub op_answered : Answered P → ℕ
  op_answered a = a.op

  -- The reply of an answered call.
  abbrev pub reply_answered : Answered P → ℕ
  reply_answered a = a.reply

  -- The operation of a call that has its view.
  abbrev pub op_viewed : Viewed P → ℕ
  op_viewed v = v.op

  -- The record of a call that has its view: the reply and the view.
  abbrev pub record_viewed : Viewed P → Record
  record_viewed v = v.record
