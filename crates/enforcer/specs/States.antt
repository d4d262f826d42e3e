-- The caller, the record and the cut of a call in a state after its publication.
use Rattle.std.specs.Prelude.{ℕ, List}
use Rattle.book_base.specs.declared.call.Record.{Record}
use Rattle.row_table.specs.declared.caller.Caller.{Caller}
use Rattle.enforcer.specs.declared.published_call.Published.{Published}
use Rattle.enforcer.specs.declared.seen_call.Seen.{Seen}

module _ {P : Type 0} where
  -- The caller of a published call.
  abbrev pub caller_published : Published P → Caller P
  caller_published p = p.caller

  -- The caller of a seen call.
  abbrev pub caller_seen : Seen P → Caller P
  caller_seen s = s.caller

  -- The seen cut of a seen call.
  abbrev pub cut_seen : Seen P → List ℕ
  cut_seen s = s.cut

  -- The record of a published call: its reply and its view.
  abbrev pub record_published : Published P → Record
  record_published p = p.record

  -- The record of a seen call: its reply and its view.
  abbrev pub record_seen : Seen P → Record
  record_seen s = s.record
