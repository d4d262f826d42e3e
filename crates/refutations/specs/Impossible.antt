-- Replies that no list of the object gives.
use Rattle.std.specs.Prelude.{◌≡◌, ℕ, ◌<◌, ◌⊎◌, List, Some}
use Rattle.book_base.specs.declared.call.Call.{Call}
use Rattle.book_base.specs.declared.call.Record.{Record}
use Rattle.book_base.specs.SeqSpec.{SeqSpec}
use Rattle.book_base.specs.Book.{Page, operation_of, record_of}
use Rattle.book_base.specs.Reaching.{MayReply}

-- A call is answered, and the object gives its recorded reply to its operation at no list.
pub record IsImpossible (spec : SeqSpec) (book : List Page) (call : Call) : Type 0 where
  pub op : ℕ
  pub r : Record
  pub asked : operation_of book call ≡ Some op
  pub answered : record_of book call ≡ Some r
  pub never : MayReply spec.next op r.reply → ⊥

-- one call is less than another: by caller, and then by number
abbrev pub IsLesser : Call → Call → Type 0
IsLesser a b = (a.caller < b.caller) ⊎ ((a.caller ≡ b.caller) × (a.number < b.number))
