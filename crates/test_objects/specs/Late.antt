-- The late object: the change of a put is made only at the next call of the put's caller.
use Rattle.std.specs.Prelude.{◌≡◌, ◌≢◌, ℕ, ◌==◌, if◌then◌else◌, List, [], ◌∷◌, ◌++◌, Option, Some, None}
use Rattle.book_base.specs.SeqSpec.{SeqSpec}
use Rattle.shared_words.specs.declared.entry.Entry.{Entry}
use Rattle.shared_words.specs.Entries.{entry}
use Rattle.test_objects.specs.Calls.{is_put, earlier, last_call, unless, reply_after}

-- A caller's waiting operation after a call of its own: the call's operation, if it is a put, and
-- otherwise none.
abbrev pub waits_after : ℕ → Option ℕ
waits_after op = if is_put op then Some op else None

-- The waiting operation of caller `i` after some calls, where `waits` is its waiting operation
-- before them: `waits` where none of the calls is the caller's; otherwise the operation of the
-- caller's last call, if that is a put, or none.
abbrev pub waiting_from : ℕ → Option ℕ → List Entry → Option ℕ
waiting_from i waits [] = waits
waiting_from i waits (e ∷ log) =
    waiting_from i (if e.caller == i then waits_after e.op else waits) log

-- The waiting operation of caller `i` after the calls of a log: the operation of the caller's last
-- call, if there is one and it is a put, and otherwise none.
abbrev pub waiting_of : ℕ → List Entry → Option ℕ
waiting_of i log = waiting_from i None log

-- The list of the one call of caller `i` with its waiting operation, or the empty list where no
-- operation waits.
abbrev pub waiting_call : ℕ → Option ℕ → List Entry
waiting_call i None = []
waiting_call i (Some op) = entry i op ∷ []

-- The changes that the call `e` makes after the calls `before`, in order: the waiting operation of
-- its caller, and its own operation unless that is a put.
abbrev pub late_change : List Entry → Entry → List Entry
late_change before e = waiting_call e.caller (waiting_of e.caller before) ++ unless (is_put e.op) e

-- The changes that the calls of a log make, in order, where the calls `before` come before them.
abbrev pub late_changes : List Entry → List Entry → List Entry
late_changes before [] = []
late_changes before (e ∷ log) = late_change before e ++ late_changes (before ++ e ∷ []) log

-- The reply to the call `e` after the calls `before`: the lawful one after the changes of these
-- calls and the waiting operation of the caller of `e`.
abbrev pub late_reply_after : SeqSpec → List Entry → Entry → ℕ
late_reply_after spec before e = reply_after spec
    (late_changes [] before ++ waiting_call e.caller (waiting_of e.caller before)) e.op

-- The reply of the late object to the last call of a log.
abbrev pub late_reply : SeqSpec → List Entry → ℕ
late_reply spec log = late_reply_after spec (earlier log) (last_call log)

-- A call makes its changes after those of the calls before it. After the call, its caller's waiting
-- operation is the call's own, where that is a put, and otherwise none; the waiting operations of
-- other callers stay. The call's reply is the lawful one after its caller's waiting operation, and
-- before its own change.
pub record PutsWait : Type 0 where
  pub changes : (before : List Entry) (e : Entry)
      → late_changes [] (before ++ e ∷ []) ≡ late_changes [] before ++ late_change before e
  pub own : (before : List Entry) (e : Entry)
      → waiting_of e.caller (before ++ e ∷ []) ≡ waits_after e.op
  pub other : (i : ℕ) (before : List Entry) (e : Entry) → e.caller ≢ i
      → waiting_of i (before ++ e ∷ []) ≡ waiting_of i before
  pub reply : (spec : SeqSpec) (before : List Entry) (e : Entry)
      → late_reply spec (before ++ e ∷ []) ≡ late_reply_after spec before e
