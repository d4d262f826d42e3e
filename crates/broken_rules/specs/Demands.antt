-- The demands of rules: what has to hold of all calls of a book where two of its calls break a
-- rule.
use Rattle.std.specs.Prelude.{◌≡◌, ◌⊎◌, ℕ, List}
use Rattle.book_base.specs.declared.call.Call.{Call}
use Rattle.book_base.specs.Book.{Page, IsCall, Precedes}
use Rattle.legal_orders.specs.Deals as deals
use Rattle.seq_objects.specs.declared.kind.Kind.{Kind}
use Rattle.broken_rules.specs.declared.demand.Demand.{Demand}
use Rattle.broken_rules.specs.declared.demand.Demand.TheVariants as demands
use Rattle.broken_rules.specs.Deeds.{did, absence_by, value_at, taken_at}
use Rattle.broken_rules.specs.Entries.{shown_at, PutsEntry}

-- A call of a book puts the value `value` in.
abbrev pub Puts : Kind → List Page → ℕ → Call → Type 0
Puts kind book value call = did kind book call ≡ deals.Put value

-- A call of a book is answered and takes the value `value`.
abbrev pub Took : Kind → List Page → ℕ → Call → Type 0
Took kind book value call = did kind book call ≡ deals.Took value

-- A call of a book may take the value `value`: it took it, or it is a take without an answer.
abbrev pub MayTake : Kind → List Page → ℕ → Call → Type 0
MayTake kind book value call = Took kind book value call ⊎ (did kind book call ≡ deals.OpenTake)

-- A call of a set or a map may take the key `key` out: it takes it out, and isn't known to have
-- missed it.
abbrev pub Removes : Kind → List Page → ℕ → Call → Type 0
Removes kind book key call = absence_by kind book call ≡ deals.Put key

-- A call of a set or a map is answered, and missed the key `key`.
abbrev pub Missed : Kind → List Page → ℕ → Call → Type 0
Missed kind book key call = absence_by kind book call ≡ deals.Took key

-- A call of a book meets a demand about two calls, `first` and `second`.
abbrev pub Meets : Kind → List Page → Demand → Call → Call → Call → Type 0
-- a call that puts in the value that the first call takes comes after the first call
Meets kind book demands.OwnPutsFollow first second call =
    Puts kind book (taken_at kind book first) call → Precedes book first call
-- a call that puts in the value that the second call takes comes after the first call
Meets kind book demands.OtherPutsFollow first second call =
    Puts kind book (taken_at kind book second) call → Precedes book first call
-- a call that puts in the value that the second call takes comes before the first call, or after
-- the second one
Meets kind book demands.OtherPutsOutside first second call =
    Puts kind book (taken_at kind book second) call → Precedes book call first
    ⊎ Precedes book second call
-- no call but the first one puts in the value that the second call takes
Meets kind book demands.OnlyPut first second call = Puts kind book (taken_at kind book second) call
    → call ≡ first
-- no call but the second one is answered and takes the value of the second call
Meets kind book demands.OnlyTake first second call = Took kind book (value_at kind book second) call
    → call ≡ second
-- a call that may take the value of the first call comes after the second call
Meets kind book demands.TakesFollow first second call =
    MayTake kind book (value_at kind book first) call → Precedes book second call
-- a call that may take out the key of the first call comes before the first call, or after the
-- second one
Meets kind book demands.RemovalsOutside first second call =
    Removes kind book (value_at kind book first) call → Precedes book call first
    ⊎ Precedes book second call
-- another call than the first one that puts in the entry which the first one shows comes after the
-- first one
Meets kind book demands.EntryPutsFollow first second call =
    PutsEntry book (shown_at book first) call → (call ≡ first) ⊎ Precedes book first call
-- another call than the second one that puts in the entry which the second one shows comes before
-- the first call, or after the second one
Meets kind book demands.EntryPutsOutside first second call =
    PutsEntry book (shown_at book second) call
    → (call ≡ second) ⊎ (Precedes book call first ⊎ Precedes book second call)
-- a call that puts in the value that the second call takes comes before both calls, or after both
Meets kind book demands.OtherPutsBeside first second call =
    Puts kind book (taken_at kind book second) call
    → (Precedes book call first × Precedes book call second)
    ⊎ (Precedes book first call × Precedes book second call)
-- the demand `Nothing` asks nothing of a call
Meets kind book demands.Nothing first second call = Unit {0}

-- All calls of the book meet a demand about two calls.
abbrev pub AllMeet : Kind → List Page → Demand → Call → Call → Type 0
AllMeet kind book demand first second = (call : Call) → IsCall book call
    → Meets kind book demand first second call
