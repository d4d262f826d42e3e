-- The rule of a log's table, and how each kind of step changes a hand.
use Rattle.std.specs.Prelude.{◌≡◌, ◌≢◌, ℕ, ◌+◌, List, [], ◌∷◌, ◌++◌, slice_set, Option, Some, None}
use Rattle.atomic_table.specs.Table.{State, Me}
use Rattle.book_base.specs.OperationWord.{low_of, high_of}
use Rattle.shared_words.specs.declared.entry.Entry.{Entry}
use Rattle.shared_words.specs.Entries.{calls_by, entry, IsWithinCap}
use Rattle.shared_words.specs.Words.{number_after, operation_index, AreWordsOf, MayHaveTried}
use Rattle.row_table.specs.Holders.{has, AreHeld}
use Rattle.shared_words.specs.Hands.{Hand, View, hand, the, HandFits}

-- There is one log, and the words of the table are its words. At most one seat has the hand of a
-- caller, and each hand that a seat has agrees with the words and the log.
pub record HaveOneLog (n cap : ℕ) (words : List ℕ) (views : List View) : Type 0 where
  pub log : List Entry
  pub stand : AreWordsOf n cap words log
  pub hands : AreHeld (HandFits n cap words log) views

-- The rule of the table: its words and its views have one log, as `HaveOneLog` says.
abbrev pub Ruled : ℕ → ℕ → State (Unit {0}) View → Type 0
Ruled n cap t = HaveOneLog n cap t.words t.views

-- A step changes the hand of one caller alone, and `tells` relates the hands before and after it.
pub record Turns (who : ℕ) (me after : Me (Unit {0}) View)
    (tells : Hand → Hand → Type 0) : Type 0 where
  pub next : Hand
  pub moved : after ≡ (slice_set me.0 who (Some next), me.1)
  pub told : tells (the (has me.0 who)) next

-- The hand `next` is the hand `h` after a store of `word`: this word is staged after the others.
abbrev pub Stages : ℕ → Hand → Hand → Type 0
Stages word h next = next ≡ hand h.log (h.staged ++ word ∷ []) h.tried

-- The hand `next` is the hand `h` after its caller has found the ticket `found` at the first place
-- of the log that it doesn't know: its log has one entry more, that of another caller's call. The
-- list `tried` has the indices at which the caller has made an exchange.
pub record Learns (n cap who found : ℕ) (tried : List ℕ) (h next : Hand) : Type 0 where
  pub entry : Entry
  pub log : next ≡ hand (h.log ++ entry ∷ []) h.staged tried
  pub ticket : found ≡ number_after cap h.log entry + 1
  pub other : calls_by who next.log ≡ calls_by who h.log
  pub within : IsWithinCap n cap next.log

-- How a caller's hand changes by a load of the ticket at the first place of the log that the caller
-- doesn't know: where the place is free (0), not at all; otherwise the caller learns the entry at
-- this place.
pub record Looks (n cap who found : ℕ) (h next : Hand) : Type 0 where
  pub free : found ≡ 0 → next ≡ h
  pub filled : found ≢ 0 → Learns n cap who found h.tried h next

-- How a caller's hand changes by a compare-exchange of 0 for the caller's own ticket, at the first
-- place of the log that the caller doesn't know. Where the place is free, the call is the next
-- entry of the log; otherwise the caller learns the entry at this place. The index of the exchange
-- is added to `tried`.
pub record Places (n cap who word found : ℕ) (h next : Hand) : Type 0 where
  pub placed : found ≡ 0 → (op : ℕ) → h.staged ≡ low_of op ∷ high_of op ∷ []
      → (next ≡ hand (h.log ++ entry who op ∷ []) [] (h.tried ++ word ∷ []))
      × IsWithinCap n cap next.log
  pub filled : found ≢ 0 → Learns n cap who found (h.tried ++ word ∷ []) h next

-- How a caller's hand changes by a load of the ticket at the first place of the log that the caller
-- doesn't know, followed, where the load found the place free, by an exchange for the caller's own
-- ticket. With `found` 0 the call is the next entry of the log; otherwise the caller learns the
-- entry at this place.
pub record Tries (n cap who word found : ℕ) (h next : Hand) : Type 0 where
  pub placed : found ≡ 0 → (op : ℕ) → h.staged ≡ low_of op ∷ high_of op ∷ []
      → (next ≡ hand (h.log ++ entry who op ∷ []) [] (h.tried ++ word ∷ []))
      × IsWithinCap n cap next.log
  pub filled : found ≢ 0 → (tried : List ℕ) × MayHaveTried word h.tried tried
      × Learns n cap who found tried h next

-- A load of a word of an operation doesn't change the caller's hand. Where it is the low or the
-- high word of the operation of an entry that the caller knows, the load finds this word.
pub record Reads (cap word found : ℕ) (h next : Hand) : Type 0 where
  pub same : next ≡ h
  pub low : (before rest : List Entry) (e : Entry) → h.log ≡ before ++ e ∷ rest
      → word ≡ operation_index (number_after cap before e) → found ≡ low_of e.op
  pub high : (before rest : List Entry) (e : Entry) → h.log ≡ before ++ e ∷ rest
      → word ≡ operation_index (number_after cap before e) + 1 → found ≡ high_of e.op

-- What a caller that appends an operation finds at the first place of the log that it doesn't know:
-- `None` where it has placed its own ticket there, or the entry of another caller's call. It makes
-- at most one exchange, at the index `word`.
abbrev pub Finds : ℕ → ℕ → ℕ → ℕ → ℕ → Hand → Hand → Option Entry → Type 0
Finds n cap who word op h next None =
    (next ≡ hand (h.log ++ entry who op ∷ []) [] (h.tried ++ word ∷ []))
    × IsWithinCap n cap next.log
Finds n cap who word op h next (Some e) =
    (tried : List ℕ) × MayHaveTried word h.tried tried
    × (next ≡ hand (h.log ++ e ∷ []) h.staged tried) × (calls_by who next.log ≡ calls_by who h.log)
    × IsWithinCap n cap next.log
