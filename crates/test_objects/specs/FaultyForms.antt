-- What a call of a split tally, of a one-pass queue and of a meeting does to the shared words, and
-- which form its reply has.
use Rattle.std.specs.Prelude.{◌≡◌, ◌≢◌, ℕ, zero, suc, ◌+◌, ◌-◌, ◌%◌, ◌^◌, ◌<◌, ◌≤◌, ◌⊎◌, ◌↔◌, min, List, [], ◌∷◌, ◌++◌, All, length, map}
use Rattle.book_base.specs.declared.TheConstants.{BAD}
use Rattle.seq_objects.specs.Replies.{reply_done, reply_none, reply_value}
use Rattle.test_objects.specs.Forms.{operation, increment, IsTallyReply, IsLastStored}
use Rattle.shared_words.specs.Deeds.{Deed, Added, Stored, Loaded, Swapped, AreCalls}
use Rattle.shared_words.specs.Histories.{Access, access, word_at, IsLawfulHistory}

-- A call of a split tally: an increment loads the word, and then stores one more than it found,
-- modulo 2^64, in two steps; its reply is the word found. Any other operation makes no step, and
-- its reply is `bad`.
pub record IsSplit (op reply : ℕ) (before after : List Deed) : Type 0 where
  pub counts : op ≡ increment → (found : ℕ)
      × (after ≡ before ++ Loaded 0 found ∷ Stored 0 ((found + 1) % 2 ^ 64) ∷ [])
      × (reply ≡ reply_value found)
  pub other : op ≢ increment → (after ≡ before) × (reply ≡ BAD)

-- The history ends with an increment of caller `who` in two steps: a load, which found the word
-- that the last store before it stored, or 0 where there is no store before it; and later a store
-- of one more, modulo 2^64. The reply gives the loaded word.
pub record IsTorn (who reply : ℕ) (history : List Access) : Type 0 where
  pub before : List Access
  pub between : List Access
  pub word : ℕ
  pub last : IsLastStored word before
  pub ends : history ≡ (before ++ access who (Loaded 0 word) ∷ between)
      ++ access who (Stored 0 ((word + 1) % 2 ^ 64)) ∷ []
  pub told : reply ≡ reply_value word

-- Each reply of a split tally's calls has the form of a tally's reply: a value to the increment,
-- and `bad` to any other operation.
abbrev pub SplitsAreFormed : Type 0
SplitsAreFormed = (pairs : List (ℕ × ℕ)) (before after : List Deed)
    → AreCalls IsSplit pairs before after → All (λ pair. IsTallyReply pair.0 pair.1) pairs

-- The operation word of a queue's enqueue of a value.
abbrev pub enqueue : ℕ → ℕ
enqueue value = operation 1 value

-- The operation word of a queue's dequeue.
abbrev pub dequeue : ℕ
dequeue = operation 2 0

-- The operation isn't the enqueue of any value below 2^32.
abbrev pub IsNoEnqueue : ℕ → Type 0
IsNoEnqueue op = (value : ℕ) → value < 2 ^ 32 → op ≢ enqueue value

-- The index of the word for the item at a place: the counter's word comes before the items' words.
abbrev pub item_index : ℕ → ℕ
item_index place = 1 + place

-- Callers of a one-pass queue add 1 to the counter, load it, store items in places, and swap the
-- word of a place for 0. Nothing else is allowed to them.
abbrev pub queue_may : ℕ → Deed → Type 0
queue_may caller deed =
    ((found : ℕ) × (deed ≡ Added 0 1 found))
    ⊎ ((found : ℕ) × (deed ≡ Loaded 0 found))
    ⊎ ((place value : ℕ) × (deed ≡ Stored (item_index place) (value + 1)))
    ⊎ ((place found : ℕ) × (deed ≡ Swapped (item_index place) 0 found))

-- The deeds of a dequeue at the first `count` places, where it finds each of them empty: it swaps
-- the word of each place for 0, in order, and finds 0 there.
abbrev pub empty_places : ℕ → List Deed
empty_places zero = []
empty_places (suc count) = empty_places count ++ Swapped (item_index count) 0 0 ∷ []

-- An enqueue gets a place by adding 1 to the counter, and stores one more than its value there, if
-- the queue has this place.
pub record IsEnqueued (places value : ℕ) (before after : List Deed) : Type 0 where
  pub place : ℕ
  pub stored : place < places
      → after ≡ before ++ Added 0 1 place ∷ Stored (item_index place) (value + 1) ∷ []
  pub beyond : places ≤ place → after ≡ before ++ Added 0 1 place ∷ []

-- A dequeue loads the counter once, and goes through the queue's places below it, in order. Either
-- all of them are empty, and the reply is `none`; or the reply gives one less than the word of the
-- first place that isn't empty.
pub record IsDequeued (places reply : ℕ) (before after : List Deed) : Type 0 where
  pub counter : ℕ
  pub count : ℕ
  pub found : ℕ
  pub within : count ≤ min counter places
  pub all_empty : found ≡ 0 → (count ≡ min counter places)
      × (after ≡ before ++ Loaded 0 counter ∷ empty_places count) × (reply ≡ reply_none)
  pub item : found ≢ 0 → (count < min counter places) × (after ≡ before ++ Loaded 0 counter
      ∷ (empty_places count ++ Swapped (item_index count) 0 found ∷ []))
      × (reply ≡ reply_value (found - 1))

-- A call of a one-pass queue with this many places: an enqueue, whose reply is `done`; a dequeue;
-- or any other operation, which makes no step and has the reply `bad`.
pub record IsOnePass (places op reply : ℕ) (before after : List Deed) : Type 0 where
  pub puts : (value : ℕ) → value < 2 ^ 32 → op ≡ enqueue value
      → IsEnqueued places value before after × (reply ≡ reply_done)
  pub takes : op ≡ dequeue → IsDequeued places reply before after
  pub other : IsNoEnqueue op → op ≢ dequeue → (after ≡ before) × (reply ≡ BAD)

-- The form of a one-pass queue's reply: `done` to an enqueue, a value or `none` to the dequeue, and
-- `bad` to any other operation.
pub record IsQueueReply (op reply : ℕ) : Type 0 where
  pub puts : (value : ℕ) → value < 2 ^ 32 → op ≡ enqueue value → reply ≡ reply_done
  pub takes : op ≡ dequeue → (reply ≡ reply_none) ⊎ ((value : ℕ) × (reply ≡ reply_value value))
  pub other : IsNoEnqueue op → op ≢ dequeue → reply ≡ BAD

-- Each reply of a one-pass queue's calls has the form of a one-pass queue's reply to its operation.
abbrev pub OnePassesAreFormed : Type 0
OnePassesAreFormed = (places : ℕ) (pairs : List (ℕ × ℕ)) (before after : List Deed)
    → AreCalls (IsOnePass places) pairs before after
    → All (λ pair. IsQueueReply pair.0 pair.1) pairs

-- The word of a caller's flag at a meeting, where the flag is up.
abbrev pub up : ℕ
up = 1

-- A caller of a meeting may raise its own flag and load any flag, and nothing else.
abbrev pub meeting_may : ℕ → Deed → Type 0
meeting_may caller deed = (deed ≡ Stored caller up)
    ⊎ ((place found : ℕ) × (deed ≡ Loaded place found))

-- In the history, the caller to whom the flag belongs has raised it.
pub record HasRaised (flag : ℕ) (history : List Access) : Type 0 where
  pub before : List Access
  pub rest : List Access
  pub raised : history ≡ before ++ access flag (Stored flag up) ∷ rest

-- A flag of a meeting is up only after the caller to whom it belongs has raised it.
abbrev pub FlagsAreRaised : Type 0
FlagsAreRaised = (flag : ℕ) (history : List Access) → IsLawfulHistory meeting_may history
    → word_at flag history ≡ up → HasRaised flag history

-- The number of the other one of the callers 0 and 1.
abbrev pub other_caller : ℕ → ℕ
other_caller caller = 1 - caller

-- The most loads of the other caller's flag that a call of a meeting makes.
abbrev pub most_loads : ℕ
most_loads = 100000000

-- A caller has loaded a flag this many times, and never found it up.
pub record IsMissed (flag count : ℕ) (before after : List Deed) : Type 0 where
  pub found : List ℕ
  pub many : length found ≡ count
  pub each : All (λ word. word ≢ up) found
  pub loaded : after ≡ before ++ map (Loaded flag) found

-- A caller has loaded a flag until it found the flag up: fewer than `most_loads` loads found it
-- down, and the next one found it up.
pub record IsSeen (flag : ℕ) (before after : List Deed) : Type 0 where
  pub misses : ℕ
  pub few : misses < most_loads
  pub between : List Deed
  pub missed : IsMissed flag misses before between
  pub seen : after ≡ between ++ Loaded flag up ∷ []

-- A call of a caller at a meeting, whatever it asks for: it raises its own flag, and then loads the
-- other caller's. The reply is `done` where a load found that flag up, and `bad` where `most_loads`
-- loads didn't.
pub record IsMeeting (caller reply : ℕ) (before after : List Deed) : Type 0 where
  pub between : List Deed
  pub raised : between ≡ before ++ Stored caller up ∷ []
  pub waited : (IsSeen (other_caller caller) between after × (reply ≡ reply_done))
      ⊎ (IsMissed (other_caller caller) most_loads between after × (reply ≡ BAD))

-- The form of a meeting's reply: `done` or `bad`.
abbrev pub IsMeetingReply : ℕ → Type 0
IsMeetingReply reply = (reply ≡ reply_done) ⊎ (reply ≡ BAD)

-- Each reply of a caller's calls at a meeting is `done` or `bad`.
abbrev pub MeetingsAreFormed : Type 0
MeetingsAreFormed = (caller : ℕ) (pairs : List (ℕ × ℕ)) (before after : List Deed)
    → AreCalls (λ _. IsMeeting caller) pairs before after
    → All (λ pair. IsMeetingReply pair.1) pairs

-- The last step of a call at a meeting is a load of the other caller's flag, and determines the
-- call's reply: `done` exactly where this load found the flag up.
abbrev pub LastLoadsTellReplies : Type 0
LastLoadsTellReplies = (caller reply : ℕ) (before after : List Deed)
    → IsMeeting caller reply before after
    → (between : List Deed) × (found : ℕ)
    × (after ≡ between ++ Loaded (other_caller caller) found ∷ [])
    × ((reply ≡ reply_done) ↔ (found ≡ up))
