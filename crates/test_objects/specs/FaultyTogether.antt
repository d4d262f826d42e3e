-- What the transcripts of all callers and the one history of their accesses show of three objects:
-- the split tally, whose increment is a load and a later store; the one-pass queue, whose dequeue
-- goes through the places once; and the meeting.
use Rattle.std.specs.Prelude.{◌≡◌, ◌≢◌, ℕ, ◌-◌, ◌%◌, ◌^◌, ◌⊎◌, Bool, true, false, List, [], ◌∷◌, ◌++◌, All, count_by}
use Rattle.seq_objects.specs.Replies.{reply_none, reply_value}
use Rattle.test_objects.specs.Forms.{cell_may}
use Rattle.test_objects.specs.Together.{LoadsFindTheLast}
use Rattle.shared_words.specs.Deeds.{Deed, Added, Stored, Loaded, Swapped, place_of}
use Rattle.shared_words.specs.Histories.{Access, access, IsLawfulHistory}
use Rattle.shared_words.specs.Transcripts.{Transcript, AreOfOneHistory}
use Rattle.test_objects.specs.FaultyForms.{IsSplit, queue_may, item_index, IsOnePass, up, meeting_may, HasRaised, IsMeeting}

-- The transcripts are those of all n callers of a split tally, and this lawful history has just the
-- loads and stores of their calls. Each load found the word that the last store before it stored,
-- or 0 where there is none.
pub record TellOneSplit (n : ℕ) (history : List Access)
    (transcripts : List Transcript) : Type 0 where
  pub told : AreOfOneHistory cell_may (λ _. IsSplit) n history transcripts
  pub found : LoadsFindTheLast history

-- The deed is an addition.
abbrev pub is_addition : Deed → Bool
is_addition (Added place amount found) = true
is_addition (Stored place word) = false
is_addition (Loaded place found) = false
is_addition (Swapped place word found) = false

-- Each addition to a one-pass queue's counter found the number of additions before it, modulo 2^64.
-- The number found is the place that an enqueue gets. So enqueues get the places in order, and no
-- place twice where there are at most 2^64 additions.
abbrev pub PlacesAreInOrder : List Access → Type 0
PlacesAreInOrder history = (before rest : List Access) (who found : ℕ)
    → history ≡ before ++ access who (Added 0 1 found) ∷ rest
    → found ≡ count_by (λ a. is_addition a.deed) before % 2 ^ 64

-- After the history the word is in this place: a store put it there, and no access to the place
-- comes after that store.
pub record IsPutAt (place word : ℕ) (history : List Access) : Type 0 where
  pub before : List Access
  pub who : ℕ
  pub later : List Access
  pub put : history ≡ before ++ access who (Stored (item_index place) word) ∷ later
  pub left : All (λ a. place_of a.deed ≢ item_index place) later

-- Each exchange that found an item in a place took the one that the last access to this place
-- before it, a store, had put there.
abbrev pub TakesTakeWhatWasPut : List Access → Type 0
TakesTakeWhatWasPut history = (before rest : List Access) (who place found : ℕ)
    → history ≡ before ++ access who (Swapped (item_index place) 0 found) ∷ rest → found ≢ 0
    → IsPutAt place found before

-- The history ends with an exchange of caller `who` that took an item out of a place. The last
-- access to this place before it was the store that put the item there, and `reply` gives this
-- item.
pub record IsGiven (who reply : ℕ) (history : List Access) : Type 0 where
  pub before : List Access
  pub place : ℕ
  pub word : ℕ
  pub put : IsPutAt place word before
  pub ends : history ≡ before ++ access who (Swapped (item_index place) 0 word) ∷ []
  pub told : reply ≡ reply_value (word - 1)

-- The reply to a dequeue is `none`, or gives the item that the last access of the history, an
-- exchange of caller `who`, took out of the place into which a store had put it.
abbrev pub IsNoneOrGiven : ℕ → ℕ → List Access → Type 0
IsNoneOrGiven who reply history = (reply ≡ reply_none) ⊎ IsGiven who reply history

-- The transcripts are those of all n callers of a one-pass queue with this many places, and this
-- lawful history has just the accesses of their calls. The counter gives the places in order,
-- modulo 2^64, and each item that is taken from a place was put there by the last access before.
pub record TellOneQueue (places n : ℕ) (history : List Access)
    (transcripts : List Transcript) : Type 0 where
  pub told : AreOfOneHistory queue_may (λ _. IsOnePass places) n history transcripts
  pub in_order : PlacesAreInOrder history
  pub taken : TakesTakeWhatWasPut history

-- Each load that found a flag up comes after the caller to whom the flag belongs has raised it.
abbrev pub LoadsFindRaisedFlags : List Access → Type 0
LoadsFindRaisedFlags history = (before rest : List Access) (who flag : ℕ)
    → history ≡ before ++ access who (Loaded flag up) ∷ rest → HasRaised flag before

-- The transcripts are those of all n callers of a meeting, and this lawful history has just the
-- accesses of their calls. A load finds a flag up only after the caller to whom the flag belongs
-- has raised it.
pub record TellOneMeeting (n : ℕ) (history : List Access)
    (transcripts : List Transcript) : Type 0 where
  pub told : AreOfOneHistory meeting_may (λ caller _. IsMeeting caller) n history transcripts
  pub raised : LoadsFindRaisedFlags history

-- In each lawful history of a one-pass queue each addition to the counter found the number of
-- additions before it, modulo 2^64.
abbrev pub QueuesGivePlacesInOrder : Type 0
QueuesGivePlacesInOrder = (history : List Access) → IsLawfulHistory queue_may history
    → PlacesAreInOrder history

-- In the history of a one-pass queue each exchange that found an item in a place took the one that
-- the last access to this place before it, a store, had put there.
abbrev pub QueuesGiveWhatWasPut : Type 0
QueuesGiveWhatWasPut = (history : List Access) → IsLawfulHistory queue_may history
    → TakesTakeWhatWasPut history

-- In the history of a meeting a load finds a flag up only after the caller to whom the flag belongs
-- has raised it.
abbrev pub MeetingsFindRaisedFlags : Type 0
MeetingsFindRaisedFlags = (history : List Access) → IsLawfulHistory meeting_may history
    → LoadsFindRaisedFlags history
