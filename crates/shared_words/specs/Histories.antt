-- The history of all accesses to shared words: what it leaves in the words, and whose deeds it has.
use Rattle.std.specs.Prelude.{◌≡◌, ◌≢◌, ℕ, ◌+◌, ◌%◌, ◌^◌, ◌==◌, if◌then◌else◌, List, [], ◌∷◌, ◌++◌, map, Option}
use Rattle.std.specs.List.{filter}
use Rattle.row_table.specs.Holders.{held_or}
use Rattle.shared_words.specs.Deeds.{Deed, Added, Stored, Loaded, Swapped, place_of, leaves, HasFound}

-- A deed, and the caller that made it.
pub record Access : Type 0 where
  pub caller : ℕ
  pub deed : Deed

-- The access of this caller with this deed.
abbrev pub access : ℕ → Deed → Access
access caller deed = record { caller = caller; deed = deed }

-- The deeds of a caller, in order.
abbrev pub deeds_by : ℕ → List Access → List Deed
deeds_by i history = map (λ a. a.deed) (filter (λ a. a.caller == i) history)

-- The word at the place `place` after a history, where the word `word` was there before the
-- history.
abbrev pub word_from : ℕ → ℕ → List Access → ℕ
word_from place word [] = word
word_from place word (a ∷ history) =
    word_from place (if place_of a.deed == place then leaves a.deed word else word) history

-- The word at a place after a history, before which all words are 0.
abbrev pub word_at : ℕ → List Access → ℕ
word_at place history = word_from place 0 history

-- The access `a` may come after the accesses `before`: `may` allows it to its caller, and it found
-- the word that `before` leaves at its place, unless it is a store, which finds no word.
pub record IsRightAccess (may : ℕ → Deed
    → Type 0) (before : List Access) (a : Access) : Type 0 where
  pub allowed : may a.caller a.deed
  pub found : HasFound a.deed (word_at (place_of a.deed) before)

-- The history is lawful: `may` allows each access to its caller, and each access but a store found
-- the word that the accesses before it leave at its place.
abbrev pub IsLawfulHistory : (ℕ → Deed → Type 0) → List Access → Type 0
IsLawfulHistory may history = (before rest : List Access) (a : Access)
    → history ≡ before ++ a ∷ rest
    → IsRightAccess may before a

-- The history `after` is the history `before` after an access of caller `who` with this deed: it
-- begins with `before`, ends with this access, and has no other new access of this caller.
pub record IsAfterAccess (who : ℕ) (deed : Deed) (before after : List Access) : Type 0 where
  pub between : List Access
  pub history : after ≡ (before ++ between) ++ access who deed ∷ []
  pub own : deeds_by who after ≡ deeds_by who before ++ deed ∷ []

-- What a seat knows: for each caller that is with it, the history up to the last access of this
-- caller.
abbrev pub View : Type 0
View = List (Option (List Access))

-- The history that a seat has of a caller, and the empty history where it has none.
abbrev pub known : Option (List Access) → List Access
known = held_or []

-- After an addition a word is the sum modulo 2^64, after a store or a swap it is the word that was
-- put in, and a load doesn't change it.
pub record AccessesAct : Type 0 where
  pub adds : (history : List Access) (who place amount found : ℕ)
      → word_at place (history ++ access who (Added place amount found) ∷ [])
      ≡ (word_at place history + amount) % 2 ^ 64
  pub stores : (history : List Access) (who place word : ℕ)
      → word_at place (history ++ access who (Stored place word) ∷ []) ≡ word
  pub loads : (history : List Access) (who place found : ℕ)
      → word_at place (history ++ access who (Loaded place found) ∷ []) ≡ word_at place history
  pub swaps : (history : List Access) (who place word found : ℕ)
      → word_at place (history ++ access who (Swapped place word found) ∷ []) ≡ word

-- An access doesn't change the words at other places.
abbrev pub AccessesLeaveOthers : Type 0
AccessesLeaveOthers = (history : List Access) (a : Access) (place : ℕ) → place_of a.deed ≢ place
    → word_at place (history ++ a ∷ []) ≡ word_at place history
