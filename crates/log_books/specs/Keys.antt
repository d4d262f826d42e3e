-- The keys of a log, and the places of the calls with each.
use Rattle.std.specs.Prelude.{◌≡◌, ℕ, ◌+◌, List, [], ◌∷◌, Option, None, Some, option_map, bytes_eq, slice_get, if◌then◌else◌}
use Rattle.std.specs.Option.{option_eq}
use Rattle.history_text.specs.declared.call.LogCall.{LogCall}
use Rattle.log_books.specs.declared.keys.KeyPlaces.{KeyPlaces}

-- the key of a call as it is written, where it has one
abbrev pub key_of : LogCall → Option (List ℕ)
key_of call = option_map (λ key. key.now) call.key

-- the places of the calls of a list that have this key, where the first call is at the place `first`
abbrev pub places_from : Option (List ℕ) → ℕ → List LogCall → List ℕ
places_from key first [] = []
places_from key first (call ∷ calls) =
    if option_eq bytes_eq key (key_of call) then first ∷ places_from key (first + 1) calls
    else places_from key (first + 1) calls

-- a key of a log, and the places of the calls with it
pub record KeyAt : Type 0 where
  pub key : Option (List ℕ)
  pub places : List ℕ

-- what a key and its places say
abbrev pub key_at : KeyPlaces → KeyAt
key_at of_key = record { key = option_map (λ key. key.now) of_key.key; places = of_key.places.items }

-- The keys of a log, each with the places of all calls that have it, in order.
pub record AreKeysOf (log : List LogCall) (keys : List KeyAt) : Type 0 where
  -- each key has the places of its calls
  pub each : (k : ℕ) (at : KeyAt) → slice_get keys k ≡ Some at → at.places ≡ places_from at.key 0 log
  -- each call has one of the keys
  pub every : (place : ℕ) (call : LogCall) → slice_get log place ≡ Some call
      → (k : ℕ) × (at : KeyAt) × (slice_get keys k ≡ Some at) × (at.key ≡ key_of call)
  -- no key is there twice
  pub apart : (j k : ℕ) (a b : KeyAt) → slice_get keys j ≡ Some a → slice_get keys k ≡ Some b
      → a.key ≡ b.key → j ≡ k

-- The keys of a whole log: where it has no calls, that is one which has no name, so that it has a
-- book too.
pub record AreAllKeysOf (log : List LogCall) (keys : List KeyAt) : Type 0 where
  pub keys_of : AreKeysOf log keys
  -- a key without calls is that of a log without calls
  pub used : (k : ℕ) (at : KeyAt) → slice_get keys k ≡ Some at → at.places ≡ []
      → (log ≡ []) × (at.key ≡ None)
  pub some : keys ≡ [] → ⊥
