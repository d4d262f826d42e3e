-- Worked histories of a split tally, of a one-pass queue and of a meeting, and the transcripts of
-- their callers.
use Rattle.std.specs.Prelude.{ℕ, List, [], ◌∷◌}
use Rattle.seq_objects.specs.Replies.{reply_done, reply_value}
use Rattle.shared_words.specs.Deeds.{Added, Stored, Loaded, Swapped}
use Rattle.shared_words.specs.Histories.{Access, access}
use Rattle.shared_words.specs.Transcripts.{Transcript}
use Rattle.object_examples.specs.WordHistories.{adds, transcript}
use Rattle.test_objects.specs.FaultyForms.{enqueue, dequeue, item_index, up}

-- Two callers of a split tally each load its word and find 0, and then each of them stores `word`.
abbrev pub both_load_first : ℕ → List Access
both_load_first word =
    access 0 (Loaded 0 0)
    ∷ access 1 (Loaded 0 0)
    ∷ access 0 (Stored 0 word)
    ∷ access 1 (Stored 0 word)
    ∷ []

-- Caller 0 loads 0 and stores 1, and then caller 1 loads the word `found` and stores `word`.
abbrev pub one_by_one : ℕ → ℕ → List Access
one_by_one found word =
    access 0 (Loaded 0 0)
    ∷ access 0 (Stored 0 1)
    ∷ access 1 (Loaded 0 found)
    ∷ access 1 (Stored 0 word)
    ∷ []

-- Caller 0 of a one-pass queue enqueues 5.
abbrev pub enqueues_5 : Transcript
enqueues_5 = transcript 0 ((enqueue 5, reply_done) ∷ [])

-- A caller of a one-pass queue dequeues, with this reply.
abbrev pub dequeues : ℕ → ℕ → Transcript
dequeues caller reply = transcript caller ((dequeue, reply) ∷ [])

-- The accesses of an enqueue of 5 by caller 0: it gets the place 0 from the counter, and stores 6
-- there.
abbrev pub put_5 : List Access
put_5 = adds 0 0 ∷ access 0 (Stored (item_index 0) 6) ∷ []

-- The accesses of a dequeue by a caller: it loads 1 from the counter, and finds the word `found` in
-- place 0.
abbrev pub finds_at_0 : ℕ → ℕ → List Access
finds_at_0 caller found =
    access caller (Loaded 0 1) ∷ access caller (Swapped (item_index 0) 0 found) ∷ []

-- Two callers of a meeting both raise their flags, and then each finds the other caller's flag up.
abbrev pub both_raise_first : List Access
both_raise_first =
    access 0 (Stored 0 up)
    ∷ access 1 (Stored 1 up)
    ∷ access 0 (Loaded 1 up)
    ∷ access 1 (Loaded 0 up)
    ∷ []

-- Caller 0 raises its flag, and finds the flag of caller 1 up before caller 1 raises it. Then
-- caller 1 raises its flag, and finds that of caller 0 up.
abbrev pub found_too_early : List Access
found_too_early =
    access 0 (Stored 0 up)
    ∷ access 0 (Loaded 1 up)
    ∷ access 1 (Stored 1 up)
    ∷ access 1 (Loaded 0 up)
    ∷ []

-- Caller 0 raises the flag of caller 1, not its own, and finds it up. Then caller 1 raises its
-- flag, and finds that of caller 0 up, though nobody has raised it.
abbrev pub raises_the_other : List Access
raises_the_other =
    access 0 (Stored 1 up)
    ∷ access 0 (Loaded 1 up)
    ∷ access 1 (Stored 1 up)
    ∷ access 1 (Loaded 0 up)
    ∷ []

-- A caller makes one call at a meeting, whose reply is `done`.
abbrev pub meets : ℕ → Transcript
meets caller = transcript caller ((0, reply_done) ∷ [])
