-- Worked histories of a tally and of a cell, and the transcripts of their callers.
use Rattle.std.specs.Prelude.{ℕ, List, [], ◌∷◌}
use Rattle.book_base.specs.declared.TheConstants.{BAD}
use Rattle.seq_objects.specs.Replies.{reply_done, reply_value}
use Rattle.shared_words.specs.Deeds.{Stored, Loaded}
use Rattle.shared_words.specs.Histories.{Access, access}
use Rattle.shared_words.specs.Transcripts.{Transcript}
use Rattle.object_examples.specs.WordHistories.{transcript}
use Rattle.test_objects.specs.Forms.{increment, write, read}

-- Caller 0 of a tally asks for two increments, which reply 0 and 2, and between them for an
-- operation that a tally doesn't know.
abbrev pub counts_0_and_2 : Transcript
counts_0_and_2 =
    transcript 0 ((increment, reply_value 0) ∷ (7, BAD) ∷ (increment, reply_value 2) ∷ [])

-- A caller asks a tally for one increment, which has this reply.
abbrev pub counts_once : ℕ → ℕ → Transcript
counts_once caller reply = transcript caller ((increment, reply) ∷ [])

-- Caller 0 writes 7 into a cell.
abbrev pub writes_7 : Transcript
writes_7 = transcript 0 ((write 7, reply_done) ∷ [])

-- Caller 1 reads a cell, and the reply is this value.
abbrev pub reads_value : ℕ → Transcript
reads_value value = transcript 1 ((read, reply_value value) ∷ [])

-- A store of a word by caller 0, and then a load by caller 1 that finds a word.
abbrev pub stored_then_loaded : ℕ → ℕ → List Access
stored_then_loaded word found = access 0 (Stored 0 word) ∷ access 1 (Loaded 0 found) ∷ []

-- A load by caller 1, which finds 0, and then a store of 7 by caller 0.
abbrev pub loaded_then_stored : List Access
loaded_then_stored = access 1 (Loaded 0 0) ∷ access 0 (Stored 0 7) ∷ []
