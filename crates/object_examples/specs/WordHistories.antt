-- Worked histories of shared words, and the transcripts of their callers.
use Rattle.std.specs.Prelude.{◌≡◌, ℕ, List, [], ◌∷◌, ◌++◌}
use Rattle.shared_words.specs.Deeds.{Deed, Added, Stored, Loaded, Swapped}
use Rattle.shared_words.specs.Histories.{Access, access}
use Rattle.shared_words.specs.Transcripts.{Transcript}

-- Caller 0 adds 5 to word 0. Caller 1 stores 7 in word 1, and caller 0 loads it. Caller 1 swaps the
-- 5 in word 0 for 9, and caller 0 loads the 9.
abbrev pub on_two_words : List Access
on_two_words =
    access 0 (Added 0 5 0)
    ∷ access 1 (Stored 1 7)
    ∷ access 0 (Loaded 1 7)
    ∷ access 1 (Swapped 0 9 5)
    ∷ access 0 (Loaded 0 9)
    ∷ []

-- Each caller may make any deed.
abbrev pub all_may : ℕ → Deed → Type 0
all_may caller deed = Unit {0}

-- Callers may make additions, and no other deed.
abbrev pub additions_may : ℕ → Deed → Type 0
additions_may caller deed = (place amount found : ℕ) × (deed ≡ Added place amount found)

-- A call makes one deed: it adds 1 to the word at a place, whose number is the operation of the
-- call. Its reply is the word that it found there.
abbrev pub adds_1 : ℕ → ℕ → ℕ → List Deed → List Deed → Type 0
adds_1 caller op reply before after = after ≡ before ++ Added op 1 reply ∷ []

-- An access by which a caller adds 1 to word 0, and finds a given word there.
abbrev pub adds : ℕ → ℕ → Access
adds caller found = access caller (Added 0 1 found)

-- Caller 0 adds 1 to word 0, then caller 1, and then caller 0 again: they find 0, 1 and 2 there.
abbrev pub three_additions : List Access
three_additions = adds 0 0 ∷ adds 1 1 ∷ adds 0 2 ∷ []

-- The transcript of a caller whose calls are these pairs of an operation and a reply.
abbrev pub transcript : ℕ → List (ℕ × ℕ) → Transcript
transcript caller pairs = record { caller = caller; pairs = pairs }

-- The transcript of caller 0 after the three additions: two calls on word 0, replies 0 and 2.
abbrev pub told_by_0 : Transcript
told_by_0 = transcript 0 ((0, 0) ∷ (0, 2) ∷ [])

-- The transcript of caller 1 after the three additions: one call on word 0, reply 1.
abbrev pub told_by_1 : Transcript
told_by_1 = transcript 1 ((0, 1) ∷ [])
