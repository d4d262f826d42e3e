-- The calls of one caller in a log, each as a pair: its operation, and the answer to it.
use Rattle.std.specs.Prelude.{◌≡◌, ℕ, ◌==◌, if◌then◌else◌, List, [], ◌∷◌, ◌++◌, map}
use Rattle.shared_words.specs.declared.entry.Entry.{Entry}
use Rattle.shared_words.specs.Entries.{calls_by}

-- For each entry of caller `i` that a log has after `prefix`, in order: its operation, and what
-- `answer` gives for the log up to and with this entry.
abbrev pub pairs_after : (List Entry → ℕ) → ℕ → List Entry → List Entry → List (ℕ × ℕ)
pairs_after answer i prefix [] = []
pairs_after answer i prefix (e ∷ rest) =
    if e.caller == i then (e.op, answer (prefix ++ e ∷ []))
    ∷ pairs_after answer i (prefix ++ e ∷ []) rest else pairs_after answer i (prefix ++ e ∷ []) rest

-- For each entry of caller `i` in a log, in order: its operation, and what `answer` gives for the
-- log up to and with this entry.
abbrev pub pairs_of : (List Entry → ℕ) → List Entry → ℕ → List (ℕ × ℕ)
pairs_of answer log i = pairs_after answer i [] log

-- The operations of a caller's pairs are, in order, those of the caller's entries in the log.
abbrev pub PairsHaveTheCalls : Type 0
PairsHaveTheCalls = (answer : List Entry → ℕ) (log : List Entry) (i : ℕ)
    → map (λ pair. pair.0) (pairs_of answer log i) ≡ calls_by i log
