-- The list of a sequential object after the operations of a log, and its reply to the last of them.
use Rattle.std.specs.Prelude.{◌≡◌, ℕ, List, [], ◌∷◌, ◌++◌}
use Rattle.shared_words.specs.declared.entry.Entry.{Entry}

-- The list of a sequential object after the operations of a log, applied in order from the list
-- `list` on.
abbrev pub list_after : (List ℕ → ℕ → List ℕ × ℕ) → List ℕ → List Entry → List ℕ
list_after next list [] = list
list_after next list (e ∷ log) = list_after next (next list e.op).0 log

-- The reply to the last operation of a log, where its operations are applied in order from the list
-- `list` on; 0 where the log is empty.
abbrev pub last_reply : (List ℕ → ℕ → List ℕ × ℕ) → List ℕ → List Entry → ℕ
last_reply next list [] = 0
last_reply next list (e ∷ []) = (next list e.op).1
last_reply next list (e ∷ d ∷ log) = last_reply next (next list e.op).0 (d ∷ log)

-- The reply to the last operation of a log is the one that the sequential object gives at the list
-- that the operations before it leave.
abbrev pub LastReplyIsNext : Type 0
LastReplyIsNext =
    (next : List ℕ → ℕ → List ℕ × ℕ) (list : List ℕ) (before : List Entry) (e : Entry)
    → last_reply next list (before ++ e ∷ []) ≡ (next (list_after next list before) e.op).1
