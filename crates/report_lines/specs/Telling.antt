-- How each of the five phases of a call changes the operations and replies that the object has told
-- of its caller.
use Rattle.std.specs.Prelude.{ℕ, ◌+◌, ◌*◌, List, [], ◌∷◌, ◌++◌, slice_index}
use Rattle.book_base.specs.declared.call.Record.{Record}
use Rattle.report_lines.specs.Phases.{Progress, IsProgressAfter, IsTold}
use Rattle.report_lines.specs.Progress.{after_announcing, after_viewing, after_seeing}

-- An object has told nothing of a caller before the caller's first phase.
abbrev pub NothingIsTold : Type 0
NothingIsTold = IsTold 0 [] []

-- An announcement adds nothing to what the object has told of its caller.
abbrev pub ToldAsAnnounced : Type 0
ToldAsAnnounced =
    (operations : List ℕ) (k : ℕ) (progress : Progress) (operation : ℕ) (pairs : List (ℕ × ℕ))
    → IsProgressAfter operations (5 * k) progress
    → IsTold (5 * k) progress.calls pairs
    → IsTold (5 * k + 1) (after_announcing operation progress).calls pairs

-- Asking the object adds one told pair: the operation of the last call, and its reply.
abbrev pub ToldAsAsked : Type 0
ToldAsAsked =
    (operations : List ℕ) (k : ℕ) (progress : Progress) (reply : ℕ) (pairs : List (ℕ × ℕ))
    → IsProgressAfter operations (5 * k + 1) progress
    → IsTold (5 * k + 1) progress.calls pairs
    → IsTold (5 * k + 2) progress.calls (pairs ++ (slice_index operations k, reply) ∷ [])

-- Taking the view adds nothing to what the object has told, where the reply of the call's record is
-- the one that the object told last.
abbrev pub ToldAsViewed : Type 0
ToldAsViewed =
    (operations : List ℕ) (k : ℕ) (progress : Progress) (operation : ℕ) (r : Record)
    (pairs : List (ℕ × ℕ)) → IsProgressAfter operations (5 * k + 2) progress
    → IsTold (5 * k + 2) progress.calls (pairs ++ (operation, r.reply) ∷ [])
    → IsTold (5 * k + 3) (after_viewing r progress).calls (pairs ++ (operation, r.reply) ∷ [])

-- A publication adds nothing to what the object has told of its caller.
abbrev pub ToldAsPublished : Type 0
ToldAsPublished =
    (k : ℕ) (progress : Progress) (pairs : List (ℕ × ℕ)) → IsTold (5 * k + 3) progress.calls pairs
    → IsTold (5 * k + 4) progress.calls pairs

-- A seen cut adds nothing to what the object has told of its caller.
abbrev pub ToldAsSeen : Type 0
ToldAsSeen =
    (k : ℕ) (progress : Progress) (cut : List ℕ) (pairs : List (ℕ × ℕ))
    → IsTold (5 * k + 4) progress.calls pairs
    → IsTold (5 * (k + 1)) (after_seeing cut progress).calls pairs
