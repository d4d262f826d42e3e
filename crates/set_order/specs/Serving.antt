-- What objects that serve a set of operations at once can reply.
use Rattle.std.specs.Prelude.{◌≡◌, ℕ, ◌+◌, ◌≤◌, List, [], ◌∷◌, length, Option, Some, None, slice_get}

-- Where an operation is served at the list `list`, alone or beside others, its reply is never
-- `reply`.
abbrev pub NeverReplies : (List ℕ → List ℕ → Option (List ℕ × List ℕ)) → List ℕ → ℕ → ℕ → Type 0
NeverReplies served list op reply = (ops after replies : List ℕ) (p : ℕ)
    → served list ops ≡ Some (after, replies)
    → slice_get ops p ≡ Some op → slice_get replies p ≡ Some reply → ⊥

-- Serving some sets of operations one after another takes the object from the list `list` to the
-- list `later`.
abbrev pub ServesTo : (List ℕ → List ℕ → Option (List ℕ × List ℕ)) → List ℕ → List (List ℕ)
    → List ℕ → Type 0
ServesTo served list [] later = list ≡ later
ServesTo served list (ops ∷ sets) later =
    (after replies : List ℕ) × (served list ops ≡ Some (after, replies))
    × ServesTo served after sets later

-- how many operations some sets have together
abbrev pub operations_in : List (List ℕ) → ℕ
operations_in [] = 0
operations_in (ops ∷ sets) = length ops + operations_in sets

-- A capacity suffices for some operations after a list: each list to which sets of together at most
-- this many operations take the object from this list has at most as many words as the capacity.
abbrev pub SufficesAfter : (List ℕ → List ℕ → Option (List ℕ × List ℕ)) → List ℕ → ℕ → ℕ → Type 0
SufficesAfter served list operations capacity = (sets : List (List ℕ)) (later : List ℕ)
    → ServesTo served list sets later → operations_in sets ≤ operations → length later ≤ capacity

-- From the list `list` on, an operation never gets the reply `reply`, whatever sets of operations
-- are served before it.
abbrev pub NeverRepliesFrom : (List ℕ → List ℕ → Option (List ℕ × List ℕ)) → List ℕ → ℕ → ℕ → Type 0
NeverRepliesFrom served list op reply = (sets : List (List ℕ)) (later : List ℕ)
    → ServesTo served list sets later → NeverReplies served later op reply

-- what a sequential object serves: a set of one operation, as the object applies it, and no other
-- set
abbrev pub served_alone : (List ℕ → ℕ → List ℕ × ℕ) → List ℕ → List ℕ → Option (List ℕ × List ℕ)
served_alone next list (op ∷ []) = Some ((next list op).0, (next list op).1 ∷ [])
served_alone next list _ = None
