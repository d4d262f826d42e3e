-- The list of a sequential object after the operations of a log, one by one.
use Rattle.std.proofs.Common.{◌≡◌, ℕ, List, [], ◌∷◌, ◌++◌, ◌+◌, ◌-◌, ◌≤◌, length, refl, arith}
use Rattle.book_base.specs.Reaching.{SufficesAfter}
use Rattle.book_base.proofs.ReachingLemmas.{suffices-fewer, suffices-step}
use Rattle.world_objects.specs.LogProgram.{list_of}

pub list_of-append : (next : List ℕ → ℕ → List ℕ × ℕ) (list operations : List ℕ) (operation : ℕ)
    → list_of next list (operations ++ operation ∷ [])
    ≡ (next (list_of next list operations) operation).0
list_of-append next list [] operation = refl
list_of-append next list (x ∷ xs) operation = list_of-append next (next list x).0 xs operation

-- After the operations of a log a capacity suffices for those that the log leaves.
pub suffices-listed : (next : List ℕ → ℕ → List ℕ × ℕ) (list log : List ℕ)
    (operations left capacity : ℕ) → length log + left ≤ operations
    → SufficesAfter next list operations capacity
    → SufficesAfter next (list_of next list log) left capacity
suffices-listed next list [] operations left capacity few fits =
    suffices-fewer next list left operations capacity (omega (arith, few)) fits
suffices-listed next list (op ∷ log) operations left capacity few fits =
    suffices-listed next (next list op).0 log (operations - 1) left capacity (omega (arith, few))
    (suffices-step next list operations (operations - 1) capacity op (omega (arith, few)) fits)
