-- The lines of calls, one after another.
use Rattle.std.proofs.Common.{◌≡◌, ℕ, suc, ◌+◌, ◌-◌, ◌≤◌, List, ◌∷◌, ◌++◌, ap, arith}
use Rattle.book_base.specs.declared.call.Call.{Call}
use Rattle.book_text.specs.CallLines.{calls_from}

-- the next call of a caller is due
pub next_due : (i k count : ℕ) (more : List Call) → suc k ≤ count → calls_from i k (count - k)
    ++ more ≡ record { caller = i; number = k } ∷ (calls_from i (k + 1) (count - (k + 1)) ++ more)
next_due i k count more lt = let one : count - k ≡ suc (count - (k + 1)) = omega arith in
    ap (λ (m : ℕ). calls_from i k m ++ more) one
