-- Tests of recorded replies, at calls that are the same.
use Rattle.std.proofs.Common.{◌≡◌, ℕ, Bool, true, List, subst}
use Rattle.book_base.specs.declared.call.Call.{Call}
use Rattle.book_base.specs.Book.{Page, IsAnswered}
use Rattle.frontier_check.specs.Replies.{IsTested}

-- The answer of a test of a call is that of the test of the same call.
pub same_tested : (test : ℕ × ℕ → Bool → Type 0) (book : List Page) (i n m : ℕ)
    (given wanted : Bool) → IsTested test book (record { caller = i; number = n }) given → n ≡ m
    → given ≡ wanted → IsTested test book (record { caller = i; number = m }) wanted
same_tested test book i n m given wanted it same is =
    subst (λ (k : ℕ). IsTested test book (record { caller = i; number = k }) wanted) same
    (subst (λ (b : Bool). IsTested test book (record { caller = i; number = n }) b) is it)

-- What a test allows of the calls of a caller, it allows of a call of the same caller.
pub tested_at_caller : (test : ℕ × ℕ → Bool → Type 0) (book : List Page) (i : ℕ) (call : Call)
    → i ≡ call.caller
    → (IsAnswered book (record { caller = i; number = call.number })
    → IsTested test book (record { caller = i; number = call.number }) true)
    → IsAnswered book call → IsTested test book call true
tested_at_caller test book i call same allowed =
    subst (λ (j : ℕ). IsAnswered book (record { caller = j; number = call.number })
    → IsTested test book (record { caller = j; number = call.number }) true) same allowed
