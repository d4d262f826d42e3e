-- An answer that keeps the book valid fails no test.
use Rattle.std.proofs.Common.{◌≡◌, ℕ, List, Some, None, Option, refl, arith}
use Rattle.std.specs.Prelude.{IsSomeAnd}
use Rattle.book_base.specs.declared.call.Record.{Record}
use Rattle.book_base.specs.declared.fault.BookFault.{BookFault}
use Rattle.book_base.specs.declared.fault.BookFault.TheVariants.{TooManyCalls, NoSuchCall, ViewOutside, ViewLacksOwn, ViewHasLater, ViewsCross, NoMemory}
use Rattle.book_base.specs.Cut.{AreComparable}
use Rattle.book_base.specs.Book.{Page, record_of}
use Rattle.book_base.specs.Refusal.{MayAnswer, FailsTest}
use Rattle.book_base.proofs.GrowthLemmas.{below_calls}

crosses_none : (o : Option Record) (view : List ℕ)
    → ((r : Record) → o ≡ Some r → AreComparable view r.view)
    → IsSomeAnd o (λ r. ¬ AreComparable view r.view) → ⊥
crosses_none None view h f = f
crosses_none (Some r) view h f = f (h r refl)

pub no_test_fails : (book : List Page) (i : ℕ) (view : List ℕ) → MayAnswer book i view
    → (fault : BookFault) → FailsTest book i view fault → ⊥
no_test_fails book i view may NoSuchCall f = omega (arith, f, may.unanswered)
no_test_fails book i view may (ViewOutside j) f =
    omega (arith, f.1, below_calls book view may.within j)
no_test_fails book i view may (ViewLacksOwn count) f = omega (arith, f.0, f.1, may.own)
no_test_fails book i view may (ViewHasLater count) f = omega (arith, f.0, f.1, may.own)
no_test_fails book i view may (ViewsCross call) f =
    crosses_none (record_of book call) view (may.comparable call) f
no_test_fails book i view may TooManyCalls f = f
no_test_fails book i view may NoMemory f = f
