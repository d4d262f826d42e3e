-- How many calls a book has.
use Rattle.std.proofs.Common.{◌≡◌, ◌<◌, ◌+◌, ℕ, List, length, take, sum, arith}
use Rattle.std.proofs.lemmas.List.{length-map}
use Rattle.std.proofs.lemmas.List.Sums.{sum_by_more}
use Rattle.book_base.specs.Book.{Page, announced, calls_of}
use Rattle.book_base.proofs.GrowthLemmas.{announced_at}

-- the calls of the first callers and those of the next are the calls of the first callers with this
-- one
pub calls_more : (book : List Page) (i total : ℕ) → i < length book → total
    ≡ sum (take i (announced book)) → total + calls_of book i ≡ sum (take (i + 1) (announced book))
calls_more book i total inside was =
    let wide : i < length (announced book) =
    omega (arith, inside, length-map book (λ (page : Page). length page.operations)) in
    omega (arith, was, announced_at book i, sum_by_more (λ (n : ℕ). n) (announced book) i 0 wide)
