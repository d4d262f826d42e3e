-- A book without the calls of some keys.
use Rattle.std.proofs.Common.{◌≡◌, ℕ, ◌+◌, ◌<◌, ◌∙◌, nat_le, Bool, true, not, List, [], ◌∷◌, ◌++◌, length, filter, get_or, if◌then◌else◌, ap, zero-add, arith}
use Rattle.std.specs.List.{range_with_len}
use Rattle.std.proofs.lemmas.Bool.{and_from, le-leb}
use Rattle.std.proofs.lemmas.List.Elements.{filter-append}
use Rattle.std.proofs.lemmas.List.FromFn.{get_or-range_with_len, length-range_with_len, get_or-map-range_with_len}
use Rattle.book_base.specs.declared.call.Call.{Call}
use Rattle.book_base.specs.Book.{Page, calls_of, IsCall}
use Rattle.book_base.proofs.PageLemmas.{caller_from_call}
use Rattle.seq_objects.specs.declared.kind.Kind.{Kind}
use Rattle.smaller_book.specs.Part.{size_of, numbers_of, IsPart}
use Rattle.smaller_book.specs.Keys.{key_of_call, is_among, keys_from_to, row_without, all_without}
use Rattle.smaller_book.proofs.Building.{range_with_len-more}
use Rattle.smaller_book.proofs.Filtering.{filter-fewer}
use Rattle.smaller_book.proofs.Removing.{size-less_at}

-- A key is among the keys from itself to itself.
pub own_key : (key : ℕ) → keys_from_to key key key ≡ true
own_key key = and_from (nat_le key key) (nat_le key key) (le-leb key key (omega arith))
    (le-leb key key (omega arith))

-- Of the numbers below n + 1 a filter keeps those that it keeps of the numbers below n, and n where
-- n passes.
pub filter_range-more : (p : ℕ → Bool) (n : ℕ) → filter p (range_with_len 0 (n + 1))
    ≡ filter p (range_with_len 0 n) ++ (if p n then n ∷ [] else [])
filter_range-more p n = ap (filter p) (range_with_len-more 0 n n (zero-add n))
    ∙ filter-append p (range_with_len 0 n) (n ∷ [])

-- Where some call of the book is about one of some keys, the part without the calls that are about
-- them has fewer calls than the book.
pub size-less_without : (kind : Kind) (keys : ℕ → Bool) (book : List Page) (call : Call)
    (part : List Page) → IsCall book call → is_among keys (key_of_call kind book call) ≡ true
    → IsPart book (all_without kind keys book) part → size_of part < size_of book
size-less_without kind keys book call part inside goes is =
    let i : ℕ = call.caller in
    let n : ℕ = calls_of book i in
    let remaining : ℕ → List ℕ = row_without kind keys book in
    let stays : ℕ → Bool = λ number.
    not (is_among keys (key_of_call kind book (record { caller = i; number = number }))) in
    let same : numbers_of (all_without kind keys book) i ≡ remaining i
    = get_or-map-range_with_len remaining 0
    (length book) i i [] (caller_from_call book i call.number inside) (zero-add i) in
    let at : get_or (range_with_len 0 n) call.number 0 ≡ call.number =
    get_or-range_with_len 0 n call.number 0 inside ∙ zero-add call.number in
    let fewer : length (remaining i) < length (range_with_len 0 n)
    = filter-fewer stays (range_with_len 0 n) call.number 0
    (omega (arith, inside, length-range_with_len 0 n)) (ap stays at ∙ ap not goes) in
    size-less_at book (all_without kind keys book) part i is
    (omega (arith, fewer, length-range_with_len 0 n, is.calls i, ap length same))
