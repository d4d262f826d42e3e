-- The calls that the text of a model's book names.
use Rattle.std.proofs.Common.{◌≡◌, ℕ, zero, suc, ◌+◌, ◌<◌, ◌≤◌, ◌^◌, List, [], ◌∷◌, ◌++◌, length, set, Option, Some, None, ◌∙◌, arith}
use Rattle.std.specs.List.{AllByRecursion}
use Rattle.std.proofs.lemmas.List.{length-set}
use Rattle.list_laws.proofs.Elements.{AllByRecursion-append}
use Rattle.book_base.specs.declared.call.Call.{Call}
use Rattle.book_base.specs.declared.call.Record.{Record}
use Rattle.book_base.specs.declared.TheConstants.{MAX_CALLERS}
use Rattle.book_base.specs.Book.{Page, page_of, with_answer}
use Rattle.text_fields.specs.Counts.{AreAtMost}
use Rattle.book_text.specs.CallLines.{with_line, IsNamedCall, calls_from, all_calls}

-- the line of a call doesn't change the number of callers
pub length-with_line : (book : List Page) (call : Call) (op : ℕ) (answer : Option Record)
    → length (with_line book call op answer) ≡ length book
length-with_line book call op None = length-set book call.caller (record (page_of book call.caller)
    { operations = set (page_of book call.caller).operations call.number op })
length-with_line book call op (Some r) =
    let answered : List Page = with_answer book call.caller r in
    length-set answered call.caller (record (page_of answered call.caller)
    { operations = set (page_of answered call.caller).operations call.number op })
    ∙ length-set book call.caller
    (record (page_of book call.caller) { records = (page_of book call.caller).records ++ r ∷ [] })

pub named_still : (book after : List Page) (calls : List Call) → length after ≡ length book
    → AllByRecursion (IsNamedCall book) calls → AllByRecursion (IsNamedCall after) calls
named_still book after [] size h = tt
named_still book after (call ∷ calls) size h = (
  record {
    caller = omega (arith, h.0.caller, size);
    callers = omega (arith, h.0.callers, size);
    number = h.0.number;
  },
  named_still book after calls size h.1,
)

named_calls : (book : List Page) (i k more : ℕ) → i < length book → length book ≤ MAX_CALLERS
    → k + more < 2 ^ 64 → AllByRecursion (IsNamedCall book) (calls_from i k more)
named_calls book i k zero inside few small = tt
named_calls book i k (suc more) inside few small = (
  record { caller = inside; callers = few; number = omega arith },
  named_calls book i (k + 1) more inside few (omega arith),
)

-- all calls of the callers from one on
pub all_named : (book : List Page) (i : ℕ) (counts : List ℕ) → i + length counts ≤ length book
    → length book ≤ MAX_CALLERS → AreAtMost 256 counts
    → AllByRecursion (IsNamedCall book) (all_calls i counts)
all_named book i [] inside few h = tt
all_named book i (count ∷ counts) inside few h =
    let least : count ≤ 256 = h.0 in
    AllByRecursion-append (IsNamedCall book) (calls_from i 0 count) (all_calls (i + 1) counts)
    (named_calls book i 0 count (omega arith) few (omega arith))
    (all_named book (i + 1) counts (omega arith) few h.1)
