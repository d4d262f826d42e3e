-- How peeked words make up records and calls, one after the other.
use Rattle.std.proofs.Common.{◌≡◌, ◌≢◌, ℕ, ◌+◌, ◌<◌, ◌^◌, List, [], ◌∷◌, ◌++◌, length, set, get_or, slice_get, slice_index, sum, Some, refl, sym, ap, ◌∙◌, subst, arith, inl, inr}
use Rattle.std.proofs.lemmas.Bool.{cases_lt, cases_eq}
use Rattle.std.proofs.lemmas.List.{get_or-set_same, get_or-set_other, get_or_append_left, get_or_push, get_or_past, length-set, length_push, length-map, map-set}
use Rattle.std.proofs.lemmas.List.Sums.{sum_by-set}
use Rattle.std.proofs.lemmas.Option.{slice_get_within}
use Rattle.list_laws.proofs.Places.{slice_get-push_cases}
use Rattle.book_base.specs.declared.call.Call.{Call}
use Rattle.book_base.specs.declared.call.Record.{Record}
use Rattle.book_base.specs.OperationWord.{low_of, high_of, joined}
use Rattle.book_base.specs.Book.{Page, page_of, calls_of, answers_of, announced, with_call}
use Rattle.book_base.proofs.GrowthLemmas.{announced_at, page_of-set_same, page_of-set_other, records-with_call}
use Rattle.book_base.proofs.ViewLemmas.{same_call}
use Rattle.world_core.specs.declared.region.Region.TheVariants.{N, M}
use Rattle.world_core.specs.Local.{Local}
use Rattle.world_core.specs.Calls.{HasPeeked}
use Rattle.world_laws.specs.Gathering.{HasPeekedAll}
use Rattle.row_gather.specs.Words.{IsPeekedOperation, IsPeekedRecord, ArePeekedRecords, records_at, ArePeekedTo, AreWide, ArePeekedOperations, HasPeekedCalls}

-- ---- what was peeked stays

pub operation_stays : (l m : Local) → HasPeekedAll l m → (call : Call) (op : ℕ)
    → IsPeekedOperation l call op → IsPeekedOperation m call op
operation_stays l m all call op h = (all _ h.0, all _ h.1)

pub record_stays : (n : ℕ) (l m : Local) → HasPeekedAll l m → (call : Call) (r : Record)
    → IsPeekedRecord n l call r → IsPeekedRecord n m call r
record_stays n l m all call r h =
    record { reply = all _ h.reply; view = (h.view.0, λ j low. all _ (h.view.1 j low)) }

-- The operations of a book that are peeked in a local are peeked in each local that has all peeked
-- words of that one.
pub operations_stay : (l m : Local) → HasPeekedAll l m → (book : List Page)
    → ArePeekedOperations l book → ArePeekedOperations m book
operations_stay l m all book h call op e = operation_stays l m all call op (h call op e)

pub records_stay : (n : ℕ) (l m : Local) → HasPeekedAll l m → (j from count : ℕ) (rs : List Record)
    → ArePeekedRecords n l j from count rs → ArePeekedRecords n m j from count rs
records_stay n l m all j from count rs h = record {
  long = h.long;
  each =
      λ k r e. record_stays n l m all (record { caller = j; number = from + k }) r (h.each k r e);
}

-- The records that a cut holds and a book lacks, where they are peeked in a local, are peeked in
-- each local that has all peeked words of that one.
pub lists_stay : (n : ℕ) (l m : Local) → HasPeekedAll l m
    → (book : List Page) (cut : List ℕ) (callers : ℕ) (lists : List (List Record))
    → ArePeekedTo n l book cut callers lists
    → ArePeekedTo n m book cut callers lists
lists_stay n l m all book cut callers lists h =
    record {
      wide = h.wide;
      each = λ j low. records_stay n l m all j (answers_of book j) (slice_index cut j)
          (records_at lists j) (h.each j low);
    }

-- ---- one more entry of a view

-- The view has n entries, and a caller with this local has peeked the first of them, as many as
-- `count` says, in the row of M that the call has.
pub record AreEntries (n : ℕ) (l : Local) (call : Call) (count : ℕ) (view : List ℕ) : Type 0 where
  pub wide : length view ≡ n
  pub each : (j : ℕ) → j < count → HasPeeked l M call (1 + j) (slice_index view j)

pub entries_none : (n : ℕ) (l : Local) (call : Call) (view : List ℕ) → length view ≡ n
    → AreEntries n l call 0 view
entries_none n l call view wide = record { wide = wide; each = λ j low. absurd (omega arith) }

-- Where the first j entries of a view are peeked, and then entry j is peeked and set in the view,
-- the first j + 1 entries are peeked.
pub entries_more : (n : ℕ) (l m : Local) (call : Call) (j : ℕ) (view new : List ℕ) (x : ℕ)
    → HasPeekedAll l m → AreEntries n l call j view → j < n → HasPeeked m M call (1 + j) x
    → new ≡ set view j x → AreEntries n m call (j + 1) new
entries_more n l m call j view new x all h low here is =
    record {
      wide = ap length is ∙ (length-set view j x ∙ h.wide);
      each = λ i below. elim (cases_eq i j) [
        | inl same ↦
            let at : slice_index new i ≡ x =
            ap (λ (v : List ℕ). get_or v i 0) is ∙ (ap (λ (k : ℕ). get_or (set view j x) k 0) same
            ∙ get_or-set_same view j x 0 (omega (arith, h.wide))) in
            subst (λ (k : ℕ). HasPeeked m M call (1 + i) k) (sym at)
            (subst (λ (k : ℕ). HasPeeked m M call (1 + k) x) (sym same) here)
        | inr other ↦
            let at : slice_index new i ≡ slice_index view i =
            ap (λ (v : List ℕ). get_or v i 0) is ∙ get_or-set_other view j i x 0 other in
            subst (λ (k : ℕ). HasPeeked m M call (1 + i) k) (sym at)
            (all _ (h.each i (omega (arith, below, other))))
      ];
    }

-- ---- one more record, and one more caller

pub records_none : (n : ℕ) (l : Local) (j from : ℕ) (rs : List Record)
    → rs ≡ [] → ArePeekedRecords n l j from from rs
records_none n l j from rs is =
    record {
      long = omega (arith, ap (length {A = Record}) is);
      each =
          λ k r e. absurd (omega (arith, slice_get_within rs k r e, ap (length {A = Record}) is));
    }

-- Where the records of caller j with the numbers from `from` up to but not including `count` are
-- peeked, and then the one with the number `count`, those up to but not including `count + 1` are
-- peeked.
pub records_more : (n : ℕ) (l m : Local) (j from count : ℕ) (rs new : List Record) (r : Record)
    → HasPeekedAll l m → ArePeekedRecords n l j from count rs
    → IsPeekedRecord n m (record { caller = j; number = count }) r
    → new ≡ rs ++ r ∷ [] → ArePeekedRecords n m j from (count + 1) new
records_more n l m j from count rs new r all h here is =
    record {
      long = omega (arith, ap (length {A = Record}) is, length_push rs r, h.long);
      each = λ i q e.
          let e' : slice_get (rs ++ r ∷ []) i ≡ Some q =
          ap (λ (xs : List Record). slice_get xs i) (sym is) ∙ e in
          elim (slice_get-push_cases rs r i q e') [
            | inl old ↦
                record_stays n l m all (record { caller = j; number = from + i }) q (h.each i q old)
            | inr last ↦
                let at : from + i ≡ count = omega (arith, last.0, h.long) in
                subst (λ (x : ℕ). IsPeekedRecord n m (record { caller = j; number = x }) q) (sym at)
                (subst
                (λ (x : Record). IsPeekedRecord n m (record { caller = j; number = count }) x)
                (sym last.1) here)
          ];
    }

pub lists_none : (n : ℕ) (l : Local) (book : List Page) (cut : List ℕ) (lists : List (List Record))
    → lists ≡ [] → ArePeekedTo n l book cut 0 lists
lists_none n l book cut lists is =
    record { wide = ap length is; each = λ j low. absurd (omega arith) }

-- Where the records of the first j callers that the cut holds and the book lacks are peeked, and
-- then those of caller j, these records of the first j + 1 callers are peeked.
pub lists_more : (n : ℕ) (l m : Local) (book : List Page) (cut : List ℕ) (j from count : ℕ)
    (lists new : List (List Record)) (rs : List Record) → HasPeekedAll l m
    → ArePeekedTo n l book cut j lists → from ≡ answers_of book j → count ≡ slice_index cut j
    → ArePeekedRecords n m j from count rs → new ≡ lists ++ rs ∷ []
    → ArePeekedTo n m book cut (j + 1) new
lists_more n l m book cut j from count lists new rs all h first last here is =
    let mine : ArePeekedRecords n m j (answers_of book j) (slice_index cut j) rs
    = subst (λ (k : ℕ). ArePeekedRecords n m j (answers_of book j) k rs) last
    (subst (λ (k : ℕ). ArePeekedRecords n m j k count rs) first here) in
    record {
      wide = ap length is ∙ (length_push lists rs ∙ ap (λ (x : ℕ). x + 1) h.wide);
      each = λ i low. elim (cases_lt i j) [
        | inl below ↦
            let at : records_at new i ≡ records_at lists i =
            ap (λ (xs : List (List Record)). get_or xs i []) is
            ∙ get_or_append_left lists (rs ∷ []) [] i (omega (arith, below, h.wide)) in
            subst
            (λ (x : List Record). ArePeekedRecords n m i (answers_of book i) (slice_index cut i) x)
            (sym at)
            (records_stay n l m all i (answers_of book i) (slice_index cut i) (records_at lists i)
            (h.each i below))
        | inr past ↦
            let same : i ≡ j = omega (arith, low, past) in
            let at : records_at new i ≡ rs = ap (λ (xs : List (List Record)). get_or xs i []) is
            ∙ get_or_push lists rs [] i (h.wide ∙ sym same) in
            subst
            (λ (x : List Record). ArePeekedRecords n m i (answers_of book i) (slice_index cut i) x)
            (sym at)
            (subst (λ (k : ℕ). ArePeekedRecords n m k (answers_of book k) (slice_index cut k) rs)
            (sym same) mine)
      ];
    }

-- Each view of the records that a cut holds and a book lacks, where those of n callers are peeked,
-- has n entries.
pub lists_wide : (n : ℕ) (l : Local) (book : List Page) (cut : List ℕ) (lists : List (List Record))
    → ArePeekedTo n l book cut n lists → (j : ℕ) → AreWide n (records_at lists j)
lists_wide n l book cut lists h j k r e =
    elim (cases_lt j n) [
      | inl low ↦ ((h.each j low).each k r e).view.0
      | inr past ↦
          let none : records_at lists j ≡ [] =
          get_or_past lists j [] (omega (arith, past, h.wide)) in
          absurd (omega
          (arith, slice_get_within (records_at lists j) k r e, ap (length {A = Record}) none))
    ]

-- ---- the operations

-- Where two words below 2^64 are peeked in the row of a call, the operation that is joined from
-- them is peeked.
pub joined_peeked : (l : Local) (call : Call) (low high op : ℕ) → low < 2 ^ 64 → high < 2 ^ 64
    → op ≡ joined low high → HasPeeked l N call 0 low → HasPeeked l N call 1 high
    → IsPeekedOperation l call op
joined_peeked l call low high op small few is first second =
    let a : low_of op ≡ low = omega (arith, is, small) in
    let b : high_of op ≡ high = omega (arith, is, small) in (
      subst (λ (x : ℕ). HasPeeked l N call 0 x) (sym a) first,
      subst (λ (x : ℕ). HasPeeked l N call 1 x) (sym b) second,
    )

-- ---- one more call

-- With one more call of caller j, a book has one call more of j.
pub calls_of-with_call_same : (book : List Page) (j op : ℕ) → j < length book
    → calls_of (with_call book j op) j ≡ calls_of book j + 1
calls_of-with_call_same book j op low =
    let p : Page =
    record (page_of book j) { operations = (page_of book j).operations ++ op ∷ [] } in
    ap (λ (q : Page). length q.operations) (page_of-set_same book j p low)
    ∙ length_push (page_of book j).operations op

-- With one more call of caller j, a book has as many calls of each other caller as before.
pub calls_of-with_call_other : (book : List Page) (j op i : ℕ) → i ≢ j
    → calls_of (with_call book j op) i ≡ calls_of book i
calls_of-with_call_other book j op i other =
    ap (λ (q : Page). length q.operations) (page_of-set_other book j i
    (record (page_of book j) { operations = (page_of book j).operations ++ op ∷ [] }) other)

-- With one more call of one of its callers, a book has one call more.
pub sum_announced-with_call : (book : List Page) (j op : ℕ) → j < length book
    → sum (announced (with_call book j op)) ≡ sum (announced book) + 1
sum_announced-with_call book j op low =
    let size : Page → ℕ = λ p. length p.operations in
    let p : Page =
    record (page_of book j) { operations = (page_of book j).operations ++ op ∷ [] } in
    let made : announced (with_call book j op) ≡ set (announced book) j (size p) =
    map-set size book j p in
    let added : sum (set (announced book) j (size p)) + get_or (announced book) j 0
    ≡ sum (announced book) + size p
    = sum_by-set (λ (x : ℕ). x) (announced book) j (size p) 0
    (omega (arith, low, length-map book size)) in
    omega
    (arith, ap sum made, added, announced_at book j, length_push (page_of book j).operations op)

-- `HasPeekedCalls` holds of a book and itself where its operations are peeked.
pub peeked_calls_none : (l : Local) (book : List Page) → ArePeekedOperations l book
    → HasPeekedCalls l book book
peeked_calls_none l book h = record { callers = refl; records = λ i. refl; operations = h }

-- `HasPeekedCalls` holds of a first book and a second one also after the second got one more call
-- whose operation is peeked.
pub peeked_calls_more : (l m : Local) (j op : ℕ) (book other new : List Page) → HasPeekedAll l m
    → HasPeekedCalls l book other → j < length book
    → IsPeekedOperation m (record { caller = j; number = calls_of other j }) op
    → new ≡ with_call other j op → HasPeekedCalls m book new
peeked_calls_more l m j op book other new all h low here is =
    let p : Page =
    record (page_of other j) { operations = (page_of other j).operations ++ op ∷ [] } in
    let inside : j < length other = omega (arith, low, h.callers) in
    let made : HasPeekedCalls m book (with_call other j op)
    = record {
      callers = length-set other j p ∙ h.callers;
      records = λ i. records-with_call other j op i inside ∙ h.records i;
      operations = λ call x e. elim (cases_eq call.caller j) [
        | inl same ↦
            let e' : slice_get ((page_of other j).operations ++ op ∷ []) call.number ≡ Some x
            = sym
            (ap (λ (i : ℕ). slice_get (page_of (with_call other j op) i).operations call.number)
            same ∙ ap (λ (q : Page). slice_get q.operations call.number)
            (page_of-set_same other j p inside)) ∙ e in
            elim (slice_get-push_cases (page_of other j).operations op call.number x e') [
              | inl old ↦
                  operation_stays l m all call x (h.operations call x
                  (ap (λ (i : ℕ). slice_get (page_of other i).operations call.number) same ∙ old))
              | inr last ↦
                  subst (λ (c : Call). IsPeekedOperation m c x) (same_call
                  (record { caller = j; number = calls_of other j }) call (sym same) (sym last.0))
                  (subst (IsPeekedOperation m (record { caller = j; number = calls_of other j }))
                  (sym last.1) here)
            ]
        | inr away ↦
            operation_stays l m all call x
            (h.operations call x (sym (ap (λ (q : Page). slice_get q.operations call.number)
            (page_of-set_other other j call.caller p away)) ∙ e))
      ];
    } in
    subst (HasPeekedCalls m book) (sym is) made

-- Where `HasPeekedCalls` holds of a first book and a second one, and of the second and a third, it
-- holds of the first and the third.
pub peeked_calls_then : (l m : Local) (a b c : List Page) → HasPeekedCalls l a b
    → HasPeekedCalls m b c → HasPeekedCalls m a c
peeked_calls_then l m a b c one two = record {
  callers = two.callers ∙ one.callers;
  records = λ i. two.records i ∙ one.records i;
  operations = two.operations;
}
