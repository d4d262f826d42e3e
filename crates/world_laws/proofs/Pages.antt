-- The pages of a book of locals, by what their locals have.
use Rattle.std.proofs.Common.{◌≡◌, ℕ, zero, suc, ◌+◌, ◌-◌, ◌<◌, ◌≤◌, nat_lt, List, [], ◌∷◌, ◌++◌, length, map, cond, Some, slice_get, slice_index, slice_index_or, refl, sym, ap, ◌∙◌, arith, inl, inr}
use Rattle.std.specs.List.{range_with_len, flat_map}
use Rattle.std.proofs.lemmas.Bool.{cases_lt, lt-ltb, le-ltb}
use Rattle.std.proofs.lemmas.List.Folds.{flat_map-map}
use Rattle.std.proofs.lemmas.List.FromFn.{length-map-range_with_len, get_or-map-range_with_len}
use Rattle.std.proofs.lemmas.Option.{slice_get_past, slice_get-get_or, slice_get_within, same_Some}
use Rattle.std.proofs.lemmas.Simd.{map-map}
use Rattle.list_laws.proofs.Prefixes.{same_from_places}
use Rattle.book_base.specs.declared.call.Call.{Call}
use Rattle.book_base.specs.declared.call.Record.{Record}
use Rattle.book_base.specs.Book.{Page, page_of, calls_of, answers_of, operation_of, record_of}
use Rattle.world_core.specs.Local.{Phase, Announcing, Asking, Viewing, Publishing, Judging, Local}
use Rattle.world_core.specs.Agreement.{HasPhase, unpublished_calls, unpublished_replies, unpublished_views}
use Rattle.world_core.specs.Calls.{Made, Is_announced, Has_record, Has_seen, record_in, reached_in, call_in, calls_in, records_of, page_with, book_in, local_at}

-- the item that is made for a number below another is at that number's place
pub slice_get-made : {X : Type 0} (f : ℕ → X) (n k : ℕ) → k < n
    → slice_get (map f (range_with_len 0 n)) k ≡ Some (f k)
slice_get-made f n k low =
    slice_get-get_or (map f (range_with_len 0 n)) k (f k)
    (omega (arith, length-map-range_with_len f 0 n))
    ∙ ap Some (get_or-map-range_with_len f 0 n k k (f k) low (omega arith))

-- the items of a list, by number, are the list
map-slice_index : (xs : List ℕ) → map (λ k. slice_index xs k) (range_with_len 0 (length xs)) ≡ xs
map-slice_index xs =
    same_from_places (map (λ k. slice_index xs k) (range_with_len 0 (length xs))) xs
    (λ k. elim (cases_lt k (length xs)) [
      | inl low ↦ slice_get-made (λ i. slice_index xs i) (length xs) k low
          ∙ sym (slice_get-get_or xs k 0 low)
      | inr past ↦
          slice_get_past (map (λ i. slice_index xs i) (range_with_len 0 (length xs))) k
          (omega (arith, length-map-range_with_len (λ i. slice_index xs i) 0 (length xs)))
          ∙ sym (slice_get_past xs k past)
    ])

-- where the numbers below m make one item each, and the others none, the first m numbers make the
-- list
flat_map-below : {X : Type 0} (f : ℕ → List X) (g : ℕ → X) (m : ℕ)
    → ((k : ℕ) → k < m → f k ≡ g k ∷ []) → ((k : ℕ) → m ≤ k → f k ≡ [])
    → (a n : ℕ) → m ≤ a + n → flat_map f (range_with_len a n) ≡ map g (range_with_len a (m - a))
flat_map-below f g m one none a zero few =
    let nothing : m - a ≡ 0 = omega arith in
    ap (λ (k : ℕ). map g (range_with_len a k)) (sym nothing)
flat_map-below f g m one none a (suc n) few =
    let rest = flat_map-below f g m one none (a + 1) n (omega arith) in
    elim (cases_lt a m) [
      | inl low ↦
          let more : m - a ≡ suc (m - (a + 1)) = omega arith in
          ap (λ (xs : List _). xs ++ flat_map f (range_with_len (a + 1) n)) (one a low)
          ∙ ap (λ (xs : List _). g a ∷ xs) rest
          ∙ ap (λ (k : ℕ). map g (range_with_len a k)) (sym more)
      | inr past ↦
          let nothing : m - a ≡ 0 = omega arith in
          let none_left : m - (a + 1) ≡ 0 = omega arith in
          ap (λ (xs : List _). xs ++ flat_map f (range_with_len (a + 1) n)) (none a past)
          ∙ rest
          ∙ ap (λ (k : ℕ). map g (range_with_len (a + 1) k)) none_left
          ∙ ap (λ (k : ℕ). map g (range_with_len a k)) (sym nothing)
    ]

-- How many views and seen cuts a local has.
pub record HasLengths (l : Local) : Type 0 where
  pub operations : length l.operations ≡ l.announced
  pub calls : length l.views ≤ length l.operations
  pub replies : length l.views ≤ length l.replies
  pub seen : length l.seen ≤ length l.views
  pub published : l.published ≤ length l.views
  pub one : l.announced ≤ l.published + 1

unpublished : (f : Phase) → (unpublished_views f ≤ unpublished_calls f)
    × (unpublished_views f ≤ unpublished_replies f) × (unpublished_calls f ≤ 1)
unpublished Announcing = (omega arith, omega arith, omega arith)
unpublished Asking = (omega arith, omega arith, omega arith)
unpublished Viewing = (omega arith, omega arith, omega arith)
unpublished Publishing = (omega arith, omega arith, omega arith)
unpublished Judging = (omega arith, omega arith, omega arith)

pub lengths : (l : Local) → HasPhase l → HasLengths l
lengths l h =
    let few = unpublished l.phase in
    record {
      operations = h.operations;
      calls = omega (arith, h.operations, h.announced, h.views, few.0);
      replies = omega (arith, h.replies, h.views, few.1);
      seen = omega (arith, h.seen, h.views);
      published = omega (arith, h.views);
      one = omega (arith, h.announced, few.2);
    }

-- The page of a caller.
pub page_in : (locals : List Local) (i : ℕ)
    → page_of (book_in locals) i ≡ page_with (calls_in (local_at locals i))
page_in [] i = refl
page_in (l ∷ ls) zero = refl
page_in (l ∷ ls) (suc i) = page_in ls i

pub operations_with : (l : Local) → (page_with (calls_in l)).operations ≡ l.operations
operations_with l = map-map (λ (c : Made). c.operation) (λ k. call_in l k)
    (range_with_len 0 (length l.operations)) ∙ map-slice_index l.operations

recorded : (l : Local) → length l.seen ≤ length l.views → (k : ℕ) → k < length l.views
    → records_of (reached_in l k) ≡ record_in l k ∷ []
recorded l few k low =
    elim (cases_lt k (length l.seen)) [
      | inl seen ↦
          ap (λ b. records_of (cond b (Has_seen (record_in l k) (slice_index_or l.seen k []))
          (cond (nat_lt k (length l.views)) (Has_record (record_in l k)) Is_announced)))
          (lt-ltb k (length l.seen) seen)
      | inr unseen ↦
          ap (λ b. records_of (cond b (Has_seen (record_in l k) (slice_index_or l.seen k []))
          (cond (nat_lt k (length l.views)) (Has_record (record_in l k)) Is_announced)))
          (le-ltb k (length l.seen) unseen)
          ∙ ap (λ b. records_of (cond b (Has_record (record_in l k)) Is_announced))
          (lt-ltb k (length l.views) low)
    ]

unrecorded : (l : Local) → length l.seen ≤ length l.views → (k : ℕ) → length l.views ≤ k
    → records_of (reached_in l k) ≡ []
unrecorded l few k past =
    ap (λ b. records_of (cond b (Has_seen (record_in l k) (slice_index_or l.seen k []))
    (cond (nat_lt k (length l.views)) (Has_record (record_in l k)) Is_announced)))
    (le-ltb k (length l.seen) (omega arith))
    ∙ ap (λ b. records_of (cond b (Has_record (record_in l k)) Is_announced))
    (le-ltb k (length l.views) past)

pub records_with : (l : Local) → HasLengths l → (page_with (calls_in l)).records
    ≡ map (λ k. record_in l k) (range_with_len 0 (length l.views))
records_with l h =
    flat_map-map (λ (c : Made). records_of c.reached) (λ k. call_in l k)
    (range_with_len 0 (length l.operations))
    ∙ flat_map-below (λ k. records_of (reached_in l k)) (λ k. record_in l k) (length l.views)
    (recorded l h.seen) (unrecorded l h.seen) 0 (length l.operations) (omega (arith, h.calls))
    ∙ ap (λ n. map (λ k. record_in l k) (range_with_len 0 n))
    (let same : length l.views - 0 ≡ length l.views = omega arith in same)

-- The book of locals of which each has its lengths, call by call.
module _ (locals : List Local) (h : (i : ℕ) → HasLengths (local_at locals i)) where
  pub calls_in_book : (i : ℕ) → calls_of (book_in locals) i ≡ length (local_at locals i).operations
  calls_in_book i = ap (λ (p : Page). length p.operations) (page_in locals i)
      ∙ ap length (operations_with (local_at locals i))

  pub operation_in_book : (call : Call) → operation_of (book_in locals) call
      ≡ slice_get (local_at locals call.caller).operations call.number
  operation_in_book call =
      ap (λ (p : Page). slice_get p.operations call.number) (page_in locals call.caller)
      ∙ ap (λ (ops : List ℕ). slice_get ops call.number)
      (operations_with (local_at locals call.caller))

  pub records_in_book : (i : ℕ) → (page_of (book_in locals) i).records ≡ map
      (λ k. record_in (local_at locals i) k) (range_with_len 0 (length (local_at locals i).views))
  records_in_book i =
      ap (λ (p : Page). p.records) (page_in locals i) ∙ records_with (local_at locals i) (h i)

  pub answers_in_book : (i : ℕ) → answers_of (book_in locals) i ≡ length (local_at locals i).views
  answers_in_book i =
      ap (λ (rs : List Record). length rs) (records_in_book i)
      ∙ length-map-range_with_len (λ k. record_in (local_at locals i) k) 0
      (length (local_at locals i).views)

  pub record_in_book : (call : Call) → call.number < length (local_at locals call.caller).views
      → record_of (book_in locals) call ≡ Some (record_in (local_at locals call.caller) call.number)
  record_in_book call low =
      ap (λ (rs : List Record). slice_get rs call.number) (records_in_book call.caller)
      ∙ slice_get-made (λ k. record_in (local_at locals call.caller) k)
      (length (local_at locals call.caller).views) call.number low

  -- each record of the book is that of its call
  pub from_record : (call : Call) (r : Record) → record_of (book_in locals) call ≡ Some r
      → (call.number < length (local_at locals call.caller).views)
      × (r ≡ record_in (local_at locals call.caller) call.number)
  from_record call r e =
      let low : call.number < length (local_at locals call.caller).views = omega (
        arith,
        slice_get_within (page_of (book_in locals) call.caller).records call.number r e,
        answers_in_book call.caller,
      ) in (
        low,
        same_Some r (record_in (local_at locals call.caller) call.number)
            (sym e ∙ record_in_book call low),
      )
