-- Which worked books of a single answered call are gathered, and which aren't, by the part that
-- fails.
use Rattle.std.proofs.Common.{◌≡◌, ℕ, zero, suc, ◌+◌, ◌<◌, List, [], ◌∷◌, length, Some, slice_index, refl, subst, ap, arith}
use Rattle.std.proofs.lemmas.Option.{same_Some, none-some}
use Rattle.book_base.specs.declared.call.Call.{Call}
use Rattle.book_base.specs.declared.call.Record.{Record}
use Rattle.book_base.specs.OperationWord.{low_of, high_of}
use Rattle.book_base.specs.Book.{IsCall, answers_of, operation_of, record_of}
use Rattle.book_base.specs.BookAt.{IsHeldBySomeView}
use Rattle.world_core.specs.declared.region.Region.TheVariants.{N, M}
use Rattle.world_core.specs.Local.{Local, Peeked}
use Rattle.world_core.specs.History.{call_of}
use Rattle.world_core.specs.Calls.{HasPeeked, IsGathered}
use Rattle.world_examples.specs.Parts.{low_peek, high_peek, reply_peek, entry_peek, lacking_none, lacking_low, lacking_high, lacking_reply, lacking_entry, operation_alone, book_alone, book_of_another, book_unheld, book_lacking, book_too_wide}
use Rattle.world_examples.proofs.Peeking.{absent}

abbrev gatherer : Local
gatherer = lacking_none 1

abbrev answer : List ℕ → Record
answer view = record { reply = 50; view = view }

-- what holds of the one record of `book_alone`, with its call, holds of each record that the book
-- has
each_record : (P : Call → Record → Type 0) → P (call_of 0 0) (answer (1 ∷ []))
    → (i k : ℕ) (r : Record) → record_of book_alone (call_of i k) ≡ Some r → P (call_of i k) r
each_record P x zero zero r e = subst (P (call_of 0 0)) (same_Some (answer (1 ∷ [])) r e) x
each_record P x zero (suc k) r e = absurd (none-some r e)
each_record P x (suc i) k r e = absurd (none-some r e)

-- what holds of the one operation of `book_alone`, with its call, holds of each operation that the
-- book has
each_operation : (P : Call → ℕ → Type 0) → P (call_of 0 0) operation_alone
    → (i k op : ℕ) → operation_of book_alone (call_of i k) ≡ Some op → P (call_of i k) op
each_operation P x zero zero op e = subst (P (call_of 0 0)) (same_Some operation_alone op e) x
each_operation P x zero (suc k) op e = absurd (none-some op e)
each_operation P x (suc i) k op e = absurd (none-some op e)

answers : (i : ℕ) → i < 1 → answers_of book_alone i ≡ slice_index (1 ∷ []) i
answers zero low = refl
answers (suc i) low = absurd (omega (arith, low))

-- each call of `book_alone` is one that the view 1 holds
called : (i k : ℕ) → IsCall book_alone (call_of i k) → k < slice_index (1 ∷ []) i
called zero k low = low
called (suc i) k low = low

-- each call that the view 1 holds is a call of `book_alone`
is_call : (i k : ℕ) → k < slice_index (1 ∷ []) i → IsCall book_alone (call_of i k)
is_call zero k low = low
is_call (suc i) k low = low

viewed : (i k : ℕ) (r : Record) → record_of book_alone (call_of i k) ≡ Some r → r.view ≡ 1 ∷ []
viewed i k r e = each_record (λ c q. q.view ≡ 1 ∷ []) refl i k r e

entries : (j : ℕ) → j < 1 → HasPeeked gatherer M (call_of 0 0) (1 + j) (slice_index (1 ∷ []) j)
entries zero low = (3, omega arith, refl)
entries (suc j) low = absurd (omega (arith, low))

-- a caller that has peeked all words of `book_alone` has gathered this book at the cut 1
pub gathered : IsGathered 1 gatherer (1 ∷ []) book_alone
gathered =
    record {
      callers = refl;
      records = answers;
      calls = λ call. (
        λ (h : IsCall book_alone call).
            (call_of 0 0, answer (1 ∷ []), omega arith, refl, called call.caller call.number h),
        λ (h : IsHeldBySomeView book_alone (1 ∷ []) call).
            is_call call.caller call.number
            (subst (λ (v : List ℕ). call.number < slice_index v call.caller)
            (viewed h.0.caller h.0.number h.1 h.3) h.4),
      );
      operations = λ call op e.
          each_operation
          (λ c o. HasPeeked gatherer N c 0 (low_of o) × HasPeeked gatherer N c 1 (high_of o))
          ((0, omega arith, refl), (1, omega arith, refl)) call.caller call.number op e;
      replies = λ call r e. each_record (λ c q. HasPeeked gatherer M c 0 q.reply)
          (2, omega arith, refl) call.caller call.number r e;
      views = λ call r e.
          each_record (λ c q. (length q.view ≡ 1)
          × ((j : ℕ) → j < 1 → HasPeeked gatherer M c (1 + j) (slice_index q.view j)))
          (refl, entries) call.caller call.number r e;
    }

-- two peeks of different words are different
other : (p q : Peeked) → (p.word ≡ q.word → ⊥) → p ≡ q → ⊥
other p q apart e = apart (ap (λ (r : Peeked). r.word) e)

-- a caller that hasn't peeked the low word of the operation hasn't gathered the book
pub lacks_low : IsGathered 1 lacking_low (1 ∷ []) book_alone → ⊥
lacks_low g =
    absent lacking_low.peeked low_peek (
      other high_peek low_peek (λ (e : 7 ≡ 5). omega (arith, e)),
      (
        other reply_peek low_peek (λ (e : 50 ≡ 5). omega (arith, e)),
        (other (entry_peek 1) low_peek (λ (e : 1 ≡ 5). omega (arith, e)), tt),
      ),
    )
    (g.operations (call_of 0 0) operation_alone refl).0

-- a caller that hasn't peeked the high word of the operation hasn't gathered the book
pub lacks_high : IsGathered 1 lacking_high (1 ∷ []) book_alone → ⊥
lacks_high g =
    absent lacking_high.peeked high_peek (
      other low_peek high_peek (λ (e : 5 ≡ 7). omega (arith, e)),
      (
        other reply_peek high_peek (λ (e : 50 ≡ 7). omega (arith, e)),
        (other (entry_peek 1) high_peek (λ (e : 1 ≡ 7). omega (arith, e)), tt),
      ),
    )
    (g.operations (call_of 0 0) operation_alone refl).1

-- a caller that hasn't peeked the reply hasn't gathered the book
pub lacks_reply : IsGathered 1 lacking_reply (1 ∷ []) book_alone → ⊥
lacks_reply g =
    absent lacking_reply.peeked reply_peek (
      other low_peek reply_peek (λ (e : 5 ≡ 50). omega (arith, e)),
      (
        other high_peek reply_peek (λ (e : 7 ≡ 50). omega (arith, e)),
        (other (entry_peek 1) reply_peek (λ (e : 1 ≡ 50). omega (arith, e)), tt),
      ),
    )
    (g.replies (call_of 0 0) (answer (1 ∷ [])) refl)

-- a caller that hasn't peeked the view's entry hasn't gathered the book
pub lacks_entry : IsGathered 1 lacking_entry (1 ∷ []) book_alone → ⊥
lacks_entry g =
    absent lacking_entry.peeked (entry_peek 1) (
      other low_peek (entry_peek 1) (λ (e : 5 ≡ 1). omega (arith, e)),
      (
        other high_peek (entry_peek 1) (λ (e : 7 ≡ 1). omega (arith, e)),
        (other reply_peek (entry_peek 1) (λ (e : 50 ≡ 1). omega (arith, e)), tt),
      ),
    )
    ((g.views (call_of 0 0) (answer (1 ∷ [])) refl).1 0 (omega arith))

-- a book of two pages isn't gathered where there is one caller
pub of_another : IsGathered 1 gatherer (1 ∷ []) book_of_another → ⊥
of_another g = let long : 2 ≡ 1 = g.callers in omega (arith, long)

-- a book with one record isn't gathered at the cut 2
pub other_cut : IsGathered 1 gatherer (2 ∷ []) book_alone → ⊥
other_cut g = let counts : 1 ≡ 2 = g.records 0 (omega arith) in omega (arith, counts)

-- the view of each record of `book_unheld` is 1, and so holds the first call alone
view_of_one : (i k : ℕ) (r : Record) → record_of book_unheld (call_of i k) ≡ Some r
    → r.view ≡ 1 ∷ []
view_of_one zero zero r e =
    subst (λ (q : Record). q.view ≡ 1 ∷ []) (same_Some (answer (1 ∷ [])) r e) refl
view_of_one zero (suc k) r e = absurd (none-some r e)
view_of_one (suc i) k r e = absurd (none-some r e)

-- a book with a second call, which no view holds, isn't gathered
pub unheld : IsGathered 1 gatherer (1 ∷ []) book_unheld → ⊥
unheld g =
    let (call, r, holds, is, held) = (g.calls (call_of 0 1)).0 (omega arith) in
    let low : 1 < 1 =
    subst (λ (v : List ℕ). 1 < slice_index v 0) (view_of_one call.caller call.number r is) held in
    omega (arith, low)

-- a book without a second call, which its view holds, isn't gathered
pub lacking : IsGathered 1 (lacking_none 2) (1 ∷ []) book_lacking → ⊥
lacking g =
    let low : 1 < 1 =
    (g.calls (call_of 0 1)).1 (call_of 0 0, answer (2 ∷ []), omega arith, refl, omega arith) in
    omega (arith, low)

-- a book with a view of two counts isn't gathered where there is one caller
pub too_wide : IsGathered 1 gatherer (1 ∷ []) book_too_wide → ⊥
too_wide g = let wide : 2 ≡ 1 = (g.views (call_of 0 0) (answer (1 ∷ 0 ∷ [])) refl).0 in
    omega (arith, wide)
