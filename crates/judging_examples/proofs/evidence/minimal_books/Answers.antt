use Rattle.std.proofs.Common.{◌≡◌, ℕ, zero, suc, ◌<◌, Bool, true, false, List, [], ◌∷◌, get_or, Some, None, refl, sym, ap, subst, inl, arith}
use Rattle.std.specs.Prelude.{if◌then◌else◌}
use Rattle.std.proofs.lemmas.Option.{same_Some, none-some}
use Rattle.book_base.specs.declared.call.Call.{Call}
use Rattle.book_base.specs.declared.call.Record.{Record}
use Rattle.book_base.specs.SeqSpec.{SeqSpec}
use Rattle.book_base.specs.Cut.{IsWithin}
use Rattle.book_base.specs.Book.{calls_of, answered, record_of}
use Rattle.book_base.specs.Order.{HasLegalOrder}
use Rattle.book_base.proofs.ViewLemmas.{same_call}
use Rattle.judging_examples.specs.Books.{answer}
use Rattle.seq_objects.specs.declared.kind.Kind.TheVariants as kinds
use Rattle.seq_objects.specs.Words.{enq, deq, inc, read, is_known_word, entry_of, entries}
use Rattle.seq_objects.specs.Replies.{reply_value, reply_done}
use Rattle.seq_objects.specs.Objects.{kind_next, kind_spec}
use Rattle.judging_examples.specs.Runs.{operation}
use Rattle.smaller_book.specs.ReadOnly.{IsReadOnly}
use Rattle.smaller_book.specs.Earliest.{IsEarliest}
use Rattle.smaller_book.specs.Keys.{key_of_call}
use Rattle.smaller_book.specs.Minimal.{HasOneWith, IsKeyNeeded}
use Rattle.judging_examples.specs.EvidenceBooks.{one_miscount, two_miscounts, needless_read, needless_put}
use Rattle.smaller_book.proofs.LoneCalls.{first_call, HasNoOther, CountItself, lone_caller, lone_view, lone_reply, empty_is_legal, lone_is_legal, lone_caller_is_earliest, lone_without_first}
use Rattle.judging_examples.proofs.EvidenceBooks.{first_record, second_record, two_count_themselves, two_have_one_open, read_leaves, take_stays}
use Rattle.judging_examples.proofs.evidence.minimal_books.Goals as goal

-- ---- one wrong reply

-- The only record of `one_miscount`.
abbrev miscount : Record
miscount = answer (reply_value 1) (1 ∷ [])

one_counts_itself : CountItself (miscount ∷ [])
one_counts_itself zero r e = subst (λ (s : Record). s.view ≡ 1 ∷ []) (same_Some miscount r e) refl
one_counts_itself (suc k) r e = absurd (none-some r e)

no_calls : (i k : ℕ) → k < calls_of (lone_caller [] []) i → ⊥
no_calls zero k less = omega (arith, less)
no_calls (suc i) k less = omega (arith, less)

no_records : (i k : ℕ) (r : Record)
    → record_of (lone_caller [] []) (record { caller = i; number = k }) ≡ Some r → ⊥
no_records zero k r e = none-some r e
no_records (suc i) k r e = none-some r e

held_by_first : (i k : ℕ) → k < calls_of one_miscount i → k < get_or (1 ∷ []) i 0
held_by_first zero k less = less
held_by_first (suc i) k less = absurd (omega (arith, less))

one_is_earliest : IsEarliest (kind_spec kinds.Counter) one_miscount
one_is_earliest =
    lone_caller_is_earliest (kind_spec kinds.Counter) (operation inc 0 ∷ []) (miscount ∷ []) 0
    (omega arith) one_counts_itself refl
    (empty_is_legal (kind_spec kinds.Counter) (lone_caller [] [])
    (λ call less. no_calls call.caller call.number less)
    (λ call r e. no_records call.caller call.number r e))
    (λ call less. (first_call, miscount, refl, held_by_first call.caller call.number less))

not_read_only : (i k : ℕ)
    → IsReadOnly (kind_next kinds.Counter) one_miscount (record { caller = i; number = k }) → ⊥
unfolding kind_next
not_read_only zero zero leaves =
    let same : ◌≡◌ {A = List ℕ} (2 ∷ []) (1 ∷ []) =
    leaves.1 (reply_value 1) (λ r e. sym (ap (λ (s : Record). s.reply) (same_Some miscount r e)))
    (1 ∷ []) refl in
    let apart : ◌≡◌ {A = ℕ} 2 1 = ap (λ (xs : List ℕ). get_or xs 0 0) same in
    omega (arith, apart)
not_read_only zero (suc k) leaves = omega (arith, leaves.0)
not_read_only (suc i) k leaves = omega (arith, leaves.0)

no_key : (is_known : Bool) (key : ℕ) → (if is_known then None else None) ≡ Some key → ⊥
no_key true key e = none-some key e
no_key false key e = none-some key e

pub returns-clause-wrong_reply : goal.returns-clause-wrong_reply
returns-clause-wrong_reply c = record {
  earliest = one_is_earliest;
  read_only = λ call leaves. absurd (not_read_only call.caller call.number leaves);
  keys = λ one call key inside e. absurd (no_key _ key e);
}

-- ---- two wrong replies, and a call that no view holds

only_call : (i k : ℕ) → k < calls_of one_miscount i → (i ≡ 0) × (k ≡ 0)
only_call zero k less = (refl, omega (arith, less))
only_call (suc i) k less = absurd (omega (arith, less))

one_has_no_other : HasNoOther one_miscount
one_has_no_other call inside =
    let at = only_call call.caller call.number inside in
    same_call call first_call at.0 at.1

one_is_illegal : HasLegalOrder (kind_spec kinds.Counter) one_miscount → ⊥
unfolding kind_next
one_is_illegal legal =
    let same : ◌≡◌ {A = ℕ} (reply_value 0) (reply_value 1) =
    lone_reply (kind_spec kinds.Counter) one_miscount miscount one_has_no_other refl legal in
    omega (arith, same)

first_of_two : IsWithin (1 ∷ []) (answered two_miscounts)
first_of_two zero = omega arith
first_of_two (suc i) = omega arith

two_are_late : ¬ IsEarliest (kind_spec kinds.Counter) two_miscounts
two_are_late early =
    one_is_illegal (early.earlier (1 ∷ []) 0 first_of_two (omega arith) (inl (omega arith)))

pub returns-clause-later_reply : goal.returns-clause-later_reply
returns-clause-later_reply c = (two_are_late, λ minimal. two_are_late minimal.earliest)

pub returns-clause-unheld : goal.returns-clause-unheld
returns-clause-unheld c early =
    let held = early.held (record { caller = 0; number = 1 }) (omega arith) in
    let it = lone_view (operation inc 0 ∷ operation inc 0 ∷ []) (miscount ∷ []) one_counts_itself
    held.0.caller held.0.number held.1 held.2 in
    omega (arith, held.3, ap (λ (v : List ℕ). get_or v 0 0) it.1, it.2)

-- ---- a read and a put that aren't needed

held_by_second : (v w : ℕ) (records : List Record) (i k : ℕ)
    → k < calls_of (lone_caller (v ∷ w ∷ []) records) i → k < get_or (2 ∷ []) i 0
held_by_second v w records zero k less = less
held_by_second v w records (suc i) k less = absurd (omega (arith, less))

lone_record : (v a : ℕ) (i k : ℕ) (r : Record) → record_of
    (lone_caller (v ∷ []) (first_record a ∷ [])) (record { caller = i; number = k }) ≡ Some r
    → (◌≡◌ {A = Call} (record { caller = i; number = k }) first_call) × (r ≡ first_record a)
lone_record v a zero zero r e = (refl, sym (same_Some (first_record a) r e))
lone_record v a zero (suc k) r e = absurd (none-some r e)
lone_record v a (suc i) k r e = absurd (none-some r e)

-- A book of two calls of one caller, of which the first is answered as the object answers it, is
-- earliest.
two_are_earliest : (spec : SeqSpec) (v w a b : ℕ) → (spec.next spec.init v).1 ≡ a
    → IsEarliest spec (lone_caller (v ∷ w ∷ []) (first_record a ∷ second_record b ∷ []))
two_are_earliest spec v w a b replies =
    lone_caller_is_earliest spec (v ∷ w ∷ []) (first_record a ∷ second_record b ∷ []) 1
    (omega arith) (two_count_themselves a b) refl
    (lone_is_legal spec (lone_caller (v ∷ []) (first_record a ∷ [])) (first_record a) (omega arith)
    (λ call r e. lone_record v a call.caller call.number r e) (omega arith) replies)
    (λ call less. (
      record { caller = 0; number = 1 },
      second_record b,
      refl,
      held_by_second v w _ call.caller call.number less,
    ))

read_replies : (kind_next kinds.Register (0 ∷ []) (operation read 0)).1 ≡ reply_value 0
unfolding kind_next
read_replies = refl

six_is_unread : (kind_next kinds.Register (0 ∷ []) (operation read 0)).1 ≡ reply_value 6 → ⊥
unfolding kind_next
six_is_unread same = omega (arith, same)

pub returns-clause-needless_read : goal.returns-clause-needless_read
returns-clause-needless_read c = (
  two_are_earliest (kind_spec kinds.Register) (operation read 0) (operation read 0) (reply_value 0)
      (reply_value 6) read_replies,
  λ minimal. six_is_unread (lone_without_first kinds.Register needless_read
      (second_record (reply_value 6)) refl (minimal.read_only first_call read_leaves)),
)

put_replies : (kind_next kinds.Queue [] (operation enq 5)).1 ≡ reply_done
unfolding kind_next
put_replies = refl

six_is_untaken : (kind_next kinds.Queue [] (operation deq 0)).1 ≡ reply_value 6 → ⊥
unfolding kind_next
six_is_untaken same = omega (arith, same)

put_has_key : key_of_call kinds.Queue needless_put first_call ≡ Some 5
unfolding is_known_word entry_of entries
put_has_key = refl

pub returns-clause-needless_put : goal.returns-clause-needless_put
returns-clause-needless_put c = (
  two_are_earliest (kind_spec kinds.Queue) (operation enq 5) (operation deq 0) reply_done
      (reply_value 6) put_replies,
  λ minimal.
      let needed : IsKeyNeeded kinds.Queue needless_put 5 =
      minimal.keys (two_have_one_open (operation enq 5) (operation deq 0)
      reply_done (reply_value 6)) first_call 5 (omega arith) put_has_key in
      six_is_untaken (lone_without_first kinds.Queue needless_put (second_record (reply_value 6))
      refl (subst (HasOneWith kinds.Queue needless_put) take_stays needed)),
)
