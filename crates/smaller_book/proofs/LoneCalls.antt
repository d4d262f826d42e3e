-- Books of one call or of none, and their legal orders.
use Rattle.std.proofs.Common.{◌≡◌, ℕ, zero, suc, ◌+◌, ◌<◌, ◌≤◌, ◌∙◌, List, [], ◌∷◌, length, get_or, slice_get, map, unwrap_or, Option, Some, refl, sym, ap, subst, inl, inr, arith}
use Rattle.std.proofs.lemmas.Bool.{cases_lt}
use Rattle.std.proofs.lemmas.Option.{same_Some, none-some, slice_get_within}
use Rattle.book_base.specs.declared.call.Call.{Call}
use Rattle.book_base.specs.declared.call.Place.{Place}
use Rattle.book_base.specs.declared.call.Record.{Record}
use Rattle.book_base.specs.SeqSpec.{SeqSpec}
use Rattle.book_base.specs.Cut.{IsWithin, AreComparable}
use Rattle.book_base.specs.Book.{Page, page_of, calls_of, answers_of, answered, IsCall, IsAnswered, record_of, IsValid, Precedes}
use Rattle.book_base.specs.BookAt.{book_at}
use Rattle.book_base.specs.Sequential.{IsRunFrom}
use Rattle.book_base.specs.Order.{call_at, StandsAt, step_at, HasLegalOrder}
use Rattle.book_base.proofs.ViewLemmas.{same_call, answer_stands}
use Rattle.legal_orders.specs.BooksAtCuts.{IsHeldByAView}
use Rattle.legal_orders.proofs.LegalOrder.{same_place}
use Rattle.legal_orders.proofs.BookAtLaws.{smaller_has_one}
use Rattle.seq_objects.specs.declared.kind.Kind.{Kind}
use Rattle.seq_objects.specs.Objects.{kind_next, kind_spec}
use Rattle.smaller_book.specs.Part.{numbers_of, IsPart}
use Rattle.smaller_book.specs.Earliest.{IsEarliest}
use Rattle.smaller_book.specs.Minimal.{HasOneWith}
use Rattle.smaller_book.proofs.Following.{some_that, record_was, word_at}

-- The first call of the first caller.
abbrev pub first_call : Call
first_call = record { caller = 0; number = 0 }

-- The place of the first call of the first caller, with a reply.
abbrev pub first_place : ℕ → Place
first_place reply = record { caller = 0; number = 0; reply = reply }

-- A book has at most one call, the first one of caller 0.
abbrev pub HasNoOther : List Page → Type 0
HasNoOther book = (call : Call) → IsCall book call → call ≡ first_call

-- The replies of a legal run to its first step are those of the object.
first_reply : (spec : SeqSpec) (book : List Page) (order : List Place) (k : ℕ) (place : Place)
    → IsRunFrom spec.next spec.init (map (step_at book) order) → slice_get order k ≡ Some place
    → k ≡ 0 → (spec.next spec.init (word_at book (call_at place))).1 ≡ place.reply
first_reply spec book [] k place run at first = absurd (none-some place at)
first_reply spec book (one ∷ rest) zero place run at first =
    let same : one ≡ place = same_Some one place at in
    subst (λ (p : Place). (spec.next spec.init (word_at book (call_at p))).1 ≡ p.reply) same run.0
first_reply spec book (one ∷ rest) (suc k) place run at first = absurd (omega (arith, first))

-- The first place of an order that has a place at all.
a_first_place : (order : List Place) (k : ℕ) (place : Place) → slice_get order k ≡ Some place
    → (head : Place) × (slice_get order 0 ≡ Some head)
a_first_place [] k place at = absurd (none-some place at)
a_first_place (head ∷ rest) k place at = (head, refl)

-- Where a book with no other call than the first one has a legal order, and this call is answered,
-- its reply is the one that the object gives to it at once.
pub lone_reply : (spec : SeqSpec) (book : List Page) (r : Record) → HasNoOther book
    → record_of book first_call ≡ Some r → HasLegalOrder spec book
    → (spec.next spec.init (word_at book first_call)).1 ≡ r.reply
lone_reply spec book r lone known (order, legal) =
    let there = legal.answered first_call r known in
    let k : ℕ = there.0 in
    let place : Place = first_place r.reply in
    let head = a_first_place order k place there.1 in
    let stands : StandsAt order 0 (call_at head.0) = (head.0, head.1, refl) in
    let only : call_at head.0 ≡ first_call =
    lone (call_at head.0) (legal.calls 0 (call_at head.0) stands) in
    let first : k ≡ 0 = legal.once k 0 first_call (place, there.1, refl)
    (subst (StandsAt order 0) only stands) in
    first_reply spec book order k place legal.run there.1 first

-- A book without calls and records has a legal order.
pub empty_is_legal : (spec : SeqSpec) (book : List Page) → ((call : Call) → IsCall book call → ⊥)
    → ((call : Call) (r : Record) → record_of book call ≡ Some r → ⊥) → HasLegalOrder spec book
empty_is_legal spec book no_call no_record = (
  [],
  record {
    calls = λ k call (place, at, is). absurd (none-some place at);
    once = λ j k call (place, at, is) other. absurd (none-some place at);
    earlier = λ k call (place, at, is) number less. absurd (none-some place at);
    answered = λ call r known. absurd (no_record call r known);
    run = tt;
    precedence = λ j k a b (place, at, is) other before. absurd (none-some place at);
  },
)

-- The only place of an order of one place.
only_place : (place : Place) (k : ℕ) (call : Call) → StandsAt (place ∷ []) k call
    → (k ≡ 0) × (call ≡ call_at place)
only_place place zero call (found, at, is) =
    (refl, sym is ∙ sym (ap call_at (same_Some place found at)))
only_place place (suc k) call (found, at, is) = absurd (none-some found at)

-- A book whose only call is answered as the object answers it at once has a legal order.
pub lone_is_legal : (spec : SeqSpec) (book : List Page) (r : Record) → IsCall book first_call
    → ((call : Call) (s : Record) → record_of book call ≡ Some s → (call ≡ first_call) × (s ≡ r))
    → 0 < get_or r.view 0 0 → (spec.next spec.init (word_at book first_call)).1 ≡ r.reply
    → HasLegalOrder spec book
lone_is_legal spec book r is_call lone own replies =
    let place : Place = first_place r.reply in
    let only = only_place place in (
      place ∷ [],
      record {
        calls = λ k call stands. subst (IsCall book) (sym (only k call stands).1) is_call;
        once = λ j k call first second. (only j call first).0 ∙ sym (only k call second).0;
        earlier = λ k call stands number less. absurd (omega (
          arith,
          less,
          ap (λ (c : Call). c.number) (only k call stands).1,
        ));
        answered = λ call s known.
            let is = lone call s known in
            let here : Place =
            record { caller = call.caller; number = call.number; reply = s.reply } in
            let same : here ≡ place = same_place here place
            (ap (λ (c : Call). c.caller) is.0) (ap (λ (c : Call). c.number) is.0)
            (ap (λ (t : Record). t.reply) is.1) in
            (0, ap (λ (p : Place). Some p) (sym same));
        run = (replies, tt);
        precedence = λ j k a b first second before.
            let a_is : a ≡ first_call = (only j a first).1 in
            let b_is : b ≡ first_call = (only k b second).1 in
            let here : Precedes book first_call first_call =
            subst (λ (c : Call). Precedes book c first_call) a_is
            (subst (Precedes book a) b_is before) in
            elim here [
              | inl answered ↦
                  let known = some_that (record_of book first_call)
                  (λ (s : Record). get_or s.view 0 0 ≤ 0) answered in
                  absurd (omega (
                    arith,
                    own,
                    known.2,
                    ap (λ (s : Record). get_or s.view 0 0) (lone first_call known.0 known.1).1,
                  ))
              | inr earlier ↦ absurd (omega (arith, earlier.1))
            ];
      },
    )

-- ---- books of one caller

-- The view of each record counts the calls up to this one.
abbrev pub CountItself : List Record → Type 0
CountItself records = (k : ℕ) (r : Record) → slice_get records k ≡ Some r → r.view ≡ (k + 1) ∷ []

-- The book of one caller with these operations and records.
abbrev pub lone_caller : List ℕ → List Record → List Page
lone_caller operations records = record { operations = operations; records = records } ∷ []

pub lone_view : (operations : List ℕ) (records : List Record) → CountItself records → (i k : ℕ)
    (r : Record)
    → record_of (lone_caller operations records) (record { caller = i; number = k }) ≡ Some r
    → (i ≡ 0) × (r.view ≡ (k + 1) ∷ []) × (k < length records)
lone_view operations records own zero k r e = (refl, own k r e, slice_get_within records k r e)
lone_view operations records own (suc i) k r e = absurd (none-some r e)

one_within : (m n : ℕ) → m ≤ n → IsWithin (m ∷ []) (n ∷ [])
one_within m n less zero = less
one_within m n less (suc i) = omega arith

few_answers : (operations : List ℕ) (records : List Record) → length records ≤ length operations
    → (i : ℕ) → answers_of (lone_caller operations records) i
    ≤ calls_of (lone_caller operations records) i
few_answers operations records few zero = few
few_answers operations records few (suc i) = omega arith

-- The book of one caller whose views count the calls up to their own is valid.
pub lone_caller_is_valid : (operations : List ℕ) (records : List Record)
    → length records ≤ length operations → CountItself records
    → IsValid (lone_caller operations records)
lone_caller_is_valid operations records few own = record {
  answers = few_answers operations records few;
  wide = λ call r e.
      ap length (lone_view operations records own call.caller call.number r e).1;
  within = λ call r e.
      let it = lone_view operations records own call.caller call.number r e in
      subst (λ (v : List ℕ). IsWithin v (length operations ∷ [])) (sym it.1)
      (one_within (call.number + 1) (length operations) (omega (arith, it.2, few)));
  own = λ call r e.
      let it = lone_view operations records own call.caller call.number r e in
      ap (λ (i : ℕ). get_or r.view i 0) it.0 ∙ ap (λ (v : List ℕ). get_or v 0 0) it.1;
  comparable = λ a b r s x y.
      let first = lone_view operations records own a.caller a.number r x in
      let second = lone_view operations records own b.caller b.number s y in
      subst (λ (v : List ℕ). AreComparable v s.view) (sym first.1)
      (subst (AreComparable ((a.number + 1) ∷ [])) (sym second.1)
      (elim (cases_lt b.number a.number) [
        | inl less ↦ inr (one_within (b.number + 1) (a.number + 1) (omega arith))
        | inr most ↦ inl (one_within (a.number + 1) (b.number + 1) (omega arith))
      ]));
}

no_later_answers : (operations : List ℕ) (records : List Record) (i : ℕ)
    → 0 < answers_of (lone_caller operations records) i → i ≡ 0
no_later_answers operations records zero some = refl
no_later_answers operations records (suc i) some = absurd (omega (arith, some))

before_last : (operations : List ℕ) (records : List Record) (cut : List ℕ) (i last : ℕ)
    → IsWithin cut (answered (lone_caller operations records))
    → get_or cut i 0 < answers_of (lone_caller operations records) i → length records ≡ last + 1
    → IsWithin cut (last ∷ [])
before_last operations records cut i last within less long zero =
    let first : i ≡ 0 = no_later_answers operations records i (omega (arith, less)) in
    let here : get_or cut 0 0 < length records =
    subst (λ (n : ℕ). get_or cut n 0 < answers_of (lone_caller operations records) n) first less in
    omega (arith, here, long)
before_last operations records cut i last within less long (suc j) = omega (arith, within (suc j))

-- The book of one caller is earliest where each call of it is in a view, and where it has a legal
-- order without its last record.
pub lone_caller_is_earliest : (spec : SeqSpec) (operations : List ℕ) (records : List Record)
    (last : ℕ) → length records ≤ length operations → CountItself records
    → length records ≡ last + 1
    → HasLegalOrder spec (book_at (last ∷ []) (lone_caller operations records))
    → ((call : Call) → IsCall (lone_caller operations records) call
    → IsHeldByAView (lone_caller operations records) call)
    → IsEarliest spec (lone_caller operations records)
lone_caller_is_earliest spec operations records last few own long legal held = record {
  earlier = λ cut i within less tried.
      smaller_has_one spec (lone_caller operations records) cut (last ∷ [])
      (lone_caller_is_valid operations records few own)
      (before_last operations records cut i last within less long) legal;
  held = held;
}

-- A book of one caller that lacks its first call and has a legal order without it: its second call
-- is answered as the object answers it at once.
pub lone_without_first : (kind : Kind) (book : List Page) (r : Record)
    → record_of book (record { caller = 0; number = 1 }) ≡ Some r
    → HasOneWith kind book ((1 ∷ []) ∷ [])
    → (kind_next kind (kind_spec kind).init
    (word_at book (record { caller = 0; number = 1 }))).1 ≡ r.reply
lone_without_first kind book r known (part, is, answers, legal) =
    let names : List (List ℕ) = (1 ∷ []) ∷ [] in
    let inside : IsCall part first_call = omega (arith, is.calls 0) in
    let there : IsAnswered part first_call = answers first_call inside
    (slice_get_within (page_of book 0).records 1 r known) in
    let small = answer_stands part first_call there in
    let was = record_was book names part is first_call small.0 small.1 in
    let same : was.0 ≡ r = same_Some was.0 r (sym was.1 ∙ known) in
    let word : word_at part first_call ≡ word_at book (record { caller = 0; number = 1 }) =
    ap (λ (o : Option ℕ). unwrap_or o 0) (is.operations first_call inside) in
    let reply = lone_reply (kind_spec kind) part small.0 (only_first part is) small.1 legal in
    sym (ap (λ (op : ℕ). (kind_next kind (kind_spec kind).init op).1) word)
    ∙ (reply ∙ (was.2.reply ∙ ap (λ (s : Record). s.reply) same))
  where
    first_number : (part : List Page) (i k : ℕ)
        → ((j : ℕ) → calls_of part j ≡ length (numbers_of ((1 ∷ []) ∷ []) j))
        → k < calls_of part i → (i ≡ 0) × (k ≡ 0)
    first_number part zero k calls less = (refl, omega (arith, calls 0, less))
    first_number part (suc i) k calls less = absurd (omega (arith, calls (suc i), less))

    only_first : {book : List Page} (part : List Page) → IsPart book ((1 ∷ []) ∷ []) part
        → HasNoOther part
    only_first part is call inside =
        let at = first_number part call.caller call.number is.calls inside in
        same_call call first_call at.0 at.1
