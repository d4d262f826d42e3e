-- A table tells which calls are of a sort, and lists of all calls of two sorts which are more.
use Rattle.std.proofs.Common.{◌≡◌, ◌↔◌, ℕ, ◌+◌, ◌<◌, ◌≤◌, ◌⊎◌, ◌∙◌, Bool, true, false, not, nat_eq, List, [], ◌∷◌, ◌++◌, length, get_or, Option, Some, None, refl, sym, ap, subst, inl, inr, arith}
use Rattle.std.specs.Option.{IsSomeAnd}
use Rattle.std.proofs.lemmas.Bool.{cases_lt, cases_eq, false≢true, eqb-true, eq-eqb}
use Rattle.std.proofs.lemmas.Option.{same_Some, none-some}
use Rattle.list_laws.proofs.Places.{slice_get-push_old, slice_get-push_last, slice_get-push_cases}
use Rattle.book_base.specs.declared.call.Call.{Call}
use Rattle.book_base.specs.declared.call.Record.{Record}
use Rattle.book_base.specs.Book.{Page, IsCall, IsAnswered, IsValid, Precedes, answers_of}
use Rattle.book_base.proofs.ViewLemmas.{answer_stands, same_call}
use Rattle.legal_orders.specs.Container.{Reading}
use Rattle.legal_orders.proofs.Dealing.{call_by_deal}
use Rattle.legal_orders.specs.Deals.{Deal as KnownDeal}
use Rattle.legal_orders.specs.Deals as deals
use Rattle.legal_orders.specs.Deals.{deal_of}
use Rattle.queue_pairs.specs.declared.TheConstants.{NEVER}
use Rattle.queue_pairs.specs.declared.spans.Span.{Span}
use Rattle.queue_pairs.specs.declared.table.QueueDeal.{QueueDeal}
use Rattle.queue_pairs.specs.declared.table.QueueDeal.TheVariants as did
use Rattle.queue_pairs.specs.Counts.{listed, puts_one, shows_one, may_take_one}
use Rattle.queue_pairs.specs.Moments.{IsHeldBy}
use Rattle.queue_pairs.specs.Spans.{IsSpanOf}
use Rattle.queue_pairs.specs.Tables.{known_deal, is_find}
use Rattle.queue_pairs.proofs.Moments.{held_unless_preceded}
use Rattle.seq_objects.specs.Replies.{reply_none}
use Rattle.refutations.specs.declared.counts.Sort.{Sort}
use Rattle.refutations.specs.declared.counts.Sort.TheVariants.{TakesDue, PutsBegun, PutsBefore, TakesHeld}
use Rattle.refutations.specs.Counts.{HasEachOnce, AreMore, IsDueBy, ViewHolds}
use Rattle.refutations.specs.Counting.{DealFits, deal_fits, ComesBefore, HasEachTo}
use Rattle.refutations.proofs.Matching.{as_long}

-- ---- what calls did

-- what a table's call did is what its call of the book did
shows_as : (values : List ℕ) (deal : QueueDeal)
    → shows_one (listed values) deal ≡ true
    ↔ ((v : ℕ) × (listed values v ≡ true) × (known_deal deal ≡ deals.Took v))
shows_as values (did.Put w) = (λ e. absurd (false≢true e), λ it. absurd (cc (it.2)))
shows_as values (did.Took w) = (
  λ e. (w, e, refl),
  λ it. let same : w ≡ it.0 = cc (it.2) in
      subst (λ (v : ℕ). listed values v ≡ true) (sym same) it.1,
)
shows_as values did.FoundNothing = (λ e. absurd (false≢true e), λ it. absurd (cc (it.2)))
shows_as values did.OpenTake = (λ e. absurd (false≢true e), λ it. absurd (cc (it.2)))
shows_as values did.Other = (λ e. absurd (false≢true e), λ it. absurd (cc (it.2)))

puts_as : (values : List ℕ) (deal : QueueDeal)
    → puts_one (listed values) deal ≡ true
    ↔ ((v : ℕ) × (listed values v ≡ true) × (known_deal deal ≡ deals.Put v))
puts_as values (did.Put w) = (
  λ e. (w, e, refl),
  λ it. let same : w ≡ it.0 = cc (it.2) in
      subst (λ (v : ℕ). listed values v ≡ true) (sym same) it.1,
)
puts_as values (did.Took w) = (λ e. absurd (false≢true e), λ it. absurd (cc (it.2)))
puts_as values did.FoundNothing = (λ e. absurd (false≢true e), λ it. absurd (cc (it.2)))
puts_as values did.OpenTake = (λ e. absurd (false≢true e), λ it. absurd (cc (it.2)))
puts_as values did.Other = (λ e. absurd (false≢true e), λ it. absurd (cc (it.2)))

takes_as : (values : List ℕ) (deal : QueueDeal)
    → may_take_one (listed values) deal ≡ true
    ↔ (((v : ℕ) × (listed values v ≡ true) × (known_deal deal ≡ deals.Took v))
    ⊎ (known_deal deal ≡ deals.OpenTake))
takes_as values (did.Put w) = (
  λ e. absurd (false≢true e),
  λ it. elim it [ inl shows ↦ absurd (cc (shows.2)) | inr unanswered ↦ absurd (cc unanswered) ],
)
takes_as values (did.Took w) = (
  λ e. inl (w, e, refl),
  λ it. elim it [
    | inl shows ↦ let same : w ≡ shows.0 = cc (shows.2) in
        subst (λ (v : ℕ). listed values v ≡ true) (sym same) shows.1
    | inr unanswered ↦ absurd (cc unanswered)
  ],
)
takes_as values did.FoundNothing = (
  λ e. absurd (false≢true e),
  λ it. elim it [ inl shows ↦ absurd (cc (shows.2)) | inr unanswered ↦ absurd (cc unanswered) ],
)
takes_as values did.OpenTake = (λ e. inr refl, λ it. refl)
takes_as values did.Other = (
  λ e. absurd (false≢true e),
  λ it. elim it [ inl shows ↦ absurd (cc (shows.2)) | inr unanswered ↦ absurd (cc unanswered) ],
)

-- A table's call fits a sort by what it did exactly where the book's call does.
pub deal_as : (reading : Reading) (book : List Page) (values : List ℕ) (sort : Sort) (call : Call)
    (deal : QueueDeal) → known_deal deal ≡ deal_of reading book call
    → deal_fits sort values deal ≡ true ↔ DealFits reading book values sort call
deal_as reading book values (TakesDue m) call deal is =
    subst (λ (d : KnownDeal). shows_one (listed values) deal ≡ true
    ↔ ((v : ℕ) × (listed values v ≡ true) × (d ≡ deals.Took v))) is (shows_as values deal)
deal_as reading book values (PutsBegun m) call deal is =
    subst (λ (d : KnownDeal). puts_one (listed values) deal ≡ true
    ↔ ((v : ℕ) × (listed values v ≡ true) × (d ≡ deals.Put v))) is (puts_as values deal)
deal_as reading book values (PutsBefore other) call deal is =
    subst (λ (d : KnownDeal). puts_one (listed values) deal ≡ true
    ↔ ((v : ℕ) × (listed values v ≡ true) × (d ≡ deals.Put v))) is (puts_as values deal)
deal_as reading book values (TakesHeld other) call deal is =
    subst (λ (d : KnownDeal). may_take_one (listed values) deal ≡ true
    ↔ (((v : ℕ) × (listed values v ≡ true) × (d ≡ deals.Took v)) ⊎ (d ≡ deals.OpenTake))) is
    (takes_as values deal)

-- a table's call is a find exactly where the book's call finds nothing
pub find_as : (deal : QueueDeal) → is_find deal ≡ true ↔ (known_deal deal ≡ deals.FoundNothing)
find_as (did.Put w) = (λ e. absurd (false≢true e), λ it. absurd (cc it))
find_as (did.Took w) = (λ e. absurd (false≢true e), λ it. absurd (cc it))
find_as did.FoundNothing = (λ e. refl, λ it. refl)
find_as did.OpenTake = (λ e. absurd (false≢true e), λ it. absurd (cc it))
find_as did.Other = (λ e. absurd (false≢true e), λ it. absurd (cc it))

-- a reply is `none` exactly where a record with it says so
pub none_as : (o : Option Record) (reply : ℕ) → IsSomeAnd o (λ r. reply ≡ r.reply)
    → nat_eq reply reply_none ≡ true ↔ ((r : Record) × (o ≡ Some r) × (r.reply ≡ reply_none))
none_as None reply says = absurd says
none_as (Some r) reply says = (
  λ e. (r, refl, sym says ∙ eqb-true reply reply_none e),
  λ it. eq-eqb reply reply_none
      (says ∙ ap (λ (x : Record). x.reply) (same_Some r it.0 it.1) ∙ it.2),
)

-- a call of a sort is one of the book's
pub counted_call : (reading : Reading) (book : List Page) (values : List ℕ) (sort : Sort)
    (call : Call) → DealFits reading book values sort call → IsCall book call
counted_call reading book values (TakesDue m) call it =
    call_by_deal reading book call (λ e. cc (it.2, e))
counted_call reading book values (PutsBegun m) call it =
    call_by_deal reading book call (λ e. cc (it.2, e))
counted_call reading book values (PutsBefore other) call it =
    call_by_deal reading book call (λ e. cc (it.2, e))
counted_call reading book values (TakesHeld other) call (inl it) =
    call_by_deal reading book call (λ e. cc (it.2, e))
counted_call reading book values (TakesHeld other) call (inr it) =
    call_by_deal reading book call (λ e. cc (it, e))

-- ---- times

-- A call is due up to a moment exactly where the last moment of its span is one, and no later.
pub due_as : (book : List Page) (call : Call) (span : Span) (m : ℕ) → IsSpanOf book call span
    → ((span.last < NEVER) × (span.last ≤ m)) ↔ IsDueBy book m call
due_as book call span m is = (
  λ low. elim (cases_lt call.number (answers_of book call.caller)) [
    | inl answered ↦
        let it = answer_stands book call answered in
        (it.0, it.1, omega (arith, low.1, (is.answered it.0 it.1).0))
    | inr past ↦ absurd (omega (arith, low.0, is.unanswered past))
  ],
  λ due.
      let span_is = is.answered due.0 due.1 in (span_is.1, omega (arith, span_is.0, due.2)),
)

-- A call begins up to a moment exactly where the first moment of its span is one, and no later.
pub begun_as : (book : List Page) (call : Call) (span : Span) (m : ℕ) → IsSpanOf book call span
    → ((span.first < NEVER) × (span.first ≤ m)) ↔ IsHeldBy book call m
begun_as book call span m is = (
  λ low. let held = is.held low.0 in
      (held.0, held.1, held.2, held.3, omega (arith, held.4, low.1)),
  λ held. let least = is.least m held in (least.1, least.0),
)

-- The span of a call has a last moment exactly where the call is answered.
pub answered_as : (book : List Page) (call : Call) (span : Span) → IsSpanOf book call span
    → (span.last < NEVER) ↔ IsAnswered book call
answered_as book call span is = (
  λ low. elim (cases_lt call.number (answers_of book call.caller)) [
    | inl answered ↦ answered
    | inr past ↦ absurd (omega (arith, low, is.unanswered past))
  ],
  λ answered. let it = answer_stands book call answered in (is.answered it.0 it.1).1,
)

-- The opposite of a test tells what is so exactly where what is tested isn't.
pub denied : (b : Bool) (P Q : Type 0) → b ≡ true ↔ P → (P → ⊥) ↔ Q → not b ≡ true ↔ Q
denied true P Q is other = (
  λ e. absurd (false≢true e),
  λ q. absurd (other.1 q (is.0 refl)),
)
denied false P Q is other = (
  λ e. other.0 (λ p. false≢true (is.1 p)),
  λ q. refl,
)

-- The view of an answered call holds exactly the calls that it doesn't precede.
pub held_as : (book : List Page) (call other : Call) → IsValid book → IsAnswered book call
    → (Precedes book call other → ⊥) ↔ ViewHolds book call other
held_as book call other valid answered =
    let it = answer_stands book call answered in (
      λ free. (it.0, it.1, held_unless_preceded book call other it.0 it.1 free),
      λ (r, known, holds) before. elim before [
        | inl past ↦
            let low : get_or r.view other.caller 0 ≤ other.number =
            rw known at past in
            omega (arith, low, holds)
        | inr own ↦ omega (
          arith,
          own.1,
          holds,
          valid.own call r known,
          ap (λ (i : ℕ). get_or r.view i 0) own.0,
        )
      ],
    )

-- ---- lists of all calls of a sort

pub none_yet : (sort : Call → Type 0) → HasEachTo sort 0 0 []
none_yet sort = record {
  once = λ j k call x y. absurd (none-some call x);
  all = λ call it. elim it.0 [
    | inl less ↦ absurd (omega (arith, less))
    | inr own ↦ absurd (omega (arith, own.1))
  ];
  only = λ k call x. absurd (none-some call x);
}

module _ (sort : Call → Type 0) (caller number : ℕ) (calls : List Call)
    (so_far : HasEachTo sort caller number calls) where
  abbrev here : Call
  here = record { caller = caller; number = number }

  earlier_or_here : (call : Call) → ComesBefore call caller (number + 1)
      → ComesBefore call caller number ⊎ (call ≡ here)
  earlier_or_here call (inl less) = inl (inl less)
  earlier_or_here call (inr own) = elim (cases_lt call.number number) [
    | inl less ↦ inl (inr (own.0, less))
    | inr ge ↦ inr (same_call call here own.0 (omega (arith, ge, own.1)))
  ]

  later : (call : Call) → ComesBefore call caller number → ComesBefore call caller (number + 1)
  later call (inl less) = inl less
  later call (inr own) = inr (own.0, omega (arith, own.1))

  -- A call that isn't of the sort is passed over.
  pub one_passed : (sort here → ⊥) → HasEachTo sort caller (number + 1) calls
  one_passed other = record {
    once = so_far.once;
    all = λ call it. elim (earlier_or_here call it.0) [
      | inl earlier ↦ so_far.all call (earlier, it.1)
      | inr same ↦ absurd (other (subst sort same it.1))
    ];
    only = λ k call at. (later call (so_far.only k call at).0, (so_far.only k call at).1);
  }

  -- A call that is of the sort is added.
  pub one_more : sort here → HasEachTo sort caller (number + 1) (calls ++ here ∷ [])
  one_more is_here = record {
    once = λ j k call x y. elim (slice_get-push_cases calls here j call x) [
      | inl old ↦ elim (slice_get-push_cases calls here k call y) [
        | inl other ↦ so_far.once j k call old other
        | inr last ↦ absurd (not_here call (so_far.only j call old).0 last.1)
      ]
      | inr first ↦ elim (slice_get-push_cases calls here k call y) [
        | inl other ↦ absurd (not_here call (so_far.only k call other).0 first.1)
        | inr last ↦ first.0 ∙ sym last.0
      ]
    ];
    all = λ call it. elim (earlier_or_here call it.0) [
      | inl earlier ↦
          let old = so_far.all call (earlier, it.1) in
          (old.0, slice_get-push_old calls here old.0 call old.1)
      | inr same ↦ (
        length calls,
        slice_get-push_last calls here ∙ ap (λ (c : Call). Some c) (sym same),
      )
    ];
    only = λ k call at. elim (slice_get-push_cases calls here k call at) [
      | inl old ↦ (later call (so_far.only k call old).0, (so_far.only k call old).1)
      | inr last ↦ (
        subst (λ (c : Call). ComesBefore c caller (number + 1)) (sym last.1)
            (inr (refl, omega arith)),
        subst sort (sym last.1) is_here,
      )
    ];
  }
    where
      not_here : (call : Call) → ComesBefore call caller number → call ≡ here → ⊥
      not_here call before same = elim before [
        | inl less ↦ omega (arith, less, ap (λ (c : Call). c.caller) same)
        | inr own ↦ omega (arith, own.1, ap (λ (c : Call). c.number) same)
      ]

  -- With all calls of a caller the next caller's are due.
  pub next_caller : ((call : Call) → sort call → call.caller ≡ caller → call.number < number)
      → HasEachTo sort (caller + 1) 0 calls
  next_caller few = record {
    once = so_far.once;
    all = λ call it. elim it.0 [
      | inl less ↦ elim (cases_eq call.caller caller) [
        | inl own ↦ so_far.all call (inr (own, few call it.1 own), it.1)
        | inr apart ↦ so_far.all call (inl (omega (arith, less, apart)), it.1)
      ]
      | inr own ↦ absurd (omega (arith, own.1))
    ];
    only = λ k call at.
        let it = so_far.only k call at in (
          elim it.0 [
            | inl less ↦ inl (omega (arith, less))
            | inr own ↦ inl (omega (arith, own.0))
          ],
          it.1,
        );
  }

  -- With the calls of all callers the list is whole.
  pub whole_list : ((call : Call) → sort call → call.caller < caller) → HasEachOnce sort calls
  whole_list few = record {
    once = so_far.once;
    all = λ call is. so_far.all call (inl (few call is), is);
    only = λ k call at. (so_far.only k call at).1;
  }

-- More calls are of one sort than of another exactly where the list of all of them is longer.
pub more_by_lists : (one other : Call → Type 0) (ones others : List Call) → HasEachOnce one ones
    → HasEachOnce other others → (length others < length ones) ↔ AreMore one other
more_by_lists one other ones others all_ones all_others = (
  λ less. record {
    ones = ones;
    others = others;
    all_ones = all_ones;
    all_others = all_others;
    more = less;
  },
  λ it. omega (
    arith,
    it.more,
    as_long one it.ones ones it.all_ones all_ones,
    as_long other others it.others all_others it.all_others,
  ),
)
