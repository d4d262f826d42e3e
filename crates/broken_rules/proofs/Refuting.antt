-- A book that breaks a rule has no legal order.
use Rattle.std.proofs.Common.{◌≡◌, ◌⊎◌, ◌∙◌, ℕ, ◌==◌, ◌&&◌, ◌||◌, not, nat_lt, true, List, [], refl, sym, ap, subst, inl, inr}
use Rattle.std.proofs.lemmas.Bool.{false≢true, and_parts, or_cases, ltb-true, eqb-true, eqb-false, not-true}
use Rattle.book_base.specs.declared.call.Call.{Call}
use Rattle.book_base.specs.Book.{Page, IsCall, IsSmall, Precedes}
use Rattle.book_base.specs.Order.{HasLegalOrder}
use Rattle.legal_orders.specs.Container.{IsContainer, IsQueue, IsStack}
use Rattle.legal_orders.proofs.QueueRuns.{queue_is_container, stack_is_container}
use Rattle.list_pruning.specs.HoldsLast.{HoldsLast}
use Rattle.legal_orders.specs.Deals.{Deal}
use Rattle.legal_orders.specs.Deals as deals
use Rattle.legal_orders.specs.Deals.{deal_of}
use Rattle.seq_objects.specs.declared.kind.Kind.{Kind}
use Rattle.seq_objects.specs.declared.kind.Kind.TheVariants as kinds
use Rattle.kind_search.specs.Readings.{queue_reading, stack_reading}
use Rattle.kind_search.specs.PqueueReading.{pqueue_reading}
use Rattle.kind_search.specs.RegisterReading.{held_in, register_reading}
use Rattle.kind_search.specs.Keys.{set_key, set_part, map_key, map_part}
use Rattle.seq_objects.specs.Objects.{kind_init, kind_next, kind_spec}
use Rattle.kind_search.proofs.Reading.{queue_is_read, stack_is_read}
use Rattle.kind_search.proofs.HoldsLast.{register_holds_last}
use Rattle.broken_rules.specs.declared.rule.BrokenRule.{BrokenRule}
use Rattle.broken_rules.specs.declared.rule.Rule.{Rule}
use Rattle.broken_rules.specs.declared.rule.Rule.TheVariants as named
use Rattle.broken_rules.specs.Deeds.{is_keyed, is_cas_register, reading_of, did, took, value_by, value_at, taken_at, is_put, is_take, is_nothing}
use Rattle.broken_rules.specs.declared.demand.Demand.TheVariants as demands
use Rattle.broken_rules.specs.Demands.{AllMeet}
use Rattle.broken_rules.specs.Rules.{holds_values, is_queue, is_stack, is_pqueue, is_counter, is_map, is_register, Breaks, WhatBreaksIsIllegal}
use Rattle.broken_rules.proofs.Replies.{never_replied}
use Rattle.broken_rules.proofs.Acts.{put_of, take_is, nothing_is}
use Rattle.broken_rules.proofs.Holding.{taken_unput, taken_twice, found_nothing}
use Rattle.broken_rules.proofs.Queues.{passed_over}
use Rattle.broken_rules.proofs.Stacks.{taken_from_under}
use Rattle.broken_rules.proofs.Least.{pqueue_is_container, lesser_left}
use Rattle.broken_rules.proofs.Counts.{counted_unseen, counted_down, counted_twice}
use Rattle.broken_rules.proofs.Writes.{read_unwritten, read_overwritten}
use Rattle.broken_rules.proofs.Setting.{set_unwritten, set_overwritten, set_swapped}
use Rattle.broken_rules.proofs.KeyedObjects.{set_finds_what_is_put, set_keeps_what_is_put, map_finds_what_is_put, map_keeps_what_is_put}
use Rattle.broken_rules.proofs.Keys.{found_unput}
use Rattle.broken_rules.proofs.Missing.{key_missed}
use Rattle.broken_rules.proofs.EntryRules.{value_unput, value_overwritten}
use Rattle.broken_rules.proofs.Outnumbered.{taken_too_often, left_behind}

-- ---- the objects of the kinds

queue_is : IsQueue queue_reading (kind_next kinds.Queue)
unfolding kind_next
queue_is = queue_is_read

stack_is : IsStack stack_reading (kind_next kinds.Stack)
unfolding kind_next
stack_is = stack_is_read

pqueue_is : IsContainer pqueue_reading (kind_next kinds.Pqueue)
unfolding kind_next
pqueue_is = pqueue_is_container

register_is : HoldsLast register_reading held_in (kind_next kinds.Register)
unfolding kind_next
register_is = register_holds_last

-- the kinds whose objects hold values are containers, which begin empty
containers : (kind : Kind) → holds_values kind ≡ true
    → IsContainer (reading_of kind) (kind_next kind)
    × ((reading_of kind).values (kind_init kind) ≡ [])
containers kinds.Queue is =
    (queue_is_container queue_reading (kind_next kinds.Queue) queue_is, refl)
containers kinds.Stack is =
    (stack_is_container stack_reading (kind_next kinds.Stack) stack_is, refl)
containers kinds.Pqueue is = (pqueue_is, refl)
containers _ is = absurd (false≢true is)

only_queue : (kind : Kind) → is_queue kind ≡ true → kind ≡ kinds.Queue
only_queue kinds.Queue is = refl
only_queue _ is = absurd (false≢true is)

only_stack : (kind : Kind) → is_stack kind ≡ true → kind ≡ kinds.Stack
only_stack kinds.Stack is = refl
only_stack _ is = absurd (false≢true is)

only_pqueue : (kind : Kind) → is_pqueue kind ≡ true → kind ≡ kinds.Pqueue
only_pqueue kinds.Pqueue is = refl
only_pqueue _ is = absurd (false≢true is)

only_counter : (kind : Kind) → is_counter kind ≡ true → kind ≡ kinds.Counter
only_counter kinds.Counter is = refl
only_counter _ is = absurd (false≢true is)

only_map : (kind : Kind) → is_map kind ≡ true → kind ≡ kinds.Map
only_map kinds.Map is = refl
only_map _ is = absurd (false≢true is)

only_cas : (kind : Kind) → is_cas_register kind ≡ true → kind ≡ kinds.CasRegister
only_cas kinds.CasRegister is = refl
only_cas _ is = absurd (false≢true is)

a_register : (kind : Kind) → is_register kind ≡ true
    → (kind ≡ kinds.Register) ⊎ (kind ≡ kinds.CasRegister)
a_register kinds.Register is = inl refl
a_register kinds.CasRegister is = inr refl
a_register _ is = absurd (false≢true is)

set_or_map : (kind : Kind) → is_keyed kind ≡ true → (kind ≡ kinds.IntSet) ⊎ (kind ≡ kinds.Map)
set_or_map kinds.IntSet is = inl refl
set_or_map kinds.Map is = inr refl
set_or_map _ is = absurd (false≢true is)

-- ---- what the two calls did

-- a call of a container did what its reading says, and took the same
did_by_reading : (kind : Kind) (book : List Page) → holds_values kind ≡ true → (call : Call)
    → did kind book call ≡ deal_of (reading_of kind) book call
did_by_reading kinds.Queue book is call = refl
did_by_reading kinds.Stack book is call = refl
did_by_reading kinds.Pqueue book is call = refl
did_by_reading _ book is call = absurd (false≢true is)

took_by_reading : (kind : Kind) (book : List Page) → holds_values kind ≡ true → (call : Call)
    → took kind book call ≡ deal_of (reading_of kind) book call
took_by_reading kinds.Queue book is call = refl
took_by_reading kinds.Stack book is call = refl
took_by_reading kinds.Pqueue book is call = refl
took_by_reading _ book is call = absurd (false≢true is)

two_parts : (d e : Deal) → (is_put d && is_take e) ≡ true → (d ≡ deals.Put (value_by d))
    × (e ≡ deals.Took (value_by e))
two_parts d e fit = let parts = and_parts (is_put d) (is_take e) fit in
    (put_of d parts.0, take_is e parts.1)

two_takes : (d e : Deal) → (is_take d && is_take e) ≡ true → (d ≡ deals.Took (value_by d))
    × (e ≡ deals.Took (value_by e))
two_takes d e fit = let parts = and_parts (is_take d) (is_take e) fit in
    (take_is d parts.0, take_is e parts.1)

put_or_take : (d : Deal) → (is_put d || is_take d) ≡ true
    → (d ≡ deals.Put (value_by d)) ⊎ (d ≡ deals.Took (value_by d))
put_or_take d fit = elim (or_cases (is_put d) (is_take d) fit) [
  | inl puts ↦ inl (put_of d puts)
  | inr takes ↦ inr (take_is d takes)
]

-- ---- each rule

moved : (kind other : Kind) (book : List Page) (broken : BrokenRule) → kind ≡ other
    → Breaks kind book broken → Breaks other book broken
moved kind other book broken same breaks = subst (λ (k : Kind). Breaks k book broken) same breaks

module _ (book : List Page) (small : IsSmall book) (first second : Call) where
  -- the puts of what the one call of a rule takes come after it
  follow_one : (kind : Kind) → first ≡ second → AllMeet kind book demands.OwnPutsFollow first second
      → (call : Call) → IsCall book call → did kind book call ≡ deals.Put (taken_at kind book second)
      → Precedes book second call
  follow_one kind same follow =
      subst (λ (c : Call). (call : Call) → IsCall book call
      → did kind book call ≡ deals.Put (taken_at kind book c) → Precedes book c call) same follow

  refuted : (rule : Rule) (kind : Kind)
      → Breaks kind book (record { rule = rule; first = first; second = second })
      → ¬ HasLegalOrder (kind_spec kind) book
  refuted named.NeverReplied kind breaks =
      never_replied kind book first breaks.first breaks.related.1
  refuted named.TakenUnput kind breaks =
      let holds = containers kind breaks.kept in
      let read = did_by_reading kind book breaks.kept in
      let d : Deal = did kind book first in
      let same : taken_at kind book first ≡ value_by d =
      ap value_by (took_by_reading kind book breaks.kept first ∙ sym (read first)) in
      taken_unput (reading_of kind) (kind_spec kind) book holds.0 holds.1
      (value_by d) first (sym (read first) ∙ take_is d breaks.fit)
      (λ call made puts. breaks.puts call made (read call ∙ (puts ∙ ap deals.Put (sym same))))
  refuted named.TakenTwice kind breaks =
      let holds = containers kind breaks.kept in
      let read = did_by_reading kind book breaks.kept in
      let taken = took_by_reading kind book breaks.kept second in
      let d : Deal = did kind book first in
      let e : Deal = took kind book second in
      let parts = and_parts (is_put d && is_take e) (value_by d == value_by e) breaks.fit in
      let two = two_parts d e parts.0 in
      let same : value_by d ≡ value_by e = eqb-true (value_by d) (value_by e) parts.1 in
      let own : value_at kind book second ≡ value_by e = ap value_by (read second ∙ sym taken) in
      taken_twice (reading_of kind) (kind_spec kind) book holds.0 holds.1
      (value_by e) first second
      (sym (read first) ∙ subst (λ (v : ℕ). d ≡ deals.Put v) same two.0)
      (sym taken ∙ two.1)
      (λ call made puts. breaks.puts call made (read call ∙ puts))
      (λ all. breaks.related
      (λ call made takes. all call made (sym (read call) ∙ (takes ∙ ap deals.Took own))))
  refuted named.FoundNothing kind breaks =
      let holds = containers kind breaks.kept in
      let read = did_by_reading kind book breaks.kept in
      let d : Deal = did kind book first in
      let e : Deal = took kind book second in
      let parts = and_parts (is_put d) (is_nothing e) breaks.fit in
      found_nothing (reading_of kind) (kind_spec kind) book holds.0 holds.1
      (value_by d) first second (sym (read first) ∙ put_of d parts.0)
      (sym (took_by_reading kind book breaks.kept second) ∙ nothing_is e parts.1) breaks.related
      (λ call made takes. breaks.takes call made (elim takes [
        | inl took ↦ inl (read call ∙ took)
        | inr unanswered ↦ inr (read call ∙ unanswered)
      ]))
  refuted named.PassedOver kind breaks =
      let is : kind ≡ kinds.Queue = only_queue kind breaks.kept in
      let here = moved kind kinds.Queue book
      (record { rule = named.PassedOver; first = first; second = second }) is breaks in
      let d : Deal = did kinds.Queue book first in
      let e : Deal = took kinds.Queue book second in
      let two = two_parts d e here.fit in
      subst (λ (k : Kind). ¬ HasLegalOrder (kind_spec k) book) (sym is)
      (passed_over queue_reading (kind_spec kinds.Queue) book queue_is refl (value_by d)
      (value_by e) first second two.0 two.1 here.puts here.takes)
  refuted named.TakenFromUnder kind breaks =
      let is : kind ≡ kinds.Stack = only_stack kind breaks.kept in
      let here = moved kind kinds.Stack book
      (record { rule = named.TakenFromUnder; first = first; second = second }) is breaks in
      let d : Deal = did kinds.Stack book first in
      let e : Deal = took kinds.Stack book second in
      let two = two_parts d e here.fit in
      subst (λ (k : Kind). ¬ HasLegalOrder (kind_spec k) book) (sym is)
      (taken_from_under stack_reading (kind_spec kinds.Stack) book stack_is (value_by d)
      (value_by e) first second two.0 two.1 here.related here.puts here.takes)
  refuted named.LesserLeft kind breaks =
      let is : kind ≡ kinds.Pqueue = only_pqueue kind breaks.kept in
      let here = moved kind kinds.Pqueue book
      (record { rule = named.LesserLeft; first = first; second = second }) is breaks in
      let d : Deal = did kinds.Pqueue book first in
      let e : Deal = took kinds.Pqueue book second in
      let parts = and_parts (is_put d && is_take e) (nat_lt (value_by d) (value_by e)) here.fit in
      let two = two_parts d e parts.0 in
      subst (λ (k : Kind). ¬ HasLegalOrder (kind_spec k) book) (sym is)
      (lesser_left book (value_by d) (value_by e) first second
      (ltb-true (value_by d) (value_by e) parts.1) two.0 two.1 here.related here.takes)
  refuted named.CountedUnseen kind breaks =
      let is : kind ≡ kinds.Counter = only_counter kind breaks.kept in
      let here = moved kind kinds.Counter book
      (record { rule = named.CountedUnseen; first = first; second = second }) is breaks in
      let d : Deal = did kinds.Counter book first in
      subst (λ (k : Kind). ¬ HasLegalOrder (kind_spec k) book) (sym is)
      (counted_unseen book (value_by d) first small (take_is d here.fit) here.related.1)
  refuted named.CountedTwice kind breaks =
      let is : kind ≡ kinds.Counter = only_counter kind breaks.kept in
      let here = moved kind kinds.Counter book
      (record { rule = named.CountedTwice; first = first; second = second }) is breaks in
      let d : Deal = did kinds.Counter book first in
      let e : Deal = took kinds.Counter book second in
      let parts = and_parts (is_take d && is_take e) (value_by d == value_by e) here.fit in
      let two = two_takes d e parts.0 in
      subst (λ (k : Kind). ¬ HasLegalOrder (kind_spec k) book) (sym is)
      (counted_twice book (value_by d) (value_by e) first second small
      (eqb-true (value_by d) (value_by e) parts.1) here.related two.0 two.1)
  refuted named.CountedDown kind breaks =
      let is : kind ≡ kinds.Counter = only_counter kind breaks.kept in
      let here = moved kind kinds.Counter book
      (record { rule = named.CountedDown; first = first; second = second }) is breaks in
      let d : Deal = did kinds.Counter book first in
      let e : Deal = took kinds.Counter book second in
      let parts = and_parts (is_take d && is_take e) (nat_lt (value_by e) (value_by d)) here.fit in
      let two = two_takes d e parts.0 in
      subst (λ (k : Kind). ¬ HasLegalOrder (kind_spec k) book) (sym is)
      (counted_down book (value_by d) (value_by e) first second small
      (ltb-true (value_by e) (value_by d) parts.1) two.0 two.1 here.related)
  refuted named.ReadUnwritten kind breaks = elim (a_register kind breaks.kept) [
    | inl is ↦
        let here = moved kind kinds.Register book
        (record { rule = named.ReadUnwritten; first = first; second = second }) is breaks in
        let e : Deal = took kinds.Register book second in
        let parts = and_parts (is_take e) (not (value_by e == 0)) here.fit in
        subst (λ (k : Kind). ¬ HasLegalOrder (kind_spec k) book) (sym is)
        (read_unwritten register_reading held_in (kind_spec kinds.Register) book register_is
        (value_by e) second
        (eqb-false (value_by e) 0 (not-true (value_by e == 0) parts.1)) (take_is e parts.0)
        (follow_one kinds.Register here.related here.puts))
    | inr is ↦
        let here = moved kind kinds.CasRegister book
        (record { rule = named.ReadUnwritten; first = first; second = second }) is breaks in
        let e : Deal = took kinds.CasRegister book second in
        let parts = and_parts (is_take e) (not (value_by e == 0)) here.fit in
        subst (λ (k : Kind). ¬ HasLegalOrder (kind_spec k) book) (sym is)
        (set_unwritten book (value_by e) second
        (eqb-false (value_by e) 0 (not-true (value_by e == 0) parts.1)) (take_is e parts.0)
        (follow_one kinds.CasRegister here.related here.puts))
  ]
  refuted named.ReadOverwritten kind breaks = elim (a_register kind breaks.kept) [
    | inl is ↦
        let here = moved kind kinds.Register book
        (record { rule = named.ReadOverwritten; first = first; second = second }) is breaks in
        let d : Deal = did kinds.Register book first in
        let e : Deal = took kinds.Register book second in
        let two = two_parts d e here.fit in
        subst (λ (k : Kind). ¬ HasLegalOrder (kind_spec k) book) (sym is)
        (read_overwritten register_reading held_in (kind_spec kinds.Register) book
        register_is (value_by d) (value_by e) first second two.0 two.1 here.related here.puts)
    | inr is ↦
        let here = moved kind kinds.CasRegister book
        (record { rule = named.ReadOverwritten; first = first; second = second }) is breaks in
        let d : Deal = did kinds.CasRegister book first in
        let e : Deal = took kinds.CasRegister book second in
        let two = two_parts d e here.fit in
        subst (λ (k : Kind). ¬ HasLegalOrder (kind_spec k) book) (sym is)
        (set_overwritten book (value_by d) (value_by e) first second two.0 two.1 here.related
        here.puts)
  ]
  refuted named.FoundUnput kind breaks = elim (set_or_map kind breaks.kept) [
    | inl is ↦
        let here = moved kind kinds.IntSet book
        (record { rule = named.FoundUnput; first = first; second = second }) is breaks in
        let d : Deal = did kinds.IntSet book first in
        subst (λ (k : Kind). ¬ HasLegalOrder (kind_spec k) book) (sym is)
        (found_unput kinds.IntSet set_key set_part (kind_next kinds.IntSet) book
        set_finds_what_is_put (value_by d) first (take_is d here.fit) here.puts)
    | inr is ↦
        let here = moved kind kinds.Map book
        (record { rule = named.FoundUnput; first = first; second = second }) is breaks in
        let d : Deal = did kinds.Map book first in
        subst (λ (k : Kind). ¬ HasLegalOrder (kind_spec k) book) (sym is)
        (found_unput kinds.Map map_key map_part (kind_next kinds.Map) book
        map_finds_what_is_put (value_by d) first (take_is d here.fit) here.puts)
  ]
  refuted named.KeyMissed kind breaks = elim (set_or_map kind breaks.kept) [
    | inl is ↦
        let here = moved kind kinds.IntSet book
        (record { rule = named.KeyMissed; first = first; second = second }) is breaks in
        let d : Deal = did kinds.IntSet book first in
        subst (λ (k : Kind). ¬ HasLegalOrder (kind_spec k) book) (sym is)
        (key_missed kinds.IntSet set_key set_part (kind_next kinds.IntSet) book
        set_finds_what_is_put set_keeps_what_is_put (value_by d) first second
        (put_or_take d here.fit) here.related.1 here.related.0 here.takes)
    | inr is ↦
        let here = moved kind kinds.Map book
        (record { rule = named.KeyMissed; first = first; second = second }) is breaks in
        let d : Deal = did kinds.Map book first in
        subst (λ (k : Kind). ¬ HasLegalOrder (kind_spec k) book) (sym is)
        (key_missed kinds.Map map_key map_part (kind_next kinds.Map) book
        map_finds_what_is_put map_keeps_what_is_put (value_by d) first second
        (put_or_take d here.fit) here.related.1 here.related.0 here.takes)
  ]
  refuted named.TakenTooOften kind breaks =
      let holds = containers kind breaks.kept in
      taken_too_often (reading_of kind) (kind_spec kind) book holds.0 holds.1 (did kind book)
      (did_by_reading kind book breaks.kept) (value_at kind book first) second breaks.related.1
  refuted named.LeftBehind kind breaks =
      let holds = containers kind breaks.kept in
      let e : Deal = took kind book second in
      let parts = and_parts (is_put (did kind book first)) (is_nothing e) breaks.fit in
      left_behind (reading_of kind) (kind_spec kind) book holds.0 holds.1 (did kind book)
      (did_by_reading kind book breaks.kept) (value_at kind book first) second
      (sym (took_by_reading kind book breaks.kept second) ∙ nothing_is e parts.1)
      breaks.related.1
  refuted named.ValueUnput kind breaks =
      let is : kind ≡ kinds.Map = only_map kind breaks.kept in
      let here = moved kind kinds.Map book
      (record { rule = named.ValueUnput; first = first; second = second }) is breaks in
      subst (λ (k : Kind). ¬ HasLegalOrder (kind_spec k) book) (sym is)
      (value_unput book first here.related.1 here.puts)
  refuted named.ValueOverwritten kind breaks =
      let is : kind ≡ kinds.Map = only_map kind breaks.kept in
      let here = moved kind kinds.Map book
      (record { rule = named.ValueOverwritten; first = first; second = second }) is breaks in
      subst (λ (k : Kind). ¬ HasLegalOrder (kind_spec k) book) (sym is)
      (value_overwritten book first second here.related.0 here.related.1.0 here.related.1.1
      here.puts)
  refuted named.SwappedTwice kind breaks =
      let is : kind ≡ kinds.CasRegister = only_cas kind breaks.kept in
      let here = moved kind kinds.CasRegister book
      (record { rule = named.SwappedTwice; first = first; second = second }) is breaks in
      let d : Deal = did kinds.CasRegister book first in
      let e : Deal = took kinds.CasRegister book second in
      let two = two_parts d e here.fit in
      let f : Deal = did kinds.CasRegister book second in
      subst (λ (k : Kind). ¬ HasLegalOrder (kind_spec k) book) (sym is)
      (set_swapped book (value_by d) (value_by f) (value_by e) first second here.related.0 two.0
      here.related.1.0 (put_of f here.related.1.1) two.1 here.puts)

pub what_breaks_is_illegal : WhatBreaksIsIllegal
what_breaks_is_illegal kind book broken small breaks =
    refuted book small broken.first broken.second broken.rule kind
    (record {
      first = breaks.first;
      second = breaks.second;
      kept = breaks.kept;
      fit = breaks.fit;
      related = breaks.related;
      puts = breaks.puts;
      takes = breaks.takes;
    })
