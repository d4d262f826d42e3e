-- The rules of registers with compare-and-set: the value that is read, or that a compare-and-set
-- finds, was written last.
use Rattle.std.proofs.Common.{◌≡◌, ◌≢◌, ◌⊎◌, ◌∙◌, ℕ, suc, ◌==◌, ◌%◌, ◌^◌, ◌<◌, ◌≤◌, false, List, [], ◌∷◌, length, take, get_or, unwrap_or, Option, Some, None, if◌then◌else◌, refl, sym, ap, inl, inr, slice_get, arith}
use Rattle.std.proofs.lemmas.Bool.{cases_Bool, cases_eq, cases_order, cond-true, cond-false, cond_both, and_parts, eqb-true, ltb-true, true≢false}
use Rattle.std.proofs.lemmas.Option.{same_Some, none-some, slice_get-get_or, slice_get_within}
use Rattle.list_laws.proofs.Options.{cases_Option, some_from_is_some_and}
use Rattle.book_base.specs.declared.call.Call.{Call}
use Rattle.book_base.specs.declared.call.Place.{Place}
use Rattle.book_base.specs.declared.call.Record.{Record}
use Rattle.book_base.specs.SeqSpec.{SeqSpec, spec_from}
use Rattle.book_base.specs.Book.{Page, page_of, IsCall, operation_of, record_of, Precedes}
use Rattle.book_base.specs.Order.{call_at, StandsAt, step_at, IsLegalOrder, HasLegalOrder}
use Rattle.book_base.specs.Reaching.{list_after_run}
use Rattle.legal_orders.proofs.Runs.{step_of_run}
use Rattle.legal_orders.proofs.Orders.{steps_of, step_stands, place_of_step}
use Rattle.legal_orders.specs.Deals as deals
use Rattle.legal_orders.specs.Deals.{Deal, shown_deal, recorded_deal}
use Rattle.seq_objects.specs.declared.kind.Kind.TheVariants as kinds
use Rattle.seq_objects.specs.declared.cas_register.CasRegisterOperation.{CasRegisterOperation}
use Rattle.seq_objects.specs.declared.cas_register.CasRegisterOperation.TheVariants.{Write, Read, CompareAndSet}
use Rattle.seq_objects.specs.Words as words
use Rattle.seq_objects.specs.Words.{is_operation_of, code_of, extra_of, has_arguments}
use Rattle.seq_objects.specs.Replies.{reply_no, reply_yes, shown_value}
use Rattle.seq_objects.specs.Items.{first_or_zero}
use Rattle.seq_objects.specs.CasRegisterSteps.{compared_and_set, cas_register_operation, cas_register_after}
use Rattle.seq_objects.specs.Objects.{kind_next, kind_spec}
use Rattle.kind_search.specs.RegisterReading.{held_in, register_reading}
use Rattle.broken_rules.specs.Deeds.{set_deal, expected_deal, set_by_operation, set_by, expected_by_operation, expected_by, value_by, is_put}
use Rattle.broken_rules.proofs.Stepping.{shown_item, carried}
use Rattle.broken_rules.proofs.Standing.{reply_of_place, preceding_comes_first}

abbrev after : List ℕ → Option CasRegisterOperation → List ℕ × ℕ
after list o = cas_register_after list o

abbrev next : List ℕ → ℕ → List ℕ × ℕ
next list word = after list (cas_register_operation word)

-- ---- what an operation writes

-- the value that an operation with this reply writes
abbrev brought : Option CasRegisterOperation → ℕ → Option ℕ
brought (Some (Write value)) reply = Some value
brought (Some Read) reply = None
brought (Some (CompareAndSet expected new)) reply = if reply == reply_no then None else Some new
brought None reply = None

abbrev writes_small : Option CasRegisterOperation → Type 0
writes_small (Some (Write value)) = value < 2 ^ 32
writes_small (Some Read) = Unit {0}
writes_small (Some (CompareAndSet expected new)) = new < 2 ^ 32
writes_small None = Unit {0}

written_is_small : (word : ℕ) → writes_small (cas_register_operation word)
written_is_small word =
    cond_both {A = Option CasRegisterOperation} (is_operation_of word words.write) _ _ writes_small
    (λ write. omega arith)
    (λ _. cond_both {A = Option CasRegisterOperation}
    (is_operation_of word words.read) _ _ writes_small (λ read. tt)
    (λ _. cond_both {A = Option CasRegisterOperation}
    (is_operation_of word words.cas) _ _ writes_small
    (λ cas. ltb-true (extra_of word) (2 ^ 32)
    (and_parts (code_of word == words.cas.code) (has_arguments words.cas.arity word) cas).1)
    (λ other. tt)))

-- a compare-and-set that finds what it expects, and one that doesn't
set_cases : (list : List ℕ) (expected new : ℕ)
    → ((held_in list ≡ expected) × (compared_and_set list expected new ≡ (new ∷ [], reply_yes)))
    ⊎ (compared_and_set list expected new ≡ (list, reply_no))
set_cases list expected new = elim (cases_Bool (first_or_zero list % 2 ^ 32 == expected)) [
  | inl same ↦ inl (
    eqb-true (first_or_zero list % 2 ^ 32) expected same,
    cond-true (first_or_zero list % 2 ^ 32 == expected) (new ∷ [], reply_yes) (list, reply_no) same,
  )
  | inr other ↦ inr
      (cond-false (first_or_zero list % 2 ^ 32 == expected) (new ∷ [], reply_yes) (list, reply_no)
      other)
]

-- an operation that doesn't write a value leaves a register that doesn't hold it without it
step_keeps : (list : List ℕ) (o : Option CasRegisterOperation) (v : ℕ) → writes_small o
    → (brought o (after list o).1 ≡ Some v → ⊥) → (held_in list ≡ v → ⊥)
    → held_in (after list o).0 ≡ v → ⊥
step_keeps list (Some (Write value)) v small none other now =
    none (let same : value ≡ v = omega (arith, small, now) in ap Some same)
step_keeps list (Some Read) v small none other now = other now
step_keeps list (Some (CompareAndSet expected new)) v small none other now =
    elim (set_cases list expected new) [
      | inl found ↦
          let same : new ≡ v =
          omega (arith, small, sym (ap (λ (r : List ℕ × ℕ). held_in r.0) found.1) ∙ now) in
          none (ap (λ (r : List ℕ × ℕ). brought (Some (CompareAndSet expected new)) r.1) found.1
          ∙ ap Some same)
      | inr missed ↦ other (sym (ap (λ (r : List ℕ × ℕ). held_in r.0) missed) ∙ now)
    ]
step_keeps list None v small none other now = other now

-- ---- what a call did

shown_is_no_put : (shown : Option ℕ) → is_put (shown_deal shown) ≡ false
shown_is_no_put None = refl
shown_is_no_put (Some v) = refl

-- a call whose operation writes a value is read as a put of this value
put_brought : (book : List Page) (call : Call) (o : Option CasRegisterOperation) (reply v : ℕ)
    → ((r : Record) → record_of book call ≡ Some r → r.reply ≡ reply)
    → brought o reply ≡ Some v → set_by_operation book call o ≡ deals.Put v
put_brought book call (Some (Write value)) reply v same is = ap deals.Put (same_Some value v is)
put_brought book call (Some Read) reply v same is = absurd (none-some v is)
put_brought book call (Some (CompareAndSet expected new)) reply v same is =
    elim (cases_Bool (reply == reply_no)) [
      | inl denied ↦
          absurd (none-some v (sym (cond-true (reply == reply_no) None (Some new) denied) ∙ is))
      | inr other ↦
          let value : new ≡ v =
          same_Some new v (sym (cond-false (reply == reply_no) None (Some new) other) ∙ is) in
          elim (cases_Option (record_of book call)) [
            | inl none ↦ ap (set_deal new) none ∙ ap deals.Put value
            | inr answer ↦
                ap (set_deal new) answer.1
                ∙ (cond-false (answer.0.reply == reply_no) deals.Other (deals.Put new)
                (ap (λ (n : ℕ). n == reply_no) (same answer.0 answer.1) ∙ other)
                ∙ ap deals.Put value)
          ]
    ]
put_brought book call None reply v same is = absurd (none-some v is)

-- after an answered call that is read as a put of a value, the register holds this value
put_leaves : (book : List Page) (call : Call) (list : List ℕ) (o : Option CasRegisterOperation)
    (v : ℕ) (r : Record) → writes_small o → record_of book call ≡ Some r
    → r.reply ≡ (after list o).1 → set_by_operation book call o ≡ deals.Put v
    → held_in (after list o).0 ≡ v
put_leaves book call list (Some (Write value)) v r small known same is =
    let value_is : value ≡ v = ap value_by is in
    omega (arith, small, value_is)
put_leaves book call list (Some Read) v r small known same is =
    let shown : recorded_deal register_reading (record_of book call)
    ≡ shown_deal (shown_value r.reply) =
    ap (recorded_deal register_reading) known in
    absurd (true≢false (sym (ap is_put (sym shown ∙ is)) ∙ shown_is_no_put (shown_value r.reply)))
put_leaves book call list (Some (CompareAndSet expected new)) v r small known same is =
    let deal : set_deal new (Some r) ≡ deals.Put v = sym (ap (set_deal new) known) ∙ is in
    elim (set_cases list expected new) [
      | inl found ↦
          let granted : r.reply ≡ reply_yes = same ∙ ap (λ (p : List ℕ × ℕ). p.1) found.1 in
          let put : deals.Put new ≡ deals.Put v =
          sym (ap (λ (n : ℕ). if n == reply_no then deals.Other else deals.Put new) granted) ∙ deal in
          let value_is : new ≡ v = ap value_by put in
          ap (λ (p : List ℕ × ℕ). held_in p.0) found.1 ∙ omega (arith, small, value_is)
      | inr missed ↦
          let denied : r.reply ≡ reply_no = same ∙ ap (λ (p : List ℕ × ℕ). p.1) missed in
          let other : deals.Other ≡ deals.Put v =
          sym (ap (λ (n : ℕ). if n == reply_no then deals.Other else deals.Put new) denied) ∙ deal in
          absurd (true≢false (sym (ap is_put other)))
    ]
put_leaves book call list None v r small known same is = absurd (true≢false (sym (ap is_put is)))

-- a call that is read as a take of a value found that the register held it
took_shows : (book : List Page) (call : Call) (list : List ℕ) (o : Option CasRegisterOperation)
    (v : ℕ) (r : Record) → record_of book call ≡ Some r → r.reply ≡ (after list o).1
    → expected_by_operation book call o ≡ deals.Took v
    → held_in list ≡ v
took_shows book call list (Some (Write value)) v r known same is = absurd cc
took_shows book call list (Some Read) v r known same is =
    let shown : shown_value r.reply ≡ Some (held_in list) =
    ap shown_value same ∙ shown_item (first_or_zero list) in
    let deal : deals.Took (held_in list) ≡ deals.Took v
    = sym (ap shown_deal shown) ∙ (sym (ap (recorded_deal register_reading) known) ∙ is) in
    ap value_by deal
took_shows book call list (Some (CompareAndSet expected new)) v r known same is =
    let deal : expected_deal expected (Some r) ≡ deals.Took v =
    sym (ap (expected_deal expected) known) ∙ is in
    elim (set_cases list expected new) [
      | inl found ↦
          let granted : r.reply ≡ reply_yes = same ∙ ap (λ (p : List ℕ × ℕ). p.1) found.1 in
          let took : deals.Took expected ≡ deals.Took v
          = sym (ap (λ (n : ℕ). if n == reply_yes then deals.Took expected else deals.Other) granted)
          ∙ deal in
          found.0 ∙ ap value_by took
      | inr missed ↦
          let denied : r.reply ≡ reply_no = same ∙ ap (λ (p : List ℕ × ℕ). p.1) missed in
          let other : deals.Other ≡ deals.Took v
          = sym (ap (λ (n : ℕ). if n == reply_yes then deals.Took expected else deals.Other) denied)
          ∙ deal in
          absurd cc
    ]
took_shows book call list None v r known same is = absurd cc

-- a call that is read as a take of a value is answered
took_by_record : (book : List Page) (call : Call) (o : Option CasRegisterOperation) (v : ℕ)
    (a : Option Record) → record_of book call ≡ a
    → expected_by_operation book call o ≡ deals.Took v → (r : Record) × (a ≡ Some r)
took_by_record book call o v (Some r) known is = (r, refl)
took_by_record book call (Some (Write value)) v None known is = absurd cc
took_by_record book call (Some Read) v None known is =
    let deal : deals.OpenTake ≡ deals.Took v =
    sym (ap (recorded_deal register_reading) known) ∙ is in
    absurd cc
took_by_record book call (Some (CompareAndSet expected new)) v None known is =
    let deal : deals.Other ≡ deals.Took v = sym (ap (expected_deal expected) known) ∙ is in
    absurd cc
took_by_record book call None v None known is = absurd cc

-- an answered call's predecessors are answered
preceding_is_answered : (book : List Page) (a b : Call) (r : Record) → record_of book b ≡ Some r
    → Precedes book a b → (s : Record) × (record_of book a ≡ Some s)
preceding_is_answered book a b r known precedes = elim precedes [
  | inl answered ↦
      let some = some_from_is_some_and (record_of book a)
      (λ (s : Record). get_or s.view b.caller 0 ≤ b.number) answered in
      (some.0, some.1)
  | inr own ↦
      let records : List Record = (page_of book b.caller).records in
      let inside = slice_get_within records b.number r known in
      let s : Record = get_or records a.number r in
      let here : slice_get records a.number ≡ Some s =
      slice_get-get_or records a.number r (omega (arith, inside, own.1)) in (
        s,
        ap (λ (i : ℕ). slice_get (page_of book i).records a.number) own.0 ∙ here,
      )
]

-- ---- the rules

abbrev spec : SeqSpec
spec = spec_from (0 ∷ []) next

module _ (book : List Page) (order : List Place) (legal : IsLegalOrder spec book order) where
  -- the value held at a moment
  abbrev held_at : ℕ → ℕ
  held_at n = held_in (list_after_run next (0 ∷ []) (take n (steps_of book order)))

  -- the step of a call in the order, with the call's record
  own_step : (k : ℕ) (call : Call) (r : Record) → StandsAt order k call → record_of book call ≡ Some r
      → (k < length (steps_of book order))
      × ((op : ℕ) × (unwrap_or (operation_of book call) 0 ≡ op)
      × (r.reply ≡ (next (list_after_run next (0 ∷ []) (take k (steps_of book order))) op).1)
      × (list_after_run next (0 ∷ []) (take (suc k) (steps_of book order))
      ≡ (next (list_after_run next (0 ∷ []) (take k (steps_of book order))) op).0))
  own_step k call r stands known =
      let steps = steps_of book order in
      let place : Place = stands.0 in
      let at : slice_get steps k ≡ Some (step_at book place) =
      step_stands book order k place stands.1 in
      let ran = step_of_run next (0 ∷ []) steps k (step_at book place) legal.run at in
      let same : r.reply ≡ place.reply =
      reply_of_place spec book order legal k place stands.1 r (ap (record_of book) stands.2 ∙ known) in (
        slice_get_within steps k (step_at book place) at,
        (
          (step_at book place).0,
          ap (λ (c : Call). unwrap_or (operation_of book c) 0) (sym stands.2),
          same ∙ sym ran.0,
          ran.1,
        ),
      )

  module _ (w : ℕ) where
    -- the register doesn't hold the value at a moment
    abbrev IsOther : ℕ → Type 0
    IsOther n = held_at n ≡ w → ⊥

    -- a step of a call that isn't a put of the value leaves the register without it
    kept : (n : ℕ) → n < length (steps_of book order)
        → ((call : Call) → StandsAt order n call → IsCall book call
        → set_by book call ≡ deals.Put w → ⊥)
        → IsOther n → IsOther (suc n)
    kept n inside none other now =
        let steps : List (ℕ × ℕ) = steps_of book order in
        let step : ℕ × ℕ = get_or steps n (0, 0) in
        let at : slice_get steps n ≡ Some step = slice_get-get_or steps n (0, 0) inside in
        let here : List ℕ = list_after_run next (0 ∷ []) (take n steps) in
        let ran = step_of_run next (0 ∷ []) steps n step legal.run at in
        let place = place_of_step book order n step at in
        let call : Call = call_at place.0 in
        let stands : StandsAt order n call = (place.0, place.1, refl) in
        let o : Option CasRegisterOperation = cas_register_operation step.0 in
        step_keeps here o w (written_is_small step.0)
        (λ is. none call stands (legal.calls n call stands)
        (ap (λ (s : ℕ × ℕ). set_by_operation book call (cas_register_operation s.0)) place.2
        ∙ put_brought book call o place.0.reply w
        (λ r known. reply_of_place spec book order legal n place.0 place.1 r known)
        (ap (λ (s : ℕ × ℕ). brought o s.1) place.2 ∙ (ap (brought o) (sym ran.0) ∙ is))))
        other (sym (ap held_in ran.1) ∙ now)

    -- while no call writes the value, a register without it doesn't get it
    stays : (b m : ℕ) → m ≤ length (steps_of book order)
        → ((j : ℕ) (call : Call) → StandsAt order j call → IsCall book call
        → set_by book call ≡ deals.Put w → (j < b) ⊎ (m ≤ j))
        → IsOther b → b ≤ m → IsOther m
    stays b m inside outside other le =
        carried IsOther b m (λ n low high there. kept n (omega (arith, inside, high))
        (λ call stands made puts. elim (outside n call stands made puts) [
          | inl before ↦ absurd (omega (arith, before, low))
          | inr late ↦ absurd (omega (arith, late, high))
        ]) there) other m le (omega arith)

  -- A call that is read as a take of a value stands where the register holds it.
  reads_at : (reader : Call) (v : ℕ) → expected_by book reader ≡ deals.Took v → (r : Record)
      × (record_of book reader ≡ Some r)
      × ((m : ℕ) × StandsAt order m reader × (m < length (steps_of book order)) × (held_at m ≡ v))
  reads_at reader v takes =
      let word : ℕ = unwrap_or (operation_of book reader) 0 in
      let o : Option CasRegisterOperation = cas_register_operation word in
      let r = took_by_record book reader o v (record_of book reader) refl takes in
      let found = legal.answered reader r.0 r.1 in
      let stands : StandsAt order found.0 reader = (
        record { caller = reader.caller; number = reader.number; reply = r.0.reply },
        found.1,
        refl,
      ) in
      let step = own_step found.0 reader r.0 stands r.1 in
      let here : List ℕ = list_after_run next (0 ∷ []) (take found.0 (steps_of book order)) in
      let reply : r.0.reply ≡ (next here word).1 =
      step.1.2 ∙ ap (λ (op : ℕ). (next here op).1) (sym step.1.1) in
      (r.0, r.1, (found.0, stands, step.0, took_shows book reader here o v r.0 r.1 reply takes))

  -- A value that a call wrote over isn't held before another call where no write of it comes in
  -- between.
  passed : (v w q m : ℕ) (writer : Call) (s : Record) → StandsAt order q writer
      → record_of book writer ≡ Some s → set_by book writer ≡ deals.Put v → q < m
      → m < length (steps_of book order) → held_at m ≡ w
      → ((j : ℕ) (call : Call) → StandsAt order j call → IsCall book call
      → set_by book call ≡ deals.Put w → (j < q) ⊎ (m < j)) → ⊥
  passed v w q m writer s stands known puts lt inside holds beside =
      let made : IsCall book writer = legal.calls q writer stands in
      elim (cases_eq v w) [
        | inl same ↦ elim (beside q writer stands made (puts ∙ ap deals.Put same)) [
          | inl before ↦ absurd (omega (arith, before))
          | inr late ↦ absurd (omega (arith, late, lt))
        ]
        | inr differ ↦
            let step = own_step q writer s stands known in
            let here : List ℕ = list_after_run next (0 ∷ []) (take q (steps_of book order)) in
            let word : ℕ = unwrap_or (operation_of book writer) 0 in
            let reply : s.reply ≡ (next here word).1 =
            step.1.2 ∙ ap (λ (op : ℕ). (next here op).1) (sym step.1.1) in
            let left : held_in (next here word).0 ≡ v =
            put_leaves book writer here (cas_register_operation word) v s (written_is_small word)
            known reply puts in
            let now : held_at (suc q) ≡ v
            = ap held_in (step.1.3 ∙ ap (λ (op : ℕ). (next here op).0) (sym step.1.1)) ∙ left in
            stays w (suc q) m (omega (arith, inside))
            (λ j call standing own writes. elim (beside j call standing own writes) [
              | inl before ↦ inl (omega (arith, before))
              | inr late ↦ inr (omega (arith, late))
            ])
            (λ same. differ (sym now ∙ same)) (omega (arith, lt)) holds
      ]

-- A value that is read, or that a compare-and-set finds, and that isn't 0, is written before: not
-- each of its writes comes after.
unwritten : (book : List Page) (v : ℕ) (reader : Call) → v ≢ 0
    → expected_by book reader ≡ deals.Took v
    → ((call : Call) → IsCall book call → set_by book call ≡ deals.Put v
    → Precedes book reader call) → ¬ HasLegalOrder spec book
unwritten book v reader new takes follow h =
    let order = h.0 in
    let legal = h.1 in
    let m = (reads_at book order legal reader v takes).2 in
    stays book order legal v 0 m.0 (omega (arith, m.2))
    (λ j call stands made puts. inr (let late : m.0 < j =
    legal.precedence m.0 j reader call m.1 stands (follow call made puts) in omega (arith, late)))
    (λ same. new (sym same)) (omega arith) m.3

-- A value that is written over before a call isn't read or found by it: some write of the value
-- comes neither before the other write, nor after the call.
overwritten : (book : List Page) (v w : ℕ) (writer reader : Call)
    → set_by book writer ≡ deals.Put v → expected_by book reader ≡ deals.Took w
    → Precedes book writer reader
    → ((call : Call) → IsCall book call → set_by book call ≡ deals.Put w
    → Precedes book call writer ⊎ Precedes book reader call) → ¬ HasLegalOrder spec book
overwritten book v w writer reader puts takes precedes outside h =
    let order = h.0 in
    let legal = h.1 in
    let read = reads_at book order legal reader w takes in
    let m = read.2 in
    let q = preceding_comes_first spec book writer reader precedes order legal m.0 m.1 in
    let beside : (j : ℕ) (call : Call) → StandsAt order j call → IsCall book call
    → set_by book call ≡ deals.Put w → (j < q.0) ⊎ (m.0 < j) =
    λ j call standing own writes. elim (outside call own writes) [
      | inl before ↦ inl (legal.precedence j q.0 call writer standing q.2 before)
      | inr late ↦ inr (legal.precedence m.0 j reader call m.1 standing late)
    ] in
    let s = preceding_is_answered book writer reader read.0 read.1 precedes in
    passed book order legal v w q.0 m.0 writer s.0 q.2 s.1 puts q.1 m.2 m.3 beside

-- Of two compare-and-sets that find the same value and write a value the later one finds what was
-- written after the earlier one: not each write of this value comes before both or after both.
swapped : (book : List Page) (v w x : ℕ) (one other : Call) → one ≢ other
    → set_by book one ≡ deals.Put v → expected_by book one ≡ deals.Took x
    → set_by book other ≡ deals.Put w → expected_by book other ≡ deals.Took x
    → ((call : Call) → IsCall book call → set_by book call ≡ deals.Put x
    → (Precedes book call one × Precedes book call other)
    ⊎ (Precedes book one call × Precedes book other call)) → ¬ HasLegalOrder spec book
swapped book v w x one other apart puts takes puts_too takes_too beside h =
    let order = h.0 in
    let legal = h.1 in
    let a = reads_at book order legal one x takes in
    let b = reads_at book order legal other x takes_too in
    let i : ℕ = a.2.0 in
    let k : ℕ = b.2.0 in
    elim (cases_order i k) [
      | inl same ↦
          let place : a.2.1.0 ≡ b.2.1.0 =
          same_Some a.2.1.0 b.2.1.0 (sym a.2.1.1 ∙ (ap (slice_get order) same ∙ b.2.1.1)) in
          apart (sym a.2.1.2 ∙ (ap call_at place ∙ b.2.1.2))
      | inr differ ↦ elim differ [
        | inl lt ↦ passed book order legal v x i k one a.0 a.2.1 a.1 puts lt b.2.2 b.2.3
            (λ j call standing own writes. elim (beside call own writes) [
              | inl before ↦ inl (legal.precedence j i call one standing a.2.1 before.0)
              | inr late ↦ inr (legal.precedence k j other call b.2.1 standing late.1)
            ])
        | inr gt ↦ passed book order legal w x k i other b.0 b.2.1 b.1 puts_too gt a.2.2 a.2.3
            (λ j call standing own writes. elim (beside call own writes) [
              | inl before ↦ inl (legal.precedence j k call other standing b.2.1 before.1)
              | inr late ↦ inr (legal.precedence i j one call a.2.1 standing late.0)
            ])
      ]
    ]

pub set_unwritten : (book : List Page) (v : ℕ) (reader : Call) → v ≢ 0
    → expected_by book reader ≡ deals.Took v
    → ((call : Call) → IsCall book call → set_by book call ≡ deals.Put v
    → Precedes book reader call) → ¬ HasLegalOrder (kind_spec kinds.CasRegister) book
unfolding kind_next
set_unwritten book v reader new takes follow = unwritten book v reader new takes follow

pub set_overwritten : (book : List Page) (v w : ℕ) (writer reader : Call)
    → set_by book writer ≡ deals.Put v → expected_by book reader ≡ deals.Took w
    → Precedes book writer reader
    → ((call : Call) → IsCall book call → set_by book call ≡ deals.Put w
    → Precedes book call writer ⊎ Precedes book reader call)
    → ¬ HasLegalOrder (kind_spec kinds.CasRegister) book
unfolding kind_next
set_overwritten book v w writer reader puts takes precedes outside =
    overwritten book v w writer reader puts takes precedes outside

pub set_swapped : (book : List Page) (v w x : ℕ) (one other : Call) → one ≢ other
    → set_by book one ≡ deals.Put v → expected_by book one ≡ deals.Took x
    → set_by book other ≡ deals.Put w → expected_by book other ≡ deals.Took x
    → ((call : Call) → IsCall book call → set_by book call ≡ deals.Put x
    → (Precedes book call one × Precedes book call other)
    ⊎ (Precedes book one call × Precedes book other call))
    → ¬ HasLegalOrder (kind_spec kinds.CasRegister) book
unfolding kind_next
set_swapped book v w x one other apart puts takes puts_too takes_too beside =
    swapped book v w x one other apart puts takes puts_too takes_too beside
