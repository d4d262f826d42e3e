-- A value less than all items may be put in at once, where its take may come next too.
use Rattle.std.proofs.Common.{◌≡◌, ◌≢◌, ℕ, ◌+◌, ◌<◌, ◌≤◌, ◌∙◌, List, [], ◌∷◌, ◌++◌, length, get_or, Option, Some, unwrap_or, refl, sym, ap, subst, inl, inr, length-set, arith}
use Rattle.std.specs.List.{AllByRecursion}
use Rattle.std.proofs.lemmas.Bool.{cases_eq, cases_lt}
use Rattle.std.proofs.lemmas.Option.{same_Some, none-some}
use Rattle.book_base.specs.declared.call.Call.{Call}
use Rattle.book_base.specs.declared.call.Place.{Place}
use Rattle.book_base.specs.declared.call.Record.{Record}
use Rattle.search_hints.specs.declared.marked_callers.MarkedCallers.{MarkedCallers}
use Rattle.book_base.specs.Book.{Page, IsValid, operation_of, record_of}
use Rattle.book_base.specs.Order.{call_at}
use Rattle.book_base.specs.Next.{raised, next_call, MayComeNext, MayStandNext, list_after, Continues}
use Rattle.book_base.specs.Pruning.{HasOneOpen}
use Rattle.search_hints.specs.Marks.{IsMarked, MarksSuffice}
use Rattle.legal_orders.proofs.LegalOrder.{raised_twice, comes_later, within_cut}
use Rattle.legal_orders.specs.Container.{Puts, Takes, Reading}
use Rattle.legal_orders.specs.Calls.{PutsInAlone}
use Rattle.list_pruning.specs.LeastFirst.{placed, GivesLeastFirst, IsLeastTake, IsRising, PutsLeast}
use Rattle.list_pruning.proofs.Placing.{placed-before_all, placed-after, placed-between, placed-first, all-placed, all-weaker, below_all, small_all, cases_deed}
use Rattle.list_pruning.proofs.Taking.{word_at, word_is, word_stands, GoesOnAfter, goes_on_over, least_later, its_place, not_done, Parted, taken_first, take_stands}

-- A list around a value that it lacks: lesser items first, and then greater ones, which are below a
-- bound.
record Around (bound v : ℕ) (before after : List ℕ) : Type 0 where
  below : AllByRecursion (λ (x : ℕ). x < v) before
  above : AllByRecursion (λ (y : ℕ). v < y) after
  small : AllByRecursion (λ (y : ℕ). y < bound) after

-- An operation makes of a list around a value another list around this value.
record StaysAround (next : List ℕ → ℕ → List ℕ × ℕ) (bound v op : ℕ)
    (before after : List ℕ) : Type 0 where
  new_before : List ℕ
  new_after : List ℕ
  around : Around bound v new_before new_after
  list : (next (before ++ after) op).0 ≡ new_before ++ new_after

stays-put : (reading : Reading) (next : List ℕ → ℕ → List ℕ × ℕ) (bound : ℕ)
    → GivesLeastFirst reading next bound → (v op w : ℕ) (before after : List ℕ)
    → reading.deed op ≡ Puts w → w ≢ v → Around bound v before after
    → StaysAround next bound v op before after
stays-put reading next bound is v op w before after put apart around = elim (cases_lt w v) [
  | inl less ↦ record {
    new_before = placed w before;
    new_after = after;
    around = record {
      below = all-placed (λ (x : ℕ). x < v) w before less around.below;
      above = around.above;
      small = around.small;
    };
    list = is.put (before ++ after) op w put
        ∙ placed-before_all w before after (all-weaker (λ (y : ℕ). v < y) (λ (y : ℕ). w < y) after
        (λ (y : ℕ) (lt : v < y). omega (arith, lt, less)) around.above);
  }
  | inr more ↦
      let greater : v < w = elim (cases_lt v w) [
        | inl lt ↦ lt
        | inr le ↦ absurd (apart (omega (arith, le, more)))
      ] in
      record {
        new_before = before;
        new_after = placed w after;
        around = record {
          below = around.below;
          above = all-placed (λ (y : ℕ). v < y) w after greater around.above;
          small = all-placed (λ (y : ℕ). y < bound) w after (is.small op w put) around.small;
        };
        list = is.put (before ++ after) op w put
            ∙ placed-after w before after (all-weaker (λ (x : ℕ). x < v) (λ (x : ℕ). x ≤ w) before
            (λ (x : ℕ) (lt : x < v). omega (arith, lt, greater)) around.below);
      }
]

stays-take : (reading : Reading) (next : List ℕ → ℕ → List ℕ × ℕ) (bound : ℕ)
    → GivesLeastFirst reading next bound → (v op : ℕ) (before after : List ℕ)
    → reading.deed op ≡ Takes → Around bound v before after
    → StaysAround next bound v op before after
stays-take reading next bound is v op [] [] takes around =
    record { new_before = []; new_after = []; around = around; list = (is.empty op takes).0 }
stays-take reading next bound is v op [] (y ∷ after) takes around = record {
  new_before = [];
  new_after = after;
  around = record { below = tt; above = around.above.1; small = around.small.1 };
  list = is.take y after op takes;
}
stays-take reading next bound is v op (x ∷ before) after takes around = record {
  new_before = before;
  new_after = after;
  around = record { below = around.below.1; above = around.above; small = around.small };
  list = is.take x (before ++ after) op takes;
}

stays_around : (reading : Reading) (next : List ℕ → ℕ → List ℕ × ℕ) (bound : ℕ)
    → GivesLeastFirst reading next bound → (v op : ℕ) (before after : List ℕ)
    → reading.deed op ≢ Puts v → Around bound v before after
    → StaysAround next bound v op before after
stays_around reading next bound is v op before after not around =
    elim (cases_deed (reading.deed op)) [
      | inl put ↦ stays-put reading next bound is v op put.0 before after put.1
          (λ (e : put.0 ≡ v). not (put.1 ∙ ap Puts e)) around
      | inr other ↦ elim other [
        | inl takes ↦ stays-take reading next bound is v op before after takes around
        | inr neither ↦ record {
          new_before = before;
          new_after = after;
          around = around;
          list = is.neither (before ++ after) op neither;
        }
      ]
    ]

-- A take at a list around a value doesn't show this value, which the list lacks.
shows_other : (reading : Reading) (next : List ℕ → ℕ → List ℕ × ℕ) (bound : ℕ)
    → GivesLeastFirst reading next bound → (v op : ℕ) (before after : List ℕ) → v < bound
    → reading.deed op ≡ Takes → Around bound v before after
    → reading.shown (next (before ++ after) op).1 ≡ Some v → ⊥
shows_other reading next bound is v op [] [] small takes around shows =
    none-some v (sym (is.empty op takes).1 ∙ shows)
shows_other reading next bound is v op [] (y ∷ after) small takes around shows =
    omega
    (arith, around.above.0, same_Some y v (sym (is.shows y after op around.small.0 takes) ∙ shows))
shows_other reading next bound is v op (x ∷ before) after small takes around shows =
    omega (
      arith,
      around.below.0,
      same_Some x v (sym
          (is.shows x (before ++ after) op (omega (arith, small, around.below.0)) takes) ∙ shows),
    )

pub put_is_no_take : (v : ℕ) → Puts v ≡ Takes → ⊥
put_is_no_take v e = cc

-- the operation word of a call of the book
abbrev pub word_of_call : List Page → Call → ℕ
word_of_call book call = unwrap_or (operation_of book call) 0

-- The recorded reply of a put is the one that the object gives, at each list.
abbrev pub Gives : (List ℕ → ℕ → List ℕ × ℕ) → List Page → Call → Type 0
Gives next book call = (list : List ℕ) (r : Record) → record_of book call ≡ Some r
    → r.reply ≡ (next list (word_of_call book call)).1

-- Where places continue an order from a list around a value, places that are at least two fewer
-- continue it from this list after the put and the take of the value; and the recorded reply of the
-- put is the one that the object gives, at each list.
put_and_taken : (reading : Reading) (next : List ℕ → ℕ → List ℕ × ℕ) (bound : ℕ)
    → GivesLeastFirst reading next bound → (book : List Page) (v : ℕ) (put take : Call)
    → v < bound → IsValid book → HasOneOpen book → PutsInAlone reading book put v
    → put.caller ≢ take.caller → (rest : List Place) (cut before after : List ℕ)
    → length book ≤ length cut → MayComeNext book cut put → MayComeNext book cut take
    → IsLeastTake reading book cut v take → Around bound v before after
    → Continues book next cut (before ++ after) rest
    → GoesOnAfter 1 book next (raised cut put.caller) take.caller (before ++ after) rest
    × Gives next book put
put_and_taken reading next bound is book v put take small valid one alone two [] cut before after
    wide may takes_next least around goes =
    absurd (not_done reading book cut v take takes_next least.takes goes)
put_and_taken reading next bound is book v put take small valid one alone two
    (place ∷ rest) cut before after wide may takes_next least around goes =
    let in_put : put.caller < length cut = within_cut book cut put wide may.is_call in
    let in_take : take.caller < length cut = within_cut book cut take wide takes_next.is_call in
    let there : place.caller < length cut =
    within_cut book cut (call_at place) wide goes.0.may_come.is_call in
    let op : ℕ = word_at book place in
    let list : List ℕ = before ++ after in
    let raised_wide : (i : ℕ) → length book ≤ length (raised cut i) =
    λ (i : ℕ). omega (arith, wide, length-set cut i (get_or cut i 0 + 1)) in
    elim (cases_eq place.caller put.caller) [
      | inl same ↦
          let call : call_at place ≡ put = its_place book next cut list place put may goes.0 same in
          let word : op ≡ alone.0.0 =
          word_is book place alone.0.0 (ap (operation_of book) call ∙ alone.0.1) in
          let deed : reading.deed op ≡ Puts v = ap reading.deed word ∙ alone.0.2 in
          let parted : Parted v before after = record {
            below = around.below;
            above = all-weaker (λ (y : ℕ). v < y) (λ (y : ℕ). v ≤ y) after
                (λ (y : ℕ) (lt : v < y). omega (arith, lt)) around.above;
          } in
          let having : (next list op).0 ≡ before ++ v ∷ after =
          is.put list op v deed ∙ placed-between v before after around.below around.above in
          let on = taken_first reading next bound is book v take small valid one rest
          (raised cut put.caller) before after (raised_wide put.caller)
          (comes_later book cut put.caller take in_put
          (λ (e : take.caller ≡ put.caller). two (sym e)) takes_next)
          (least_later reading book cut v put.caller take in_put least) parted
          (subst (λ (i : ℕ). Continues book next (raised cut i) (before ++ v ∷ after) rest) same
          (subst (λ (xs : List ℕ). Continues book next (raised cut place.caller) xs rest)
          having goes.1)) in
          let not : reading.deed op ≢ Takes =
          λ (e : reading.deed op ≡ Takes). put_is_no_take v (sym deed ∙ e) in
          let its : op ≡ word_of_call book put = ap (word_of_call book) call in (
            (on.0, on.1, omega (arith, on.2)),
            λ (other : List ℕ) (r : Record) (known : record_of book put ≡ Some r).
                goes.0.recorded r (ap (record_of book) call ∙ known) ∙ (sym goes.0.reply
                ∙ (is.blind list other op not ∙ ap (λ (w : ℕ). (next other w).1) its)),
          )
      | inr not_put ↦
          let apart : place.caller ≢ take.caller = λ (same : place.caller ≡ take.caller).
          let call : call_at place ≡ take =
          its_place book next cut list place take takes_next goes.0 same in
          let word : op ≡ least.takes.0 =
          word_is book place least.takes.0 (ap (operation_of book) call ∙ least.takes.2) in
          shows_other reading next bound is v op before after small
          (ap reading.deed word ∙ least.takes.4) around
          (ap reading.shown (goes.0.reply ∙ sym
          (goes.0.recorded least.takes.1 (ap (record_of book) call ∙ least.takes.3)))
          ∙ least.takes.5) in
          let no : reading.deed op ≢ Puts v = λ (e : reading.deed op ≡ Puts v).
          not_put (ap (λ (c : Call). c.caller)
          (alone.1 (call_at place) (op, word_stands book place goes.0.may_come.is_call, e))) in
          let stays = stays_around reading next bound is v op before after no around in
          let on = put_and_taken reading next bound is book v put take small valid one alone two
          rest (raised cut place.caller) stays.new_before stays.new_after (raised_wide place.caller)
          (comes_later book cut place.caller put there
          (λ (e : put.caller ≡ place.caller). not_put (sym e)) may)
          (comes_later book cut place.caller take there
          (λ (e : take.caller ≡ place.caller). apart (sym e)) takes_next)
          (least_later reading book cut v place.caller take there least) stays.around
          (subst (λ (xs : List ℕ). Continues book next (raised cut place.caller) xs rest)
          stays.list goes.1) in
          let stands : MayStandNext book next (raised cut put.caller) list place = record {
            may_come =
                comes_later book cut put.caller (call_at place) in_put not_put goes.0.may_come;
            recorded = goes.0.recorded;
            reply = goes.0.reply;
          } in
          let moved : GoesOnAfter 1 book next (raised (raised cut put.caller) place.caller)
          take.caller (list_after book next list place) rest
          = subst (λ (c : List ℕ).
          GoesOnAfter 1 book next c take.caller (list_after book next list place) rest)
          (raised_twice cut place.caller put.caller not_put)
          (subst (λ (xs : List ℕ). GoesOnAfter 1 book next
          (raised (raised cut place.caller) put.caller) take.caller xs rest)
          (sym stays.list) on.0) in
          let in_raised : take.caller < length (raised cut put.caller) =
          omega (arith, in_take, length-set cut put.caller (get_or cut put.caller 0 + 1)) in (
            goes_on_over 1 book next (raised cut put.caller) list list take.caller place rest
                in_raised apart stands refl moved,
            on.1,
          )
    ]

-- Where the next call of a caller is the only one that puts in some value less than all items, and
-- the value's take with the least view may come next, the put suffices.
pub put_suffices : (reading : Reading) (next : List ℕ → ℕ → List ℕ × ℕ) (bound : ℕ)
    → GivesLeastFirst reading next bound → (book : List Page) (cut list : List ℕ)
    (caller : ℕ) (marks : MarkedCallers) → IsRising bound list → IsValid book → HasOneOpen book
    → length book ≤ length cut → MayComeNext book cut (next_call cut caller)
    → PutsLeast reading book cut list caller → IsMarked marks caller
    → MarksSuffice book next cut list marks
put_suffices reading next bound is book cut list caller marks rising valid one wide may least
    marked rest goes =
    let v : ℕ = least.value in
    let put : Call = next_call cut caller in
    let take : Call = next_call cut least.taker in
    let op : ℕ = least.alone.0.0 in
    let word : word_of_call book put ≡ op = ap (λ (o : Option ℕ). unwrap_or o 0) least.alone.0.1 in
    let deed : reading.deed op ≡ Puts v = least.alone.0.2 in
    let small : v < bound = is.small op v deed in
    let above : AllByRecursion (λ (y : ℕ). v < y) list =
    below_all bound v list rising least.below in
    let two : caller ≢ least.taker = λ (same : caller ≡ least.taker).
    let calls : put ≡ take = ap (next_call cut) same in
    let words : op ≡ least.takes.takes.0 = same_Some op least.takes.takes.0
    (sym least.alone.0.1 ∙ (ap (operation_of book) calls ∙ least.takes.takes.2)) in
    put_is_no_take v (sym deed ∙ (ap reading.deed words ∙ least.takes.takes.4)) in
    let around : Around bound v [] list =
    record { below = tt; above = above; small = small_all bound list rising } in
    let on = put_and_taken reading next bound is book v put take small valid one least.alone two
    rest cut [] list wide may least.may_come least.takes around goes in
    let in_put : caller < length cut = within_cut book cut put wide may.is_call in
    let first : Place = record {
      caller = caller;
      number = get_or cut caller 0;
      reply = (next list (word_of_call book put)).1;
    } in
    let stands : MayStandNext book next cut list first =
    record { may_come = may; recorded = on.1 list; reply = refl } in
    let having : list_after book next list first ≡ v ∷ list =
    ap (λ (w : ℕ). (next list w).0) word ∙ (is.put list op v deed ∙ placed-first v list above) in
    let now : List ℕ = raised cut caller in
    let taken = take_stands reading next bound is book cut v list take least.takes small now
    (comes_later book cut caller take in_put
    (λ (e : least.taker ≡ caller). two (sym e)) least.may_come) in
    let second : Place =
    record { caller = take.caller; number = take.number; reply = least.takes.takes.1.reply } in
    let rests : Continues book next now (v ∷ list) (second ∷ on.0.0)
    = (
      taken.0,
      subst (λ (xs : List ℕ). Continues book next (raised now take.caller) xs on.0.0)
          (sym taken.1) on.0.1,
    ) in (
      first,
      second ∷ on.0.0,
      marked,
      (
        stands,
        subst (λ (xs : List ℕ). Continues book next now xs (second ∷ on.0.0)) (sym having) rests,
      ),
      omega (arith, on.0.2),
    )
