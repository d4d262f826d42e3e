-- A value that is put in once may be put in at once, where its take may come next too.
use Rattle.std.proofs.Common.{◌≡◌, ◌≢◌, ℕ, ◌+◌, ◌<◌, ◌≤◌, ◌∙◌, List, [], ◌∷◌, ◌++◌, length, get_or, true, None, Option, Some, unwrap_or, refl, sym, ap, subst, inl, inr, length-set, arith}
use Rattle.std.specs.List.{AllByRecursion}
use Rattle.std.specs.Option.{IfSome, is_some}
use Rattle.std.proofs.lemmas.Bool.{cases_eq}
use Rattle.std.proofs.lemmas.List.{append-nil}
use Rattle.std.proofs.lemmas.Option.{same_Some, none-some}
use Rattle.book_base.specs.declared.call.Call.{Call}
use Rattle.book_base.specs.declared.call.Place.{Place}
use Rattle.book_base.specs.declared.call.Record.{Record}
use Rattle.search_hints.specs.declared.marked_callers.MarkedCallers.{MarkedCallers}
use Rattle.search_hints.specs.declared.sight.Sight.{Sight}
use Rattle.book_base.specs.Book.{Page, IsValid, operation_of, record_of}
use Rattle.book_base.specs.Order.{call_at}
use Rattle.book_base.specs.Next.{raised, next_call, MayComeNext, MayStandNext, list_after, Continues}
use Rattle.book_base.specs.Pruning.{HasOneOpen}
use Rattle.search_hints.specs.Marks.{IsMarked, MarksAllNext, MarksSuffice}
use Rattle.legal_orders.proofs.LegalOrder.{raised_same, raised_twice, comes_later, within_cut}
use Rattle.legal_orders.specs.Container.{Puts, Takes, Reading}
use Rattle.legal_orders.specs.Calls.{PutsIn, PutsInAlone}
use Rattle.list_pruning.specs.LeastFirst.{IsLeastTake}
use Rattle.list_pruning.specs.HoldsLast.{IsWritten}
use Rattle.list_pruning.specs.Sights.{ListsValues, puts_of}
use Rattle.list_pruning.proofs.Taking.{word_at, word_is, word_stands, GoesOnAfter, goes_on_over, least_later, its_place, not_done}
use Rattle.list_pruning.proofs.Listing.{one_listed}
use Rattle.list_pruning.proofs.Putting.{word_of_call, Gives, put_is_no_take}
use Rattle.list_pruning.specs.LastFirst.{GivesLastFirst, IsSmall, Lacks, PutsPaired}
use Rattle.list_pruning.proofs.Stepping.{cases_end, all-prefix, all_next}
use Rattle.list_pruning.proofs.StackTaking.{IsAnother, taken_for_good, take_stands}

-- A take from a list that lacks a value doesn't show this value.
shows_other : (reading : Reading) (next : List ℕ → ℕ → List ℕ × ℕ) (bound : ℕ)
    → GivesLastFirst reading next bound → (v op : ℕ) (list : List ℕ)
    → reading.deed op ≡ Takes → AllByRecursion (IsAnother bound v) list
    → reading.shown (next list op).1 ≡ Some v → ⊥
shows_other reading next bound is v op list takes all shows = elim (cases_end list) [
  | inl none ↦ none-some v (sym (is.empty op takes).1
      ∙ (ap (λ (xs : List ℕ). reading.shown (next xs op).1) (sym none) ∙ shows))
  | inr some ↦
      let last = (all-prefix (IsAnother bound v) some.0 some.1
      (subst (λ (xs : List ℕ). AllByRecursion (IsAnother bound v) xs) some.2 all)).1 in
      last.0 (same_Some some.1 v (sym (is.shows some.0 some.1 op last.1 takes)
      ∙ (ap (λ (xs : List ℕ). reading.shown (next xs op).1) (sym some.2) ∙ shows)))
]

-- Once the only put of a value has come, no call outside the cut puts the value in.
put_no_more : (reading : Reading) (book : List Page) (cut : List ℕ) (v : ℕ) (put : Call)
    → put.caller < length cut → MayComeNext book cut put → PutsInAlone reading book put v
    → IsWritten reading book (raised cut put.caller) v → ⊥
put_no_more reading book cut v put inside may alone written =
    let same : written.0 ≡ put = alone.1 written.0 written.1.0 in
    omega (
      arith,
      written.1.1,
      raised_same cut put.caller inside,
      may.next,
      ap (λ (c : Call). get_or (raised cut put.caller) c.caller 0) same,
      ap (λ (c : Call). c.number) same,
    )

-- Where places continue an order from a list that lacks a value, at least two fewer continue it
-- from there once the only put of the value and its take have come; and the recorded reply of the
-- put is the one that the object gives at each list.
put_and_taken : (reading : Reading) (next : List ℕ → ℕ → List ℕ × ℕ) (bound : ℕ)
    → GivesLastFirst reading next bound → (book : List Page) (v : ℕ) (put take : Call)
    → v < bound → IsValid book → HasOneOpen book → PutsInAlone reading book put v
    → put.caller ≢ take.caller → (rest : List Place) (cut list : List ℕ)
    → length book ≤ length cut → MayComeNext book cut put → MayComeNext book cut take
    → IsLeastTake reading book cut v take → AllByRecursion (IsAnother bound v) list
    → Continues book next cut list rest
    → GoesOnAfter 1 book next (raised cut put.caller) take.caller list rest × Gives next book put
put_and_taken reading next bound is book v put take small valid one alone two [] cut list wide may
    takes_next least all goes =
    absurd (not_done reading book cut v take takes_next least.takes goes)
put_and_taken reading next bound is book v put take small valid one alone two
    (place ∷ rest) cut list wide may takes_next least all goes =
    let in_put : put.caller < length cut = within_cut book cut put wide may.is_call in
    let in_take : take.caller < length cut = within_cut book cut take wide takes_next.is_call in
    let there : place.caller < length cut =
    within_cut book cut (call_at place) wide goes.0.may_come.is_call in
    let op : ℕ = word_at book place in
    let raised_wide : (i : ℕ) → length book ≤ length (raised cut i) =
    λ (i : ℕ). omega (arith, wide, length-set cut i (get_or cut i 0 + 1)) in
    elim (cases_eq place.caller put.caller) [
      | inl same ↦
          let call : call_at place ≡ put = its_place book next cut list place put may goes.0 same in
          let word : op ≡ alone.0.0 =
          word_is book place alone.0.0 (ap (operation_of book) call ∙ alone.0.1) in
          let deed : reading.deed op ≡ Puts v = ap reading.deed word ∙ alone.0.2 in
          let having : (next list op).0 ≡ (list ++ v ∷ []) ++ [] =
          is.put list op v deed ∙ sym (append-nil (list ++ v ∷ [])) in
          let on = taken_for_good reading next bound is book v take small valid one rest
          (raised cut put.caller) list [] (raised_wide put.caller)
          (comes_later book cut put.caller take in_put
          (λ (e : take.caller ≡ put.caller). two (sym e)) takes_next)
          (least_later reading book cut v put.caller take in_put least)
          (put_no_more reading book cut v put in_put may alone) tt
          (subst (λ (i : ℕ). Continues book next (raised cut i) ((list ++ v ∷ []) ++ []) rest) same
          (subst (λ (xs : List ℕ). Continues book next (raised cut place.caller) xs rest)
          having goes.1)) in
          let not : reading.deed op ≢ Takes =
          λ (e : reading.deed op ≡ Takes). put_is_no_take v (sym deed ∙ e) in
          let its : op ≡ word_of_call book put = ap (word_of_call book) call in (
            (
              on.0,
              subst (λ (xs : List ℕ). Continues book next
                  (raised (raised cut put.caller) take.caller) xs on.0) (append-nil list) on.1,
              omega (arith, on.2),
            ),
            λ (other : List ℕ) (r : Record) (known : record_of book put ≡ Some r).
                goes.0.recorded r (ap (record_of book) call ∙ known) ∙ (sym goes.0.reply
                ∙ (is.blind list other op not ∙ ap (λ (w : ℕ). (next other w).1) its)),
          )
      | inr not_put ↦
          let apart : place.caller ≢ take.caller = λ (same : place.caller ≡ take.caller).
          let call : call_at place ≡ take =
          its_place book next cut list place take takes_next goes.0 same in
          let word : op ≡ least.takes.0 =
          word_is book place least.takes.0 (ap (operation_of book) call ∙ least.takes.2) in
          shows_other reading next bound is v op list (ap reading.deed word ∙ least.takes.4) all
          (ap reading.shown (goes.0.reply ∙ sym
          (goes.0.recorded least.takes.1 (ap (record_of book) call ∙ least.takes.3)))
          ∙ least.takes.5) in
          let puts : (w : ℕ) → reading.deed op ≡ Puts w → IsAnother bound v w =
          λ (w : ℕ) (e : reading.deed op ≡ Puts w). (
            λ (same : w ≡ v). not_put (ap (λ (c : Call). c.caller) (alone.1 (call_at place)
                (op, word_stands book place goes.0.may_come.is_call, e ∙ ap Puts same))),
            is.small op w e,
          ) in
          let on = put_and_taken reading next bound is book v put take small valid one alone two
          rest (raised cut place.caller) (next list op).0 (raised_wide place.caller)
          (comes_later book cut place.caller put there
          (λ (e : put.caller ≡ place.caller). not_put (sym e)) may)
          (comes_later book cut place.caller take there
          (λ (e : take.caller ≡ place.caller). apart (sym e)) takes_next)
          (least_later reading book cut v place.caller take there least)
          (all_next reading next bound is (IsAnother bound v) list op puts all) goes.1 in
          let stands : MayStandNext book next (raised cut put.caller) list place = record {
            may_come =
                comes_later book cut put.caller (call_at place) in_put not_put goes.0.may_come;
            recorded = goes.0.recorded;
            reply = goes.0.reply;
          } in
          let moved : GoesOnAfter 1 book next (raised (raised cut put.caller) place.caller)
          take.caller (list_after book next list place) rest
          = subst (λ (c : List ℕ).
          GoesOnAfter 1 book next c take.caller (list_after book next list place) rest)
          (raised_twice cut place.caller put.caller not_put) on.0 in
          let in_raised : take.caller < length (raised cut put.caller) =
          omega (arith, in_take, length-set cut put.caller (get_or cut put.caller 0 + 1)) in (
            goes_on_over 1 book next (raised cut put.caller) list list take.caller place rest
                in_raised apart stands refl moved,
            on.1,
          )
    ]

-- Each item of a list that lacks a value and whose items are below a bound is another value, and
-- below the bound.
both_hold : (bound v : ℕ) (list : List ℕ) → Lacks list v → IsSmall bound list
    → AllByRecursion (IsAnother bound v) list
both_hold bound v [] lacks small = tt
both_hold bound v (x ∷ rest) lacks small =
    ((lacks.0, small.0), both_hold bound v rest lacks.1 small.1)

-- Marks suffice where they are on a caller whose next call is the only one that puts in some value,
-- which isn't in the list, and the take of this value with the least view may come next.
pub paired_put_suffices : (reading : Reading) (next : List ℕ → ℕ → List ℕ × ℕ) (bound : ℕ)
    → GivesLastFirst reading next bound → (book : List Page) (cut list : List ℕ)
    (caller : ℕ) (marks : MarkedCallers) → IsSmall bound list → IsValid book → HasOneOpen book
    → length book ≤ length cut → MayComeNext book cut (next_call cut caller)
    → PutsPaired reading book cut list caller → IsMarked marks caller
    → MarksSuffice book next cut list marks
paired_put_suffices reading next bound is book cut list caller marks all valid one wide may paired
    marked rest goes =
    let v : ℕ = paired.value in
    let put : Call = next_call cut caller in
    let take : Call = next_call cut paired.taker in
    let op : ℕ = paired.alone.0.0 in
    let word : word_of_call book put ≡ op = ap (λ (o : Option ℕ). unwrap_or o 0) paired.alone.0.1 in
    let deed : reading.deed op ≡ Puts v = paired.alone.0.2 in
    let small : v < bound = is.small op v deed in
    let two : caller ≢ paired.taker = λ (same : caller ≡ paired.taker).
    let calls : put ≡ take = ap (next_call cut) same in
    let words : op ≡ paired.takes.takes.0 = same_Some op paired.takes.takes.0
    (sym paired.alone.0.1 ∙ (ap (operation_of book) calls ∙ paired.takes.takes.2)) in
    put_is_no_take v (sym deed ∙ (ap reading.deed words ∙ paired.takes.takes.4)) in
    let on = put_and_taken reading next bound is book v put take small valid one paired.alone two
    rest cut list wide may paired.may_come paired.takes
    (both_hold bound v list paired.lacks all) goes in
    let in_put : caller < length cut = within_cut book cut put wide may.is_call in
    let first : Place = record {
      caller = caller;
      number = get_or cut caller 0;
      reply = (next list (word_of_call book put)).1;
    } in
    let stands : MayStandNext book next cut list first =
    record { may_come = may; recorded = on.1 list; reply = refl } in
    let having : list_after book next list first ≡ list ++ v ∷ [] =
    ap (λ (w : ℕ). (next list w).0) word ∙ is.put list op v deed in
    let now : List ℕ = raised cut caller in
    let taken = take_stands reading next bound is book cut v list take paired.takes small now
    (comes_later book cut caller take in_put
    (λ (e : paired.taker ≡ caller). two (sym e)) paired.may_come) in
    let second : Place =
    record { caller = take.caller; number = take.number; reply = paired.takes.takes.1.reply } in
    let rests : Continues book next now (list ++ v ∷ []) (second ∷ on.0.0)
    = (
      taken.0,
      subst (λ (xs : List ℕ). Continues book next (raised now take.caller) xs on.0.0)
          (sym taken.1) on.0.1,
    ) in (
      first,
      second ∷ on.0.0,
      marked,
      (
        stands,
        subst (λ (xs : List ℕ). Continues book next now xs (second ∷ on.0.0)) (sym having) rests,
      ),
      omega (arith, on.0.2),
    )

-- Where a caller's next call puts in a value that the list lacks and of which the sight lists one
-- put, and a marked caller's next call is the take of this value with the least view, the put is
-- paired with this take as `PutsPaired` says.
pub puts_paired : (reading : Reading) (book : List Page) (cut list : List ℕ) (sight : Sight)
    (marks : MarkedCallers) (caller v : ℕ) (taker : Option ℕ) → ListsValues reading book sight
    → MarksAllNext book cut marks → PutsIn reading book (next_call cut caller) v → Lacks list v
    → length (puts_of sight v) ≡ 1 → is_some taker ≡ true
    → IfSome taker (IsMarked marks)
    → IfSome taker (λ i. IsLeastTake reading book cut v (next_call cut i))
    → PutsPaired reading book cut list caller
puts_paired reading book cut list sight marks caller v None lists all puts lacks one some marked
    takes = absurd cc
puts_paired reading book cut list sight marks caller v
    (Some i) lists all puts lacks one some marked takes = record {
      value = v;
      taker = i;
      alone = (
        puts,
        λ (other : Call) (also : PutsIn reading book other v).
            one_listed (puts_of sight v) other (next_call cut caller) one (lists.puts other v also)
            (lists.puts (next_call cut caller) v puts),
      );
      lacks = lacks;
      may_come = (all i).0 marked;
      takes = takes;
    }
