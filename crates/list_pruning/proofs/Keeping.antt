-- A kept value may be put in at once where all items of the list are kept: no answered call takes
-- any of them.
use Rattle.std.proofs.Common.{◌≡◌, ◌≢◌, ℕ, ◌+◌, ◌<◌, ◌≤◌, ◌∙◌, List, [], ◌∷◌, ◌++◌, length, get_or, Option, Some, unwrap_or, refl, sym, ap, subst, inl, inr, length-set, arith}
use Rattle.std.specs.List.{AllByRecursion}
use Rattle.std.proofs.lemmas.Bool.{cases_eq}
use Rattle.std.proofs.lemmas.List.{append-nil}
use Rattle.book_base.specs.declared.call.Call.{Call}
use Rattle.book_base.specs.declared.call.Place.{Place}
use Rattle.book_base.specs.declared.call.Record.{Record}
use Rattle.search_hints.specs.declared.marked_callers.MarkedCallers.{MarkedCallers}
use Rattle.book_base.specs.Book.{Page, IsAnswered, operation_of, record_of}
use Rattle.book_base.specs.Order.{call_at}
use Rattle.book_base.specs.Next.{raised, next_call, MayComeNext, MayStandNext, list_after, Continues}
use Rattle.book_base.specs.Pruning.{HasOneOpen}
use Rattle.search_hints.specs.Marks.{IsMarked, MarksSuffice}
use Rattle.legal_orders.proofs.LegalOrder.{raised_twice, comes_later, within_cut, answer_stands}
use Rattle.legal_orders.specs.Container.{Puts, Takes, Reading}
use Rattle.legal_orders.specs.Calls.{PutsIn, FindsNothing}
use Rattle.legal_orders.proofs.Omitting.{goes_on_without}
use Rattle.list_pruning.proofs.Placing.{all-weaker}
use Rattle.list_pruning.proofs.Taking.{word_at, word_is, word_stands, GoesOnAfter, goes_on_over, its_place}
use Rattle.list_pruning.proofs.Putting.{word_of_call, Gives, put_is_no_take}
use Rattle.list_pruning.proofs.Writing.{outside_before, unread_later}
use Rattle.list_pruning.specs.LastFirst.{GivesLastFirst, IsSmall, IsKept, IsNeverEmpty, PutsKept}
use Rattle.list_pruning.proofs.Stepping.{cases_end, all-prefix, all_next, steps_above}

-- Items are unused after a cut: no answered call outside the cut takes any of them or finds
-- nothing, and each is below the bound.
record IsUnused (reading : Reading) (book : List Page) (bound : ℕ) (cut low : List ℕ) : Type 0 where
  kept : AllByRecursion (IsKept reading book cut) low
  small : IsSmall bound low
  never_empty : IsNeverEmpty reading book cut

unused_later : (reading : Reading) (book : List Page) (bound : ℕ) (cut low : List ℕ) (i : ℕ)
    → i < length cut → IsUnused reading book bound cut low
    → IsUnused reading book bound (raised cut i) low
unused_later reading book bound cut low i inside is = record {
  kept = all-weaker (IsKept reading book cut) (IsKept reading book (raised cut i)) low
      (λ (x : ℕ) (kept : IsKept reading book cut x). unread_later reading book cut x i inside kept)
      is.kept;
  small = is.small;
  never_empty = λ (call : Call) (finds : FindsNothing reading book call) out.
      is.never_empty call finds (outside_before cut i call inside out);
}

unused_taken : (reading : Reading) (next : List ℕ → ℕ → List ℕ × ℕ) (bound : ℕ)
    → GivesLastFirst reading next bound → (book : List Page) (cut low : List ℕ) (op : ℕ)
    → reading.deed op ≡ Takes → IsUnused reading book bound cut low
    → IsUnused reading book bound cut (next low op).0
unused_taken reading next bound is book cut low op takes it = record {
  kept = all_next reading next bound is (IsKept reading book cut) low op
      (λ (v : ℕ) (e : reading.deed op ≡ Puts v). absurd (put_is_no_take v (sym e ∙ takes))) it.kept;
  small = all_next reading next bound is (λ (x : ℕ). x < bound) low op
      (λ (v : ℕ) (e : reading.deed op ≡ Puts v). absurd (put_is_no_take v (sym e ∙ takes)))
      it.small;
  never_empty = it.never_empty;
}

-- A take that may stand next at a list whose last item is kept is unanswered.
free_last : (reading : Reading) (next : List ℕ → ℕ → List ℕ × ℕ) (bound : ℕ)
    → GivesLastFirst reading next bound
    → (book : List Page) (cut prefix : List ℕ) (x : ℕ) (place : Place)
    → x < bound → IsKept reading book cut x → reading.deed (word_at book place) ≡ Takes
    → MayStandNext book next cut (prefix ++ x ∷ []) place → IsAnswered book (call_at place) → ⊥
free_last reading next bound is book cut prefix x place small kept takes stands answered =
    let op : ℕ = word_at book place in
    let there = answer_stands book (call_at place) answered in
    let says : reading.shown there.0.reply ≡ Some x
    = ap reading.shown (stands.recorded there.0 there.1 ∙ sym stands.reply)
    ∙ is.shows prefix x op small takes in
    kept (
      call_at place,
      (
        (op, there.0, word_stands book place stands.may_come.is_call, there.1, takes, says),
        omega (arith, stands.may_come.next),
      ),
    )

-- A take that may stand next at a list of unused items is unanswered.
free_below : (reading : Reading) (next : List ℕ → ℕ → List ℕ × ℕ) (bound : ℕ)
    → GivesLastFirst reading next bound → (book : List Page) (cut low : List ℕ) (place : Place)
    → IsUnused reading book bound cut low → reading.deed (word_at book place) ≡ Takes
    → MayStandNext book next cut low place → IsAnswered book (call_at place) → ⊥
free_below reading next bound is book cut low place unused takes stands answered =
    elim (cases_end low) [
      | inl none ↦
          let op : ℕ = word_at book place in
          let there = answer_stands book (call_at place) answered in
          let says = ap reading.shown (stands.recorded there.0 there.1 ∙ sym stands.reply)
          ∙ (ap (λ (xs : List ℕ). reading.shown (next xs op).1) none ∙ (is.empty op takes).1) in
          unused.never_empty (call_at place)
          (op, there.0, word_stands book place stands.may_come.is_call, there.1, takes, says)
          (omega (arith, stands.may_come.next))
      | inr some ↦
          let small = (all-prefix (λ (x : ℕ). x < bound) some.0 some.1
          (subst (λ (xs : List ℕ). IsSmall bound xs) some.2 unused.small)).1 in
          let kept = (all-prefix (IsKept reading book cut) some.0 some.1 (subst
          (λ (xs : List ℕ). AllByRecursion (IsKept reading book cut) xs) some.2 unused.kept)).1 in
          free_last reading next bound is book cut some.0 some.1 place small kept takes
          (subst (λ (xs : List ℕ). MayStandNext book next cut xs place) some.2 stands) answered
    ]

-- Some places, no more than the given ones, continue an order from a cut and a list.
abbrev GoesOnShort : List Page → (List ℕ → ℕ → List ℕ × ℕ) → List ℕ → List ℕ → List Place → Type 0
GoesOnShort book next cut list rest = (other : List Place) × Continues book next cut list other
    × (length other ≤ length rest)

-- A place whose reply is the same at another list may come first there, before places that continue
-- the order.
goes_on_by : (book : List Page) (next : List ℕ → ℕ → List ℕ × ℕ) (cut one other : List ℕ)
    (place : Place) (rest : List Place) → MayStandNext book next cut one place
    → (next one (word_at book place)).1 ≡ (next other (word_at book place)).1
    → GoesOnShort book next (raised cut place.caller) (list_after book next other place) rest
    → GoesOnShort book next cut other (place ∷ rest)
goes_on_by book next cut one other place rest stands same on =
    let there : MayStandNext book next cut other place = record {
      may_come = stands.may_come;
      recorded = stands.recorded;
      reply = sym same ∙ stands.reply;
    } in
    (place ∷ on.0, (there, on.1), omega (arith, on.2))

-- Where some places, no more than the given ones, continue an order from a list after an unanswered
-- call, some, at most one more, continue it from this list before the call.
goes_on_past : (book : List Page) (next : List ℕ → ℕ → List ℕ × ℕ) (cut list : List ℕ)
    (place : Place) (rest : List Place) → length book ≤ length cut → HasOneOpen book
    → MayComeNext book cut (call_at place) → (IsAnswered book (call_at place) → ⊥)
    → GoesOnShort book next (raised cut place.caller) list rest
    → GoesOnShort book next cut list (place ∷ rest)
goes_on_past book next cut list place rest wide one may free on =
    let without = goes_on_without book next cut list (call_at place) on.0 wide one may free on.1 in
    (without.0, without.1, omega (arith, without.2, on.2))

-- Where places continue an order from a list, as many or fewer continue it from a list that has any
-- items instead of the unused ones at the beginning of the first list.
goes_on_above : (reading : Reading) (next : List ℕ → ℕ → List ℕ × ℕ) (bound : ℕ)
    → GivesLastFirst reading next bound → (book : List Page) → HasOneOpen book
    → (rest : List Place) (cut low other above : List ℕ) → length book ≤ length cut
    → IsUnused reading book bound cut low → IsSmall bound above
    → Continues book next cut (low ++ above) rest → GoesOnShort book next cut (other ++ above) rest
goes_on_above reading next bound is book one [] cut low other above wide unused small goes =
    ([], goes, omega arith)
goes_on_above reading next bound is book one
    (place ∷ rest) cut low other above wide unused small goes =
    let inside : place.caller < length cut =
    within_cut book cut (call_at place) wide goes.0.may_come.is_call in
    let wider : length book ≤ length (raised cut place.caller) =
    omega (arith, wide, length-set cut place.caller (get_or cut place.caller 0 + 1)) in
    let op : ℕ = word_at book place in
    let later = unused_later reading book bound cut low place.caller inside unused in
    elim (steps_above reading next bound is (λ (x : ℕ). x < bound)
    (λ (x : ℕ) (p : x < bound). p) op low other above (is.small op) small) [
      | inl alike ↦
          let on = goes_on_above reading next bound is book one rest
          (raised cut place.caller) low other alike.new_above wider later alike.all
          (subst (λ (xs : List ℕ). Continues book next (raised cut place.caller) xs rest)
          alike.one goes.1) in
          goes_on_by book next cut (low ++ above) (other ++ above) place rest goes.0 alike.reply
          (subst (λ (xs : List ℕ). GoesOnShort book next (raised cut place.caller) xs rest)
          (sym alike.two) on)
      | inr taken ↦
          let whole : low ++ above ≡ low =
          ap (λ (xs : List ℕ). low ++ xs) taken.1 ∙ append-nil low in
          let left : (next (low ++ above) op).0 ≡ (next low op).0 ++ [] =
          ap (λ (xs : List ℕ). (next xs op).0) whole ∙ sym (append-nil (next low op).0) in
          let on = goes_on_above reading next bound is book one rest (raised cut place.caller)
          (next low op).0 other [] wider
          (unused_taken reading next bound is book (raised cut place.caller) low op taken.0 later)
          tt
          (subst (λ (xs : List ℕ). Continues book next (raised cut place.caller) xs rest)
          left goes.1) in
          let free = free_below reading next bound is book cut low place unused taken.0
          (subst (λ (xs : List ℕ). MayStandNext book next cut xs place) whole goes.0) in
          subst (λ (xs : List ℕ). GoesOnShort book next cut (other ++ xs) (place ∷ rest))
          (sym taken.1)
          (goes_on_past book next cut (other ++ []) place rest wide one goes.0.may_come free on)
    ]

-- Where places continue an order from a list, as many or fewer continue it from the list without a
-- kept item and with any items instead of the unused ones at its beginning.
goes_on_over_kept : (reading : Reading) (next : List ℕ → ℕ → List ℕ × ℕ) (bound : ℕ)
    → GivesLastFirst reading next bound → (book : List Page) → HasOneOpen book → (v : ℕ) → v < bound
    → (rest : List Place) (cut low other middle above : List ℕ) → length book ≤ length cut
    → IsKept reading book cut v → IsUnused reading book bound cut low → IsSmall bound middle
    → IsSmall bound above → Continues book next cut (((low ++ middle) ++ v ∷ []) ++ above) rest
    → GoesOnShort book next cut ((other ++ middle) ++ above) rest
goes_on_over_kept reading next bound is book one v few [] cut low other middle above wide kept
    unused some small goes = ([], goes, omega arith)
goes_on_over_kept reading next bound is book one v few
    (place ∷ rest) cut low other middle above wide kept unused some small goes =
    let inside : place.caller < length cut =
    within_cut book cut (call_at place) wide goes.0.may_come.is_call in
    let wider : length book ≤ length (raised cut place.caller) =
    omega (arith, wide, length-set cut place.caller (get_or cut place.caller 0 + 1)) in
    let op : ℕ = word_at book place in
    let old : List ℕ = (low ++ middle) ++ v ∷ [] in
    let new : List ℕ = other ++ middle in
    let later = unused_later reading book bound cut low place.caller inside unused in
    elim (steps_above reading next bound is (λ (x : ℕ). x < bound)
    (λ (x : ℕ) (p : x < bound). p) op old new above (is.small op) small) [
      | inl alike ↦
          let on = goes_on_over_kept reading next bound is book one v few rest
          (raised cut place.caller) low other middle alike.new_above wider
          (unread_later reading book cut v place.caller inside kept) later some alike.all
          (subst (λ (xs : List ℕ). Continues book next (raised cut place.caller) xs rest)
          alike.one goes.1) in
          goes_on_by book next cut (old ++ above) (new ++ above) place rest goes.0 alike.reply
          (subst (λ (xs : List ℕ). GoesOnShort book next (raised cut place.caller) xs rest)
          (sym alike.two) on)
      | inr taken ↦
          let whole : old ++ above ≡ old =
          ap (λ (xs : List ℕ). old ++ xs) taken.1 ∙ append-nil old in
          let left : (next (old ++ above) op).0 ≡ low ++ middle =
          ap (λ (xs : List ℕ). (next xs op).0) whole ∙ is.take (low ++ middle) v op taken.0 in
          let on = goes_on_above reading next bound is book one rest
          (raised cut place.caller) low other middle wider later some
          (subst (λ (xs : List ℕ). Continues book next (raised cut place.caller) xs rest)
          left goes.1) in
          let free = free_last reading next bound is book cut (low ++ middle) v place few kept
          taken.0 (subst (λ (xs : List ℕ). MayStandNext book next cut xs place) whole goes.0) in
          let lacking : new ++ above ≡ new =
          ap (λ (xs : List ℕ). new ++ xs) taken.1 ∙ append-nil new in
          subst (λ (xs : List ℕ). GoesOnShort book next cut xs (place ∷ rest)) (sym lacking)
          (goes_on_past book next cut new place rest wide one goes.0.may_come free on)
    ]

-- Where places continue an order from a list, fewer continue it, once the answered put of a kept
-- value has come, from a list that has any items instead of the unused ones at the beginning of the
-- first list; and the recorded reply of this put is the one that the object gives at each list.
put_first : (reading : Reading) (next : List ℕ → ℕ → List ℕ × ℕ) (bound : ℕ)
    → GivesLastFirst reading next bound → (book : List Page) → HasOneOpen book
    → (v : ℕ) (put : Call)
    → PutsIn reading book put v → IsAnswered book put
    → (rest : List Place) (cut low other above : List ℕ) → length book ≤ length cut
    → MayComeNext book cut put
    → IsKept reading book cut v → IsUnused reading book bound cut low → IsSmall bound above
    → Continues book next cut (low ++ above) rest
    → GoesOnAfter 0 book next cut put.caller (other ++ above) rest × Gives next book put
put_first reading next bound is book one v put puts answered [] cut low other above wide may kept
    unused small goes =
    let in_cut : put.number < get_or cut put.caller 0 = goes put answered in
    absurd (omega (arith, in_cut, may.next))
put_first reading next bound is book one v put puts answered
    (place ∷ rest) cut low other above wide may kept unused small goes =
    let in_put : put.caller < length cut = within_cut book cut put wide may.is_call in
    let inside : place.caller < length cut =
    within_cut book cut (call_at place) wide goes.0.may_come.is_call in
    let raised_wide : (i : ℕ) → length book ≤ length (raised cut i) =
    λ (i : ℕ). omega (arith, wide, length-set cut i (get_or cut i 0 + 1)) in
    let op : ℕ = word_at book place in
    let later = unused_later reading book bound cut low place.caller inside unused in
    let still = unread_later reading book cut v place.caller inside kept in
    elim (cases_eq place.caller put.caller) [
      | inl same ↦
          let call : call_at place ≡ put =
          its_place book next cut (low ++ above) place put may goes.0 same in
          let word : op ≡ puts.0 =
          word_is book place puts.0 (ap (operation_of book) call ∙ puts.1) in
          let deed : reading.deed op ≡ Puts v = ap reading.deed word ∙ puts.2 in
          let old : List ℕ = (low ++ above) ++ v ∷ [] in
          let having : (next (low ++ above) op).0 ≡ old ++ [] =
          is.put (low ++ above) op v deed ∙ sym (append-nil old) in
          let on = goes_on_over_kept reading next bound is book one v (is.small op v deed) rest
          (raised cut place.caller) low other above [] (raised_wide place.caller) still
          later small tt
          (subst (λ (xs : List ℕ). Continues book next (raised cut place.caller) xs rest)
          having goes.1) in
          let not : reading.deed op ≢ Takes =
          λ (e : reading.deed op ≡ Takes). put_is_no_take v (sym deed ∙ e) in
          let its : op ≡ word_of_call book put = ap (word_of_call book) call in (
            (
              on.0,
              subst (λ (i : ℕ). Continues book next (raised cut i) (other ++ above) on.0) same
                  (subst (λ (xs : List ℕ). Continues book next (raised cut place.caller) xs on.0)
                  (append-nil (other ++ above)) on.1),
              omega (arith, on.2),
            ),
            λ (list : List ℕ) (r : Record) (known : record_of book put ≡ Some r).
                goes.0.recorded r (ap (record_of book) call ∙ known) ∙ (sym goes.0.reply
                ∙ (is.blind (low ++ above) list op not ∙ ap (λ (w : ℕ). (next list w).1) its)),
          )
      | inr apart ↦
          let may_later = comes_later book cut place.caller put inside
          (λ (e : put.caller ≡ place.caller). apart (sym e)) may in
          elim (steps_above reading next bound is (λ (x : ℕ). x < bound)
          (λ (x : ℕ) (p : x < bound). p) op low other above (is.small op) small) [
            | inl alike ↦
                let on = put_first reading next bound is book one v put puts answered rest
                (raised cut place.caller) low other alike.new_above
                (raised_wide place.caller) may_later still later
                alike.all
                (subst (λ (xs : List ℕ). Continues book next (raised cut place.caller) xs rest)
                alike.one goes.1) in (
                  goes_on_over 0 book next cut (low ++ above)
                      (other ++ above) put.caller place rest in_put apart goes.0 alike.reply
                      (subst (λ (xs : List ℕ). GoesOnAfter 0 book next
                      (raised cut place.caller) put.caller xs rest) (sym alike.two) on.0),
                  on.1,
                )
            | inr taken ↦
                let whole : low ++ above ≡ low =
                ap (λ (xs : List ℕ). low ++ xs) taken.1 ∙ append-nil low in
                let left : (next (low ++ above) op).0 ≡ (next low op).0 ++ [] =
                ap (λ (xs : List ℕ). (next xs op).0) whole ∙ sym (append-nil (next low op).0) in
                let on = put_first reading next bound is book one v put puts answered rest
                (raised cut place.caller)
                (next low op).0 other [] (raised_wide place.caller) may_later still
                (unused_taken reading next bound is book
                (raised cut place.caller) low op taken.0 later) tt
                (subst (λ (xs : List ℕ). Continues book next (raised cut place.caller) xs rest)
                left goes.1) in
                let free = free_below reading next bound is book cut low place unused taken.0
                (subst (λ (xs : List ℕ). MayStandNext book next cut xs place) whole goes.0) in
                let without = goes_on_without book next (raised cut put.caller) (other ++ [])
                (call_at place) on.0.0 (raised_wide put.caller) one
                (comes_later book cut put.caller (call_at place) in_put apart goes.0.may_come) free
                (subst (λ (c : List ℕ). Continues book next c (other ++ []) on.0.0)
                (raised_twice cut place.caller put.caller apart) on.0.1) in (
                  subst (λ (xs : List ℕ). GoesOnAfter 0 book next cut put.caller (other ++ xs)
                      (place ∷ rest)) (sym taken.1)
                      (without.0, without.1, omega (arith, without.2, on.0.2)),
                  on.1,
                )
          ]
    ]

-- Marks suffice where they are on a caller whose next call is answered and puts in a kept value,
-- all items of the list are kept, and no answered call outside the cut finds nothing.
pub kept_put_suffices : (reading : Reading) (next : List ℕ → ℕ → List ℕ × ℕ) (bound : ℕ)
    → GivesLastFirst reading next bound → (book : List Page) (cut list : List ℕ)
    (caller : ℕ) (marks : MarkedCallers) → IsSmall bound list → HasOneOpen book
    → length book ≤ length cut
    → MayComeNext book cut (next_call cut caller)
    → PutsKept reading book cut list caller → IsMarked marks caller
    → MarksSuffice book next cut list marks
kept_put_suffices reading next bound is book cut list caller marks all one wide may it
    marked rest goes =
    let v : ℕ = it.put.1.0 in
    let put : Call = next_call cut caller in
    let op : ℕ = it.put.1.1.0 in
    let word : word_of_call book put ≡ op = ap (λ (o : Option ℕ). unwrap_or o 0) it.put.1.1.1 in
    let new : List ℕ = list ++ v ∷ [] in
    let on = put_first reading next bound is book one v put it.put.1.1 it.put.0 rest cut list
    new [] wide may it.put.1.2
    (record { kept = it.below; small = all; never_empty = it.never_empty }) tt
    (subst (λ (xs : List ℕ). Continues book next cut xs rest) (sym (append-nil list)) goes) in
    let place : Place = record {
      caller = caller;
      number = get_or cut caller 0;
      reply = (next list (word_of_call book put)).1;
    } in
    let stands : MayStandNext book next cut list place =
    record { may_come = may; recorded = on.1 list; reply = refl } in
    let having : list_after book next list place ≡ new =
    ap (λ (w : ℕ). (next list w).0) word ∙ is.put list op v it.put.1.1.2 in
    let left : Continues book next (raised cut caller) (list_after book next list place) on.0.0
    = subst (λ (xs : List ℕ). Continues book next (raised cut caller) xs on.0.0)
    (append-nil new ∙ sym having) on.0.1 in
    (place, on.0.0, marked, (stands, left), omega (arith, on.0.2))
