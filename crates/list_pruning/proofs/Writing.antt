-- A register's writes: one that writes what no call reads may be taken at once or left out, and an
-- irreplaceable value isn't written over.
use Rattle.std.proofs.Common.{◌≡◌, ◌≢◌, ℕ, zero, suc, ◌+◌, ◌<◌, ◌≤◌, ◌⊎◌, ◌∙◌, ◌↔◌, Bool, true, false, IsTrue, List, [], ◌∷◌, length, get_or, Some, unwrap_or, refl, sym, ap, subst, inl, inr, length-set, arith}
use Rattle.std.proofs.lemmas.Bool.{cases_eq}
use Rattle.std.proofs.lemmas.Option.{same_Some, slice_get_within}
use Rattle.book_base.specs.declared.call.Call.{Call}
use Rattle.book_base.specs.declared.call.Place.{Place}
use Rattle.book_base.specs.declared.call.Record.{Record}
use Rattle.search_hints.specs.declared.marked_callers.MarkedCallers.{MarkedCallers}
use Rattle.search_hints.specs.declared.sight.Sight.{Sight}
use Rattle.book_base.specs.Book.{Page, calls_of, IsAnswered, operation_of, record_of}
use Rattle.book_base.specs.Order.{call_at}
use Rattle.book_base.specs.Next.{raised, next_call, MayComeNext, MayStandNext, Continues}
use Rattle.book_base.specs.Pruning.{HasOneOpen, IsForced}
use Rattle.search_hints.specs.Marks.{IsMarked, IsMarkedWithin, MarksAllNext, MarksSuffice}
use Rattle.book_base.proofs.PageLemmas.{caller_from_call}
use Rattle.search_hints.proofs.PruningLemmas.{all_next_suffice}
use Rattle.legal_orders.proofs.LegalOrder.{raised_same, raised_other, raised_more, comes_later, same_call, within_cut}
use Rattle.legal_orders.specs.Container.{Puts, Takes, Neither, Reading}
use Rattle.legal_orders.specs.Calls.{PutsIn, TakesOut}
use Rattle.legal_orders.proofs.Omitting.{goes_on_without}
use Rattle.list_pruning.specs.HoldsLast.{HoldsLast, ReadsOutside, WritesOutside, IsRead, IsWritten, IsNeedless, WritesUnread}
use Rattle.list_pruning.specs.Sights.{IsListed, ListsValues, puts_of, shows_of}
use Rattle.list_pruning.proofs.Placing.{cases_deed}
use Rattle.list_pruning.proofs.Taking.{word_at, word_is, word_stands, GoesOnAfter, goes_on_over, its_place}

-- a call outside a cut with more calls is outside the cut
pub outside_before : (cut : List ℕ) (i : ℕ) (call : Call) → i < length cut
    → get_or (raised cut i) call.caller 0 ≤ call.number → get_or cut call.caller 0 ≤ call.number
outside_before cut i call inside out = omega (arith, out, raised_more cut i call.caller inside)

pub unread_later : (reading : Reading) (book : List Page) (cut : List ℕ) (v i : ℕ) → i < length cut
    → (IsRead reading book cut v → ⊥) → IsRead reading book (raised cut i) v → ⊥
unread_later reading book cut v i inside unread read =
    unread (read.0, (read.1.0, outside_before cut i read.0 inside read.1.1))

pub unwritten_later : (reading : Reading) (book : List Page) (cut : List ℕ) (v i : ℕ) → i
    < length cut → (IsWritten reading book cut v → ⊥) → IsWritten reading book (raised cut i) v → ⊥
unwritten_later reading book cut v i inside unwritten written =
    unwritten (written.0, (written.1.0, outside_before cut i written.0 inside written.1.1))

-- Two lists are alike after a cut where they hold one value, or the first one holds a value that no
-- answered call outside the cut reads.
abbrev Alike : Reading → List Page → (List ℕ → ℕ) → List ℕ → List ℕ → List ℕ → Type 0
Alike reading book held cut one other = (held one ≡ held other)
    ⊎ (IsRead reading book cut (held one) → ⊥)

-- an operation writes, or it doesn't
cases_write : (reading : Reading) (op : ℕ) → ((v : ℕ) × (reading.deed op ≡ Puts v))
    ⊎ ((v : ℕ) → reading.deed op ≢ Puts v)
cases_write reading op = elim (cases_deed (reading.deed op)) [
  | inl put ↦ inl put
  | inr other ↦ elim other [
    | inl takes ↦ inr
        (λ (v : ℕ) (e : reading.deed op ≡ Puts v). let both : Takes ≡ Puts v = sym takes ∙ e in cc)
    | inr neither ↦ inr (λ (v : ℕ) (e : reading.deed op ≡ Puts v). let both : Neither ≡ Puts v =
        sym neither ∙ e in cc)
  ]
]

-- Lists that are alike are still so after the same operation.
alike_after : (reading : Reading) (held : List ℕ → ℕ) (next : List ℕ → ℕ → List ℕ × ℕ)
    → HoldsLast reading held next → (book : List Page) (cut one other : List ℕ) (i op : ℕ)
    → i < length cut → Alike reading book held cut one other
    → Alike reading book held (raised cut i) (next one op).0 (next other op).0
alike_after reading held next is book cut one other i op inside alike =
    elim (cases_write reading op) [
      | inl write ↦ inl (is.write one op write.0 write.1 ∙ sym (is.write other op write.0 write.1))
      | inr keeps ↦ elim alike [
        | inl same ↦ inl (is.keep one op keeps ∙ (same ∙ sym (is.keep other op keeps)))
        | inr unread ↦
            inr (subst (λ (v : ℕ). IsRead reading book (raised cut i) v → ⊥)
            (sym (is.keep one op keeps)) (unread_later reading book cut (held one) i inside unread))
      ]
    ]

-- the place of a call at another list
abbrev there_at : (List ℕ → ℕ → List ℕ × ℕ) → List Page → List ℕ → Place → Place
there_at next book list place = record {
  caller = place.caller;
  number = place.number;
  reply = (next list (word_at book place)).1;
}

-- A place that may come next at a list may come next at one that is alike, with the object's reply
-- there.
stands_there : (reading : Reading) (held : List ℕ → ℕ) (next : List ℕ → ℕ → List ℕ × ℕ)
    → HoldsLast reading held next → (book : List Page) (cut one other : List ℕ) (place : Place)
    → Alike reading book held cut one other → MayStandNext book next cut one place
    → MayStandNext book next cut other (there_at next book other place)
stands_there reading held next is book cut one other place alike may = record {
  may_come = may.may_come;
  recorded = λ (r : Record) (known : record_of book (call_at place) ≡ Some r).
      let op : ℕ = word_at book place in
      may.recorded r known
      ∙ (sym may.reply ∙ is.alike one other op (λ (takes : reading.deed op ≡ Takes). elim alike [
        | inl same ↦ same
        | inr unread ↦
            let shown : reading.shown r.reply ≡ Some (held one) =
            ap reading.shown (may.recorded r known ∙ sym may.reply) ∙ is.shows one op takes in
            let reads : TakesOut reading book (call_at place) (held one) =
            (op, r, word_stands book place may.may_come.is_call, known, takes, shown) in
            absurd (unread (call_at place, (reads, omega (arith, may.may_come.next))))
      ]));
  reply = refl;
}

-- Where places continue an order from a list, as many or fewer continue it from one that is alike.
goes_on_there : (reading : Reading) (held : List ℕ → ℕ) (next : List ℕ → ℕ → List ℕ × ℕ)
    → HoldsLast reading held next → (book : List Page) (rest : List Place) (cut one other : List ℕ)
    → length book ≤ length cut → Alike reading book held cut one other
    → Continues book next cut one rest
    → (places : List Place) × Continues book next cut other places × (length places ≤ length rest)
goes_on_there reading held next is book [] cut one other wide alike goes = ([], goes, omega arith)
goes_on_there reading held next is book (place ∷ rest) cut one other wide alike goes =
    let inside : place.caller < length cut =
    within_cut book cut (call_at place) wide goes.0.may_come.is_call in
    let wider : length book ≤ length (raised cut place.caller) =
    omega (arith, wide, length-set cut place.caller (get_or cut place.caller 0 + 1)) in
    let op : ℕ = word_at book place in
    let on = goes_on_there reading held next is book rest (raised cut place.caller) (next one op).0
    (next other op).0 wider
    (alike_after reading held next is book cut one other place.caller op inside alike) goes.1 in (
      there_at next book other place ∷ on.0,
      (stands_there reading held next is book cut one other place alike goes.0, on.1),
      omega (arith, on.2),
    )

-- The recorded reply of a write is the one that the object gives, at each list.
abbrev GivesAlways : (List ℕ → ℕ → List ℕ × ℕ) → List Page → Call → Type 0
GivesAlways next book call = (list : List ℕ) (r : Record) → record_of book call ≡ Some r
    → r.reply ≡ (next list (unwrap_or (operation_of book call) 0)).1

-- Where places continue an order from a list, fewer continue it from one that is alike after an
-- answered write whose value no answered call outside the cut reads.
written_first : (reading : Reading) (held : List ℕ → ℕ) (next : List ℕ → ℕ → List ℕ × ℕ)
    → HoldsLast reading held next → (book : List Page) (write : Call) (v : ℕ)
    → PutsIn reading book write v → IsAnswered book write
    → (rest : List Place) (cut one other : List ℕ) → length book ≤ length cut
    → MayComeNext book cut write
    → (IsRead reading book cut v → ⊥) → Alike reading book held cut one other
    → Continues book next cut one rest
    → GoesOnAfter 0 book next cut write.caller other rest × GivesAlways next book write
written_first reading held next is book write v writes answered [] cut one other wide may unread
    alike goes =
    let in_cut : write.number < get_or cut write.caller 0 = goes write answered in
    absurd (omega (arith, in_cut, may.next))
written_first reading held next is book write v writes answered
    (place ∷ rest) cut one other wide may unread alike goes =
    let inside : write.caller < length cut = within_cut book cut write wide may.is_call in
    let there : place.caller < length cut =
    within_cut book cut (call_at place) wide goes.0.may_come.is_call in
    let wider : length book ≤ length (raised cut place.caller) =
    omega (arith, wide, length-set cut place.caller (get_or cut place.caller 0 + 1)) in
    let op : ℕ = word_at book place in
    elim (cases_eq place.caller write.caller) [
      | inl same ↦
          let call : call_at place ≡ write =
          its_place book next cut one place write may goes.0 same in
          let word : op ≡ writes.0 =
          word_is book place writes.0 (ap (operation_of book) call ∙ writes.1) in
          let deed : reading.deed op ≡ Puts v = ap reading.deed word ∙ writes.2 in
          let holds : held (next one op).0 ≡ v = is.write one op v deed in
          let later : Alike reading book held (raised cut place.caller) (next one op).0 other
          = inr (subst (λ (x : ℕ). IsRead reading book (raised cut place.caller) x → ⊥) (sym holds)
          (unread_later reading book cut v place.caller there unread)) in
          let on = goes_on_there reading held next is book rest (raised cut place.caller)
          (next one op).0 other wider later goes.1 in
          let not : reading.deed op ≢ Takes =
          λ (e : reading.deed op ≡ Takes). let both : Puts v ≡ Takes = sym deed ∙ e in cc in (
            (
              on.0,
              subst (λ (i : ℕ). Continues book next (raised cut i) other on.0) same on.1,
              omega (arith, on.2),
            ),
            λ (list : List ℕ) (r : Record) (known : record_of book write ≡ Some r).
                goes.0.recorded r (ap (record_of book) call ∙ known)
                ∙ (sym goes.0.reply
                ∙ (is.alike one list op (λ (e : reading.deed op ≡ Takes). absurd (not e))
                ∙ ap (λ (c : Call). (next list (unwrap_or (operation_of book c) 0)).1) call)),
          )
      | inr apart ↦
          let on = written_first reading held next is book write v writes answered rest
          (raised cut place.caller) (next one op).0 (next other op).0 wider
          (comes_later book cut place.caller write there
          (λ (e : write.caller ≡ place.caller). apart (sym e)) may)
          (unread_later reading book cut v place.caller there unread)
          (alike_after reading held next is book cut one other place.caller op there alike)
          goes.1 in
          let stands : MayStandNext book next cut other (there_at next book other place) =
          stands_there reading held next is book cut one other place alike goes.0 in (
            goes_on_over 0 book next cut other other write.caller
                (there_at next book other place) rest inside apart stands refl on.0,
            on.1,
          )
    ]

-- Where no answered call outside the cut reads what an answered write writes, nor what is held, the
-- mark on the write's caller suffices.
pub unread_write_suffices : (reading : Reading) (held : List ℕ → ℕ) (next : List ℕ → ℕ → List ℕ × ℕ)
    → HoldsLast reading held next → (book : List Page) (cut list : List ℕ)
    (caller : ℕ) (marks : MarkedCallers) → length book ≤ length cut
    → MayComeNext book cut (next_call cut caller) → WritesUnread reading book cut (held list) caller
    → IsMarked marks caller
    → MarksSuffice book next cut list marks
unread_write_suffices reading held next is book cut list caller marks wide may writes
    marked rest goes =
    let write : Call = next_call cut caller in
    let op : ℕ = unwrap_or (operation_of book write) 0 in
    let on = written_first reading held next is book write writes.write.0 writes.write.1
    writes.answered rest cut list (next list op).0 wide may writes.write.2 (inr writes.lost) goes in
    let place : Place =
    record { caller = caller; number = get_or cut caller 0; reply = (next list op).1 } in
    let stands : MayStandNext book next cut list place =
    record { may_come = may; recorded = on.1 list; reply = refl } in
    (place, on.0.0, marked, (stands, on.0.1), omega (arith, on.0.2))

-- Where a call outside a cut reads a value that no call outside it writes, and the list doesn't
-- hold the value, no places continue an order.
irreplaceable_is_held : (reading : Reading) (held : List ℕ → ℕ) (next : List ℕ → ℕ → List ℕ × ℕ)
    → HoldsLast reading held next → (book : List Page) (v : ℕ) (read : Call)
    → TakesOut reading book read v → (rest : List Place) (cut list : List ℕ)
    → length book ≤ length cut → get_or cut read.caller 0 ≤ read.number
    → (IsWritten reading book cut v → ⊥) → held list ≢ v → Continues book next cut list rest → ⊥
irreplaceable_is_held reading held next is book v read reads [] cut list wide out unwritten
    other goes =
    let in_cut : read.number < get_or cut read.caller 0 =
    goes read (slice_get_within _ read.number reads.1 reads.3) in omega (arith, in_cut, out)
irreplaceable_is_held reading held next is book v read reads
    (place ∷ rest) cut list wide out unwritten other goes =
    let there : place.caller < length cut =
    within_cut book cut (call_at place) wide goes.0.may_come.is_call in
    let wider : length book ≤ length (raised cut place.caller) =
    omega (arith, wide, length-set cut place.caller (get_or cut place.caller 0 + 1)) in
    let op : ℕ = word_at book place in
    let known : operation_of book (call_at place) ≡ Some op =
    word_stands book place goes.0.may_come.is_call in
    let still : held (next list op).0 ≢ v =
    λ (e : held (next list op).0 ≡ v). elim (cases_write reading op) [
      | inl write ↦
          let same : write.0 ≡ v = sym (is.write list op write.0 write.1) ∙ e in
          unwritten (
            call_at place,
            ((op, known, write.1 ∙ ap Puts same), omega (arith, goes.0.may_come.next)),
          )
      | inr keeps ↦ other (sym (is.keep list op keeps) ∙ e)
    ] in
    let later : (get_or (raised cut place.caller) read.caller 0 ≤ read.number) =
    elim (cases_eq read.caller place.caller) [
      | inr apart ↦ omega (arith, out, raised_other cut place.caller read.caller apart)
      | inl same ↦ elim (cases_eq read.number place.number) [
        | inr further ↦
            omega (
              arith,
              out,
              further,
              goes.0.may_come.next,
              raised_same cut place.caller there,
              ap (λ (i : ℕ). get_or (raised cut place.caller) i 0) same,
              ap (λ (i : ℕ). get_or cut i 0) same,
            )
        | inl here ↦
            let call : call_at place ≡ read =
            same_call (call_at place) read (sym same) (sym here) in
            let word : op ≡ reads.0 =
            word_is book place reads.0 (ap (operation_of book) call ∙ reads.2) in
            let shown : reading.shown (next list op).1 ≡ Some v = ap reading.shown
            (goes.0.reply ∙ sym (goes.0.recorded reads.1 (ap (record_of book) call ∙ reads.3)))
            ∙ reads.5 in
            absurd (other (same_Some (held list) v
            (sym (is.shows list op (ap reading.deed word ∙ reads.4)) ∙ shown)))
      ]
    ] in
    irreplaceable_is_held reading held next is book v read reads rest (raised cut place.caller)
    (next list op).0 wider later
    (unwritten_later reading book cut v place.caller there unwritten) still goes.1

-- Where places that continue an order begin with a call that needn't be tried, fewer places
-- continue it too.
needless_is_left_out : (reading : Reading) (held : List ℕ → ℕ) (next : List ℕ → ℕ → List ℕ × ℕ)
    → HoldsLast reading held next → (book : List Page) (cut list : List ℕ) (place : Place)
    (rest : List Place) → length book ≤ length cut → HasOneOpen book
    → IsNeedless reading book cut (held list) place.caller
    → Continues book next cut list (place ∷ rest)
    → (other : List Place) × Continues book next cut list other × (length other ≤ length rest)
needless_is_left_out reading held next is book cut list place rest wide one needless goes =
    let inside : place.caller < length cut =
    within_cut book cut (call_at place) wide goes.0.may_come.is_call in
    let wider : length book ≤ length (raised cut place.caller) =
    omega (arith, wide, length-set cut place.caller (get_or cut place.caller 0 + 1)) in
    let op : ℕ = word_at book place in
    let call : call_at place ≡ next_call cut place.caller =
    same_call (call_at place) (next_call cut place.caller) refl goes.0.may_come.next in
    elim needless [
      | inl over ↦
          let irreplaceable = over.0 in
          let writes = over.1 in
          let word : op ≡ writes.1.0 =
          word_is book place writes.1.0 (ap (operation_of book) call ∙ writes.1.1) in
          let holds : held (next list op).0 ≡ writes.0 =
          is.write list op writes.0 (ap reading.deed word ∙ writes.1.2) in
          let read : Call = irreplaceable.0.0 in
          let apart : (read ≡ call_at place) → ⊥ = λ (e : read ≡ call_at place).
          let words : irreplaceable.0.1.0.0 ≡ writes.1.0 =
          same_Some irreplaceable.0.1.0.0 writes.1.0
          (sym irreplaceable.0.1.0.2 ∙ (ap (operation_of book) (e ∙ call) ∙ writes.1.1)) in
          let both : Takes ≡ Puts writes.0 =
          sym irreplaceable.0.1.0.4 ∙ (ap reading.deed words ∙ writes.1.2) in cc in
          let later : get_or (raised cut place.caller) read.caller 0 ≤ read.number =
          elim (cases_eq read.caller place.caller) [
            | inr other ↦
                omega (arith, irreplaceable.0.1.1, raised_other cut place.caller read.caller other)
            | inl same ↦ elim (cases_eq read.number place.number) [
              | inl here ↦ absurd (apart (same_call read (call_at place) same here))
              | inr further ↦
                  omega (
                    arith,
                    irreplaceable.0.1.1,
                    further,
                    goes.0.may_come.next,
                    raised_same cut place.caller inside,
                    ap (λ (i : ℕ). get_or (raised cut place.caller) i 0) same,
                    ap (λ (i : ℕ). get_or cut i 0) same,
                  )
            ]
          ] in
          absurd (irreplaceable_is_held reading held next is book (held list) read
          irreplaceable.0.1.0 rest (raised cut place.caller) (next list op).0 wider later
          (unwritten_later reading book cut (held list) place.caller inside irreplaceable.1)
          (λ (e : held (next list op).0 ≡ held list). writes.2 (sym holds ∙ e)) goes.1)
      | inr idle ↦
          let writes = idle.1 in
          let word : op ≡ writes.1.0 =
          word_is book place writes.1.0 (ap (operation_of book) call ∙ writes.1.1) in
          let holds : held (next list op).0 ≡ writes.0 =
          is.write list op writes.0 (ap reading.deed word ∙ writes.1.2) in
          let free : IsAnswered book (call_at place) → ⊥ = λ (h : IsAnswered book (call_at place)).
          idle.0 (subst (λ (c : Call). IsAnswered book c) call h) in
          let alike : Alike reading book held (raised cut place.caller) (next list op).0 list
          = inr (subst (λ (x : ℕ). IsRead reading book (raised cut place.caller) x → ⊥) (sym holds)
          (unread_later reading book cut writes.0 place.caller inside writes.2)) in
          let there = goes_on_there reading held next is book rest (raised cut place.caller)
          (next list op).0 list wider alike goes.1 in
          let on = goes_on_without book next cut list
          (call_at place) there.0 wide one goes.0.may_come free there.1 in
          (on.0, on.1, omega (arith, there.2, on.2))
    ]

-- The remaining marks suffice where the next calls of all callers that lost their marks are
-- needless.
left_suffice : (reading : Reading) (held : List ℕ → ℕ) (next : List ℕ → ℕ → List ℕ × ℕ)
    → HoldsLast reading held next
    → (book : List Page) (cut list : List ℕ) (all left : MarkedCallers)
    → length book ≤ length cut → HasOneOpen book → MarksSuffice book next cut list all
    → ((i : ℕ) → IsMarked all i → IsMarked left i ⊎ IsNeedless reading book cut (held list) i)
    → (few : ℕ) (rest : List Place) → length rest ≤ few → Continues book next cut list rest
    → (place : Place) × (other : List Place) × IsMarked left place.caller
    × Continues book next cut list (place ∷ other) × (length other < length rest)
left_suffice reading held next is book cut list all left wide one suffice needless zero rest short
    goes = let by = suffice rest goes in absurd (omega (arith, by.4, short))
left_suffice reading held next is book cut list all left wide one suffice needless
    (suc few) rest short goes =
    let by = suffice rest goes in
    elim (needless by.0.caller by.2) [
      | inl marked ↦ (by.0, by.1, marked, by.3, by.4)
      | inr out ↦
          let shorter =
          needless_is_left_out reading held next is book cut list by.0 by.1 wide one out by.3 in
          let on = left_suffice reading held next is book cut list all left wide one suffice
          needless few shorter.0 (omega (arith, shorter.2, by.4, short)) shorter.1 in
          (on.0, on.1, on.2, on.3, omega (arith, on.4, shorter.2, by.4))
    ]

pub needed_suffice : (reading : Reading) (held : List ℕ → ℕ) (next : List ℕ → ℕ → List ℕ × ℕ)
    → HoldsLast reading held next → (book : List Page) (cut list : List ℕ) (forced : ℕ)
    (all left : MarkedCallers) → length book ≤ length cut → HasOneOpen book
    → IsForced book cut forced
    → MarksAllNext book cut all
    → ((i : ℕ) → IsMarked all i → IsMarked left i ⊎ IsNeedless reading book cut (held list) i)
    → MarksSuffice book next cut list left
needed_suffice reading held next is book cut list forced all left wide one force marks
    needless rest goes =
    left_suffice reading held next is book cut list all left wide one
    (all_next_suffice book next cut list forced all force marks) needless (length rest) rest
    (omega arith) goes

-- The remaining marks are some of all marks, and each caller that lost its mark has a needless next
-- call.
pub record AreNeeded (reading : Reading) (book : List Page) (cut : List ℕ) (held : ℕ)
    (all left : MarkedCallers) : Type 0 where
  pub fewer : IsMarkedWithin left all
  pub needless : (i : ℕ) → IsMarked all i → IsMarked left i ⊎ IsNeedless reading book cut held i

pub all_needed : (reading : Reading) (book : List Page) (cut : List ℕ) (held : ℕ)
    (all : MarkedCallers)
    → AreNeeded reading book cut held all all
all_needed reading book cut held all =
    record { fewer = λ (i : ℕ) marked. marked; needless = λ (i : ℕ) marked. inl marked }

pub one_less_needed : (reading : Reading) (book : List Page) (cut : List ℕ) (held caller : ℕ)
    (all left new : MarkedCallers)
    → ((i : ℕ) → IsMarked new i ↔ ((i ≢ caller) × IsMarked left i))
    → IsNeedless reading book cut held caller → AreNeeded reading book cut held all left
    → AreNeeded reading book cut held all new
one_less_needed reading book cut held caller all left new without needless are = record {
  fewer = λ (i : ℕ) (marked : IsMarked new i). are.fewer i ((without i).0 marked).1;
  needless = λ (i : ℕ) (marked : IsMarked all i). elim (cases_eq i caller) [
    | inl same ↦ inr (subst (λ (j : ℕ). IsNeedless reading book cut held j) (sym same) needless)
    | inr apart ↦ elim (are.needless i marked) [
      | inl still ↦ inl ((without i).1 (apart, still))
      | inr out ↦ inr out
    ]
  ];
}

-- ---- calls outside a cut

outside_put_false : (reading : Reading) (book : List Page) (cut : List ℕ) (v : ℕ) (call : Call)
    → (WritesOutside reading book cut v call → ⊥) → IsTrue false
    ↔ WritesOutside reading book cut v call
outside_put_false reading book cut v call no_write = (
  λ (e : IsTrue false). cc,
  λ (writes : WritesOutside reading book cut v call). absurd (no_write writes),
)

pub no_call_writes : (reading : Reading) (book : List Page) (cut : List ℕ) (v : ℕ) (call : Call)
    → ((length book ≤ call.caller) ⊎ (calls_of book call.caller ≤ call.number))
    → IsTrue false ↔ WritesOutside reading book cut v call
no_call_writes reading book cut v call past =
    outside_put_false reading book cut v call (λ (writes : WritesOutside reading book cut v call).
    let made : call.number < calls_of book call.caller =
    slice_get_within _ call.number writes.0.0 writes.0.1 in
    elim past [
      | inl caller ↦ let there = caller_from_call book call.caller call.number made in
          omega (arith, there, caller)
      | inr number ↦ omega (arith, made, number)
    ])

pub no_value_writes : (reading : Reading) (book : List Page) (cut : List ℕ) (v : ℕ) (call : Call)
    → ((w : ℕ) → PutsIn reading book call w → ⊥) → IsTrue false
    ↔ WritesOutside reading book cut v call
no_value_writes reading book cut v call none = outside_put_false reading book cut v call
    (λ (writes : WritesOutside reading book cut v call). none v writes.0)

pub no_value_reads : (reading : Reading) (book : List Page) (cut : List ℕ) (v : ℕ) (call : Call)
    → ((w : ℕ) → TakesOut reading book call w → ⊥) → IsTrue false
    ↔ ReadsOutside reading book cut v call
no_value_reads reading book cut v call none = (
  λ (e : IsTrue false). cc,
  λ (reads : ReadsOutside reading book cut v call). absurd (none v reads.0),
)

-- whether some listed put of a value is outside a cut decides whether the value is written outside
-- it
pub written_if : (reading : Reading) (book : List Page) (cut : List ℕ) (sight : Sight) (v : ℕ)
    (calls : List Call) (answer : Bool) → ListsValues reading book sight → calls ≡ puts_of sight v
    → (IsTrue answer → IsWritten reading book cut v) → (answer ≡ false → (call : Call)
    → IsListed calls call → WritesOutside reading book cut v call → ⊥)
    → IsTrue answer ↔ IsWritten reading book cut v
written_if reading book cut sight v calls true lists same found none = (found, λ written. refl)
written_if reading book cut sight v calls false lists same found none = (
  found,
  λ (written : IsWritten reading book cut v).
      absurd (none refl written.0 (subst (λ (l : List Call). IsListed l written.0) (sym same)
      (lists.puts written.0 v written.1.0)) written.1),
)

pub read_if : (reading : Reading) (book : List Page) (cut : List ℕ) (sight : Sight) (v : ℕ)
    (calls : List Call) (answer : Bool) → ListsValues reading book sight → calls ≡ shows_of sight v
    → (IsTrue answer → IsRead reading book cut v) → (answer ≡ false → (call : Call)
    → IsListed calls call → ReadsOutside reading book cut v call → ⊥)
    → IsTrue answer ↔ IsRead reading book cut v
read_if reading book cut sight v calls true lists same found none = (found, λ read. refl)
read_if reading book cut sight v calls false lists same found none = (
  found,
  λ (read : IsRead reading book cut v). absurd (none refl read.0 (subst
      (λ (l : List Call). IsListed l read.0) (sym same) (lists.takes read.0 v read.1.0)) read.1),
)

nothing_listed : (call : Call) → IsListed [] call → ⊥
nothing_listed call listed = omega (arith, slice_get_within {A = Call} [] listed.0 call listed.1)

pub not_written : (reading : Reading) (book : List Page) (cut : List ℕ) (sight : Sight) (v : ℕ)
    → ListsValues reading book sight → puts_of sight v ≡ [] → IsTrue false
    ↔ IsWritten reading book cut v
not_written reading book cut sight v lists none =
    written_if reading book cut sight v [] false lists (sym none) (λ (e : IsTrue false). cc)
    (λ e call listed writes. nothing_listed call listed)

pub not_read : (reading : Reading) (book : List Page) (cut : List ℕ) (sight : Sight) (v : ℕ)
    → ListsValues reading book sight → shows_of sight v ≡ [] → IsTrue false
    ↔ IsRead reading book cut v
not_read reading book cut sight v lists none =
    read_if reading book cut sight v [] false lists (sym none) (λ (e : IsTrue false). cc)
    (λ e call listed reads. nothing_listed call listed)
