-- The last item may be taken at once by the take of it that has the least view, where each call
-- outside the cut that puts its value in may come next, or comes after the take.
use Rattle.std.proofs.Common.{◌≡◌, ◌≢◌, ℕ, ◌+◌, ◌<◌, ◌≤◌, ◌⊎◌, ◌∙◌, List, [], ◌∷◌, ◌++◌, length, get_or, Option, Some, unwrap_or, refl, sym, ap, subst, inl, inr, length-set, arith}
use Rattle.std.specs.List.{AllByRecursion}
use Rattle.std.proofs.lemmas.Bool.{cases_eq}
use Rattle.std.proofs.lemmas.List.{append-nil}
use Rattle.std.proofs.lemmas.Option.{same_Some}
use Rattle.book_base.specs.declared.call.Call.{Call}
use Rattle.book_base.specs.declared.call.Place.{Place}
use Rattle.book_base.specs.declared.call.Record.{Record}
use Rattle.search_hints.specs.declared.marked_callers.MarkedCallers.{MarkedCallers}
use Rattle.book_base.specs.Book.{Page, IsValid, operation_of, record_of}
use Rattle.book_base.specs.Order.{call_at}
use Rattle.book_base.specs.Next.{raised, next_call, MayComeNext, MayStandNext, list_after, Continues}
use Rattle.book_base.specs.Pruning.{HasOneOpen}
use Rattle.search_hints.specs.Marks.{IsMarked, MarksSuffice}
use Rattle.legal_orders.proofs.LegalOrder.{raised_same, raised_other, raised_more, raised_twice, comes_later, within_cut}
use Rattle.legal_orders.specs.Container.{Puts, Takes, Neither, Reading, value_put}
use Rattle.legal_orders.specs.Twins.{IsTwin}
use Rattle.legal_orders.proofs.Exchanging.{twin_serves}
use Rattle.list_pruning.specs.LeastFirst.{IsLeastTake}
use Rattle.list_pruning.specs.HoldsLast.{IsWritten, WritesOutside}
use Rattle.list_pruning.proofs.Placing.{cases_deed}
use Rattle.list_pruning.proofs.Taking.{word_at, word_is, word_stands, GoesOnAfter, goes_on_over, least_later, its_place, not_done, least_is_twin}
use Rattle.list_pruning.specs.LastFirst.{GivesLastFirst, IsSmall, PutsAreNextOrLater, TakesLast}
use Rattle.list_pruning.proofs.Stepping.{all-prefix, put_no_take, steps_above}

-- A value is another one than v, and is below a bound.
abbrev pub IsAnother : ℕ → ℕ → ℕ → Type 0
IsAnother bound v x = (x ≢ v) × (x < bound)

-- Where what two puts do is equal, they put in the same value.
same_put : (w v : ℕ) → Puts w ≡ Puts v → w ≡ v
same_put w v e = same_Some w v (ap value_put e)

put_no_neither : (v : ℕ) → Neither ≡ Puts v → ⊥
put_no_neither v e = cc

cases_put : (reading : Reading) (op v : ℕ) → (reading.deed op ≡ Puts v) ⊎ (reading.deed op ≢ Puts v)
cases_put reading op v = elim (cases_deed (reading.deed op)) [
  | inl put ↦ elim (cases_eq put.0 v) [
    | inl same ↦ inl (put.1 ∙ ap Puts same)
    | inr other ↦ inr (λ (e : reading.deed op ≡ Puts v). other (same_put put.0 v (sym put.1 ∙ e)))
  ]
  | inr else ↦ elim else [
    | inl takes ↦ inr (λ (e : reading.deed op ≡ Puts v). put_no_take v (sym e ∙ takes))
    | inr neither ↦ inr (λ (e : reading.deed op ≡ Puts v). put_no_neither v (sym neither ∙ e))
  ]
]

-- Where each call outside a cut that puts in a value may come next or comes after a take, this
-- holds after one more call of some caller too.
next_or_later_on : (reading : Reading) (book : List Page) (cut : List ℕ) (v i : ℕ) (take : Call)
    → i < length cut → PutsAreNextOrLater reading book cut v take
    → PutsAreNextOrLater reading book (raised cut i) v take
next_or_later_on reading book cut v i take inside puts put writes =
    let out : get_or (raised cut i) put.caller 0 ≤ put.number = writes.1 in
    elim (puts put (writes.0, omega (arith, out, raised_more cut i put.caller inside))) [
      | inl may ↦
          let apart : put.caller ≢ i = λ (same : put.caller ≡ i).
          let now : get_or (raised cut put.caller) put.caller 0 ≤ put.number =
          subst (λ (j : ℕ). get_or (raised cut j) put.caller 0 ≤ put.number) (sym same) out in
          let there : put.caller < length cut =
          subst (λ (j : ℕ). j < length cut) (sym same) inside in
          absurd (omega (arith, now, may.next, raised_same cut put.caller there)) in
          inl (comes_later book cut i put inside apart may)
      | inr later ↦ inr later
    ]

-- A put of a value, of another caller than the take, may stand next, and at least two places fewer
-- than some given ones continue the order from the same list once the take and then this put have
-- come.
pub record PutsFirst (reading : Reading) (book : List Page) (next : List ℕ → ℕ → List ℕ × ℕ)
    (cut list : List ℕ) (v : ℕ) (take : Call) (rest : List Place) : Type 0 where
  pub put : Place
  pub apart : put.caller ≢ take.caller
  pub puts : reading.deed (word_at book put) ≡ Puts v
  pub stands : MayStandNext book next cut list put
  pub goes : GoesOnAfter 1 book next (raised cut take.caller) put.caller list rest

-- Where a put is first, as `PutsFirst` says, after a place of another caller than the take, some
-- put is first before this place too.
puts_earlier : (reading : Reading) (next : List ℕ → ℕ → List ℕ × ℕ) (bound : ℕ)
    → GivesLastFirst reading next bound → (book : List Page) (cut list : List ℕ) (v : ℕ)
    (take : Call) (place : Place) (rest : List Place) → length book ≤ length cut
    → take.caller < length cut → place.caller < length cut → place.caller ≢ take.caller
    → MayComeNext book cut take → PutsAreNextOrLater reading book cut v take
    → MayStandNext book next cut list place
    → PutsFirst reading book next (raised cut place.caller) (list_after book next list place) v take
    rest
    → PutsFirst reading book next cut list v take (place ∷ rest)
puts_earlier reading next bound is book cut list v take place rest wide inside there apart may puts
    stands on =
    let put : Place = on.put in
    let op : ℕ = word_at book put in
    let next_there : put.number ≡ get_or (raised cut place.caller) put.caller 0 =
    on.stands.may_come.next in
    let out : get_or cut put.caller 0 ≤ put.number =
    omega (arith, next_there, raised_more cut place.caller put.caller there) in
    let now : MayComeNext book cut (call_at put) = elim (puts (call_at put) (
      (op, word_stands book put on.stands.may_come.is_call, on.puts),
      out,
    )) [
      | inl soon ↦ soon
      | inr later ↦
          let held : take.number < get_or (raised cut place.caller) take.caller 0 =
          on.stands.may_come.preceded take later in
          absurd (omega (
            arith,
            held,
            may.next,
            raised_other cut place.caller take.caller
                (λ (e : take.caller ≡ place.caller). apart (sym e)),
          ))
    ] in
    let other : place.caller ≢ put.caller = λ (same : place.caller ≡ put.caller).
    let more : get_or (raised cut place.caller) place.caller 0 ≡ get_or cut place.caller 0 + 1 =
    raised_same cut place.caller there in
    let its : get_or (raised cut place.caller) put.caller 0 ≡ get_or cut put.caller 0 + 1 =
    subst (λ (j : ℕ). get_or (raised cut place.caller) j 0 ≡ get_or cut j 0 + 1) same more in
    absurd (omega (arith, next_there, its, now.next)) in
    let no_take : (reading.deed op ≡ Takes) → ⊥ =
    λ (e : reading.deed op ≡ Takes). put_no_take v (sym on.puts ∙ e) in
    let later : MayStandNext book next (raised cut take.caller) list place = record {
      may_come =
          comes_later book cut take.caller (call_at place) inside apart stands.may_come;
      recorded = stands.recorded;
      reply = stands.reply;
    } in
    let put_there : put.caller < length (raised cut take.caller) = omega (
      arith,
      within_cut book cut (call_at put) wide now.is_call,
      length-set cut take.caller (get_or cut take.caller 0 + 1),
    ) in
    record {
      put = put;
      apart = on.apart;
      puts = on.puts;
      stands = record {
        may_come = now;
        recorded = on.stands.recorded;
        reply = is.blind list (list_after book next list place) op no_take ∙ on.stands.reply;
      };
      goes = goes_on_over 1 book next (raised cut take.caller) list list put.caller place rest
          put_there other later refl
          (subst (λ (c : List ℕ). GoesOnAfter 1 book next c put.caller
          (list_after book next list place) rest)
          (raised_twice cut place.caller take.caller apart) on.goes);
    }

-- Fewer places than some given ones continue the order from the list without a value, once the take
-- with the least view has come; or, from the list with the value, once the take and then a put of
-- the value have come.
abbrev pub GoesOnTaken : Reading → List Page → (List ℕ → ℕ → List ℕ × ℕ) → List ℕ → ℕ → Call
    → List ℕ → List ℕ → List Place → Type 0
GoesOnTaken reading book next cut v take having lacking rest =
    GoesOnAfter 0 book next cut take.caller lacking rest
    ⊎ PutsFirst reading book next cut having v take rest

-- `GoesOnTaken` holds where the given places continue the order from a list in which the value
-- isn't among the items above it, the take with the least view may come next, and each call outside
-- the cut that puts the value in may come next or comes after the take.
pub taken_later : (reading : Reading) (next : List ℕ → ℕ → List ℕ × ℕ) (bound : ℕ)
    → GivesLastFirst reading next bound → (book : List Page) (v : ℕ) (take : Call)
    → v < bound → IsValid book → HasOneOpen book → (rest : List Place) (cut below above : List ℕ)
    → length book ≤ length cut → MayComeNext book cut take
    → IsLeastTake reading book cut v take → PutsAreNextOrLater reading book cut v take
    → AllByRecursion (IsAnother bound v) above
    → Continues book next cut ((below ++ v ∷ []) ++ above) rest
    → GoesOnTaken reading book next cut v take ((below ++ v ∷ []) ++ above) (below ++ above) rest
taken_later reading next bound is book v take small valid one [] cut below above wide may least
    puts all goes =
    absurd (not_done reading book cut v take may least.takes goes)
taken_later reading next bound is book v take small valid one
    (place ∷ rest) cut below above wide may least puts all goes =
    let inside : take.caller < length cut = within_cut book cut take wide may.is_call in
    let there : place.caller < length cut =
    within_cut book cut (call_at place) wide goes.0.may_come.is_call in
    let op : ℕ = word_at book place in
    let list : List ℕ = (below ++ v ∷ []) ++ above in
    let wider : length book ≤ length (raised cut place.caller) =
    omega (arith, wide, length-set cut place.caller (get_or cut place.caller 0 + 1)) in
    let on = λ (apart : place.caller ≢ take.caller) (under over : List ℕ)
    (others : AllByRecursion (IsAnother bound v) over)
    (same : (next list op).0 ≡ (under ++ v ∷ []) ++ over).
    taken_later reading next bound is book v take small valid one rest
    (raised cut place.caller) under over wider (comes_later book cut
    place.caller take there (λ (e : take.caller ≡ place.caller). apart (sym e)) may)
    (least_later reading book cut v place.caller take there least)
    (next_or_later_on reading book cut v place.caller take there puts) others
    (subst (λ (xs : List ℕ). Continues book next (raised cut place.caller) xs rest) same goes.1) in
    let earlier = λ (apart : place.caller ≢ take.caller) (having : List ℕ)
    (same : (next list op).0 ≡ having)
    (first : PutsFirst reading book next (raised cut place.caller) having v take rest).
    puts_earlier reading next bound is book cut list v take place rest wide inside there apart may
    puts goes.0
    (subst (λ (xs : List ℕ). PutsFirst reading book next (raised cut place.caller) xs v take rest)
    (sym same) first) in
    elim (cases_put reading op v) [
      | inl again ↦
          let apart : place.caller ≢ take.caller = λ (same : place.caller ≡ take.caller).
          let call : call_at place ≡ take =
          its_place book next cut list place take may goes.0 same in
          let word : op ≡ least.takes.0 =
          word_is book place least.takes.0 (ap (operation_of book) call ∙ least.takes.2) in
          put_no_take v (sym again ∙ (ap reading.deed word ∙ least.takes.4)) in
          let whole : (next list op).0 ≡ (list ++ v ∷ []) ++ [] =
          is.put list op v again ∙ sym (append-nil (list ++ v ∷ [])) in
          elim (on apart list [] tt whole) [
            | inl taken ↦ inr (record {
              put = place;
              apart = apart;
              puts = again;
              stands = goes.0;
              goes = (
                taken.0,
                subst (λ (xs : List ℕ).
                    Continues book next (raised (raised cut take.caller) place.caller) xs taken.0)
                    (append-nil list)
                    (subst (λ (c : List ℕ). Continues book next c (list ++ []) taken.0)
                    (raised_twice cut place.caller take.caller apart) taken.1),
                omega (arith, taken.2),
              );
            })
            | inr first ↦ inr (earlier apart ((list ++ v ∷ []) ++ []) whole first)
          ]
      | inr another ↦
          let keeps : (w : ℕ) → reading.deed op ≡ Puts w → IsAnother bound v w =
          λ (w : ℕ) (e : reading.deed op ≡ Puts w). (
            λ (same : w ≡ v). another (e ∙ ap Puts same),
            is.small op w e,
          ) in
          elim (steps_above reading next bound is (IsAnother bound v)
          (λ (x : ℕ) (p : IsAnother bound v x). p.1) op (below ++ v ∷ []) below above keeps all) [
            | inl alike ↦
                let apart : place.caller ≢ take.caller = λ (same : place.caller ≡ take.caller).
                let call : call_at place ≡ take =
                its_place book next cut list place take may goes.0 same in
                let word : op ≡ least.takes.0 =
                word_is book place least.takes.0 (ap (operation_of book) call ∙ least.takes.2) in
                let shown = alike.shown (ap reading.deed word ∙ least.takes.4) in
                shown.1.0 (same_Some shown.0 v (sym shown.2
                ∙ (ap reading.shown (goes.0.reply ∙ sym (goes.0.recorded least.takes.1
                (ap (record_of book) call ∙ least.takes.3))) ∙ least.takes.5))) in
                elim (on apart below alike.new_above alike.all alike.one) [
                  | inl taken ↦ inl (goes_on_over 0 book next cut list
                      (below ++ above) take.caller place rest inside apart goes.0 alike.reply
                      (subst (λ (xs : List ℕ).
                      GoesOnAfter 0 book next (raised cut place.caller) take.caller xs rest)
                      (sym alike.two) taken))
                  | inr first ↦
                      inr (earlier apart ((below ++ v ∷ []) ++ alike.new_above) alike.one first)
                ]
            | inr taken ↦
                let whole : list ≡ below ++ v ∷ [] =
                ap (λ (xs : List ℕ). (below ++ v ∷ []) ++ xs) taken.1
                ∙ append-nil (below ++ v ∷ []) in
                let lacking : below ++ above ≡ below =
                ap (λ (xs : List ℕ). below ++ xs) taken.1 ∙ append-nil below in
                let rests : (next list op).0 ≡ below ++ above =
                ap (λ (xs : List ℕ). (next xs op).0) whole
                ∙ (is.take below v op taken.0 ∙ sym lacking) in
                elim (cases_eq place.caller take.caller) [
                  | inl same ↦ inl (
                    rest,
                    subst (λ (i : ℕ). Continues book next (raised cut i) (below ++ above) rest) same
                        (subst (λ (xs : List ℕ).
                        Continues book next (raised cut place.caller) xs rest) rests goes.1),
                    omega arith,
                  )
                  | inr apart ↦
                      let shows : reading.shown (next list op).1 ≡ Some v
                      = ap (λ (xs : List ℕ). reading.shown (next xs op).1) whole
                      ∙ is.shows below v op small taken.0 in
                      let twin : IsTwin book next cut list take (call_at place)
                      = least_is_twin reading next is.one_take is.one_reply book cut list v take
                      place (λ (e : take.caller ≡ place.caller). apart (sym e)) may least goes.0
                      taken.0 shows in
                      let other =
                      twin_serves book next cut list take place rest wide valid one twin goes in
                      let word : unwrap_or (operation_of book take) 0 ≡ op
                      = ap (λ (o : Option ℕ). unwrap_or o 0) least.takes.2
                      ∙ is.one_take least.takes.0 op least.takes.4 taken.0 in
                      inl (
                        other.0,
                        subst (λ (xs : List ℕ).
                            Continues book next (raised cut take.caller) xs other.0)
                            (ap (λ (w : ℕ). (next list w).0) word ∙ rests) other.1.1,
                        omega (arith, other.2),
                      )
                ]
          ]
    ]

-- Where no call outside the cut puts the value in, fewer places continue the order from the list
-- without the value, once the take with the least view has come.
pub taken_for_good : (reading : Reading) (next : List ℕ → ℕ → List ℕ × ℕ) (bound : ℕ)
    → GivesLastFirst reading next bound → (book : List Page) (v : ℕ) (take : Call)
    → v < bound → IsValid book → HasOneOpen book → (rest : List Place) (cut below above : List ℕ)
    → length book ≤ length cut → MayComeNext book cut take
    → IsLeastTake reading book cut v take → (IsWritten reading book cut v → ⊥)
    → AllByRecursion (IsAnother bound v) above
    → Continues book next cut ((below ++ v ∷ []) ++ above) rest
    → GoesOnAfter 0 book next cut take.caller (below ++ above) rest
taken_for_good reading next bound is book v take small valid one rest cut below above wide may least
    no_more all goes =
    elim (taken_later reading next bound is book v take small valid one rest cut below above wide
    may least (λ (put : Call) (writes : WritesOutside reading book cut v put).
    absurd (no_more (put, writes))) all goes) [
      | inl taken ↦ taken
      | inr first ↦
          let put : Place = first.put in
          absurd (no_more (
            call_at put,
            (
              (
                word_at book put,
                word_stands book put first.stands.may_come.is_call,
                first.puts,
              ),
              omega (arith, first.stands.may_come.next),
            ),
          ))
    ]

-- The take with the least view may stand next, with its recorded reply, at a list whose last item
-- is the value, and the list after it is without this item.
pub take_stands : (reading : Reading) (next : List ℕ → ℕ → List ℕ × ℕ) (bound : ℕ)
    → GivesLastFirst reading next bound → (book : List Page) (cut : List ℕ) (v : ℕ)
    (below : List ℕ) (take : Call) (least : IsLeastTake reading book cut v take) → v < bound
    → (now : List ℕ) → MayComeNext book now take
    → MayStandNext book next now (below ++ v ∷ [])
    (record { caller = take.caller; number = take.number; reply = least.takes.1.reply })
    × (list_after book next (below ++ v ∷ [])
    (record { caller = take.caller; number = take.number; reply = least.takes.1.reply }) ≡ below)
take_stands reading next bound is book cut v below take least small now may =
    let op : ℕ = least.takes.0 in
    let word : unwrap_or (operation_of book take) 0 ≡ op =
    ap (λ (o : Option ℕ). unwrap_or o 0) least.takes.2 in (
      record {
        may_come = may;
        recorded = λ (s : Record) (known : record_of book take ≡ Some s).
            ap (λ (x : Record). x.reply) (same_Some s least.takes.1 (sym known ∙ least.takes.3));
        reply = is.one_reply _ _ v (ap (λ (w : ℕ). reading.shown (next (below ++ v ∷ []) w).1) word
            ∙ is.shows below v op small least.takes.4) least.takes.5;
      },
      ap (λ (w : ℕ). (next (below ++ v ∷ []) w).0) word ∙ is.take below v op least.takes.4,
    )

-- Marks suffice where they are on a caller whose next call takes the last item with the least view,
-- and each call outside the cut that puts its value in may come next or comes after the take.
pub last_take_suffices : (reading : Reading) (next : List ℕ → ℕ → List ℕ × ℕ) (bound : ℕ)
    → GivesLastFirst reading next bound → (book : List Page) (cut list : List ℕ)
    (caller : ℕ) (marks : MarkedCallers) → IsSmall bound list → IsValid book → HasOneOpen book
    → length book ≤ length cut → MayComeNext book cut (next_call cut caller)
    → TakesLast reading book cut list caller → IsMarked marks caller
    → MarksSuffice book next cut list marks
last_take_suffices reading next bound is book cut list caller marks all valid one wide may takes
    marked rest goes =
    let v : ℕ = takes.value in
    let below : List ℕ = takes.last.0 in
    let take : Call = next_call cut caller in
    let inside : caller < length cut = within_cut book cut take wide may.is_call in
    let small : v < bound = (all-prefix (λ (x : ℕ). x < bound) below v
    (subst (λ (xs : List ℕ). IsSmall bound xs) takes.last.1 all)).1 in
    let having : List ℕ = (below ++ v ∷ []) ++ [] in
    let whole : having ≡ below ++ v ∷ [] = append-nil (below ++ v ∷ []) in
    let stands =
    take_stands reading next bound is book cut v below take takes.takes small cut may in
    let place : Place =
    record { caller = caller; number = get_or cut caller 0; reply = takes.takes.takes.1.reply } in
    let on = λ (other : List Place) (fewer : length other < length rest)
    (left : Continues book next (raised cut caller) below other).
    let it : (p : Place) × (others : List Place) × IsMarked marks p.caller
    × Continues book next cut list (p ∷ others) × (length others < length rest) = (
      place,
      other,
      marked,
      subst (λ (xs : List ℕ). Continues book next cut xs (place ∷ other)) (sym takes.last.1) (
        stands.0,
        subst (λ (xs : List ℕ). Continues book next (raised cut caller) xs other)
            (sym stands.1) left,
      ),
      fewer,
    ) in it in
    elim (taken_later reading next bound is book v take small valid one rest cut below [] wide
    may takes.takes takes.puts tt
    (subst (λ (xs : List ℕ). Continues book next cut xs rest) (takes.last.1 ∙ sym whole) goes)) [
      | inl taken ↦ on taken.0 (omega (arith, taken.2))
          (subst (λ (xs : List ℕ). Continues book next (raised cut caller) xs taken.0)
          (append-nil below) taken.1)
      | inr first ↦
          let put : Place = first.put in
          let op : ℕ = word_at book put in
          let stays : MayStandNext book next (raised cut caller) below put = record {
            may_come = comes_later book cut caller (call_at put) inside first.apart
                first.stands.may_come;
            recorded = first.stands.recorded;
            reply = is.blind below having op
                (λ (e : reading.deed op ≡ Takes). put_no_take v (sym first.puts ∙ e))
                ∙ first.stands.reply;
          } in
          on (put ∷ first.goes.0) (omega (arith, first.goes.2)) (
            stays,
            subst (λ (xs : List ℕ).
                Continues book next (raised (raised cut caller) put.caller) xs first.goes.0)
                (whole ∙ sym (is.put below op v first.puts)) first.goes.1,
          )
    ]
