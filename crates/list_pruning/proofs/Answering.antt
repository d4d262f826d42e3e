-- The forced call is a take: what is put in before it, and isn't what it takes, may be put in after
-- it.
use Rattle.std.proofs.Common.{◌≡◌, ◌≢◌, ℕ, zero, suc, ◌+◌, ◌<◌, ◌≤◌, ◌⊎◌, ◌∙◌, ◌↔◌, List, [], ◌∷◌, ◌++◌, map, length, get_or, Option, Some, refl, sym, ap, subst, inl, inr, arith}
use Rattle.std.proofs.lemmas.Bool.{cases_eq}
use Rattle.book_base.specs.declared.call.Call.{Call}
use Rattle.book_base.specs.declared.call.Place.{Place}
use Rattle.book_base.specs.declared.call.Record.{Record}
use Rattle.search_hints.specs.declared.marked_callers.MarkedCallers.{MarkedCallers}
use Rattle.book_base.specs.Book.{Page, IsValid, operation_of, record_of}
use Rattle.book_base.specs.Order.{call_at, step_at}
use Rattle.book_base.specs.Sequential.{IsRunFrom}
use Rattle.book_base.specs.Next.{raised, next_call, MayComeNext, Continues}
use Rattle.book_base.specs.Pruning.{HasOneOpen, IsForced}
use Rattle.search_hints.specs.Marks.{IsMarked, IsMarkedWithin, MarksAllNext, MarksSuffice}
use Rattle.legal_orders.proofs.LegalOrder.{same_call, same_place, within_cut}
use Rattle.legal_orders.specs.Container.{Puts, Takes, Neither, Reading}
use Rattle.legal_orders.specs.Calls.{TakesShowing}
use Rattle.list_pruning.proofs.Placing.{cases_deed}
use Rattle.list_pruning.proofs.Taking.{word_at, word_is}
use Rattle.list_pruning.specs.LastFirst.{GivesLastFirst, PutsNeedless}
use Rattle.list_pruning.proofs.Stepping.{put_no_take, neither_no_take}
use Rattle.list_pruning.proofs.Moving.{MayBeNext, Comes, Goes, goes_from_continues, continues_from_goes, Waits, waits_later, comes_up, comes_up_two}

-- Places run from a list: their replies are those that the object gives to their operations in this
-- order.
abbrev Runs : List Page → (List ℕ → ℕ → List ℕ × ℕ) → List ℕ → List Place → Type 0
Runs book next list places = IsRunFrom next list (map (step_at book) places)

-- Two places next to one another are a put and a take of the value that it puts in, with the
-- replies that the object gives from this list on.
record IsPair (reading : Reading) (book : List Page) (next : List ℕ → ℕ → List ℕ × ℕ)
    (list : List ℕ) (put take : Place) : Type 0 where
  value : ℕ
  puts : reading.deed (word_at book put) ≡ Puts value
  takes : reading.deed (word_at book take) ≡ Takes
  first : (next list (word_at book put)).1 ≡ put.reply
  second : (next (next list (word_at book put)).0 (word_at book take)).1 ≡ take.reply

pair_leaves : (reading : Reading) (next : List ℕ → ℕ → List ℕ × ℕ) (bound : ℕ)
    → GivesLastFirst reading next bound → (book : List Page) (one list : List ℕ) (put take : Place)
    → IsPair reading book next one put take
    → (next (next list (word_at book put)).0 (word_at book take)).0 ≡ list
pair_leaves reading next bound is book one list put take pair =
    ap (λ (xs : List ℕ). (next xs (word_at book take)).0)
    (is.put list (word_at book put) pair.value pair.puts)
    ∙ is.take list pair.value (word_at book take) pair.takes

pair_shows : (reading : Reading) (next : List ℕ → ℕ → List ℕ × ℕ) (bound : ℕ)
    → GivesLastFirst reading next bound → (book : List Page) (one list : List ℕ) (put take : Place)
    (pair : IsPair reading book next one put take)
    → reading.shown (next (next list (word_at book put)).0 (word_at book take)).1 ≡ Some pair.value
pair_shows reading next bound is book one list put take pair =
    ap (λ (xs : List ℕ). reading.shown (next xs (word_at book take)).1)
    (is.put list (word_at book put) pair.value pair.puts)
    ∙ is.shows list pair.value (word_at book take)
    (is.small (word_at book put) pair.value pair.puts) pair.takes

pair_runs : (reading : Reading) (next : List ℕ → ℕ → List ℕ × ℕ) (bound : ℕ)
    → GivesLastFirst reading next bound → (book : List Page) (one list : List ℕ) (put take : Place)
    (rest : List Place) → IsPair reading book next one put take → Runs book next list rest
    → Runs book next list (put ∷ take ∷ rest)
pair_runs reading next bound is book one list put take rest pair runs =
    let not : reading.deed (word_at book put) ≢ Takes =
    λ (e : reading.deed (word_at book put) ≡ Takes). put_no_take pair.value (sym pair.puts ∙ e) in (
      is.blind list one (word_at book put) not ∙ pair.first,
      (
        is.one_reply _ _ pair.value (pair_shows reading next bound is book one list put take pair)
            (pair_shows reading next bound is book one one put take pair) ∙ pair.second,
        subst (λ (xs : List ℕ). Runs book next xs rest)
            (sym (pair_leaves reading next bound is book one list put take pair)) runs,
      ),
    )

-- Places that begin with the forced call, at most this many, continue an order from a cut and a
-- list.
record ByCall (book : List Page) (next : List ℕ → ℕ → List ℕ × ℕ) (cut list : List ℕ) (c : Place)
    (most : ℕ) : Type 0 where
  other : List Place
  goes : Goes book next cut list (c ∷ other)
  short : length other + 1 ≤ most

-- Places that begin with the put of the value that the forced call takes and with this call, at
-- most this many, continue an order from a cut and a list.
record ByPut (reading : Reading) (book : List Page) (next : List ℕ → ℕ → List ℕ × ℕ)
    (cut list : List ℕ) (c : Place) (most : ℕ) : Type 0 where
  put : Place
  value : ℕ
  puts : reading.deed (word_at book put) ≡ Puts value
  shows : reading.shown c.reply ≡ Some value
  apart : put.caller ≢ c.caller
  other : List Place
  goes : Goes book next cut list (put ∷ c ∷ other)
  short : length other + 2 ≤ most

-- Places that begin with another caller's call that puts nothing in, at most this many, continue an
-- order from a cut and a list.
record ByOther (reading : Reading) (book : List Page) (next : List ℕ → ℕ → List ℕ × ℕ)
    (cut list : List ℕ) (c : Place) (most : ℕ) : Type 0 where
  place : Place
  no_put : (v : ℕ) → reading.deed (word_at book place) ≢ Puts v
  apart : place.caller ≢ c.caller
  other : List Place
  goes : Goes book next cut list (place ∷ other)
  short : length other + 1 ≤ most

abbrev AnswerCases : Reading → List Page → (List ℕ → ℕ → List ℕ × ℕ) → List ℕ → List ℕ → Place
    → ℕ → Type 0
AnswerCases reading book next cut list c most = ByCall book next cut list c most
    ⊎ (ByPut reading book next cut list c most ⊎ ByOther reading book next cut list c most)

-- A place that puts a value in, is of another caller than the forced call, and has the reply that
-- the object gives at the list.
record PutsFirst (reading : Reading) (book : List Page) (next : List ℕ → ℕ → List ℕ × ℕ)
    (cut list : List ℕ) (c x : Place) : Type 0 where
  value : ℕ
  puts : reading.deed (word_at book x) ≡ Puts value
  apart : x.caller ≢ c.caller
  inside : x.caller < length cut
  reply : (next list (word_at book x)).1 ≡ x.reply

-- The list after the operation of a place.
abbrev put_on : List Page → (List ℕ → ℕ → List ℕ × ℕ) → List ℕ → Place → List ℕ
put_on book next list x = (next list (word_at book x)).0

-- Where places continue an order with a put first and the forced call next, they begin with the put
-- of the value that the forced call takes and with this call.
by-call : (reading : Reading) (next : List ℕ → ℕ → List ℕ × ℕ) (bound : ℕ)
    → GivesLastFirst reading next bound
    → (book : List Page) (cut list : List ℕ) (c x : Place) (most : ℕ)
    → reading.deed (word_at book c) ≡ Takes → PutsFirst reading book next cut list c x
    → (other : List Place) → Goes book next cut list (x ∷ c ∷ other) → length other + 1 ≤ most
    → ByPut reading book next cut list c (most + 1)
by-call reading next bound is book cut list c x most takes it other goes short = record {
  put = x;
  value = it.value;
  puts = it.puts;
  shows = ap reading.shown (sym goes.1.1.0)
      ∙ (ap (λ (xs : List ℕ). reading.shown (next xs (word_at book c)).1)
      (is.put list (word_at book x) it.value it.puts)
      ∙ is.shows list it.value (word_at book c) (is.small (word_at book x) it.value it.puts) takes);
  apart = it.apart;
  other = other;
  goes = goes;
  short = omega (arith, short);
}

-- Where the put of the value that the forced call takes and this call come right after a first put,
-- both may come before the first put.
by-put : (reading : Reading) (next : List ℕ → ℕ → List ℕ × ℕ) (bound : ℕ)
    → GivesLastFirst reading next bound → (book : List Page) → IsValid book → HasOneOpen book
    → (cut list : List ℕ) (c x : Place) (most : ℕ) → reading.deed (word_at book c) ≡ Takes
    → Waits book cut c → PutsFirst reading book next cut list c x → MayBeNext book cut x
    → ByPut reading book next (raised cut x.caller) (put_on book next list x) c most
    → ByPut reading book next cut list c (most + 1)
by-put reading next bound is book valid one cut list c x most takes waits it may by =
    let p : Place = by.put in
    let up : Comes book cut (p ∷ x ∷ c ∷ by.other) =
    comes_up book cut c valid one waits x p (c ∷ by.other) it.apart (may, by.goes.0) in
    let in_p : p.caller < length cut = within_cut book cut (call_at p) waits.wide up.0.0.is_call in
    let later = waits_later book cut c p.caller valid in_p by.apart waits in
    let pair : IsPair reading book next (put_on book next list x) p c
    = record {
      value = by.value;
      puts = by.puts;
      takes = takes;
      first = by.goes.1.0;
      second = by.goes.1.1.0;
    } in
    let left : Runs book next (put_on book next list x) by.other
    = subst (λ (xs : List ℕ). Runs book next xs by.other) (pair_leaves reading next bound is book
    (put_on book next list x) (put_on book next list x) p c pair) by.goes.1.1.1 in
    record {
      put = p;
      value = by.value;
      puts = by.puts;
      shows = by.shows;
      apart = by.apart;
      other = x ∷ by.other;
      goes = (
        (up.0, comes_up book (raised cut p.caller) c valid one later x c by.other it.apart up.1),
        pair_runs reading next bound is book (put_on book next list x) list p c (x ∷ by.other) pair
            (it.reply, left),
      );
      short = omega (arith, by.short);
    }

-- Where a call that neither puts in nor takes comes right after a first put, it may come before the
-- put.
by-neither : (reading : Reading) (next : List ℕ → ℕ → List ℕ × ℕ) (bound : ℕ)
    → GivesLastFirst reading next bound → (book : List Page) → IsValid book → HasOneOpen book
    → (cut list : List ℕ) (c x : Place) (most : ℕ) → Waits book cut c
    → PutsFirst reading book next cut list c x → MayBeNext book cut x
    → (by : ByOther reading book next (raised cut x.caller) (put_on book next list x) c most)
    → reading.deed (word_at book by.place) ≡ Neither
    → ByOther reading book next cut list c (most + 1)
by-neither reading next bound is book valid one cut list c x most waits it may by neither =
    let op : ℕ = word_at book by.place in
    let no : reading.deed op ≢ Takes =
    λ (e : reading.deed op ≡ Takes). neither_no_take (sym neither ∙ e) in
    let left : Runs book next (put_on book next list x) by.other =
    subst (λ (xs : List ℕ). Runs book next xs by.other)
    (is.neither (put_on book next list x) op neither) by.goes.1.1 in
    record {
      place = by.place;
      no_put = by.no_put;
      apart = by.apart;
      other = x ∷ by.other;
      goes = (
        comes_up book cut c valid one waits x by.place by.other it.apart (may, by.goes.0),
        (
          is.blind list (put_on book next list x) op no ∙ by.goes.1.0,
          subst (λ (xs : List ℕ). Runs book next xs (x ∷ by.other))
              (sym (is.neither list op neither)) (it.reply, left),
        ),
      );
      short = omega (arith, by.short);
    }

-- Where a take of what was put in first comes right after the put, each of the three cases that
-- holds after the two holds before them, with two places more.
pair-first : (reading : Reading) (next : List ℕ → ℕ → List ℕ × ℕ) (bound : ℕ)
    → GivesLastFirst reading next bound → (book : List Page) → IsValid book → HasOneOpen book
    → (cut list : List ℕ) (c x t : Place) (most : ℕ) → Waits book cut c
    → PutsFirst reading book next cut list c x → IsPair reading book next list x t
    → t.caller ≢ c.caller
    → MayBeNext book cut x → MayBeNext book (raised cut x.caller) t
    → AnswerCases reading book next (raised (raised cut x.caller) t.caller) list c most
    → AnswerCases reading book next cut list c (most + 2)
pair-first reading next bound is book valid one cut list c x t most waits it pair apart may_x
    may_t outcome =
    let runs = λ (other_list : List ℕ) (rest : List Place) (left : Runs book next other_list rest).
    pair_runs reading next bound is book list other_list x t rest pair left in
    elim outcome [
      | inl by ↦ inl (record {
        other = x ∷ t ∷ by.other;
        goes = (
          comes_up_two book cut c valid one waits x t c by.other it.apart apart
              (may_x, (may_t, by.goes.0)),
          (by.goes.1.0, runs (next list (word_at book c)).0 by.other by.goes.1.1),
        );
        short = omega (arith, by.short);
      })
      | inr more ↦ elim more [
        | inl by ↦
            let p : Place = by.put in
            let up : Comes book cut (p ∷ x ∷ t ∷ c ∷ by.other) = comes_up_two book cut c valid one
            waits x t p (c ∷ by.other) it.apart apart (may_x, (may_t, by.goes.0)) in
            let in_p : p.caller < length cut =
            within_cut book cut (call_at p) waits.wide up.0.0.is_call in
            let later = waits_later book cut c p.caller valid in_p by.apart waits in
            inr (inl (record {
              put = p;
              value = by.value;
              puts = by.puts;
              shows = by.shows;
              apart = by.apart;
              other = x ∷ t ∷ by.other;
              goes = (
                (
                  up.0,
                  comes_up_two book
                      (raised cut p.caller) c valid one later x t c by.other it.apart apart up.1,
                ),
                (
                  by.goes.1.0,
                  (
                    by.goes.1.1.0,
                    runs (next (put_on book next list p) (word_at book c)).0 by.other by.goes.1.1.1,
                  ),
                ),
              );
              short = omega (arith, by.short);
            }))
        | inr by ↦ inr (inr (record {
          place = by.place;
          no_put = by.no_put;
          apart = by.apart;
          other = x ∷ t ∷ by.other;
          goes = (
            comes_up_two book cut c valid one waits x t by.place by.other it.apart apart
                (may_x, (may_t, by.goes.0)),
            (by.goes.1.0, runs (next list (word_at book by.place)).0 by.other by.goes.1.1),
          );
          short = omega (arith, by.short);
        }))
      ]
    ]

-- Where one of the three cases holds with a number of places, it holds with each greater or equal
-- number.
outcome_of-more : (reading : Reading) (book : List Page) (next : List ℕ → ℕ → List ℕ × ℕ)
    (cut list : List ℕ) (c : Place) (few most : ℕ) → few ≤ most
    → AnswerCases reading book next cut list c few → AnswerCases reading book next cut list c most
outcome_of-more reading book next cut list c few most le outcome = elim outcome [
  | inl by ↦ inl (record { other = by.other; goes = by.goes; short = omega (arith, by.short, le) })
  | inr more ↦ elim more [
    | inl by ↦ inr (inl (record {
      put = by.put;
      value = by.value;
      puts = by.puts;
      shows = by.shows;
      apart = by.apart;
      other = by.other;
      goes = by.goes;
      short = omega (arith, by.short, le);
    }))
    | inr by ↦ inr (inr (record {
      place = by.place;
      no_put = by.no_put;
      apart = by.apart;
      other = by.other;
      goes = by.goes;
      short = omega (arith, by.short, le);
    }))
  ]
]

-- The place of an answered take, with the recorded reply.
record IsForcedTake (reading : Reading) (book : List Page) (c : Place) : Type 0 where
  record_there : Record
  known : record_of book (call_at c) ≡ Some record_there
  replies : record_there.reply ≡ c.reply
  takes : reading.deed (word_at book c) ≡ Takes

-- Where places continue an order, as many or fewer do that begin with the forced call, or with the
-- put of the value that it takes and this call, or with another caller's call that puts nothing in.
outcomes : (reading : Reading) (next : List ℕ → ℕ → List ℕ × ℕ) (bound : ℕ)
    → GivesLastFirst reading next bound → (book : List Page) → IsValid book → HasOneOpen book
    → (c : Place) → IsForcedTake reading book c → (few : ℕ) (rest : List Place) (cut list : List ℕ)
    → length rest ≤ few → Waits book cut c → Goes book next cut list rest
    → AnswerCases reading book next cut list c (length rest)
outcomes reading next bound is book valid one c take few [] cut list short waits goes =
    let held : get_or cut c.caller 0 < get_or cut c.caller 0 =
    goes.0 (next_call cut c.caller) waits.forced.answered in absurd (omega arith)
outcomes reading next bound is book valid one c take zero (x ∷ rest) cut list short waits goes =
    absurd (omega (arith, short))
outcomes reading next bound is book valid one c take (suc few)
    (x ∷ rest) cut list short waits goes =
    let op : ℕ = word_at book x in
    let inside : x.caller < length cut =
    within_cut book cut (call_at x) waits.wide goes.0.0.0.is_call in
    elim (cases_eq x.caller c.caller) [
      | inl same ↦
          let number : x.number ≡ c.number =
          goes.0.0.0.next ∙ (ap (λ (i : ℕ). get_or cut i 0) same ∙ sym waits.at) in
          let call : call_at x ≡ call_at c = same_call (call_at x) (call_at c) same number in
          let reply : x.reply ≡ c.reply = sym
          (goes.0.0.1 take.record_there (ap (record_of book) call ∙ take.known)) ∙ take.replies in
          let whole : x ≡ c = same_place x c same number reply in
          inl (record {
            other = rest;
            goes = subst (λ (p : Place). Goes book next cut list (p ∷ rest)) whole goes;
            short = omega arith;
          })
      | inr apart ↦ elim (cases_deed (reading.deed op)) [
        | inr other ↦ inr (inr (record {
          place = x;
          no_put = λ (v : ℕ) (e : reading.deed op ≡ Puts v). elim other [
            | inl takes ↦ put_no_take v (sym e ∙ takes)
            | inr neither ↦ let both : Puts v ≡ Neither = sym e ∙ neither in cc
          ];
          apart = apart;
          other = rest;
          goes = goes;
          short = omega arith;
        }))
        | inl put ↦
            let it : PutsFirst reading book next cut list c x = record {
              value = put.0;
              puts = put.1;
              apart = apart;
              inside = inside;
              reply = goes.1.0;
            } in
            let later = waits_later book cut c x.caller valid inside apart waits in
            let on =
            outcomes reading next bound is book valid one c take few rest (raised cut x.caller)
            (put_on book next list x) (omega (arith, short)) later (goes.0.1, goes.1.1) in
            outcome_of-more reading book next cut list c (length rest + 1) (length (x ∷ rest))
            (omega arith) (elim on [
              | inl by ↦ inr (inl (by-call reading next bound is book cut list c x (length rest)
                  take.takes it by.other ((goes.0.0, by.goes.0), (goes.1.0, by.goes.1)) by.short))
              | inr more ↦ elim more [
                | inl by ↦ inr (inl (by-put reading next bound is book valid one cut list c x
                    (length rest) take.takes waits it goes.0.0 by))
                | inr by ↦ elim (cases_deed (reading.deed (word_at book by.place))) [
                  | inl again ↦ absurd (by.no_put again.0 again.1)
                  | inr deed ↦ elim deed [
                    | inr neither ↦ inr (inr (by-neither reading next bound is book valid one cut
                        list c x (length rest) waits it goes.0.0 by neither))
                    | inl takes ↦
                        let pair : IsPair reading book next list x by.place = record {
                          value = put.0;
                          puts = put.1;
                          takes = takes;
                          first = goes.1.0;
                          second = by.goes.1.0;
                        } in
                        let left : Runs book next list by.other
                        = subst (λ (xs : List ℕ). Runs book next xs by.other)
                        (pair_leaves reading next bound is book list list x by.place pair)
                        by.goes.1.1 in
                        let in_t : by.place.caller < length (raised cut x.caller) = within_cut book
                        (raised cut x.caller) (call_at by.place) later.wide by.goes.0.0.0.is_call in
                        let shorter : length by.other ≤ few = omega (arith, by.short, short) in
                        let then = outcomes reading next bound is book valid one c take few by.other
                        (raised (raised cut x.caller) by.place.caller) list shorter
                        (waits_later book (raised cut x.caller) c by.place.caller valid in_t
                        by.apart later) (by.goes.0.1, left) in
                        outcome_of-more reading book next cut list c (length by.other + 2)
                        (length rest + 1) (omega (arith, by.short))
                        (pair-first reading next bound is book valid one cut list c x by.place
                        (length by.other) waits it pair by.apart goes.0.0 by.goes.0.0 then)
                  ]
                ]
              ]
            ])
      ]
    ]

-- ---- what needn't be tried

-- Where the forced caller's next call is a take, it has a place, with the recorded reply, that
-- shows what this call shows.
forced_place : (reading : Reading) (book : List Page) (cut : List ℕ) (forced : ℕ) (shown : Option ℕ)
    → length book ≤ length cut → IsForced book cut forced
    → (takes : TakesShowing reading book (next_call cut forced) shown)
    → (c : Place) × (c.caller ≡ forced) × Waits book cut c × IsForcedTake reading book c
    × (reading.shown c.reply ≡ shown)
forced_place reading book cut forced shown wide is takes =
    let c : Place =
    record { caller = forced; number = get_or cut forced 0; reply = takes.1.reply } in
    let word : word_at book c ≡ takes.0 = word_is book c takes.0 takes.2 in (
      c,
      refl,
      record { wide = wide; forced = is; at = refl },
      record {
        record_there = takes.1;
        known = takes.3;
        replies = refl;
        takes = ap reading.deed word ∙ takes.4;
      },
      takes.5,
    )

-- Where the forced call takes the value of the last item, and places that begin with a put of this
-- value and the forced call continue an order, as many or fewer do that begin with the forced call.
call_first : (reading : Reading) (next : List ℕ → ℕ → List ℕ × ℕ) (bound : ℕ)
    → GivesLastFirst reading next bound → (book : List Page) → IsValid book → HasOneOpen book
    → (cut list below : List ℕ) (c : Place) (v most : ℕ) → IsForcedTake reading book c
    → Waits book cut c → list ≡ below ++ v ∷ [] → (by : ByPut reading book next cut list c most)
    → by.value ≡ v → ByCall book next cut list c most
call_first reading next bound is book valid one cut list below c v most take waits last by same =
    let p : Place = by.put in
    let small : v < bound =
    subst (λ (x : ℕ). x < bound) same (is.small (word_at book p) by.value by.puts) in
    let pair : IsPair reading book next list p c = record {
      value = by.value;
      puts = by.puts;
      takes = take.takes;
      first = by.goes.1.0;
      second = by.goes.1.1.0;
    } in
    let shows : reading.shown (next list (word_at book c)).1 ≡ Some by.value
    = ap (λ (xs : List ℕ). reading.shown (next xs (word_at book c)).1) last
    ∙ (is.shows below v (word_at book c) small take.takes ∙ ap Some (sym same)) in
    let left : (next list (word_at book c)).0 ≡ below =
    ap (λ (xs : List ℕ). (next xs (word_at book c)).0) last
    ∙ is.take below v (word_at book c) take.takes in
    let again : (next (next list (word_at book c)).0 (word_at book p)).0 ≡ list
    = ap (λ (xs : List ℕ). (next xs (word_at book p)).0) left ∙ (is.put below
    (word_at book p) by.value by.puts ∙ (ap (λ (x : ℕ). below ++ x ∷ []) same ∙ sym last)) in
    let not : reading.deed (word_at book p) ≢ Takes =
    λ (e : reading.deed (word_at book p) ≡ Takes). put_no_take by.value (sym by.puts ∙ e) in
    let rest : Runs book next list by.other = subst (λ (xs : List ℕ). Runs book next xs by.other)
    (pair_leaves reading next bound is book list list p c pair) by.goes.1.1.1 in
    record {
      other = p ∷ by.other;
      goes = (
        comes_up book cut c valid one waits p c by.other by.apart by.goes.0,
        (
          is.one_reply _ _ by.value shows (pair_shows reading next bound is book list list p c pair)
              ∙ by.goes.1.1.0,
          (
            is.blind (next list (word_at book c)).0 list (word_at book p) not ∙ by.goes.1.0,
            subst (λ (xs : List ℕ). Runs book next xs by.other) (sym again) rest,
          ),
        ),
      );
      short = omega (arith, by.short);
    }

-- Places that begin with the call of a marked caller, no more than some given places, continue an
-- order from a cut and a list.
abbrev GoesOnMarked : List Page → (List ℕ → ℕ → List ℕ × ℕ) → List ℕ → List ℕ → MarkedCallers
    → List Place → Type 0
GoesOnMarked book next cut list marks rest =
    (place : Place) × (other : List Place) × IsMarked marks place.caller
    × Continues book next cut list (place ∷ other) × (length other < length rest)

-- The remaining marks suffice where each caller whose mark was taken away has a next call that puts
-- in a value that the forced take doesn't show, or that is the last item.
pub needed_suffice : (reading : Reading) (next : List ℕ → ℕ → List ℕ × ℕ) (bound : ℕ)
    → GivesLastFirst reading next bound → (book : List Page) → IsValid book → HasOneOpen book
    → (cut list : List ℕ) (forced : ℕ) (shown : Option ℕ) (all left : MarkedCallers)
    → length book ≤ length cut → IsForced book cut forced
    → TakesShowing reading book (next_call cut forced) shown → MarksAllNext book cut all
    → ((i : ℕ) → IsMarked all i → IsMarked left i ⊎ PutsNeedless reading book cut list shown i)
    → MarksSuffice book next cut list left
needed_suffice reading next bound is book valid one cut list forced shown all left wide force takes
    every needed rest goes =
    let found = forced_place reading book cut forced shown wide force takes in
    let c : Place = found.0 in
    let waits = found.2 in
    let take = found.3 in
    let first : ByCall book next cut list c (length rest)
    → GoesOnMarked book next cut list left rest =
    λ (by : ByCall book next cut list c (length rest)).
    let on = continues_from_goes book next cut list (c ∷ by.other) by.goes in
    let call : call_at c ≡ next_call cut c.caller =
    same_call (call_at c) (next_call cut c.caller) refl waits.at in
    let marked : IsMarked all c.caller =
    (every c.caller).1 (subst (λ (k : Call). MayComeNext book cut k) call by.goes.0.0.0) in
    let kept : IsMarked left c.caller = elim (needed c.caller marked) [
      | inl it ↦ it
      | inr needless ↦
          let word : word_at book c ≡ needless.1.0 =
          word_is book c needless.1.0 (ap (operation_of book) call ∙ needless.1.1) in
          absurd
          (put_no_take needless.0 (sym needless.1.2 ∙ (ap reading.deed (sym word) ∙ take.takes)))
    ] in
    (c, by.other, kept, on, omega (arith, by.short)) in
    elim (outcomes reading next bound is book valid one c take (length rest) rest cut list
    (omega arith) waits (goes_from_continues book next cut list rest goes)) [
      | inl by ↦ first by
      | inr more ↦ elim more [
        | inl by ↦
            let p : Place = by.put in
            let call : call_at p ≡ next_call cut p.caller =
            same_call (call_at p) (next_call cut p.caller) refl by.goes.0.0.0.next in
            let marked : IsMarked all p.caller =
            (every p.caller).1 (subst (λ (k : Call). MayComeNext book cut k) call by.goes.0.0.0) in
            elim (needed p.caller marked) [
              | inl kept ↦ (
                p,
                c ∷ by.other,
                kept,
                continues_from_goes book next cut list (p ∷ c ∷ by.other) by.goes,
                omega (arith, by.short),
              )
              | inr needless ↦
                  let word : word_at book p ≡ needless.1.0 =
                  word_is book p needless.1.0 (ap (operation_of book) call ∙ needless.1.1) in
                  let deeds : Puts by.value ≡ Puts needless.0 =
                  sym by.puts ∙ (ap reading.deed word ∙ needless.1.2) in
                  let same : by.value ≡ needless.0 = cc in
                  elim needless.2 [
                    | inl other ↦ absurd (other (sym found.4 ∙ (by.shows ∙ ap Some same)))
                    | inr last ↦ first (call_first reading next bound is book valid one cut list
                        last.0 c needless.0 (length rest) take waits last.1 by same)
                  ]
            ]
        | inr by ↦
            let p : Place = by.place in
            let call : call_at p ≡ next_call cut p.caller =
            same_call (call_at p) (next_call cut p.caller) refl by.goes.0.0.0.next in
            let marked : IsMarked all p.caller =
            (every p.caller).1 (subst (λ (k : Call). MayComeNext book cut k) call by.goes.0.0.0) in
            elim (needed p.caller marked) [
              | inl kept ↦ (
                p,
                by.other,
                kept,
                continues_from_goes book next cut list (p ∷ by.other) by.goes,
                omega (arith, by.short),
              )
              | inr needless ↦
                  let word : word_at book p ≡ needless.1.0 =
                  word_is book p needless.1.0 (ap (operation_of book) call ∙ needless.1.1) in
                  absurd (by.no_put needless.0 (ap reading.deed word ∙ needless.1.2))
            ]
      ]
    ]

-- Each of the remaining marks was a mark, and each caller whose mark was taken away has a next call
-- that puts in a value that the take doesn't show, or that is the last item.
pub record AreLeft (reading : Reading) (book : List Page) (cut list : List ℕ) (shown : Option ℕ)
    (all left : MarkedCallers) : Type 0 where
  pub fewer : IsMarkedWithin left all
  pub needless : (i : ℕ) → IsMarked all i → IsMarked left i
      ⊎ PutsNeedless reading book cut list shown i

-- One more mark may be taken away, where the next call of its caller puts in a value that the take
-- doesn't show, or that is the last item.
pub one_less_left : (reading : Reading) (book : List Page) (cut list : List ℕ) (shown : Option ℕ)
    (caller : ℕ) (all left new : MarkedCallers)
    → ((i : ℕ) → IsMarked new i ↔ ((i ≢ caller) × IsMarked left i))
    → PutsNeedless reading book cut list shown caller → AreLeft reading book cut list shown all left
    → AreLeft reading book cut list shown all new
one_less_left reading book cut list shown caller all left new without needless are = record {
  fewer = λ (i : ℕ) (marked : IsMarked new i). are.fewer i ((without i).0 marked).1;
  needless = λ (i : ℕ) (marked : IsMarked all i). elim (cases_eq i caller) [
    | inl same ↦
        inr (subst (λ (j : ℕ). PutsNeedless reading book cut list shown j) (sym same) needless)
    | inr apart ↦ elim (are.needless i marked) [
      | inl still ↦ inl ((without i).1 (apart, still))
      | inr out ↦ inr out
    ]
  ];
}
