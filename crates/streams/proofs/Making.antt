-- Each valid stream has a book: it is made event by event, with callers enough for all of them.
use Rattle.std.proofs.Common.{◌≡◌, ◌≢◌, ℕ, ◌+◌, ◌<◌, ◌≤◌, ◌⊎◌, ◌∙◌, List, [], ◌∷◌, ◌++◌, length, set, get_or, replicate, cond, eqb, Some, refl, sym, ap, subst, inl, inr, slice_get, arith, append-nil, append_assoc, length-append}
use Rattle.std.proofs.lemmas.Bool.{cases_eq, cases_lt, cases_order, cond-true, cond-false, eq-eqb, ne_eqb}
use Rattle.std.proofs.lemmas.List.{length-set, length-map, length-replicate}
use Rattle.std.proofs.lemmas.Option.{none-some, slice_get_within}
use Rattle.list_laws.proofs.Places.{slice_get-push_old, slice_get-push_last, get_or-replicate_default}
use Rattle.book_base.specs.declared.call.Call.{Call}
use Rattle.book_base.specs.declared.call.Record.{Record}
use Rattle.book_base.specs.Cut.{Holds, IsWithin}
use Rattle.book_base.specs.Book.{Page, page_of, calls_of, answers_of, IsCall, IsAnswered, operation_of, record_of, announced, with_call, with_answer, first_unanswered}
use Rattle.book_base.proofs.PageLemmas.{empty, caller_from_call}
use Rattle.book_base.proofs.GrowthLemmas.{announced_at, page_of-set_same, page_of-set_other, calls_of-with_call, records-with_call, calls_of-with_answer, announced-with_answer, record_of-with_answer_old, record_of-with_answer_cases, record_of-with_answer_new}
use Rattle.book_base.proofs.ViewLemmas.{same_call, answer_stands}
use Rattle.streams.specs.Stream.{StreamEvent, Called, Returned, Lost, process_of, IsCalledAt, IsStreamCall, IsQuiet, Returns, HasReturned, IsWaiting, StreamPrecedes, IsValidStream}
use Rattle.streams.specs.StreamBook.{HoldsTheCallsBefore, LosesBetween, IsBookOf}
use Rattle.streams.specs.Laws.{ValidStreamsHaveABook}
use Rattle.streams.proofs.Returning.{get-longer, get-shorter, one_event, returns_once, returns-longer, returned_call, call_within}
use Rattle.streams.proofs.Pushing.{no_return-called, no_return-lost, called_cases, returns_now, no_other_returns, not_before, waits_before, valid-prefix, last_or_none}
use Rattle.streams.proofs.Books.{named_call}

-- A book that is made so far: it has a page for each of a number of callers, and those from
-- `used` on have made no call.
record Made (pages : ℕ) (stream : List StreamEvent) : Type 0 where
  book : List Page
  name : ℕ → Call
  of : IsBookOf stream book name
  wide : length book ≡ pages
  used : ℕ
  few : used ≤ length stream
  fresh : (i : ℕ) → used ≤ i → calls_of book i ≡ 0

nothing_called : (call : ℕ) → IsStreamCall [] call → ⊥
nothing_called call (process, op, at) = none-some _ at

nothing_returns : (call end reply : ℕ) → Returns [] call end reply → ⊥
nothing_returns call end reply h = none-some _ h.called

made-none : (pages : ℕ) → Made pages []
made-none pages =
    let book : List Page = replicate pages empty in
    let page : (i : ℕ) → page_of book i ≡ empty = λ i. get_or-replicate_default pages i empty in
    record {
      book = book;
      name = λ k. record { caller = 0; number = 0 };
      of = record {
        calls = λ call process op at. absurd (none-some _ at);
        whole = λ named is. absurd (omega (
          arith,
          ap (λ (p : Page). length p.operations) (page named.caller),
          is,
        ));
        apart = λ a b first second same. absurd (nothing_called a first);
        turns = λ a b first second same less. absurd (nothing_called a first);
        process = λ a b first op second other one two same. absurd (none-some _ one);
        caller = λ a b process op other less one two keeps. absurd (none-some _ one);
        answers = λ call end reply returns. absurd (nothing_returns call end reply returns);
        returned = λ named is. absurd (omega (
          arith,
          ap (λ (p : Page). length p.records) (page named.caller),
          is,
        ));
      };
      wide = length-replicate pages empty;
      used = 0;
      few = omega arith;
      fresh = λ i low. ap (λ (p : Page). length p.operations) (page i);
    }

-- a loss in a stream is one in a longer stream
loses-longer : (stream later : List StreamEvent) (process a b : ℕ)
    → LosesBetween stream process a b → LosesBetween (stream ++ later) process a b
loses-longer stream later process a b (k, low, high, at) =
    (k, low, high, get-longer stream later k (Lost process) at)

precedes-longer : (stream later : List StreamEvent) (a b : ℕ) → StreamPrecedes stream a b
    → StreamPrecedes (stream ++ later) a b
precedes-longer stream later a b (end, reply, returns, before) =
    (end, reply, returns-longer stream later a end reply returns, before)

call-longer : (stream later : List StreamEvent) (call : ℕ) → IsStreamCall stream call
    → IsStreamCall (stream ++ later) call
call-longer stream later call (process, op, at) =
    (process, op, get-longer stream later call (Called process op) at)

-- a loss changes no book
made-lost : (pages : ℕ) (stream : List StreamEvent) (process : ℕ) → Made pages stream
    → Made pages (stream ++ Lost process ∷ [])
made-lost pages stream process made =
    let later : List StreamEvent = Lost process ∷ [] in
    let old : (call p o : ℕ) → IsCalledAt (stream ++ later) call p o → IsCalledAt stream call p o =
    λ call p o at. elim (called_cases stream (Lost process) call p o at) [
      | inl before ↦ before
      | inr new ↦ let e : Called p o ≡ Lost process = new.1 in absurd cc
    ] in
    let old_is : (call : ℕ) → IsStreamCall (stream ++ later) call → IsStreamCall stream call =
    λ call is. (is.0, is.1, old call is.0 is.1 is.2) in
    record {
      book = made.book;
      name = made.name;
      of = record {
        calls = λ call p o at. made.of.calls call p o (old call p o at);
        whole = λ named is. let found = made.of.whole named is in
            (found.0, call-longer stream later found.0 found.1, found.2);
        apart = λ a b first second same.
            made.of.apart a b (old_is a first) (old_is b second) same;
        turns = λ a b first second same less. precedes-longer stream later a b
            (made.of.turns a b (old_is a first) (old_is b second) same less);
        process = λ a b first op second other one two same. made.of.process a b first op second
            other (old a first op one) (old b second other two) same;
        caller = λ a b p op other less one two keeps. made.of.caller a b p op other less
            (old a p op one) (old b p other two)
            (λ loses. keeps (loses-longer stream later p a b loses));
        answers = λ call end reply returns.
            let answer = made.of.answers call end reply
            (no_return-lost stream process call end reply returns) in (
              answer.0,
              answer.1,
              answer.2,
              answer.3,
              answer.4,
              λ other is. answer.5 other (old_is other is),
            );
        returned = λ named is. let found = made.of.returned named is in (
          found.0,
          found.1,
          found.2,
          returns-longer stream later found.0 found.1 found.2 found.3,
          found.4,
        );
      };
      wide = made.wide;
      used = made.used;
      few = omega (arith, made.few, length-append stream later);
      fresh = made.fresh;
    }

-- one more answer changes no operation
operation_of-with_answer : (book : List Page) (i : ℕ) (r : Record) (call : Call) → i < length book
    → operation_of (with_answer book i r) call ≡ operation_of book call
operation_of-with_answer book i r call h =
    let p : Page = record (page_of book i) { records = (page_of book i).records ++ r ∷ [] } in
    elim (cases_eq call.caller i) [
      | inl same ↦ subst (λ (k : ℕ). slice_get (page_of (set book i p) k).operations call.number
          ≡ slice_get (page_of book k).operations call.number) (sym same)
          (ap (λ (q : Page). slice_get q.operations call.number) (page_of-set_same book i p h))
      | inr other ↦ ap (λ (q : Page). slice_get q.operations call.number)
          (page_of-set_other book i call.caller p other)
    ]

-- the call that a process waits for is its caller's first unanswered one
waiting_is_first : (stream : List StreamEvent) (book : List Page) (name : ℕ → Call)
    → IsBookOf stream book name → (call : ℕ) → IsStreamCall stream call
    → (HasReturned stream call → ⊥)
    → first_unanswered book (name call).caller ≡ name call
waiting_is_first stream book name of call is not =
    let i = (name call).caller in
    let inside : (name call).number < calls_of book i = named_call stream book name of call is in
    same_call (first_unanswered book i) (name call) refl
    (elim (cases_order (answers_of book i) (name call).number) [
      | inl same ↦ same
      | inr (inl less) ↦
          let first : Call = first_unanswered book i in
          let found = of.whole first (omega arith) in
          let turn = of.turns found.0 call found.1 is (ap (λ (c : Call). c.caller) found.2)
          (omega (arith, ap (λ (c : Call). c.number) found.2)) in
          let answer = of.answers found.0 turn.0 turn.1 turn.2 in
          let answered : IsAnswered book (name found.0) = slice_get_within
          (page_of book (name found.0).caller).records (name found.0).number answer.0 answer.1 in
          let below : answers_of book i < answers_of book i =
          subst (λ (c : Call). IsAnswered book c) found.2 answered in
          absurd (omega arith)
      | inr (inr more) ↦
          let found = of.returned (name call) more in
          let same : found.0 ≡ call =
          of.apart found.0 call (returned_call stream found.0 found.1 found.2 found.3) is found.4 in
          absurd (not (
            found.1,
            found.2,
            subst (λ (c : ℕ). Returns stream c found.1 found.2) same found.3,
          ))
    ])

-- a return is recorded with the view of all calls so far
made-returned : (pages : ℕ) (stream : List StreamEvent) (process call reply : ℕ)
    → IsWaiting stream process call → Made pages stream
    → Made pages (stream ++ Returned process reply ∷ [])
made-returned pages stream process call reply waits made =
    let later : List StreamEvent = Returned process reply ∷ [] in
    let old : (c p o : ℕ) → IsCalledAt (stream ++ later) c p o → IsCalledAt stream c p o =
    λ c p o at. elim (called_cases stream (Returned process reply) c p o at) [
      | inl before ↦ before
      | inr new ↦ let e : Called p o ≡ Returned process reply = new.1 in absurd cc
    ] in
    let old_is : (c : ℕ) → IsStreamCall (stream ++ later) c → IsStreamCall stream c =
    λ c is. (is.0, is.1, old c is.0 is.1 is.2) in
    let book = made.book in
    let name = made.name in
    let of = made.of in
    let is_call : IsStreamCall stream call = (process, waits.0, waits.1) in
    let i = (name call).caller in
    let named : (name call).number < calls_of book i =
    named_call stream book name of call is_call in
    let inside : i < length book = caller_from_call book i (name call).number named in
    let r : Record = record { reply = reply; view = announced book } in
    let first : first_unanswered book i ≡ name call =
    waiting_is_first stream book name of call is_call
    (not_before stream process call reply waits) in
    let new : List Page = with_answer book i r in
    let known : record_of new (name call) ≡ Some r =
    subst (λ (c : Call). record_of new c ≡ Some r) first
    (record_of-with_answer_new book i r inside) in
    let long : length new ≡ length book = length-set book i
    (record (page_of book i) { records = (page_of book i).records ++ r ∷ [] }) in
    let same_announced : announced new ≡ announced book = announced-with_answer book i r in
    record {
      book = new;
      name = name;
      of = record {
        calls = λ c p o at. operation_of-with_answer book i r (name c) inside
            ∙ of.calls c p o (old c p o at);
        whole = λ it is.
            let found = of.whole it (omega (
              arith,
              is,
              calls_of-with_answer book i r it.caller inside,
            )) in
            (found.0, call-longer stream later found.0 found.1, found.2);
        apart = λ a b one two same. of.apart a b (old_is a one) (old_is b two) same;
        turns = λ a b one two same less. precedes-longer stream later a b
            (of.turns a b (old_is a one) (old_is b two) same less);
        process = λ a b p op q other one two same. of.process a b p op q other (old a p op one)
            (old b q other two) same;
        caller = λ a b p op other less one two keeps. of.caller a b p op other less
            (old a p op one) (old b p other two)
            (λ loses. keeps (loses-longer stream later p a b loses));
        answers = λ c end last returns.
            elim (no_other_returns stream process call reply waits c end last returns) [
              | inl before ↦
                  let answer = of.answers c end last before in (
                    answer.0,
                    record_of-with_answer_old book i r (name c) answer.0 inside answer.1,
                    answer.2,
                    answer.3 ∙ sym long,
                    subst (λ (cut : List ℕ). IsWithin answer.0.view cut) (sym same_announced)
                        answer.4,
                    λ other is. answer.5 other (old_is other is),
                  )
              | inr (same, equal, here) ↦ (
                r,
                subst (λ (k : ℕ). record_of new (name k) ≡ Some r) (sym same) known,
                sym equal,
                length-map book (λ (p : Page). length p.operations) ∙ sym long,
                subst (λ (cut : List ℕ). IsWithin (announced book) cut) (sym same_announced)
                    (λ j. omega arith),
                λ other is. (
                  λ held. let low : other < length stream =
                      call_within stream other (old_is other is) in omega arith,
                  λ before. let below : (name other).number < calls_of book (name other).caller =
                      named_call stream book name of other (old_is other is) in
                      omega (arith, announced_at book (name other).caller),
                ),
              )
            ];
        returned = λ it is.
            let stands = answer_stands new it is in
            elim (record_of-with_answer_cases book i r it stands.0 inside stands.1) [
              | inl before ↦
                  let found = of.returned it
                  (slice_get_within (page_of book it.caller).records it.number stands.0 before) in (
                    found.0,
                    found.1,
                    found.2,
                    returns-longer stream later found.0 found.1 found.2 found.3,
                    found.4,
                  )
              | inr (caller, number, equal) ↦ (
                call,
                length stream,
                reply,
                returns_now stream process call reply waits,
                sym first ∙ same_call (first_unanswered book i) it (sym caller) (sym number),
              )
            ];
      };
      wide = long ∙ made.wide;
      used = made.used;
      few = omega (arith, made.few, length-append stream later);
      fresh = λ j low. calls_of-with_answer book i r j inside ∙ made.fresh j low;
    }

-- A caller takes the next call of a process: all its calls so far have returned and are calls of
-- this process, and each call of the process since its last loss is one of them.
record Takes (stream : List StreamEvent) (book : List Page) (name : ℕ → Call) (process i : ℕ)
    : Type 0 where
  done : (a : ℕ) → IsStreamCall stream a → (name a).caller ≡ i → HasReturned stream a
  own : (a p op : ℕ) → IsCalledAt stream a p op → (name a).caller ≡ i → p ≡ process
  kept : (a op : ℕ) → IsCalledAt stream a process op
      → (LosesBetween stream process a (length stream) → ⊥) → (name a).caller ≡ i

-- a caller of the book without a call is no caller of a call of the stream
no_call : (stream : List StreamEvent) (book : List Page) (name : ℕ → Call)
    → IsBookOf stream book name → (i : ℕ) → calls_of book i ≡ 0 → (a : ℕ) → IsStreamCall stream a
    → (name a).caller ≡ i → ⊥
no_call stream book name of i none a is same =
    let number : (name a).number < calls_of book (name a).caller =
    named_call stream book name of a is in
    let here : (name a).number < calls_of book i =
    subst (λ (k : ℕ). (name a).number < calls_of book k) same number in
    omega arith

-- a caller without a call takes the next call of a process that has none since its last loss
fresh-takes : (stream : List StreamEvent) (book : List Page) (name : ℕ → Call)
    → IsBookOf stream book name → (process i : ℕ) → calls_of book i ≡ 0
    → ((a op : ℕ) → IsCalledAt stream a process op
    → LosesBetween stream process a (length stream))
    → Takes stream book name process i
fresh-takes stream book name of process i none loses = record {
  done = λ a is same. absurd (no_call stream book name of i none a is same);
  own = λ a p op at same. absurd (no_call stream book name of i none a (p, op, at) same);
  kept = λ a op at keeps. absurd (keeps (loses a op at));
}

-- the caller of a process's last call, which has returned, takes the next one
last-takes : (stream : List StreamEvent) (book : List Page) (name : ℕ → Call)
    → IsBookOf stream book name → (process call op end reply : ℕ)
    → IsCalledAt stream call process op → Returns stream call end reply
    → IsQuiet stream process end (length stream)
    → Takes stream book name process (name call).caller
last-takes stream book name of process call op end reply called returns quiet = record {
  done = λ a (p, o, at) same.
      elim (cases_order (name a).number (name call).number) [
        | inl equal ↦
            let one : a ≡ call = of.apart a call (p, o, at) (process, op, called)
            (same_call (name a) (name call) same equal) in
            (end, reply, subst (λ (c : ℕ). Returns stream c end reply) (sym one) returns)
        | inr (inl less) ↦
            let turn = of.turns a call (p, o, at) (process, op, called) same less in
            (turn.0, turn.1, turn.2)
        | inr (inr more) ↦
            let turn = of.turns call a (process, op, called) (p, o, at) (sym same) more in
            let here = returns_once stream call turn.0 turn.1 end reply turn.2 returns in
            let own : p ≡ process = of.process a call p o process op at called same in
            absurd (quiet a (Called p o) (omega (arith, turn.3, here.0))
            (slice_get_within stream a _ at) at own)
      ];
  own = λ a p o at same. of.process a call p o process op at called same;
  kept = λ a o at keeps. elim (cases_order a call) [
    | inl equal ↦ ap (λ (c : ℕ). (name c).caller) equal
    | inr (inl less) ↦
        let low : call < length stream = slice_get_within stream call _ called in
        of.caller a call process o op less at called
        (λ (k, past, before, lost). keeps (k, past, omega arith, lost))
    | inr (inr more) ↦ absurd (elim (cases_order a end) [
      | inl same ↦
          let event : Called process o ≡ Returned returns.process reply = one_event stream end _ _
          (subst (λ (k : ℕ). IsCalledAt stream k process o) same at) returns.returned in cc
      | inr (inl before) ↦
          let own : returns.process ≡ process =
          ap process_of (one_event stream call _ _ returns.called called) in
          returns.quiet a (Called process o) more before at (sym own)
      | inr (inr after) ↦
          quiet a (Called process o) after (slice_get_within stream a _ at) at refl
    ])
  ];
}

-- the last event of a process decides which caller takes its next call
after-last : (pages : ℕ) (stream : List StreamEvent) (process op : ℕ)
    → IsValidStream (stream ++ Called process op ∷ []) → (made : Made pages stream)
    → (m : ℕ) (event : StreamEvent) → m < length stream → slice_get stream m ≡ Some event
    → process_of event ≡ process → IsQuiet stream process m (length stream)
    → (i : ℕ) × (used : ℕ) × (made.used ≤ used) × (used ≤ made.used + 1) × (i < used)
    × Takes stream made.book made.name process i
after-last pages stream process op valid made m (Called p o) low at is quiet =
    let later : List StreamEvent = Called process op ∷ [] in
    let first : IsCalledAt (stream ++ later) m process o =
    get-longer stream later m _ (at ∙ ap (λ (n : ℕ). Some (Called n o)) is) in
    let found = valid.calls m (length stream) process o op low first
    (slice_get-push_last stream (Called process op)) in
    absurd (quiet found.0 found.1 found.2 found.3
    (get-shorter stream later found.0 found.1 found.3 found.4) found.5)
after-last pages stream process op valid made m (Returned p r) low at is quiet =
    let short = valid-prefix stream (Called process op ∷ []) valid in
    let found = short.ends m (Returned p r) at tt in
    let returns : Returns stream found.0 m r = record {
      process = p;
      op = found.1;
      called = found.3;
      returned = at;
      after = found.2;
      quiet = found.4;
    } in
    let called : IsCalledAt stream found.0 process found.1 =
    subst (λ (n : ℕ). IsCalledAt stream found.0 n found.1) is found.3 in
    let i = (made.name found.0).caller in
    let inside : i < made.used = elim (cases_lt i made.used) [
      | inl less ↦ less
      | inr past ↦ absurd (no_call stream made.book made.name made.of i (made.fresh i past) found.0
          (process, found.1, called) refl)
    ] in (
      i,
      made.used,
      omega arith,
      omega arith,
      inside,
      last-takes stream made.book made.name made.of process found.0 found.1 m r called
          returns quiet,
    )
after-last pages stream process op valid made m (Lost p) low at is quiet = (
  made.used,
  made.used + 1,
  omega arith,
  omega arith,
  omega arith,
  fresh-takes stream made.book made.name made.of process made.used
      (made.fresh made.used (omega arith)) (λ a o called. elim (cases_order a m) [
        | inl same ↦
            let event : Called process o ≡ Lost p = one_event stream m _ _
            (subst (λ (k : ℕ). IsCalledAt stream k process o) same called) at in absurd cc
        | inr (inl less) ↦ (m, less, low, at ∙ ap (λ (n : ℕ). Some (Lost n)) is)
        | inr (inr more) ↦ absurd (quiet a (Called process o) more
            (slice_get_within stream a _ called) called refl)
      ]),
)

-- some caller takes the next call of a process: one that is used already, or the first one that
-- isn't
some-takes : (pages : ℕ) (stream : List StreamEvent) (process op : ℕ)
    → IsValidStream (stream ++ Called process op ∷ []) → (made : Made pages stream)
    → (i : ℕ) × (used : ℕ) × (made.used ≤ used) × (used ≤ made.used + 1) × (i < used)
    × Takes stream made.book made.name process i
some-takes pages stream process op valid made =
    elim (last_or_none stream process (length stream)) [
      | inl none ↦ (
        made.used,
        made.used + 1,
        omega arith,
        omega arith,
        omega arith,
        fresh-takes stream made.book made.name made.of process made.used
            (made.fresh made.used (omega arith))
            (λ a o at. absurd (none a (Called process o) (slice_get_within stream a _ at) at refl)),
      )
      | inr (m, event, low, at, is, quiet) ↦
          after-last pages stream process op valid made m event low at is quiet
    ]

-- the names after one more call, which is the next one of a caller
abbrev name_with : (ℕ → Call) → ℕ → Call → ℕ → Call
name_with name call new k = cond (eqb k call) new (name k)

name_with-new : (name : ℕ → Call) (call : ℕ) (new : Call) → name_with name call new call ≡ new
name_with-new name call new = cond-true (eqb call call) new (name call) (eq-eqb call call refl)

name_with-old : (name : ℕ → Call) (call : ℕ) (new : Call) (k : ℕ) → k < call
    → name_with name call new k ≡ name k
name_with-old name call new k low = cond-false (eqb k call) new (name k)
    (ne_eqb k call (λ (e : k ≡ call). omega arith))

-- the operations of a book with one more call
module _ (book : List Page) (i op : ℕ) (inside : i < length book) where
  abbrev new_page : Page
  new_page = record (page_of book i) { operations = (page_of book i).operations ++ op ∷ [] }

  abbrev new_call : Call
  new_call = record { caller = i; number = calls_of book i }

  op-old : (call : Call) (w : ℕ) → operation_of book call ≡ Some w
      → operation_of (with_call book i op) call ≡ Some w
  op-old call w at = elim (cases_eq call.caller i) [
    | inl same ↦
        ap (λ (k : ℕ). slice_get (page_of (set book i new_page) k).operations call.number) same
        ∙ (ap (λ (q : Page). slice_get q.operations call.number)
        (page_of-set_same book i new_page inside)
        ∙ slice_get-push_old (page_of book i).operations op call.number w
        (ap (λ (k : ℕ). slice_get (page_of book k).operations call.number) (sym same) ∙ at))
    | inr other ↦ ap (λ (q : Page). slice_get q.operations call.number)
        (page_of-set_other book i call.caller new_page other) ∙ at
  ]

  op-new : operation_of (with_call book i op) new_call ≡ Some op
  op-new = ap (λ (q : Page). slice_get q.operations (calls_of book i))
      (page_of-set_same book i new_page inside)
      ∙ slice_get-push_last (page_of book i).operations op

  calls-other : (j : ℕ) → j ≢ i → calls_of (with_call book i op) j ≡ calls_of book j
  calls-other j other =
      ap (λ (q : Page). length q.operations) (page_of-set_other book i j new_page other)

  calls-same : calls_of (with_call book i op) i ≡ calls_of book i + 1
  calls-same = ap (λ (q : Page). length q.operations) (page_of-set_same book i new_page inside)
      ∙ length-append (page_of book i).operations (op ∷ [])

  call-cases : (call : Call) → IsCall (with_call book i op) call
      → IsCall book call ⊎ (new_call ≡ call)
  call-cases call is = elim (cases_eq call.caller i) [
    | inl same ↦
        let here : call.number < calls_of (with_call book i op) i =
        subst (λ (k : ℕ). call.number < calls_of (with_call book i op) k) same is in
        elim (cases_lt call.number (calls_of book i)) [
          | inl low ↦ inl (subst (λ (k : ℕ). call.number < calls_of book k) (sym same) low)
          | inr past ↦ inr (same_call new_call call (sym same) (omega (arith, calls-same)))
        ]
    | inr other ↦ inl (omega (arith, calls-other call.caller other, is))
  ]

  record-same : (call : Call) → record_of (with_call book i op) call ≡ record_of book call
  record-same call =
      ap (λ (rs : List Record). slice_get rs call.number)
      (records-with_call book i op call.caller inside)

  announced-more : (view : List ℕ) → IsWithin view (announced book)
      → IsWithin view (announced (with_call book i op))
  announced-more view within j =
      let low : get_or view j 0 ≤ get_or (announced book) j 0 = within j in
      omega (
        arith,
        announced_at book j,
        announced_at (with_call book i op) j,
        calls_of-with_call book i op j inside,
      )

-- a call of a process is the next one of a caller that takes it
module _ (pages : ℕ) (stream : List StreamEvent) (process op : ℕ) (made : Made pages stream)
    (i : ℕ) (inside : i < length made.book)
    (takes : Takes stream made.book made.name process i) where
  abbrev later : List StreamEvent
  later = Called process op ∷ []

  abbrev book : List Page
  book = made.book

  abbrev new : Call
  new = record { caller = i; number = calls_of made.book i }

  abbrev name : ℕ → Call
  name = name_with made.name (length stream) new

  name-old : (k : ℕ) → k < length stream → name k ≡ made.name k
  name-old k low = name_with-old made.name (length stream) new k low

  name-new : name (length stream) ≡ new
  name-new = name_with-new made.name (length stream) new

  -- a call of the longer stream is one of the stream, or the new one
  old_or_new : (k p o : ℕ) → IsCalledAt (stream ++ later) k p o
      → (IsCalledAt stream k p o × (k < length stream) × (name k ≡ made.name k))
      ⊎ ((k ≡ length stream) × (p ≡ process) × (o ≡ op) × (name k ≡ new))
  old_or_new k p o at = elim (called_cases stream (Called process op) k p o at) [
    | inl old ↦
        let low : k < length stream = slice_get_within stream k _ old in
        inl (old, low, name-old k low)
    | inr (here, event) ↦
        let first : p ≡ process = ap process_of event in
        let second : o ≡ op = cc in
        inr (here, first, second, ap name here ∙ name-new)
  ]

  -- the name of an old call isn't the new one, and has no greater number at the new one's caller
  below_new : (k p o : ℕ) → IsCalledAt stream k p o → (made.name k).caller ≡ i
      → (made.name k).number < calls_of book i
  below_new k p o at same =
      subst (λ (j : ℕ). (made.name k).number < calls_of book j) same
      (named_call stream book made.name made.of k (p, o, at))

  add-apart : (a b : ℕ) → IsStreamCall (stream ++ later) a → IsStreamCall (stream ++ later) b
      → name a ≡ name b → a ≡ b
  add-apart a b (p, o, one) (q, w, two) same =
      elim (old_or_new a p o one) [
        | inl (first, low, is) ↦ elim (old_or_new b q w two) [
          | inl (second, high, also) ↦ made.of.apart a b (p, o, first) (q, w, second)
              (sym is ∙ (same ∙ also))
          | inr (here, x, y, also) ↦
              let equal : made.name a ≡ new = sym is ∙ (same ∙ also) in
              let less = below_new a p o first (ap (λ (c : Call). c.caller) equal) in
              absurd (omega (arith, less, ap (λ (c : Call). c.number) equal))
        ]
        | inr (here, x, y, is) ↦ elim (old_or_new b q w two) [
          | inl (second, high, also) ↦
              let equal : made.name b ≡ new = sym also ∙ (sym same ∙ is) in
              let less = below_new b q w second (ap (λ (c : Call). c.caller) equal) in
              absurd (omega (arith, less, ap (λ (c : Call). c.number) equal))
          | inr (there, z, v, also) ↦ here ∙ sym there
        ]
      ]

  add-turns : (a b : ℕ) → IsStreamCall (stream ++ later) a → IsStreamCall (stream ++ later) b
      → (name a).caller ≡ (name b).caller → (name a).number < (name b).number
      → StreamPrecedes (stream ++ later) a b
  add-turns a b (p, o, one) (q, w, two) same less =
      elim (old_or_new a p o one) [
        | inl (first, low, is) ↦ elim (old_or_new b q w two) [
          | inl (second, high, also) ↦
              let caller : (made.name a).caller ≡ (made.name b).caller =
              sym (ap (λ (c : Call). c.caller) is) ∙ (same ∙ ap (λ (c : Call). c.caller) also) in
              let number : (made.name a).number < (made.name b).number = omega (
                arith,
                less,
                ap (λ (c : Call). c.number) is,
                ap (λ (c : Call). c.number) also,
              ) in
              precedes-longer stream later a b
              (made.of.turns a b (p, o, first) (q, w, second) caller number)
          | inr (here, x, y, also) ↦
              let caller : (made.name a).caller ≡ i =
              sym (ap (λ (c : Call). c.caller) is) ∙ (same ∙ ap (λ (c : Call). c.caller) also) in
              let done = takes.done a (p, o, first) caller in
              let end : done.0 < length stream =
              slice_get_within stream done.0 _ done.2.returned in
              (done.0, done.1, returns-longer stream later a done.0 done.1 done.2, omega arith)
        ]
        | inr (here, x, y, is) ↦ elim (old_or_new b q w two) [
          | inl (second, high, also) ↦
              let caller : (made.name b).caller ≡ i =
              sym (ap (λ (c : Call). c.caller) also)
              ∙ (sym same ∙ ap (λ (c : Call). c.caller) is) in
              let below = below_new b q w second caller in
              absurd (omega (
                arith,
                less,
                below,
                ap (λ (c : Call). c.number) is,
                ap (λ (c : Call). c.number) also,
              ))
          | inr (there, z, v, also) ↦ absurd (omega (
            arith,
            less,
            ap (λ (c : Call). c.number) is,
            ap (λ (c : Call). c.number) also,
          ))
        ]
      ]

  add-process : (a b p o q w : ℕ) → IsCalledAt (stream ++ later) a p o
      → IsCalledAt (stream ++ later) b q w → (name a).caller ≡ (name b).caller → p ≡ q
  add-process a b p o q w one two same =
      elim (old_or_new a p o one) [
        | inl (first, low, is) ↦ elim (old_or_new b q w two) [
          | inl (second, high, also) ↦ made.of.process a b p o q w first second
              (sym (ap (λ (c : Call). c.caller) is) ∙ (same ∙ ap (λ (c : Call). c.caller) also))
          | inr (here, x, y, also) ↦ takes.own a p o first
              (sym (ap (λ (c : Call). c.caller) is) ∙ (same ∙ ap (λ (c : Call). c.caller) also))
              ∙ sym x
        ]
        | inr (here, x, y, is) ↦ elim (old_or_new b q w two) [
          | inl (second, high, also) ↦ x ∙ sym (takes.own b q w second
              (sym (ap (λ (c : Call). c.caller) also)
              ∙ (sym same ∙ ap (λ (c : Call). c.caller) is)))
          | inr (there, z, v, also) ↦ x ∙ sym z
        ]
      ]

  add-caller : (a b p o w : ℕ) → a < b → IsCalledAt (stream ++ later) a p o
      → IsCalledAt (stream ++ later) b p w → (LosesBetween (stream ++ later) p a b → ⊥)
      → (name a).caller ≡ (name b).caller
  add-caller a b p o w less one two keeps =
      elim (old_or_new a p o one) [
        | inl (first, low, is) ↦ elim (old_or_new b p w two) [
          | inl (second, high, also) ↦
              ap (λ (c : Call). c.caller) is
              ∙ (made.of.caller a b p o w less first second
              (λ loses. keeps (loses-longer stream later p a b loses))
              ∙ sym (ap (λ (c : Call). c.caller) also))
          | inr (here, x, y, also) ↦
              ap (λ (c : Call). c.caller) is
              ∙ (takes.kept a o (subst (λ (n : ℕ). IsCalledAt stream a n o) x first)
              (λ (k, past, before, lost). keeps (
                k,
                past,
                omega (arith, here),
                get-longer stream
                    later k (Lost p) (lost ∙ ap (λ (n : ℕ). Some (Lost n)) (sym x)),
              ))
              ∙ sym (ap (λ (c : Call). c.caller) also))
        ]
        | inr (here, x, y, is) ↦ elim (old_or_new b p w two) [
          | inl (second, high, also) ↦ absurd (omega arith)
          | inr (there, z, v, also) ↦ absurd (omega arith)
        ]
      ]

  -- a view of the calls before a return holds the new call as little as that return comes after it
  add-holds : (view : List ℕ) (end : ℕ) → end < length stream → IsWithin view (announced book)
      → HoldsTheCallsBefore stream made.name view end
      → HoldsTheCallsBefore (stream ++ later) name view end
  add-holds view end early within holds other (p, o, at) =
      elim (old_or_new other p o at) [
        | inl (old, low, is) ↦ (
          λ held. (holds other (p, o, old)).0 (subst (λ (c : Call). Holds view c) is held),
          λ before.
              subst (λ (c : Call). Holds view c) (sym is) ((holds other (p, o, old)).1 before),
        )
        | inr (here, x, y, is) ↦ (
          λ held.
              let at_new : calls_of book i < get_or view i 0 =
              subst (λ (c : Call). Holds view c) is held in
              let low : get_or view i 0 ≤ get_or (announced book) i 0 = within i in
              absurd (omega (arith, announced_at book i)),
          λ before. absurd (omega arith),
        )
      ]

  made-with : (used : ℕ) → made.used ≤ used → used ≤ made.used + 1 → i < used
      → Made pages (stream ++ later)
  made-with used more few low = record {
    book = with_call book i op;
    name = name;
    of = record {
      calls = λ call p o at. elim (old_or_new call p o at) [
        | inl (old, below, is) ↦
            ap (λ (c : Call). operation_of (with_call book i op) c) is
            ∙ op-old book i op inside (made.name call) o (made.of.calls call p o old)
        | inr (here, x, y, is) ↦
            ap (λ (c : Call). operation_of (with_call book i op) c) is
            ∙ (op-new book i op inside ∙ ap (λ (w : ℕ). Some w) (sym y))
      ];
      whole = λ named is. elim (call-cases book i op inside named is) [
        | inl old ↦
            let found = made.of.whole named old in (
              found.0,
              call-longer stream later found.0 found.1,
              name-old found.0 (call_within stream found.0 found.1) ∙ found.2,
            )
        | inr same ↦ (
          length stream,
          (process, op, slice_get-push_last stream (Called process op)),
          name-new ∙ same,
        )
      ];
      apart = add-apart;
      turns = add-turns;
      process = add-process;
      caller = add-caller;
      answers = λ call end reply returns.
          let old = no_return-called stream process op call end reply returns in
          let answer = made.of.answers call end reply old in
          let below : call < length stream =
          call_within stream call (returned_call stream call end reply old) in (
            answer.0,
            ap (λ (c : Call). record_of (with_call book i op) c) (name-old call below)
                ∙ (record-same book i op inside (made.name call) ∙ answer.1),
            answer.2,
            answer.3 ∙ sym (length-set book i (record (page_of book i)
                { operations = (page_of book i).operations ++ op ∷ [] })),
            announced-more book i op inside answer.0.view answer.4,
            add-holds answer.0.view end (slice_get_within stream end _ old.returned) answer.4
                answer.5,
          );
      returned = λ named is.
          let was : IsAnswered book named =
          subst (λ (rs : List Record). named.number < length rs)
          (records-with_call book i op named.caller inside) is in
          let found = made.of.returned named was in (
            found.0,
            found.1,
            found.2,
            returns-longer stream later found.0 found.1 found.2 found.3,
            name-old found.0 (call_within stream found.0
                (returned_call stream found.0 found.1 found.2 found.3)) ∙ found.4,
          );
    };
    wide = length-set book i (record (page_of book i)
        { operations = (page_of book i).operations ++ op ∷ [] }) ∙ made.wide;
    used = used;
    few = omega (arith, made.few, length-append stream later);
    fresh = λ j past. calls-other book i op inside j (λ (e : j ≡ i). omega arith)
        ∙ made.fresh j (omega arith);
  }

made-called : (pages : ℕ) (stream : List StreamEvent) (process op : ℕ)
    → IsValidStream (stream ++ Called process op ∷ []) → length stream < pages → Made pages stream
    → Made pages (stream ++ Called process op ∷ [])
made-called pages stream process op valid room made =
    let found = some-takes pages stream process op valid made in
    let inside : found.0 < length made.book =
    omega (arith, made.wide, made.few, found.3, found.4) in
    made-with pages stream process op made found.0 inside found.5 found.1 found.2 found.3 found.4

made-event : (pages : ℕ) (stream : List StreamEvent) (event : StreamEvent)
    → IsValidStream (stream ++ event ∷ []) → length stream < pages → Made pages stream
    → Made pages (stream ++ event ∷ [])
made-event pages stream (Called process op) valid room made =
    made-called pages stream process op valid room made
made-event pages stream (Returned process reply) valid room made =
    let waits = waits_before stream process reply valid in
    made-returned pages stream process waits.0 reply waits.1 made
made-event pages stream (Lost process) valid room made = made-lost pages stream process made

make : (pages : ℕ) (later stream : List StreamEvent) → IsValidStream (stream ++ later)
    → length stream + length later ≤ pages → Made pages stream → Made pages (stream ++ later)
make pages [] stream valid room made =
    subst (λ (s : List StreamEvent). Made pages s) (sym (append-nil stream)) made
make pages (event ∷ later) stream valid room made =
    let same : (stream ++ event ∷ []) ++ later ≡ stream ++ event ∷ later =
    append_assoc stream (event ∷ []) later in
    let longer : IsValidStream ((stream ++ event ∷ []) ++ later) =
    subst (λ (s : List StreamEvent). IsValidStream s) (sym same) valid in
    let next = made-event pages stream event (valid-prefix (stream ++ event ∷ []) later longer)
    (omega arith) made in
    subst (λ (s : List StreamEvent). Made pages s) same (make pages later (stream ++ event ∷ [])
    longer (omega (arith, length-append stream (event ∷ []))) next)

pub valid_streams_have_a_book : ValidStreamsHaveABook
valid_streams_have_a_book stream valid =
    let made = make (length stream) stream [] valid (omega arith) (made-none (length stream)) in
    (made.book, made.name, made.of)
