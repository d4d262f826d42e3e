-- A swept book stays swept with one more call, and with one more answer.
use Rattle.std.proofs.Common.{◌≡◌, ◌≢◌, ℕ, zero, suc, ◌+◌, ◌<◌, ◌≤◌, ◌∙◌, List, [], ◌∷◌, ◌++◌, length, set, get_or, replicate, Option, Some, None, refl, sym, ap, subst, inl, inr, slice_get, arith, length-append}
use Rattle.std.proofs.lemmas.Bool.{cases_eq, cases_lt}
use Rattle.std.specs.Prelude.{IfSome}
use Rattle.std.proofs.lemmas.List.{length-set, length-replicate}
use Rattle.std.proofs.lemmas.Option.{none-some, same_Some, slice_get_within, slice_get_cases, slice_get_read}
use Rattle.list_laws.proofs.Places.{slice_get-push_old, slice_get-push_last, slice_get-push_cases, get_or-replicate_default}
use Rattle.book_base.specs.declared.call.Call.{Call}
use Rattle.book_base.specs.declared.call.Record.{Record}
use Rattle.book_base.specs.Cut.{Holds, IsWithin}
use Rattle.book_base.specs.Book.{Page, page_of, calls_of, answers_of, IsCall, operation_of, record_of, announced, IsValid, with_call, with_answer, first_unanswered}
use Rattle.book_base.specs.Refusal.{MayAnswer}
use Rattle.book_base.proofs.GrowthLemmas.{announced_at, calls_of-with_answer, record_of-with_answer_cases}
use Rattle.book_base.proofs.ViewLemmas.{same_call}
use Rattle.history_books.specs.declared.timed_call.TimedCall.{TimedCall}
use Rattle.history_books.specs.declared.timed_call.Answer.{Answer}
use Rattle.history_books.specs.Calls.{IsInOrder, IsDue}
use Rattle.history_books.specs.Sweep.{SeesWhatWasInvoked, IsSwept, NoneIsDue, IsFree}
use Rattle.history_books.proofs.Growing.{slice_get-set_here, slice_get-set_other, calls_of-with_call_same, calls_of-with_call_other, answers_of-with_call, record_of-with_call, operation_of-with_call_old, operation_of-with_call_new, is_call-with_call, operation_of-with_answer, answers_of-with_answer_same, answers_of-with_answer_other}

-- an item at a place of a list that is at most as long as another has one there
pub there_is : {X Y : Type 0} (xs : List X) (ys : List Y) (k : ℕ) (x : X) → length xs ≤ length ys
    → slice_get xs k ≡ Some x → (y : Y) × (slice_get ys k ≡ Some y)
there_is xs ys k x few at =
    let low : k < length xs = slice_get_within xs k x at in
    elim (slice_get_cases ys k).1 [
      | inl here ↦ (here.0, here.2)
      | inr past ↦ absurd (omega (arith, past.0))
    ]

-- items at one place are equal
pub one_item : {X : Type 0} (xs : List X) (j k : ℕ) (x y : X) → j ≡ k → slice_get xs j ≡ Some x
    → slice_get xs k ≡ Some y → x ≡ y
one_item xs j k x y same first second =
    same_Some x y (sym first ∙ (ap (slice_get xs) same ∙ second))

-- a named call is a call of the book
pub named_is_call : (calls : List TimedCall) (book : List Page) (names : List Call)
    (pending : List (Option ℕ)) → IsSwept calls book names pending → (k : ℕ) (name : Call)
    → slice_get names k ≡ Some name → IsCall book name
named_is_call calls book names pending h k name at =
    let there = there_is names calls k name h.few at in
    slice_get_within (page_of book name.caller).operations name.number there.0.op
    (h.operations k name there.0 at there.1)

-- a view that holds what was invoked holds nothing of a call that is invoked later
later_unseen : (calls : List TimedCall) (names : List Call) (book : List Page) (view : List ℕ)
    (i moment : ℕ) (call : TimedCall) → IsWithin view (announced book)
    → SeesWhatWasInvoked calls names view moment
    → slice_get calls (length names) ≡ Some call → moment < call.invoked
    → SeesWhatWasInvoked calls (names ++ (record { caller = i; number = calls_of book i }) ∷ [])
    view moment
later_unseen calls names book view i moment call within sees next late k name its at its_at =
    let new : Call = record { caller = i; number = calls_of book i } in
    elim (slice_get-push_cases names new k name at) [
      | inl old ↦ sees k name its old its_at
      | inr (last, is) ↦
          let same : its ≡ call = one_item calls k (length names) its call last its_at next in
          let invoked : its.invoked ≡ call.invoked = ap (λ (c : TimedCall). c.invoked) same in (
            λ held.
                let here : Holds view new = subst (λ (c : Call). Holds view c) is held in
                absurd (omega (arith, within i, announced_at book i)),
            λ early. absurd (omega arith),
          )
    ]

pub swept-with_call : (calls : List TimedCall) (book : List Page) (names : List Call)
    (pending : List (Option ℕ)) (call : TimedCall) (i : ℕ) → IsInOrder calls → IsValid book
    → IsSwept calls book names pending → slice_get calls (length names) ≡ Some call
    → i < length book → IsFree book pending i → NoneIsDue calls (length names) pending
    → IsSwept calls (with_call book i call.op)
    (names ++ (record { caller = i; number = calls_of book i }) ∷ [])
    (set pending i (Some (length names)))
swept-with_call calls book names pending call i order valid h next inside free none =
    let new : Call = record { caller = i; number = calls_of book i } in
    let grown : List Page = with_call book i call.op in
    let more : List Call = names ++ new ∷ [] in
    let long : length more ≡ length names + 1 = length-append names (new ∷ []) in
    let past : length names < length calls = slice_get_within calls (length names) call next in
    let p : Page =
    record (page_of book i) { operations = (page_of book i).operations ++ call.op ∷ [] } in
    let its : i < length pending = omega (arith, h.wide) in
    let level : calls_of book i ≡ answers_of book i = h.idle i free.0 in
    let its_call : (k : ℕ) (c : TimedCall) → k ≡ length names → slice_get calls k ≡ Some c
    → c ≡ call = λ k c last at. one_item calls k (length names) c call last at next in
    let is_new : (k : ℕ) (name : Call) → slice_get names k ≡ Some name → name ≡ new → ⊥ =
    λ k name at same.
    let low : name.number < calls_of book name.caller =
    named_is_call calls book names pending h k name at in
    let here : new.number < calls_of book new.caller =
    subst (λ (c : Call). c.number < calls_of book c.caller) same low in
    omega arith
    in
    record {
      few = omega (arith, long, past);
      wide = length-set pending i (Some (length names)) ∙ (h.wide ∙ sym (length-set book i p));
      operations = λ k name c at c_at. elim (slice_get-push_cases names new k name at) [
        | inl old ↦
            operation_of-with_call_old book i call.op name c.op inside
            (h.operations k name c old c_at)
        | inr (last, is) ↦
            ap (operation_of grown) is ∙ (operation_of-with_call_new book i call.op inside
            ∙ ap (λ (d : TimedCall). Some d.op) (sym (its_call k c last c_at)))
      ];
      whole = λ name is. elim (is_call-with_call book i call.op name inside is) [
        | inl old ↦ let found = h.whole name old in
            (found.0, slice_get-push_old names new found.0 name found.1)
        | inr same ↦
            (length names, slice_get-push_last names new ∙ ap (λ (c : Call). Some c) (sym same))
      ];
      apart = λ j k name first second.
          elim (slice_get-push_cases names new j name first) [
            | inl old ↦ elim (slice_get-push_cases names new k name second) [
              | inl other ↦ h.apart j k name old other
              | inr (last, is) ↦ absurd (is_new j name old is)
            ]
            | inr (last, is) ↦ elim (slice_get-push_cases names new k name second) [
              | inl other ↦ absurd (is_new k name other is)
              | inr (also, again) ↦ last ∙ sym also
            ]
          ];
      answered = λ k name c r at c_at stands.
          let stood : record_of book name ≡ Some r =
          sym (record_of-with_call book i call.op name inside) ∙ stands in
          elim (slice_get-push_cases names new k name at) [
            | inl old ↦
                let known = h.answered k name c r old c_at stood in
                let late : known.answer.returned < call.invoked = known.due call next in
                record {
                  answer = known.answer;
                  answered = known.answered;
                  reply = known.reply;
                  view = later_unseen calls names book r.view i known.answer.returned call
                      (valid.within name r stood) known.view next late;
                  due = λ other other_at.
                      let rises = order.sorted (length names) (length more) call other
                      (omega (arith, long)) next other_at in
                      omega arith;
                }
            | inr (last, is) ↦
                let low : name.number < answers_of book name.caller =
                slice_get_within (page_of book name.caller).records name.number r stood in
                let here : new.number < answers_of book new.caller =
                subst (λ (d : Call). d.number < answers_of book d.caller) is low in
                absurd (omega arith)
          ];
      waits = λ j k at. elim (cases_eq j i) [
        | inl same ↦
            let here : Some (Some (length names)) ≡ Some (Some k) =
            sym (slice_get-set_here pending i (Some (length names)) its)
            ∙ (ap (slice_get (set pending i (Some (length names)))) (sym same) ∙ at) in
            let place : length names ≡ k = cc in
            let first : new ≡ first_unanswered grown j = same_call new (first_unanswered grown j)
            (sym same) (level ∙ (sym (answers_of-with_call book i call.op i inside)
            ∙ ap (answers_of grown) (sym same))) in (
              ap (slice_get more) (sym place) ∙ (slice_get-push_last names new
                  ∙ ap (λ (c : Call). Some c) first),
              subst (λ (m : ℕ). calls_of grown m ≡ answers_of grown m + 1) (sym same) (omega (
                arith,
                calls_of-with_call_same book i call.op inside,
                answers_of-with_call book i call.op i inside,
              )),
            )
        | inr other ↦
            let was : slice_get pending j ≡ Some (Some k) =
            sym (slice_get-set_other pending i j (Some (length names)) other) ∙ at in
            let old = h.waits j k was in
            let first : first_unanswered book j ≡ first_unanswered grown j =
            same_call (first_unanswered book j) (first_unanswered grown j) refl
            (sym (answers_of-with_call book i call.op j inside)) in (
              slice_get-push_old names new k (first_unanswered grown j)
                  (old.0 ∙ ap (λ (c : Call). Some c) first),
              omega (
                arith,
                old.1,
                calls_of-with_call_other book i call.op j other,
                answers_of-with_call book i call.op j inside,
              ),
            )
      ];
      idle = λ j at. elim (cases_eq j i) [
        | inl same ↦
            let here : Some (Some (length names)) ≡ Some None =
            sym (slice_get-set_here pending i (Some (length names)) its)
            ∙ (ap (slice_get (set pending i (Some (length names)))) (sym same) ∙ at) in
            absurd cc
        | inr other ↦
            let old = h.idle j
            (sym (slice_get-set_other pending i j (Some (length names)) other) ∙ at) in
            omega (
              arith,
              old,
              calls_of-with_call_other book i call.op j other,
              answers_of-with_call book i call.op j inside,
            )
      ];
      overlap = λ j m k late c answer at late_at answered low c_at. elim (cases_eq j i) [
        | inl same ↦
            let here : Some (Some (length names)) ≡ Some (Some m) =
            sym (slice_get-set_here pending i (Some (length names)) its)
            ∙ (ap (slice_get (set pending i (Some (length names)))) (sym same) ∙ at) in
            let place : length names ≡ m = cc in
            let rises = order.sorted k m c late (omega (arith, long, low, place)) c_at late_at in
            let lasts = order.lasting m late late_at answer answered in
            omega arith
        | inr other ↦
            let was : slice_get pending j ≡ Some (Some m) =
            sym (slice_get-set_other pending i j (Some (length names)) other) ∙ at in
            elim (cases_lt k (length names)) [
              | inl below ↦ h.overlap j m k late c answer was late_at answered below c_at
              | inr over ↦
                  let is : c ≡ call = its_call k c (omega (arith, long)) c_at in
                  let invoked : c.invoked ≡ call.invoked = ap (λ (d : TimedCall). d.invoked) is in
                  elim (cases_lt answer.returned call.invoked) [
                    | inl due ↦ absurd (none j (Some m) was m late answer refl late_at answered
                        (λ found found_at.
                        let its_next : found.invoked ≡ call.invoked =
                        ap (λ (d : TimedCall). d.invoked)
                        (its_call (length names) found refl found_at) in
                        omega arith))
                    | inr over_it ↦ omega arith
                  ]
            ]
      ];
    }

-- an answer whose view is all calls so far may be given to a pending call
pub may_answer : (calls : List TimedCall) (book : List Page) (names : List Call)
    (pending : List (Option ℕ)) (i j : ℕ) → IsValid book → IsSwept calls book names pending
    → slice_get pending i ≡ Some (Some j) → MayAnswer book i (announced book)
may_answer calls book names pending i j valid h at =
    let waits = h.waits i j at in
    record {
      unanswered = omega (arith, waits.1);
      within = λ k. omega arith;
      own = omega (arith, waits.1, announced_at book i);
      comparable = λ c r stands. inr (valid.within c r stands);
    }

pub swept-with_answer : (calls : List TimedCall) (book : List Page) (names : List Call)
    (pending : List (Option ℕ)) (i j : ℕ) (call : TimedCall) (answer : Answer)
    → IsSwept calls book names pending → i < length book → slice_get pending i ≡ Some (Some j)
    → slice_get calls j ≡ Some call → call.answer ≡ Some answer
    → IsDue calls (length names) answer.returned
    → IsSwept calls (with_answer book i (record { reply = answer.reply; view = announced book }))
    names (set pending i None)
swept-with_answer calls book names pending i j call answer h inside at its_at is due =
    let r : Record = record { reply = answer.reply; view = announced book } in
    let new : List Page = with_answer book i r in
    let p : Page = record (page_of book i) { records = (page_of book i).records ++ r ∷ [] } in
    let its : i < length pending = omega (arith, h.wide) in
    let waits = h.waits i j at in
    let cleared : (k : ℕ) (o : Option ℕ) → k ≡ i → slice_get (set pending i None) k ≡ Some o
    → o ≡ None = λ k o same there.
    same_Some o None (sym there ∙ (ap (slice_get (set pending i None)) same
    ∙ slice_get-set_here pending i None its))
    in
    let kept : (k : ℕ) (o : Option ℕ) → k ≢ i → slice_get (set pending i None) k ≡ Some o
    → slice_get pending k ≡ Some o = λ k o other there.
    sym (slice_get-set_other pending i k None other) ∙ there
    in
    record {
      few = h.few;
      wide = length-set pending i None ∙ (h.wide ∙ sym (length-set book i p));
      operations = λ k name c name_at c_at. operation_of-with_answer book i r name inside
          ∙ h.operations k name c name_at c_at;
      whole = λ name its_call. h.whole name (omega (
        arith,
        its_call,
        calls_of-with_answer book i r name.caller inside,
      ));
      apart = h.apart;
      answered = λ k name c s name_at c_at stands.
          elim (record_of-with_answer_cases book i r name s inside stands) [
            | inl old ↦ h.answered k name c s name_at c_at old
            | inr (caller, number, equal) ↦
                let first : name ≡ first_unanswered book i =
                same_call name (first_unanswered book i) caller number in
                let place : k ≡ j = h.apart k j name name_at
                (waits.0 ∙ ap (λ (d : Call). Some d) (sym first)) in
                let same : c ≡ call = one_item calls k j c call place c_at its_at in
                record {
                  answer = answer;
                  answered = ap (λ (d : TimedCall). d.answer) same ∙ is;
                  reply = ap (λ (t : Record). t.reply) equal;
                  view = subst (λ (t : Record).
                      SeesWhatWasInvoked calls names t.view answer.returned) (sym equal)
                      (λ m other d other_at d_at. (
                        λ held. h.overlap i j m call d answer at its_at is
                            (slice_get_within names m other other_at) d_at,
                        λ early.
                            let low : other.number < calls_of book other.caller =
                            named_is_call calls book names pending h m other other_at in
                            omega (arith, low, announced_at book other.caller),
                      ));
                  due = due;
                }
          ];
      waits = λ k m there. elim (cases_eq k i) [
        | inl same ↦ let gone : Some m ≡ None = cleared k (Some m) same there in absurd cc
        | inr other ↦
            let old = h.waits k m (kept k (Some m) other there) in
            let first : first_unanswered book k ≡ first_unanswered new k =
            same_call (first_unanswered book k) (first_unanswered new k) refl
            (sym (answers_of-with_answer_other book i r k other)) in (
              old.0 ∙ ap (λ (d : Call). Some d) first,
              omega (
                arith,
                old.1,
                calls_of-with_answer book i r k inside,
                answers_of-with_answer_other book i r k other,
              ),
            )
      ];
      idle = λ k there. elim (cases_eq k i) [
        | inl same ↦ subst (λ (m : ℕ). calls_of new m ≡ answers_of new m) (sym same) (omega (
          arith,
          waits.1,
          calls_of-with_answer book i r i inside,
          answers_of-with_answer_same book i r inside,
        ))
        | inr other ↦ omega (
          arith,
          h.idle k (kept k None other there),
          calls_of-with_answer book i r k inside,
          answers_of-with_answer_other book i r k other,
        )
      ];
      overlap = λ k m n late c its_answer there late_at answered low c_at.
          elim (cases_eq k i) [
            | inl same ↦ let gone : Some m ≡ None = cleared k (Some m) same there in absurd cc
            | inr other ↦
                h.overlap k m n late c its_answer (kept k (Some m) other there) late_at answered low
                c_at
          ];
    }

-- a swept book is so along equations
pub swept_along : (calls : List TimedCall) (book other : List Page) (names named : List Call)
    (pending pends : List (Option ℕ)) → other ≡ book → named ≡ names → pends ≡ pending
    → IsSwept calls book names pending → IsSwept calls other named pends
swept_along calls book other names named pending pends b n p h =
    subst (λ (x : List Page). IsSwept calls x named pends) (sym b)
    (subst (λ (x : List Call). IsSwept calls book x pends) (sym n)
    (subst (λ (x : List (Option ℕ)). IsSwept calls book names x) (sym p) h))

within_case : (calls : List TimedCall) (book : List Page) (names : List Call)
    (pending : List (Option ℕ)) → IsSwept calls book names pending → (i : ℕ) (its : Option ℕ)
    → slice_get pending i ≡ Some its → IfSome its (λ j. j < length calls)
within_case calls book names pending h i None at = tt
within_case calls book names pending h i (Some j) at =
    let low = slice_get_within names j (first_unanswered book i) (h.waits i j at).0 in
    omega (arith, low, h.few)

-- a pending call is one of the calls
pub pending_within : (calls : List TimedCall) (book : List Page) (names : List Call)
    (pending : List (Option ℕ)) → IsSwept calls book names pending → (i : ℕ) (its : Option ℕ)
    → i < length pending → its ≡ get_or pending i its → IfSome its (λ j. j < length calls)
pending_within calls book names pending h i its low is =
    within_case calls book names pending h i its
    (slice_get_read pending (length pending) i its refl low is)

-- the pending call of a caller, where it is read from the list
pub pending_is : (pending : List (Option ℕ)) (i j : ℕ) (its : Option ℕ) → i < length pending
    → its ≡ get_or pending i its → its ≡ Some j → slice_get pending i ≡ Some (Some j)
pending_is pending i j its low is same =
    slice_get_read pending (length pending) i its refl low is ∙ ap (λ (o : Option ℕ). Some o) same

empty_place : (n : ℕ) (i : ℕ) (its : Option ℕ) → slice_get (replicate n None) i ≡ Some its
    → its ≡ None
empty_place zero i its at = absurd (none-some its at)
empty_place (suc n) zero its at = sym (same_Some None its at)
empty_place (suc n) (suc i) its at = empty_place n i its at

-- the book without calls
pub swept_start : (calls : List TimedCall) (n : ℕ)
    → IsSwept calls (replicate n (record { operations = []; records = [] })) [] (replicate n None)
swept_start calls n =
    let empty : Page = record { operations = []; records = [] } in
    let book : List Page = replicate n empty in
    let page : (i : ℕ) → page_of book i ≡ empty = λ i. get_or-replicate_default n i empty in
    let none : (i : ℕ) → calls_of book i ≡ 0 =
    λ i. ap (λ (p : Page). length p.operations) (page i) in
    record {
      few = omega arith;
      wide = length-replicate n None ∙ sym (length-replicate n empty);
      operations = λ k name call at its. absurd (none-some name at);
      whole = λ name is. absurd (omega (arith, is, none name.caller));
      apart = λ j k name at other. absurd (none-some name at);
      answered = λ k name call r at its stands. absurd (none-some name at);
      waits = λ i j at. let gone : Some j ≡ None = empty_place n i (Some j) at in absurd cc;
      idle = λ i at. none i ∙ sym (ap (λ (p : Page). length p.records) (page i));
      overlap = λ i j k late call answer at its is low other.
          let gone : Some j ≡ None = empty_place n i (Some j) at in absurd cc;
    }
