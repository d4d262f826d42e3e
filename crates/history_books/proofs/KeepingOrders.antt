-- A legal order of a book of timed calls, under the names that another book of the same calls has
-- for them.
use Rattle.std.proofs.Common.{◌≡◌, ℕ, zero, suc, ◌<◌, ◌∙◌, List, [], ◌∷◌, map, Option, Some, unwrap_or, refl, sym, ap, subst, slice_get, inl, inr, arith}
use Rattle.std.proofs.lemmas.Option.{same_Some, none-some, slice_get_within}
use Rattle.list_laws.proofs.Options.{cases_Option}
use Rattle.book_base.specs.declared.call.Call.{Call}
use Rattle.book_base.specs.declared.call.Record.{Record}
use Rattle.book_base.specs.declared.call.Place.{Place}
use Rattle.book_base.specs.SeqSpec.{SeqSpec}
use Rattle.book_base.specs.Book.{Page, page_of, IsCall, IsValid, operation_of, record_of, Precedes}
use Rattle.book_base.specs.Sequential.{IsLegalRun}
use Rattle.book_base.specs.Order.{call_at, StandsAt, step_at, IsLegalOrder}
use Rattle.history_books.specs.declared.timed_call.TimedCall.{TimedCall}
use Rattle.history_books.specs.declared.timed_call.Answer.{Answer}
use Rattle.history_books.specs.BookOf.{IsBookOf}
use Rattle.history_books.specs.Laws.{AreWider, AreSameCalls, WiderCallsKeepLegalOrders}
use Rattle.history_books.proofs.Sweeping.{there_is}
use Rattle.history_books.proofs.Widening.{wider_calls_precede_less}

-- a place, by its parts
same_place : (place : Place) (caller number reply : ℕ) → place.caller ≡ caller
    → place.number ≡ number → place.reply ≡ reply
    → Some place ≡ Some (record { caller = caller; number = number; reply = reply })
same_place place caller number reply a b c =
    let made : ℕ → ℕ → ℕ → Option Place = λ x y z.
    Some (record { caller = x; number = y; reply = z }) in
    ap (λ (x : ℕ). made x place.number place.reply) a
    ∙ (ap (λ (y : ℕ). made caller y place.reply) b ∙ ap (λ (z : ℕ). made caller number z) c)

-- two names are those of one call, the first in `names` and the second in `others`
record Same (names others : List Call) (call one : Call) : Type 0 where
  at : ℕ
  named : slice_get names at ≡ Some call
  other : slice_get others at ≡ Some one

-- two orders are the same, place by place, under the names of the two lists
abbrev AreSame : List Call → List Call → List Place → List Place → Type 0
AreSame names others [] [] = Unit {0}
AreSame names others [] (y ∷ ys) = ⊥
AreSame names others (x ∷ xs) [] = ⊥
AreSame names others (x ∷ xs) (y ∷ ys) =
    Same names others (call_at x) (call_at y) × (x.reply ≡ y.reply) × AreSame names others xs ys

renamed : (names others : List Call) (order : List Place)
    → ((k : ℕ) (call : Call) → StandsAt order k call → (one : Call) × Same names others call one)
    → (other : List Place) × AreSame names others order other
renamed names others [] has = ([], tt)
renamed names others (x ∷ xs) has =
    let head = has zero (call_at x) (x, refl, refl) in
    let rest = renamed names others xs (λ k call at. has (suc k) call at) in
    let place : Place = record {
      caller = head.0.caller;
      number = head.0.number;
      reply = x.reply;
    } in
    (place ∷ rest.0, (head.1, refl, rest.1))

back : (names others : List Call) (order other : List Place) → AreSame names others order other
    → (k : ℕ) (one : Call) → StandsAt other k one
    → (call : Call) × StandsAt order k call × Same names others call one
back names others [] [] same k one at = absurd (none-some at.0 at.1)
back names others [] (y ∷ ys) same k one at = absurd same
back names others (x ∷ xs) [] same k one at = absurd same
back names others (x ∷ xs) (y ∷ ys) same zero one at =
    let is : call_at y ≡ one = ap call_at (same_Some y at.0 at.1) ∙ at.2 in
    let P : Call → Type 0 = λ c. Same names others (call_at x) c in
    (call_at x, (x, refl, refl), subst P is same.0)
back names others (x ∷ xs) (y ∷ ys) same (suc k) one at =
    back names others xs ys same.2 k one at

-- the place at an index of the other order, where the first order has one there
record IsPlacedAs (names others : List Call) (other : List Place) (k : ℕ) (place : Place)
    : Type 0 where
  its : Place
  at : slice_get other k ≡ Some its
  same : Same names others (call_at place) (call_at its)
  reply : place.reply ≡ its.reply

forth : (names others : List Call) (order other : List Place) → AreSame names others order other
    → (k : ℕ) (place : Place) → slice_get order k ≡ Some place
    → IsPlacedAs names others other k place
forth names others [] other same k place at = absurd (none-some place at)
forth names others (x ∷ xs) [] same k place at = absurd same
forth names others (x ∷ xs) (y ∷ ys) same zero place at =
    let P : Place → Type 0 = λ p. IsPlacedAs names others (y ∷ ys) zero p in
    subst P (same_Some x place at) (record { its = y; at = refl; same = same.0; reply = same.1 })
forth names others (x ∷ xs) (y ∷ ys) same (suc k) place at =
    let rest = forth names others xs ys same.2 k place at in
    record { its = rest.its; at = rest.at; same = rest.same; reply = rest.reply }

same_steps : (names others : List Call) (book wide : List Page)
    → ((call one : Call) → Same names others call one
    → unwrap_or (operation_of wide one) 0 ≡ unwrap_or (operation_of book call) 0)
    → (order other : List Place) → AreSame names others order other
    → map (step_at wide) other ≡ map (step_at book) order
same_steps names others book wide operations [] [] same = refl
same_steps names others book wide operations [] (y ∷ ys) same = absurd same
same_steps names others book wide operations (x ∷ xs) [] same = absurd same
same_steps names others book wide operations (x ∷ xs) (y ∷ ys) same =
    let op = operations (call_at x) (call_at y) same.0 in
    let rest = same_steps names others book wide operations xs ys same.2 in
    let reply = same.1 in
    let step : step_at wide y ≡ step_at book x = cc in
    cc

-- one call has one name in a list without doubles
one_other : (names others : List Call)
    → ((j k : ℕ) (name : Call) → slice_get names j ≡ Some name → slice_get names k ≡ Some name
    → j ≡ k) → (call one two : Call) → Same names others call one → Same names others call two
    → one ≡ two
one_other names others apart call one two a b =
    let same = apart a.at b.at call a.named b.named in
    same_Some one two (sym a.other ∙ (ap (slice_get others) same ∙ b.other))

flip : (names others : List Call) (call one : Call) → Same names others call one
    → Same others names one call
flip names others call one s = record { at = s.at; named = s.other; other = s.named }

-- what the two books say of one call
module _ (calls wides : List TimedCall) (book other : List Page) (names others : List Call)
    (is : IsBookOf calls book names) (its : IsBookOf wides other others)
    (wider : AreWider calls wides) (same : AreSameCalls calls wides) where
  call_of : (k : ℕ) (name : Call) → slice_get names k ≡ Some name
      → (call : TimedCall) × (slice_get calls k ≡ Some call)
  call_of k name at = there_is names calls k name (omega (arith, is.named)) at

  wide_of : (k : ℕ) (name : Call) → slice_get others k ≡ Some name
      → (call : TimedCall) × (slice_get wides k ≡ Some call)
  wide_of k name at = there_is others wides k name (omega (arith, its.named)) at

  name_of : (k : ℕ) (one : Call) → slice_get others k ≡ Some one
      → (call : Call) × (slice_get names k ≡ Some call)
  name_of k one at =
      there_is others names k one (omega (arith, is.named, its.named, same.many)) at

  named_other : (call : Call) → IsCall book call → (one : Call) × Same names others call one
  named_other call known =
      let name = is.whole call known in
      let one = there_is names others name.0 call
      (omega (arith, is.named, its.named, same.many)) name.1 in
      (one.0, record { at = name.0; named = name.1; other = one.1 })

  operations : (call one : Call) → Same names others call one
      → (operation_of other one ≡ operation_of book call) × IsCall other one
  operations call one s =
      let known = call_of s.at call s.named in
      let wide = wide_of s.at one s.other in
      let first = is.operations s.at call known.0 s.named known.1 in
      let second = its.operations s.at one wide.0 s.other wide.1 in
      let op = (same.same s.at known.0 wide.0 known.1 wide.1).operation in (
        second ∙ (ap (λ (n : ℕ). Some n) op ∙ sym first),
        slice_get_within (page_of other one.caller).operations one.number wide.0.op second,
      )

  -- a call that has an answer in the wider calls has one in the calls, with the same reply
  record IsAnsweredAs (k : ℕ) (late : Answer) : Type 0 where
    call : Call
    named : slice_get names k ≡ Some call
    r : Record
    known : record_of book call ≡ Some r
    reply : r.reply ≡ late.reply

  answered_as : (k : ℕ) (one : Call) (wide : TimedCall) (late : Answer)
      → slice_get others k ≡ Some one → slice_get wides k ≡ Some wide → wide.answer ≡ Some late
      → IsAnsweredAs k late
  answered_as k one wide late other_at at e =
      let call = name_of k one other_at in
      let narrow = wider k wide at in
      let answer = narrow.2.returned late e in
      let r = is.answered k call.0 narrow.0 answer.0 call.1 narrow.1 answer.1 in
      let reply = (same.same k narrow.0 wide narrow.1 at).reply answer.0 late answer.1 e in
      record {
        call = call.0;
        named = call.1;
        r = r.0;
        known = r.1;
        reply = r.2 ∙ sym reply;
      }

  module _ (spec : SeqSpec) (order : List Place) (legal : IsLegalOrder spec book order)
      (new : List Place) (renames : AreSame names others order new) where
    record StandsAnew (k : ℕ) (one : Call) (reply : ℕ) : Type 0 where
      j : ℕ
      call : Call
      named : slice_get names k ≡ Some call
      stands : StandsAt order j call
      place : Place
      at : slice_get new j ≡ Some place
      is_one : call_at place ≡ one
      replied : place.reply ≡ reply

    stands_anew : (k : ℕ) (one : Call) (wide : TimedCall) (late : Answer)
        → slice_get others k ≡ Some one → slice_get wides k ≡ Some wide
        → wide.answer ≡ Some late → StandsAnew k one late.reply
    stands_anew k one wide late other_at at e =
        let a = answered_as k one wide late other_at at e in
        let place = legal.answered a.call a.r a.known in
        let its_place : Place = record {
          caller = a.call.caller;
          number = a.call.number;
          reply = a.r.reply;
        } in
        let f = forth names others order new renames place.0 its_place place.1 in
        let s : Same names others a.call one =
        record { at = k; named = a.named; other = other_at } in
        record {
          j = place.0;
          call = a.call;
          named = a.named;
          stands = (its_place, place.1, refl);
          place = f.its;
          at = f.at;
          is_one = one_other names others is.apart a.call (call_at f.its) one f.same s;
          replied = sym f.reply ∙ a.reply;
        }

    calls_new : (k : ℕ) (one : Call) → StandsAt new k one → IsCall other one
    calls_new k one at =
        let b = back names others order new renames k one at in
        (operations b.0 one b.2).1

    once_new : (j k : ℕ) (one : Call) → StandsAt new j one → StandsAt new k one → j ≡ k
    once_new j k one first second =
        let a = back names others order new renames j one first in
        let b = back names others order new renames k one second in
        let e : b.0 ≡ a.0 = one_other others names its.apart one b.0 a.0
        (flip names others b.0 one b.2) (flip names others a.0 one a.2) in
        let P : Call → Type 0 = λ c. StandsAt order k c in
        legal.once j k a.0 a.1 (subst P e b.1)

    precedence_new : (j k : ℕ) (one two : Call) → StandsAt new j one → StandsAt new k two
        → Precedes other one two → j < k
    precedence_new j k one two first second precedes =
        let a = back names others order new renames j one first in
        let b = back names others order new renames k two second in
        legal.precedence j k a.0 b.0 a.1 b.1
        (wider_calls_precede_less calls wides book other names others is its wider a.2.at b.2.at
        a.0 b.0 one two a.2.named b.2.named a.2.other b.2.other precedes)

    earlier_new : (k : ℕ) (one : Call) → StandsAt new k one → (number : ℕ) → number < one.number
        → (j : ℕ) × (j < k) × StandsAt new j (record { caller = one.caller; number = number })
    earlier_new k one at number less =
        let b = back names others order new renames k one at in
        let e : Call = record { caller = one.caller; number = number } in
        let inside : IsCall other one = calls_new k one at in
        let known : IsCall other e = omega (arith, inside, less) in
        let name = its.whole e known in
        let precedes : Precedes other e one = inr (refl, less) in
        let log = (its.precedence name.0 b.2.at e one name.1 b.2.other).0 precedes in
        let anew = stands_anew name.0 e log.first log.answer name.1 log.first_at log.answered in
        let before = legal.precedence anew.j k anew.call b.0 anew.stands b.1
        (wider_calls_precede_less calls wides book other names others is its wider name.0 b.2.at
        anew.call b.0 e one anew.named b.2.named name.1 b.2.other precedes) in
        (anew.j, before, (anew.place, anew.at, anew.is_one))

    answered_new : IsValid other → (one : Call) (r : Record) → record_of other one ≡ Some r
        → (k : ℕ) × (slice_get new k
        ≡ Some (record { caller = one.caller; number = one.number; reply = r.reply }))
    answered_new valid one r e =
        let inside = slice_get_within (page_of other one.caller).records one.number r e in
        let few = valid.answers one.caller in
        let known : IsCall other one = omega (arith, inside, few) in
        let name = its.whole one known in
        let wide = wide_of name.0 one name.1 in
        elim (cases_Option wide.0.answer) [
          | inl none ↦ absurd (its.unanswered name.0 one wide.0 name.1 wide.1 none inside)
          | inr some ↦
              (let anew = stands_anew name.0 one wide.0 some.0 name.1 wide.1 some.1 in
              let its_r = its.answered name.0 one wide.0 some.0 name.1 wide.1 some.1 in
              let same_r : its_r.0 ≡ r = same_Some its_r.0 r (sym its_r.1 ∙ e) in
              let reply : anew.place.reply ≡ r.reply =
              anew.replied ∙ (sym its_r.2 ∙ ap (λ (x : Record). x.reply) same_r) in
              let caller : anew.place.caller ≡ one.caller = ap (λ (c : Call). c.caller) anew.is_one in
              let number : anew.place.number ≡ one.number = ap (λ (c : Call). c.number) anew.is_one in
              (anew.j, anew.at ∙ same_place anew.place one.caller one.number r.reply caller number reply))
        ]

    run_new : IsLegalRun spec (map (step_at other) new)
    run_new =
        let P : List (ℕ × ℕ) → Type 0 = λ steps. IsLegalRun spec steps in
        subst P (sym (same_steps names others book other
        (λ call one s. ap (λ (o : Option ℕ). unwrap_or o 0) (operations call one s).0) order new
        renames)) legal.run

pub wider_calls_keep_legal_orders : WiderCallsKeepLegalOrders
wider_calls_keep_legal_orders spec calls wides book other names others is its valid wider same has =
    let order = has.0 in
    let legal = has.1 in
    let new = renamed names others order (λ k call at.
    named_other calls wides book other names others is its wider same call
    (legal.calls k call at)) in (
      new.0,
      record {
        calls = calls_new calls wides book other names others is its wider same spec order legal
            new.0 new.1;
        once = once_new calls wides book other names others is its wider same spec order legal
            new.0 new.1;
        earlier = earlier_new calls wides book other names others is its wider same spec order legal
            new.0 new.1;
        answered = answered_new calls wides book other names others is its wider same spec order
            legal new.0 new.1 valid;
        run = run_new calls wides book other names others is its wider same spec order legal new.0
            new.1;
        precedence = precedence_new calls wides book other names others is its wider same spec order
            legal new.0 new.1;
      },
    )
