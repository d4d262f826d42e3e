-- A check stays sound when calls begin and end and when more is told.
use Rattle.std.proofs.Common.{◌≡◌, ℕ, suc, ◌+◌, ◌<◌, ◌≤◌, ◌^◌, List, [], ◌∷◌, map, Option, None, Some, IfSome, Result, Ok, Err, IfOk, OnErr, Vec, refl, sym, subst, arith}
use Rattle.std.specs.List.{AllByRecursion}
use Rattle.std.specs.declared.alloc.Global.{Global}
use Rattle.book_base.specs.declared.TheConstants.{MAX_CALLERS, MAX_CALLS}
use Rattle.book_base.specs.declared.call.Call.{Call}
use Rattle.book_base.specs.declared.call.Place.{Place}
use Rattle.book_base.specs.SeqSpec.{SeqSpec}
use Rattle.book_base.specs.Book.{Page, IsCall, IsSmall, calls_of, answers_of, announced}
use Rattle.book_base.specs.Order.{IsLegalOrder, StandsAt, call_at}
use Rattle.book_base.proofs.PageLemmas.{caller_from_call}
use Rattle.seq_objects.specs.Replies.{reply_value}
use Rattle.told_models.specs.declared.table.Transition.{Transition}
use Rattle.told_models.specs.declared.answer.Answer.TheVariants as told
use Rattle.told_models.specs.Table.{Table, KeepsPromises, Extends, TellsStep, TakesPromise}
use Rattle.told_models.specs.Agreement.{Agrees}
use Rattle.told_models.specs.Completion.{completion}
use Rattle.told_models.specs.Answers.{IsRightAnswer}
use Rattle.told_models.proofs.Agreeing.{completions_agree, verdicts_stand}
use Rattle.told_models.specs.declared.told_search.ToldSearch.{ToldSearch}
use Rattle.told_models.specs.Searching.{IsSearch}
use Rattle.told_models.proofs.Walks.{searches_stay}
use Rattle.model_checks.specs.declared.check.ModelCheck.{ModelCheck}
use Rattle.model_checks.specs.History.{Begins, Ends, MayBegin, MayEnd, book_with}
use Rattle.model_checks.specs.Checks.{AreNumbered, AreSmall, IsSoundCheck}
use Rattle.model_checks.proofs.Counting.{one_each-with}
use Rattle.model_checks.proofs.Numbers.{numbered-begun, numbered-ended, small-told, small-promised}

-- A check without a search and an order is sound where its book and its table are.
sound-anew : (new : ModelCheck) → ((i : ℕ) → calls_of new.book i ≤ answers_of new.book i + 1)
    → AreNumbered new.book → AreSmall new.table → new.search ≡ None → new.order ≡ None
    → IsSoundCheck new
sound-anew new one words states search order = record {
  one_each = one;
  words = words;
  states = states;
  search =
      subst (λ (s : Option ToldSearch). IfSome s (IsSearch new.table new.book)) (sym search) tt;
  order = subst (λ (o : Option (Vec Place Global)). IfSome o
      (λ order. IsRightAnswer new.table new.book (told.Legal order))) (sym order) tt;
}

-- A check that begins a call stays sound.
pub sound-begun : (old new : ModelCheck) (caller op : ℕ) → IsSoundCheck old
    → MayBegin old.book caller → op < 2 ^ 32 → new.book ≡ book_with old.book (Begins caller op)
    → new.table ≡ old.table → new.search ≡ None → new.order ≡ None → IsSoundCheck new
sound-begun old new caller op h may small book table search order = sound-anew new
    (subst (λ (b : List Page). (i : ℕ) → calls_of b i ≤ answers_of b i + 1) (sym book)
    (one_each-with old.book (Begins caller op) may h.one_each))
    (subst AreNumbered (sym book)
    (numbered-begun old.book caller op may.is_caller small h.words))
    (subst AreSmall (sym table) h.states) search order

-- A check that ends a call stays sound.
pub sound-ended : (old new : ModelCheck) (caller reply : ℕ) → IsSoundCheck old
    → MayEnd old.book caller → new.book ≡ book_with old.book (Ends caller reply)
    → new.table ≡ old.table → new.search ≡ None → new.order ≡ None → IsSoundCheck new
sound-ended old new caller reply h may book table search order = sound-anew new
    (subst (λ (b : List Page). (i : ℕ) → calls_of b i ≤ answers_of b i + 1) (sym book)
    (one_each-with old.book (Ends caller reply) may h.one_each))
    (subst AreNumbered (sym book) (numbered-ended old.book caller
    (record { reply = reply_value reply; view = announced old.book }) may.is_caller h.words))
    (subst AreSmall (sym table) h.states) search order

search-stays : (old new : Table) (book : List Page) (search : Option ToldSearch)
    → Extends old new → IfSome search (IsSearch old book) → IfSome search (IsSearch new book)
search-stays old new book None extends h = tt
search-stays old new book (Some search) extends h = searches_stay old new book search extends h

order-stays : (old new : Table) (book : List Page) (order : Option (Vec Place Global))
    → Extends old new → IfSome order (λ o. IsRightAnswer old book (told.Legal o))
    → IfSome order (λ o. IsRightAnswer new book (told.Legal o))
order-stays old new book None extends h = tt
order-stays old new book (Some order) extends h = (verdicts_stand old new book extends).0 order h

-- A check whose table extends the one before stays sound.
sound-more : (check : ModelCheck) (table : Table) → IsSoundCheck check
    → Extends check.table table → AreSmall table → IsSoundCheck (record check { table = table })
sound-more check table h extends states = record {
  one_each = h.one_each;
  words = h.words;
  states = states;
  search = search-stays check.table table check.book check.search extends h.search;
  order = order-stays check.table table check.book check.order extends h.order;
}

-- A check whose table takes a promise, or refuses it, stays sound.
pub sound-promised : {X Y : Type 0} (check : ModelCheck) (table : Table) (op reply : ℕ)
    (result : Result X Y) → IsSoundCheck check → Extends check.table table
    → IfOk result (λ x. TakesPromise check.table table op reply)
    → OnErr result (table ≡ check.table) → IsSoundCheck (record check { table = table })
sound-promised check table op reply (Ok x) h extends takes refused =
    sound-more check table h extends (small-promised check.table table op reply takes h.states)
sound-promised check table op reply (Err e) h extends takes refused =
    sound-more check table h extends (subst AreSmall (sym refused) h.states)

-- A check whose table tells a step, or refuses it, stays sound.
pub sound-told : {X Y : Type 0} (check : ModelCheck) (table : Table) (state op : ℕ)
    (transition : Transition) (result : Result X Y) → IsSoundCheck check
    → transition.next < 2 ^ 32 → Extends check.table table
    → IfOk result (λ x. TellsStep check.table table state op transition)
    → OnErr result (table ≡ check.table) → IsSoundCheck (record check { table = table })
sound-told check table state op transition (Ok x) h low extends tells refused =
    sound-more check table h extends
    (small-told check.table table state op transition tells low h.states)
sound-told check table state op transition (Err e) h low extends tells refused =
    sound-more check table h extends (subst AreSmall (sym refused) h.states)

-- The numbers of some calls and of their callers are those that a book may have.
abbrev pub AreFew : List Call → Type 0
AreFew calls =
    AllByRecursion (λ (call : Call). (call.caller < MAX_CALLERS) × (call.number < MAX_CALLS)) calls

called-few : (book : List Page) (order : List Place) → IsSmall book
    → ((k : ℕ) (call : Call) → StandsAt order k call → IsCall book call)
    → AreFew (map call_at order)
called-few book [] small calls = tt
called-few book (place ∷ order) small calls =
    let called : IsCall book (call_at place) = calls 0 (call_at place) (place, refl, refl) in (
      (
        omega (arith, caller_from_call book place.caller place.number called, small.callers),
        omega (arith, called, small.calls place.caller),
      ),
      called-few book order small (λ k call stands.
          calls (suc k) call (stands.0, stands.1, stands.2)),
    )

-- The calls of an order that is legal for each object that agrees are those of a small book.
pub calls-few : (table : Table) (book : List Page) (order : List Place) → KeepsPromises table
    → IsSmall book → ((spec : SeqSpec) → Agrees table spec → IsLegalOrder spec book order)
    → AreFew (map call_at order)
calls-few table book order keeps small legal =
    called-few book order small (legal (completion table) (completions_agree table keeps)).calls
