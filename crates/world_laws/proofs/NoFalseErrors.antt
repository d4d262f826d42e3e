-- No false error: the object history of a run is one of the book of its locals, so a linearization
-- is a legal order.
use Rattle.std.proofs.Common.{◌≡◌, ℕ, zero, suc, ◌+◌, ◌<◌, ◌≤◌, List, [], ◌∷◌, ◌++◌, length, map, Some, slice_get, slice_index, slice_index_or, refl, sym, ap, ◌∙◌, subst, arith, inl, inr}
use Rattle.std.specs.Prelude.{Contains, IsSomeAnd}
use Rattle.std.proofs.lemmas.Bool.{and_parts}
use Rattle.std.proofs.lemmas.Option.{same_Some, slice_get_within, get_or_from_slice_get}
use Rattle.list_laws.proofs.Options.{some_from_is_some_and}
use Rattle.list_laws.proofs.Places.{get_or-replicate_default}
use Rattle.book_base.specs.declared.call.Call.{Call}
use Rattle.book_base.specs.declared.call.Record.{Record}
use Rattle.book_base.specs.Book.{IsCall, answered, operation_of, record_of}
use Rattle.book_base.proofs.PageLemmas.{caller_from_call}
use Rattle.legal_orders.proofs.BookAtLaws.{has_one_where_the_book_has, smaller_has_one}
use Rattle.world_core.specs.declared.region.Region.TheVariants.{N}
use Rattle.world_core.specs.Shape.{Shape}
use Rattle.world_core.specs.Local.{Local, Phase, fresh}
use Rattle.world_core.specs.Agreement.{unpublished_calls, unpublished_replies, unpublished_views}
use Rattle.world_core.specs.World.{World, Step, start, local_of, count_of, after, is_possible, are_possible, IsRun, end_of}
use Rattle.world_core.specs.History.{Happening, Invoked, Returned, ReturnsBefore, history_from, history_of, call_of}
use Rattle.world_core.specs.Calls.{AreTogether, book_in}
use Rattle.world_laws.specs.Views.{return_of}
use Rattle.world_laws.proofs.Running.{Kept, start_kept, step_kept, steps_kept, goes_on}
use Rattle.world_laws.proofs.Viewing.{views_hold_earlier}
use Rattle.world_laws.specs.Linearizing.{IsHistoryOf, RunsHaveTheirHistories, LinearizableRunsHaveLegalBooks, NoFalseError, place_of}
use Rattle.world_laws.proofs.Pages.{calls_in_book, operation_in_book, from_record}
use Rattle.world_laws.proofs.Validity.{all_lengths, book_long, books_are_valid, published_cuts_are_within, viewer}
use Rattle.world_laws.proofs.LegalOrders.{stands, contained, linearizations_are_legal_orders}
use Rattle.world_laws.proofs.Recording.{steps_carry, invoked_is_announced, invoked_since, ReturnStep, returned_since, history_from-append, reply_stands}

-- the element at place k of a list is k places after the end of another list that is put before it
slice_get-append_add : {X : Type 0} (xs ys : List X) (k : ℕ)
    → slice_get (xs ++ ys) (length xs + k) ≡ slice_get ys k
slice_get-append_add [] ys k = let none : 0 + k ≡ k = omega arith in ap (slice_get ys) none
slice_get-append_add (x ∷ xs) ys k =
    let more : suc (length xs) + k ≡ suc (length xs + k) = omega arith in
    ap (slice_get (x ∷ (xs ++ ys))) more ∙ slice_get-append_add xs ys k

-- A run whose step here is the return of a call.
module _ (s : Shape) (before later : List Step) (i x reply : ℕ)
    (run : IsRun s (before ++ return_of i x reply ∷ later)) where
  abbrev back : Step
  back = return_of i x reply

  abbrev whole : List Step
  whole = before ++ back ∷ later

  abbrev here : World
  here = end_of s before

  abbrev number : ℕ
  number = length (local_of here i).replies

  abbrev prefix : List Happening
  prefix = history_of s before

  abbrev rest : List Happening
  rest = history_from s (after s here back) later

  split : history_of s whole ≡ prefix ++ Returned (call_of i number) reply ∷ rest
  split = history_from-append s (start s) before (back ∷ later)

  return_at : slice_get (history_of s whole) (length prefix + 0)
      ≡ Some (Returned (call_of i number) reply)
  return_at = ap (λ (hs : List Happening). slice_get hs (length prefix + 0)) split
      ∙ slice_get-append_add prefix (Returned (call_of i number) reply ∷ rest) 0

  -- the call returned with this reply, which the history has to its end
  returns : Contains (history_of s whole) (Returned (call_of i number) reply)
  returns = contained (history_of s whole) (length prefix + 0)
      (Returned (call_of i number) reply) return_at

  reply_is : slice_get (local_of (end_of s whole) i).replies number ≡ Some reply
  reply_is =
      let on = goes_on s before (back ∷ later) run in
      let parts =
      and_parts (is_possible s here back) (are_possible s (after s here back) later) on.may in
      let stood = reply_stands s here i x reply on.kept parts.0 in
      subst (λ (w : World). slice_get (local_of w i).replies number ≡ Some reply) (sym on.at)
      ((steps_carry s (after s here back) later i
      (step_kept s here back on.kept parts.0) parts.1).replies number reply stood)

  -- a call that wasn't announced then was invoked afterwards
  suffix : (b : Call) (op : ℕ) → Contains (Returned (call_of i number) reply ∷ rest) (Invoked b op)
      → ReturnsBefore (history_of s whole) (call_of i number) b
  suffix b op (zero, low, is) = absurd cc
  suffix b op (suc q, low, is) =
      let there =
      stands (Returned (call_of i number) reply ∷ rest) (Invoked b op) (suc q, low, is) in (
        length prefix + 0,
        length prefix + suc q,
        reply,
        op,
        omega arith,
        return_at,
        ap (λ (hs : List Happening). slice_get hs (length prefix + suc q)) split
            ∙ slice_get-append_add prefix (Returned (call_of i number) reply ∷ rest) (suc q)
            ∙ there,
      )

  before_later : (b : Call) → length (local_of here b.caller).operations ≤ b.number
      → b.number < length (local_of (end_of s whole) b.caller).operations
      → ReturnsBefore (history_of s whole) (call_of i number) b
  before_later b new now =
      let on = goes_on s before (back ∷ later) run in
      let found =
      invoked_since s here (back ∷ later) b.caller b.number on.kept on.may new
      (subst (λ (w : World). b.number < length (local_of w b.caller).operations) on.at now) in
      suffix b found.0 found.1

-- The call of a caller that has a reply at the end of a run, by its return.
module _ (s : Shape) (steps : List Step) (run : IsRun s steps) where
  abbrev last : World
  last = end_of s steps

  kept : Kept s last
  kept = steps_kept s (start s) steps (start_kept s) run

  are : AreTogether s last.locals
  are = (last, (steps, run, refl), refl)

  return_step : (a : Call) → a.number < length (local_of last a.caller).replies
      → ReturnStep s (start s) steps a.caller a.number
  return_step a there =
      let none : length (local_of (start s) a.caller).replies ≡ 0 =
      ap (λ (l : Local). length l.replies) (get_or-replicate_default s.callers a.caller fresh) in
      returned_since s (start s) steps a.caller a.number (start_kept s) run
      (omega (arith, none)) there

  -- a call returned before another that wasn't announced then
  returned_before : (a b : Call) (r : ReturnStep s (start s) steps a.caller a.number)
      → length (local_of (end_of s r.before) b.caller).operations ≤ b.number
      → b.number < length (local_of last b.caller).operations
      → ReturnsBefore (history_of s steps) a b
  returned_before a b r new now =
      let runs : IsRun s (r.before ++ return_of a.caller r.x r.reply ∷ r.later) =
      subst (IsRun s) r.are run in
      let found =
      before_later s r.before r.later a.caller r.x r.reply runs b new
      (subst (λ (sts : List Step). b.number < length (local_of (end_of s sts) b.caller).operations)
      r.are now) in
      subst (λ (sts : List Step). ReturnsBefore (history_of s sts) a b) (sym r.are)
      (subst (λ (k : ℕ). ReturnsBefore
      (history_of s (r.before ++ return_of a.caller r.x r.reply ∷ r.later)) (call_of a.caller k) b)
      r.number found)

  -- where the caller was at its call's return
  record Stood (a : Call) (w : World) : Type 0 where
    calls : length (local_of w a.caller).operations ≡ a.number + 1
    views : length (local_of w a.caller).views ≡ a.number
    counts : (j : ℕ) → j < s.callers → count_of s w N j ≡ length (local_of w j).operations

  stood : (a : Call) (r : ReturnStep s (start s) steps a.caller a.number) → a.caller < s.callers
      → Stood a (end_of s r.before)
  stood a r caller =
      let runs : IsRun s (r.before ++ return_of a.caller r.x r.reply ∷ r.later) =
      subst (IsRun s) r.are run in
      let on = goes_on s r.before (return_of a.caller r.x r.reply ∷ r.later) runs in
      let h = (on.kept.agree a.caller caller).phase in
      let l : Local = local_of (end_of s r.before) a.caller in
      let calls : l.announced ≡ l.published + 1 =
      h.announced ∙ ap (λ (f : Phase). l.published + unpublished_calls f) r.phase in
      let replies : length l.replies ≡ l.published + 0 =
      h.replies ∙ ap (λ (f : Phase). l.published + unpublished_replies f) r.phase in
      let views : length l.views ≡ l.published + 0 =
      h.views ∙ ap (λ (f : Phase). l.published + unpublished_views f) r.phase in
      record {
        calls = omega (arith, h.operations, calls, replies, r.number);
        views = omega (arith, views, replies, r.number);
        counts = λ j low. let agrees = on.kept.agree j low in
            agrees.counts N ∙ sym agrees.phase.operations;
      }

  answered_returns : (call : Call) (r : Record) → record_of (book_in last.locals) call ≡ Some r
      → Contains (history_of s steps) (Returned call r.reply)
  answered_returns call r e =
      let all = all_lengths s last.locals are in
      let known = from_record last.locals all call r e in
      let there : call.number < length (local_of last call.caller).replies =
      omega (arith, known.0, (all call.caller).replies) in
      let step = return_step call there in
      let runs : IsRun s (step.before ++ return_of call.caller step.x step.reply ∷ step.later) =
      subst (IsRun s) step.are run in
      let back = reply_is s step.before step.later call.caller step.x step.reply runs in
      let stands_now : slice_get (local_of last call.caller).replies call.number ≡ Some step.reply =
      subst (λ (sts : List Step). slice_get
      (local_of (end_of s sts) call.caller).replies call.number ≡ Some step.reply) (sym step.are)
      (subst (λ (k : ℕ). slice_get (local_of (end_of s (step.before ++ return_of call.caller step.x
      step.reply ∷ step.later)) call.caller).replies k ≡ Some step.reply) step.number back) in
      let same : step.reply ≡ r.reply =
      sym (get_or_from_slice_get (local_of last call.caller).replies call.number step.reply 0
      stands_now) ∙ sym (ap (λ (q : Record). q.reply) known.1) in
      let was =
      subst (λ (k : ℕ). Contains (history_of s (step.before ++ return_of call.caller step.x
      step.reply ∷ step.later)) (Returned (call_of call.caller k) step.reply)) step.number
      (returns s step.before step.later call.caller step.x step.reply runs) in
      subst (λ (reply : ℕ). Contains (history_of s steps) (Returned call reply)) same
      (subst (λ (sts : List Step). Contains (history_of s sts) (Returned call step.reply))
      (sym step.are) was)

  invoked_are_calls : (call : Call) (op : ℕ) → Contains (history_of s steps) (Invoked call op)
      → operation_of (book_in last.locals) call ≡ Some op
  invoked_are_calls call op h =
      operation_in_book last.locals (all_lengths s last.locals are) call
      ∙ (invoked_is_announced s (start s) steps call op (start_kept s) run h).1

  calls_are_invoked : (call : Call) (op : ℕ) → operation_of (book_in last.locals) call ≡ Some op
      → Contains (history_of s steps) (Invoked call op)
  calls_are_invoked call op e =
      let all = all_lengths s last.locals are in
      let stands_there : slice_get (local_of last call.caller).operations call.number ≡ Some op =
      sym (operation_in_book last.locals all call) ∙ e in
      let none : length (local_of (start s) call.caller).operations ≡ 0 = ap
      (λ (l : Local). length l.operations) (get_or-replicate_default s.callers call.caller fresh) in
      let found =
      invoked_since s (start s) steps call.caller call.number (start_kept s) run
      (omega (arith, none))
      (slice_get_within (local_of last call.caller).operations call.number op stands_there) in
      subst (λ (x : ℕ). Contains (history_of s steps) (Invoked call x))
      (same_Some found.0 op (sym (invoked_are_calls call found.0 found.1) ∙ e)) found.1

  caller_of : (b : Call) → IsCall (book_in last.locals) b → b.caller < s.callers
  caller_of b is = omega (
    arith,
    caller_from_call (book_in last.locals) b.caller b.number is,
    book_long last.locals,
    kept.locals_long,
  )

  by_view : (a b : Call) (r : Record) → IsCall (book_in last.locals) b
      → record_of (book_in last.locals) a ≡ Some r → slice_index r.view b.caller ≤ b.number
      → ReturnsBefore (history_of s steps) a b
  by_view a b r is e lacks =
      let all = all_lengths s last.locals are in
      let known = from_record last.locals all a r e in
      let there : a.number < length (local_of last a.caller).replies =
      omega (arith, known.0, (all a.caller).replies) in
      let caller : a.caller < s.callers = viewer s last.locals are a.caller a.number known.0 in
      let step = return_step a there in
      let at = stood a step caller in
      let runs : IsRun s (step.before ++ return_of a.caller step.x step.reply ∷ step.later) =
      subst (IsRun s) step.are run in
      let view : ℕ =
      slice_index (slice_index_or (local_of last a.caller).views a.number []) b.caller in
      let holds : count_of s (end_of s step.before) N b.caller ≤ view =
      subst (λ (sts : List Step). count_of s (end_of s step.before) N b.caller ≤ slice_index
      (slice_index_or (local_of (end_of s sts) a.caller).views a.number []) b.caller) (sym step.are)
      (views_hold_earlier s step.before step.later a.caller step.x step.reply a.number b.caller runs
      (caller_of b is) (sym at.views)
      (subst (λ (sts : List Step). a.number < length (local_of (end_of s sts) a.caller).views)
      step.are known.0)) in
      let same : slice_index r.view b.caller ≡ view =
      ap (λ (q : Record). slice_index q.view b.caller) known.1 in
      returned_before a b step
      (omega (arith, holds, lacks, same, at.counts b.caller (caller_of b is)))
      (omega (arith, is, calls_in_book last.locals all b.caller))

  by_caller : (a b : Call) → IsCall (book_in last.locals) b → a.caller ≡ b.caller
      → a.number < b.number → ReturnsBefore (history_of s steps) a b
  by_caller a b is caller less =
      let all = all_lengths s last.locals are in
      let h = all b.caller in
      let now : b.number < length (local_of last b.caller).operations =
      omega (arith, is, calls_in_book last.locals all b.caller) in
      let earlier : a.number < length (local_of last b.caller).replies =
      omega (arith, now, less, h.operations, h.one, h.published, h.replies) in
      let there : a.number < length (local_of last a.caller).replies =
      subst (λ (i : ℕ). a.number < length (local_of last i).replies) (sym caller) earlier in
      let step = return_step a there in
      let at = stood a step (subst (λ (i : ℕ). i < s.callers) (sym caller) (caller_of b is)) in
      returned_before a b step (omega (
        arith,
        at.calls,
        less,
        ap (λ (i : ℕ). length (local_of (end_of s step.before) i).operations) caller,
      )) now

  history_is : IsHistoryOf (history_of s steps) (book_in last.locals)
  history_is =
      record {
        invoked = λ call op. (invoked_are_calls call op, calls_are_invoked call op);
        returned = answered_returns;
        before = λ a b is p. elim p [
          | inl answered ↦
              let known = some_from_is_some_and (record_of (book_in last.locals) a)
              (λ (r : Record). slice_index r.view b.caller ≤ b.number) answered in
              by_view a b known.0 is known.1
              (subst (λ o. IsSomeAnd o (λ (r : Record). slice_index r.view b.caller ≤ b.number))
              known.1 answered)
          | inr own ↦ by_caller a b is own.0 own.1
        ];
      }

pub runs_have_their_histories : RunsHaveTheirHistories
runs_have_their_histories s steps run = history_is s steps run

pub linearizable_runs_have_legal_books : LinearizableRunsHaveLegalBooks
linearizable_runs_have_legal_books spec s steps run (order, lin) = (
  map place_of order,
  linearizations_are_legal_orders spec (history_of s steps)
      (book_in (end_of s steps).locals) order (history_is s steps run) lin,
)

pub no_false_error : NoFalseError
no_false_error spec s steps cut run linearizable published =
    let locals : List Local = (end_of s steps).locals in
    let t = are s steps run in
    let good = books_are_valid s locals t in
    smaller_has_one spec (book_in locals) cut (answered (book_in locals)) good
    (published_cuts_are_within s locals cut t published)
    ((has_one_where_the_book_has spec (book_in locals) good).1
    (linearizable_runs_have_legal_books spec s steps run linearizable))
