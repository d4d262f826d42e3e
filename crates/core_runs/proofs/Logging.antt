-- Calls that take effect one at a time are those of one log, in the order of their effects.
use Rattle.std.proofs.Common.{◌≡◌, ℕ, ◌%◌, ◌<◌, true, false, cond, ◌==◌, List, [], ◌∷◌, ◌++◌, map, take, get_or, None, Some, slice_get, slice_index, refl, sym, ap, ap₂, ◌∙◌, subst, inl, inr, arith}
use Rattle.std.specs.Prelude.{All, Contains}
use Rattle.std.specs.List.{filter}
use Rattle.std.specs.Option.{option_map}
use Rattle.std.proofs.lemmas.Bool.{cases_eq, cases_lt}
use Rattle.std.proofs.lemmas.List.Elements.{All-contains, All-map, All-weaker, Contains-get_or}
use Rattle.std.proofs.lemmas.Option.{same_Some, none-some, slice_get_within, slice_get-get_or, slice_get-map, get_or_from_slice_get}
use Rattle.book_base.specs.SeqSpec.{SeqSpec}
use Rattle.book_base.specs.Sequential.{IsRunFrom}
use Rattle.book_base.specs.Book.{Page, IsCall, operation_of}
use Rattle.shared_words.specs.declared.entry.Entry.{Entry}
use Rattle.shared_words.specs.Entries.{calls_by, entry}
use Rattle.test_objects.specs.Pairs.{pairs_after, pairs_of}
use Rattle.test_objects.specs.Replays.{list_after, last_reply}
use Rattle.test_objects.proofs.Replaying.{list_after-append, last_reply_is_next}
use Rattle.world_core.specs.Shape.{Shape}
use Rattle.world_core.specs.Local.{Local}
use Rattle.world_core.specs.World.{World, Step, start, local_of, IsRun, end_of}
use Rattle.world_core.specs.History.{Happening, Invoked, Returned, Done, step_of, ReturnsBefore, IsLinearization, history_of, call_of}
use Rattle.world_core.specs.Calls.{book_in, calls_in, record_in, local_at}
use Rattle.world_laws.proofs.Running.{start_kept}
use Rattle.world_laws.specs.Linearizing.{IsHistoryOf}
use Rattle.world_laws.proofs.Pages.{HasLengths, operation_in_book, operations_with, record_in_book}
use Rattle.world_laws.proofs.Validity.{all_lengths}
use Rattle.world_laws.proofs.Recording.{invoked_is_announced}
use Rattle.world_laws.proofs.NoFalseErrors.{runs_have_their_histories}
use Rattle.report_lines.specs.Phases.{begun, asked, answered, judged, operations_of, answers_in, HasMade}
use Rattle.world_objects.specs.Effects.{Effects, IsOrderOfEffects}
use Rattle.core_runs.specs.Logged.{IsLoggedBy}
use Rattle.core_runs.proofs.OwnCalls.{own_in, RisesFor, HasFirstCalls, own_at, own_operations}
use Rattle.core_runs.proofs.Answers.{has_begun, answer_at, answered_has, answers_are_first}

-- The entry of a call in an order.
abbrev pub entry_of : Done → Entry
entry_of d = entry d.call.caller d.operation

-- the entries of a caller ask for the operations of its calls
calls_of_order : (i : ℕ) (order : List Done)
    → calls_by i (map entry_of order) ≡ map (λ (d : Done). d.operation) (own_in i order)
calls_of_order i [] = refl
calls_of_order i (d ∷ order) =
    let rest = calls_of_order i order in
    let kept : List Entry = filter (λ (e : Entry). e.caller == i) (map entry_of order) in
    elim (d.call.caller == i) as (λ b. map (λ (e : Entry). e.op) (cond b (entry_of d ∷ kept) kept)
    ≡ map (λ (c : Done). c.operation) (cond b (d ∷ own_in i order) (own_in i order))) [
      | true ↦ ap (λ (ops : List ℕ). d.operation ∷ ops) rest
      | false ↦ rest
    ]

-- in a legal order the answers to the log are the replies
pairs_of_order : (spec : SeqSpec) (i : ℕ) (prefix : List Entry) (order : List Done)
    → IsRunFrom spec.next (list_after spec.next spec.init prefix) (map step_of order) → pairs_after
    (last_reply spec.next spec.init) i prefix (map entry_of order) ≡ map step_of (own_in i order)
pairs_of_order spec i prefix [] run = refl
pairs_of_order spec i prefix (d ∷ order) run =
    let more : List Entry = prefix ++ entry_of d ∷ [] in
    let answer : ℕ = last_reply spec.next spec.init more in
    let told : answer ≡ d.reply =
    last_reply_is_next spec.next spec.init prefix (entry_of d) ∙ run.0 in
    let pairs : List (ℕ × ℕ) =
    pairs_after (last_reply spec.next spec.init) i more (map entry_of order) in
    let rest : pairs ≡ map step_of (own_in i order) =
    pairs_of_order spec i more order
    (subst (λ (list : List ℕ). IsRunFrom spec.next list (map step_of order))
    (sym (list_after-append spec.next spec.init prefix (entry_of d ∷ []))) run.1) in
    elim (d.call.caller == i) as (λ b. cond b ((d.operation, answer) ∷ pairs) pairs
    ≡ map step_of (cond b (d ∷ own_in i order) (own_in i order))) [
      | true ↦ (λ k. (d.operation, told k) ∷ rest k)
      | false ↦ rest
    ]

-- The call under way of caller i, which has made this many phases, has taken no effect where the
-- object wasn't asked yet, and has taken effect where it was.
pub record TakesEffectAsAsked (e : Effects) (w : World) (i p : ℕ) : Type 0 where
  pub unasked : p % 5 ≡ 1 → e.reply w (call_of i (judged p)) ≡ None
  pub asked_for : p % 5 ≡ 2 → (reply : ℕ) × (e.reply w (call_of i (judged p)) ≡ Some reply)

module _ (spec : SeqSpec) (s : Shape) (e : Effects) (steps : List Step) (run : IsRun s steps)
    (order : List Done) (lin : IsLinearization spec (history_of s steps) order)
    (of : IsOrderOfEffects s e steps order) where
  abbrev last : World
  last = end_of s steps

  abbrev told : List Happening
  told = history_of s steps

  abbrev book : List Page
  book = book_in last.locals

  lengths : (i : ℕ) → HasLengths (local_at last.locals i)
  lengths = all_lengths s last.locals (last, (steps, run, refl), refl)

  history : IsHistoryOf told book
  history = runs_have_their_histories s steps run

  -- a call of the order is one of the book
  in_book : (d : Done) → Contains order d → operation_of book d.call ≡ Some d.operation
  in_book d there = (history.invoked d.call d.operation).0 (All-contains
      (λ (c : Done). Contains told (Invoked c.call c.operation)) order d lin.invoked there)

  is_call : (d : Done) → Contains order d → IsCall book d.call
  is_call d there = slice_get_within _ d.call.number d.operation (in_book d there)

  asks_for : (d : Done) → Contains order d
      → slice_get (local_of last d.call.caller).operations d.call.number ≡ Some d.operation
  asks_for d there = sym (operation_in_book last.locals lengths d.call) ∙ in_book d there

  -- a caller's calls are in the order in their own order, since each returned before the next was
  -- invoked
  rises : (i : ℕ) → RisesFor i order
  rises i j k c less low mine other =
      let a : Done = get_or order j c in
      let b : Done = get_or order k c in
      elim (cases_lt a.call.number b.call.number) [
        | inl before ↦ before
        | inr past ↦ elim (cases_eq b.call.number a.call.number) [
          | inl same ↦
              absurd (lin.once j k c less low (ap (λ (x : ℕ). call_of x a.call.number)
              (mine ∙ sym other) ∙ ap (call_of b.call.caller) (sym same)))
          | inr away ↦
              let back : ReturnsBefore told b.call a.call =
              history.before b.call a.call
              (is_call a (Contains-get_or order j c (omega (arith, less, low))))
              (inr (other ∙ sym mine, omega (arith, past, away))) in
              let first = lin.ordered k j b a (slice_get-get_or order k c low)
              (slice_get-get_or order j c (omega (arith, less, low))) back in
              absurd (omega (arith, first, less))
        ]
      ]

  callers : All (λ (x : Entry). x.caller < s.callers) (map entry_of order)
  callers =
      All-map (λ (x : Entry). x.caller < s.callers) entry_of order
      (All-weaker (λ (d : Done). Contains told (Invoked d.call d.operation))
      (λ (d : Done). d.call.caller < s.callers)
      (λ d h. (invoked_is_announced s (start s) steps d.call d.operation (start_kept s) run h).0)
      order lin.invoked)

  -- A caller that has made this many phases.
  module _ (i : ℕ) (operations : List ℕ) (p : ℕ)
      (made : HasMade operations p (local_of last i)) where
    abbrev l : Local
    l = local_of last i

    -- each of its answered calls has taken effect, with the reply that the caller has
    pub answered_effect : (k : ℕ) → k < answered p
        → e.reply last (call_of i k) ≡ Some (slice_index l.replies k)
    answered_effect k low =
        let has = answered_has operations p l made (lengths i) k low in
        let back : Contains told (Returned (call_of i k) (slice_index l.replies k)) =
        history.returned (call_of i k) (record_in l k)
        (record_in_book last.locals lengths (call_of i k) has.0) in
        let found = lin.returned (call_of i k) (slice_index l.replies k) back in
        of.replied
        (record { call = call_of i k; operation = found.0; reply = slice_index l.replies k })
        found.1

    module _ (as_asked : TakesEffectAsAsked e last i p) where
      stands_with : (k reply : ℕ) → e.reply last (call_of i k) ≡ Some reply → (d : Done)
          × Contains order d × (d.call ≡ call_of i k)
      stands_with k reply is = let found = of.stands (call_of i k) reply is in
          (record { call = call_of i k; operation = found.0; reply = reply }, found.1, refl)

      all : (k : ℕ) → k < asked p → (d : Done) × Contains order d × (d.call ≡ call_of i k)
      all k low =
          elim (cases_lt k (answered p)) [
            | inl early ↦ stands_with k (slice_index l.replies k) (answered_effect k early)
            | inr past ↦
                let now = as_asked.asked_for (omega (arith, past, low)) in
                let here : judged p ≡ k = omega (arith, past, low) in
                stands_with k now.0 (ap (λ (j : ℕ). e.reply last (call_of i j)) (sym here) ∙ now.1)
          ]

      own_asks : (d : Done) → Contains order d → d.call.caller ≡ i
          → slice_get l.operations d.call.number ≡ Some d.operation
      own_asks d there mine =
          subst (λ (j : ℕ). slice_get (local_of last j).operations d.call.number ≡ Some d.operation)
          mine (asks_for d there)

      few : (d : Done) → Contains order d → d.call.caller ≡ i → d.call.number < asked p
      few d there mine =
          let low : d.call.number < begun p =
          omega (
            arith,
            slice_get_within l.operations d.call.number d.operation (own_asks d there mine),
            has_begun operations p l made,
          ) in
          elim (cases_lt d.call.number (asked p)) [
            | inl early ↦ early
            | inr past ↦
                let none = as_asked.unasked (omega (arith, past, low)) in
                let here : d.call.number ≡ judged p = omega (arith, past, low) in
                absurd (none-some d.reply
                (sym none
                ∙ ap (λ (j : ℕ). e.reply last (call_of i j)) (sym here)
                ∙ ap (λ (j : ℕ). e.reply last (call_of j d.call.number)) (sym mine)
                ∙ of.replied d there))
          ]

      first : HasFirstCalls order i (asked p) l.operations
      first = record { rises = rises i; few = few; all = all; asks = own_asks }

      entries : calls_by i (map entry_of order) ≡ take (asked p) (operations_of (calls_in l))
      entries = calls_of_order i order ∙ own_operations order i (asked p) l.operations first
          ∙ ap (take (asked p)) (sym (operations_with l))

      step_is : (k : ℕ) → k < answered p
          → slice_get (map step_of (own_in i order)) k ≡ Some (answer_at operations p l made k)
      step_is k low =
          let d = own_at order i (asked p) l.operations first k (omega (arith, low)) in
          let operation : d.0.operation ≡ slice_index l.operations k =
          sym (get_or_from_slice_get l.operations k d.0.operation 0
          (ap (slice_get l.operations) (sym d.4) ∙ own_asks d.0 d.2 d.3)) in
          let reply : d.0.reply ≡ slice_index l.replies k =
          same_Some d.0.reply (slice_index l.replies k)
          (sym (of.replied d.0 d.2)
          ∙ ap (λ (j : ℕ). e.reply last (call_of j d.0.call.number)) d.3
          ∙ ap (λ (j : ℕ). e.reply last (call_of i j)) d.4
          ∙ answered_effect k low) in
          slice_get-map step_of (own_in i order) k
          ∙ ap (option_map step_of) d.1
          ∙ ap₂ (λ (o r : ℕ). Some (o, r)) operation reply

      replies : take (answered p) (pairs_of (last_reply spec.next spec.init) (map entry_of order) i)
          ≡ answers_in (calls_in l)
      replies =
          ap (take (answered p)) (pairs_of_order spec i [] order lin.legal)
          ∙ answers_are_first operations p l made (lengths i) (map step_of (own_in i order)) step_is

  -- where the calls that took effect are those that were asked, they are in one log
  pub effects_are_logged : (operations : ℕ → List ℕ) (phases : ℕ → ℕ)
      → ((i : ℕ) → i < s.callers → HasMade (operations i) (phases i) (local_of last i))
      → ((i : ℕ) → i < s.callers → TakesEffectAsAsked e last i (phases i)) → IsLoggedBy
      (last_reply spec.next spec.init) s.callers phases (λ i. calls_in (local_at last.locals i))
  effects_are_logged operations phases made as_asked =
      record {
        log = map entry_of order;
        callers = callers;
        entries = λ i low. entries i (operations i) (phases i) (made i low) (as_asked i low);
        replies = λ i low. replies i (operations i) (phases i) (made i low) (as_asked i low);
      }
