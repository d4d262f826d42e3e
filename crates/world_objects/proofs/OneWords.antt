-- Objects of one word have effects: a call takes effect at its step, or, where it makes none, at
-- its announcement.
use Rattle.std.proofs.Common.{◌≡◌, ◌≢◌, ℕ, zero, suc, true, false, ◌&&◌, ◌==◌, if◌then◌else◌, List, [], ◌∷◌, ◌++◌, length, Option, Some, None, slice_get, slice_index_or, refl, sym, ap, ◌∙◌, subst, arith, IsTrue, inl, inr}
use Rattle.std.proofs.lemmas.Bool.{and_parts, cases_eq, cases_Bool, eqb-true}
use Rattle.std.proofs.lemmas.List.{get_or-set_other, get_or-set_same, get_or_past}
use Rattle.std.proofs.lemmas.Option.{slice_get_past}
use Rattle.list_laws.proofs.Places.{get_or-replicate_default, slice_get-push_last}
use Rattle.book_base.specs.declared.TheConstants.{BAD}
use Rattle.book_base.specs.declared.call.Call.{Call}
use Rattle.book_base.specs.SeqSpec.{SeqSpec}
use Rattle.world_core.specs.Layout.{object_index}
use Rattle.world_core.specs.Shape.{Shape, words_of}
use Rattle.world_core.specs.Local.{Local, Object_step, fresh, with_step}
use Rattle.world_core.specs.CallSteps.{operation_now, steps_now}
use Rattle.world_core.specs.Event.{Event, Object}
use Rattle.world_core.specs.World.{World, local_of, object_word, after, is_possible}
use Rattle.world_core.specs.History.{call_of}
use Rattle.world_laws.proofs.Running.{Kept, possible, other_local}
use Rattle.world_laws.proofs.ObjectWords.{Adds, Adds_nothing, Adds_call, Adds_step, IsNoObjectStep, step_adds, objects_stay, object_is}
use Rattle.world_objects.specs.Effects.{IsQuiet, IsQuietOrTakesEffect, HasEffects}
use Rattle.world_objects.specs.OneWord.{OneWord, one_word_shape, reply_by_step, reply_of, is_without_steps, is_reply, Serves, reply_if_announced, reply_in, one_word_effects, OneWordsLinearize, OneWordOrdersAreOfSteps}
use Rattle.world_objects.proofs.AskedCalls.{reachable_kept, object_step, return}
use Rattle.world_objects.proofs.EffectOrders.{effects_linearize, the_order_is_of_effects}

-- a list with one more item has the same items at the other places
slice_get-push_other : (xs : List ℕ) (y k : ℕ) → k ≢ length xs
    → slice_get (xs ++ y ∷ []) k ≡ slice_get xs k
slice_get-push_other [] y zero away = absurd (away refl)
slice_get-push_other [] y (suc k) away = refl
slice_get-push_other (x ∷ xs) y zero away = refl
slice_get-push_other (x ∷ xs) y (suc k) away =
    slice_get-push_other xs y k (λ same. away (ap suc same))

-- a new call has no steps, and the earlier calls have the steps that they had
pub steps_of-push : (xs : List (List Object_step)) (k : ℕ)
    → slice_index_or (xs ++ [] ∷ []) k [] ≡ slice_index_or xs k []
steps_of-push [] zero = refl
steps_of-push [] (suc k) = refl
steps_of-push (x ∷ xs) zero = refl
steps_of-push (x ∷ xs) (suc k) = steps_of-push xs k

without_steps : (steps : List Object_step) → is_without_steps steps ≡ true → steps ≡ []
without_steps [] h = refl
without_steps (step ∷ more) h = absurd cc

pub reply_is : (x : Option ℕ) (reply : ℕ) → is_reply x reply ≡ true → x ≡ Some reply
reply_is None reply h = absurd cc
reply_is (Some x) reply h = ap Some (sym (eqb-true reply x h))

module _ (o : OneWord) (list : ℕ → List ℕ) (spec : SeqSpec) (serves : Serves o list spec)
    (n cap : ℕ) where
  abbrev s : Shape
  s = one_word_shape n cap o

  reply_at_once : (operation : ℕ) → o.makes_step operation ≡ false → (steps : List Object_step)
      → reply_of o operation steps ≡ Some BAD
  reply_at_once operation none steps =
      ap (λ b. if b then reply_by_step o operation steps else Some BAD) none

  reply_of_step : (operation : ℕ) → o.makes_step operation ≡ true → (steps : List Object_step)
      → reply_of o operation steps ≡ reply_by_step o operation steps
  reply_of_step operation some steps =
      ap (λ b. if b then reply_by_step o operation steps else Some BAD) some

  -- An event of a caller.
  module _ (w : World) (who : ℕ) (kept : Kept s w) (event : Event)
      (may : IsTrue (is_possible s w (record { who = who; event = event }))) where
    abbrev l : Local
    l = local_of w who

    abbrev v : World
    v = after s w (record { who = who; event = event })

    abbrev m : Local
    m = local_of v who

    -- the other callers' replies stay
    others_stay : (call : Call) → call.caller ≢ who → reply_in o
        (local_of v call.caller) call.number ≡ reply_in o (local_of w call.caller) call.number
    others_stay call away = ap (λ (q : Local). reply_in o q call.number)
        (other_local s w (record { who = who; event = event }) call.caller away)

    -- all replies stay but that of one call
    others_of : (k : ℕ) → ((j : ℕ) → j ≢ k → reply_in o m j ≡ reply_in o l j) → (call : Call)
        → call ≢ call_of who k
        → reply_in o (local_of v call.caller) call.number
        ≡ reply_in o (local_of w call.caller) call.number
    others_of k own call away =
        elim (cases_eq call.caller who) [
          | inl here ↦
              subst (λ (i : ℕ). reply_in o (local_of v i) call.number
              ≡ reply_in o (local_of w i) call.number) (sym here)
              (own call.number
              (λ same. away (ap (λ (i : ℕ). call_of i call.number) here ∙ ap (call_of who) same)))
          | inr other ↦ others_stay call other
        ]

    -- the word and all replies stay
    quiet : IsNoObjectStep event → ((k : ℕ) → reply_in o m k ≡ reply_in o l k)
        → IsQuiet (one_word_effects s o list) w v
    quiet no_step own =
        record {
          list = ap list (objects_stay s w (record { who = who; event = event }) 0 may no_step);
          replies = λ call. elim (cases_eq call.caller who) [
            | inl here ↦
                subst (λ (i : ℕ). reply_in o (local_of v i) call.number
                ≡ reply_in o (local_of w i) call.number) (sym here) (own call.number)
            | inr away ↦ others_stay call away
          ];
        }

    -- the same calls have the same replies
    same_reply : m.operations ≡ l.operations → m.object_steps ≡ l.object_steps → (k : ℕ)
        → reply_in o m k ≡ reply_in o l k
    same_reply operations steps k =
        ap (λ (xs : List ℕ).
        reply_if_announced o (slice_get xs k) (slice_index_or m.object_steps k [])) operations
        ∙ ap (λ (xs : List (List Object_step)).
        reply_if_announced o (slice_get l.operations k) (slice_index_or xs k [])) steps

    -- The caller announces a call.
    module _ (operation : ℕ) (no_step : IsNoObjectStep event)
        (operations : m.operations ≡ l.operations ++ operation ∷ [])
        (steps : m.object_steps ≡ l.object_steps ++ [] ∷ []) where
      abbrev new : ℕ
      new = length l.operations

      same_steps : (j : ℕ) → slice_index_or m.object_steps j [] ≡ slice_index_or l.object_steps j []
      same_steps j = ap (λ (xs : List (List Object_step)). slice_index_or xs j []) steps
          ∙ steps_of-push l.object_steps j

      old_replies : (j : ℕ) → j ≢ new → reply_in o m j ≡ reply_in o l j
      old_replies j away =
          ap (λ (xs : List ℕ).
          reply_if_announced o (slice_get xs j) (slice_index_or m.object_steps j [])) operations
          ∙ ap (λ (x : Option ℕ). reply_if_announced o x (slice_index_or m.object_steps j []))
          (slice_get-push_other l.operations operation j away)
          ∙ ap (reply_if_announced o (slice_get l.operations j)) (same_steps j)

      is_there : slice_get m.operations new ≡ Some operation
      is_there = ap (λ (xs : List ℕ). slice_get xs new) operations
          ∙ slice_get-push_last l.operations operation

      no_reply : reply_in o l new ≡ None
      no_reply =
          ap (λ (x : Option ℕ). reply_if_announced o x (slice_index_or l.object_steps new []))
          (slice_get_past l.operations new (omega arith))

      new_reply : reply_in o m new ≡ reply_of o operation []
      new_reply =
          let h =
          (kept.agree who (possible s w (record { who = who; event = event }) may).caller).phase in
          ap
          (λ (x : Option ℕ). reply_if_announced o x (slice_index_or m.object_steps new [])) is_there
          ∙ ap (reply_of o operation) (same_steps new
          ∙ get_or_past l.object_steps new [] (omega (arith, h.operations, h.object_steps)))

      announces : IsQuietOrTakesEffect spec.next s (one_word_effects s o list) w v
      announces =
          elim (cases_Bool (o.makes_step operation)) [
            | inl some ↦ inl (quiet no_step (λ j. elim (cases_eq j new) [
              | inl here ↦
                  subst (λ (i : ℕ). reply_in o m i ≡ reply_in o l i) (sym here)
                  (new_reply ∙ reply_of_step operation some [] ∙ sym no_reply)
              | inr away ↦ old_replies j away
            ]))
            | inr none ↦
                let is = serves.no_step operation (object_word s w 0) none in
                inr (
                  record { call = call_of who new; operation = operation; reply = BAD },
                  record {
                    announced = record {
                      caller = (possible s w (record { who = who; event = event }) may).caller;
                      is = is_there;
                    };
                    before = no_reply;
                    now = new_reply ∙ reply_at_once operation none [];
                    others = others_of new old_replies;
                    list =
                        ap (λ (p : List ℕ × ℕ). p.0) is
                        ∙ sym (ap list
                        (objects_stay s w (record { who = who; event = event }) 0 may no_step));
                    reply = ap (λ (p : List ℕ × ℕ). p.1) is;
                  },
                )
          ]

  -- A caller makes an object step.
  module _ (w : World) (who : ℕ) (kept : Kept s w) (step : Object_step)
      (may : IsTrue (is_possible s w (record { who = who; event = Object step })))
      (operations :
      (local_of (after s w (record { who = who; event = Object step })) who).operations
      ≡ (local_of w who).operations)
      (object_steps :
      (local_of (after s w (record { who = who; event = Object step })) who).object_steps
      ≡ with_step (local_of w who).object_steps (local_of w who).published step) where
    abbrev me : Local
    me = local_of w who

    abbrev u : World
    u = after s w (record { who = who; event = Object step })

    abbrev mine : Local
    mine = local_of u who

    abbrev k : ℕ
    k = me.published

    makes_step : IsQuietOrTakesEffect spec.next s (one_word_effects s o list) w u
    makes_step =
        let p = object_step s w who step kept may in
        let op : ℕ = operation_now me in
        let a = and_parts (o.makes_step op)
        (is_without_steps (steps_now me) && step.new == o.leaves op step.old) p.allowed in
        let b =
        and_parts (is_without_steps (steps_now me)) (step.new == o.leaves op step.old) a.1 in
        let place : step.place ≡ 0 = omega (arith, p.place) in
        let found : step.old ≡ object_word s w 0 = p.found ∙ ap (object_word s w) place in
        let left : object_word s u 0 ≡ o.leaves op (object_word s w 0) =
        ap (object_word s u) (sym place) ∙ object_is s w who step kept p.place
        ∙ eqb-true step.new (o.leaves op step.old) b.1 ∙ ap (o.leaves op) found in
        let is = serves.step op (object_word s w 0) a.0 in
        let none : steps_now me ≡ [] = without_steps (steps_now me) b.0 in
        let there : slice_get mine.operations k ≡ Some op =
        ap (λ (xs : List ℕ). slice_get xs k) operations ∙ p.call.operation in
        let one : slice_index_or mine.object_steps k [] ≡ step ∷ [] =
        ap (λ (xs : List (List Object_step)). slice_index_or xs k []) object_steps
        ∙ get_or-set_same me.object_steps k (steps_now me ++ step ∷ []) [] p.call.has_steps
        ∙ ap (λ (xs : List Object_step). xs ++ step ∷ []) none in
        inr (
          record { call = call_of who k; operation = op; reply = o.replies op (object_word s w 0) },
          record {
            announced = record { caller = p.caller; is = there };
            before =
                ap (λ (x : Option ℕ). reply_if_announced o x (steps_now me)) p.call.operation
                ∙ reply_of_step op a.0 (steps_now me) ∙ ap (reply_by_step o op) none;
            now =
                ap (λ (x : Option ℕ).
                reply_if_announced o x (slice_index_or mine.object_steps k [])) there
                ∙ reply_of_step op a.0 (slice_index_or mine.object_steps k [])
                ∙ ap (reply_by_step o op) one ∙ ap (λ (x : ℕ). Some (o.replies op x)) found;
            others = others_of w who kept (Object step) may k (λ j away.
                ap (λ (xs : List ℕ). reply_if_announced o (slice_get xs j)
                (slice_index_or mine.object_steps j [])) operations
                ∙ ap (λ (xs : List (List Object_step)). reply_if_announced o
                (slice_get me.operations j) (slice_index_or xs j [])) object_steps
                ∙ ap (reply_if_announced o (slice_get me.operations j))
                (get_or-set_other me.object_steps k j (steps_now me ++ step ∷ []) [] away));
            list = ap (λ (q : List ℕ × ℕ). q.0) is ∙ sym (ap list left);
            reply = ap (λ (q : List ℕ × ℕ). q.1) is;
          },
        )

  by_event : (w : World) (who : ℕ) (kept : Kept s w) (event : Event)
      (may : IsTrue (is_possible s w (record { who = who; event = event })))
      → Adds (local_of w who) (local_of (after s w (record { who = who; event = event })) who) event
      → IsQuietOrTakesEffect spec.next s (one_word_effects s o list) w
      (after s w (record { who = who; event = event }))
  by_event w who kept event may (Adds_nothing no_step operations steps) =
      inl (quiet w who kept event may no_step (same_reply w who kept event may operations steps))
  by_event w who kept event may (Adds_call operation is operations steps) =
      announces w who kept event may operation (subst IsNoObjectStep (sym is) tt) operations steps
  by_event w who kept event may (Adds_step step is operations steps) =
      let v : Event → World = λ ev. after s w (record { who = who; event = ev }) in
      subst (λ (ev : Event). IsQuietOrTakesEffect spec.next s (one_word_effects s o list) w (v ev))
      (sym is)
      (makes_step w who kept step
      (subst (λ (ev : Event). IsTrue (is_possible s w (record { who = who; event = ev }))) is may)
      (subst (λ (ev : Event). (local_of (v ev) who).operations ≡ (local_of w who).operations)
      is operations)
      (subst (λ (ev : Event). (local_of (v ev) who).object_steps
      ≡ with_step (local_of w who).object_steps (local_of w who).published step) is steps))

  pub has_effects : HasEffects spec s (one_word_effects s o list)
  has_effects =
      record {
        first =
            ap list (get_or-replicate_default (words_of s) (object_index n cap 0) 0) ∙ serves.first;
        none = λ call. ap (λ (l : Local). reply_in o l call.number)
            (get_or-replicate_default n call.caller fresh);
        step = λ w step reach may.
            let kept = reachable_kept s w reach in
            by_event w step.who kept step.event may (step_adds s w step kept may);
        returns = λ w i x reply reach may.
            let l : Local = local_of w i in
            let p = return s w i x reply (reachable_kept s w reach) may in
            ap (reply_in o l) p.call.replies
            ∙ ap (λ (x : Option ℕ). reply_if_announced o x (steps_now l)) p.call.operation
            ∙ reply_is (reply_of o (operation_now l) (steps_now l)) reply p.allowed;
      }

pub one_words_linearize : OneWordsLinearize
one_words_linearize o list spec serves n cap steps run =
    effects_linearize spec (one_word_shape n cap o)
    (one_word_effects (one_word_shape n cap o) o list)
    (has_effects o list spec serves n cap) steps run

pub one_word_orders_are_of_steps : OneWordOrdersAreOfSteps
one_word_orders_are_of_steps o list spec serves n cap steps run =
    the_order_is_of_effects spec (one_word_shape n cap o)
    (one_word_effects (one_word_shape n cap o) o list)
    (has_effects o list spec serves n cap) steps run
