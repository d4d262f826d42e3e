-- The calls of a log take effect one at a time, each as its ticket is placed.
use Rattle.std.proofs.Common.{◌≡◌, ◌≢◌, ℕ, zero, suc, ◌+◌, ◌-◌, ◌*◌, ◌<◌, ◌≤◌, Bool, true, false, ◌==◌, nat_lt, if◌then◌else◌, List, [], ◌∷◌, ◌++◌, length, Option, Some, None, slice_get, refl, sym, ap, ◌∙◌, subst, arith, IsTrue, inl, inr, ne_eqb}
use Rattle.std.proofs.lemmas.Bool.{cases_eq, cases_lt, cases_Bool, lt-ltb, ltb-true, cond-true, cond-false}
use Rattle.std.proofs.lemmas.Option.{same_Some, none-some}
use Rattle.std.proofs.lemmas.Nat.{same_from_place}
use Rattle.list_laws.proofs.Places.{get_or-replicate_default}
use Rattle.book_base.specs.SeqSpec.{SeqSpec}
use Rattle.book_base.specs.OperationWord.{low_of, high_of, joined}
use Rattle.world_core.specs.Layout.{object_index}
use Rattle.world_core.specs.Shape.{Shape, words_of}
use Rattle.world_core.specs.Local.{Local, Object_step, with_step}
use Rattle.world_core.specs.CallSteps.{operation_now, steps_now, all_steps_of}
use Rattle.world_core.specs.Event.{Event, Object}
use Rattle.world_core.specs.World.{World, start, local_of, object_word, after, is_possible}
use Rattle.world_core.specs.History.{Done, call_of}
use Rattle.world_laws.specs.Views.{return_of}
use Rattle.world_laws.proofs.Each.{Each, each_at}
use Rattle.world_laws.proofs.Running.{Kept}
use Rattle.world_laws.proofs.ObjectWords.{Adds, Adds_nothing, Adds_call, Adds_step, IsNoObjectStep, step_adds, objects_stay}
use Rattle.world_objects.specs.Effects.{IsQuiet, TakesEffect, IsQuietOrTakesEffect, HasEffects}
use Rattle.world_objects.proofs.AskedCalls.{reachable_kept, return}
use Rattle.world_objects.proofs.EffectOrders.{effects_linearize}
use Rattle.world_objects.proofs.OneWords.{reply_is}
use Rattle.world_objects.specs.LogWords.{number_of, low_place, high_place, ticket_place, ticket_of, known, are_filled_below, placed_at, joined_if_known, known_operation, with_operation, known_log}
use Rattle.world_objects.specs.LogProgram.{list_of, reply_if_known, known_reply, log_shape}
use Rattle.world_objects.specs.LogEffects.{operation_at, operations_below, place_with, reply_there, reply_of_number, log_effects, LogsLinearize}
use Rattle.world_objects.specs.LogRules.{IsCallOf, HoldsOperation, IsLasting, IsLog}
use Rattle.world_objects.proofs.LogWords.{known_step, placed_step, operations_same, operations_end, place_found, no_place, place_is, place_same, each_of_all}
use Rattle.world_objects.proofs.LogSteps as logs

list_of-push : (next : List ℕ → ℕ → List ℕ × ℕ) (list operations : List ℕ) (operation : ℕ)
    → list_of next list (operations ++ operation ∷ [])
    ≡ (next (list_of next list operations) operation).0
list_of-push next list [] operation = refl
list_of-push next list (x ∷ xs) operation = list_of-push next (next list x).0 xs operation

joined_halves : (operation : ℕ) → joined (low_of operation) (high_of operation) ≡ operation
joined_halves operation = omega arith

abbrev nothing : Option ℕ
nothing = None

both_none : (b : Bool) → (if b then nothing else nothing) ≡ nothing
both_none true = refl
both_none false = refl

module _ (spec : SeqSpec) (n cap : ℕ) where
  abbrev s : Shape
  s = log_shape spec n cap

  abbrev total : ℕ
  total = n * cap

  abbrev ticket : World → ℕ → ℕ
  ticket w q = object_word s w (ticket_place total q)

  -- From one world to another, where the words of operations stay.
  module _ (w u : World) (log : IsLog s w) (held : (place : ℕ) → HoldsOperation s w place
      → object_word s u place ≡ object_word s w place) where
    abbrev f : ℕ → ℕ
    f = object_word s w

    abbrev g : ℕ → ℕ
    g = object_word s u

    -- the words of a call whose ticket is in the log stay as they are
    module _ (q : ℕ) (low : q < total) (filled : ticket w q ≢ 0) (number : ℕ)
        (is : ticket w q ≡ ticket_of number) where
      words_stay : (f (low_place number) ≡ g (low_place number))
          × (f (high_place number) ≡ g (high_place number))
      words_stay =
          let t = log.named q low filled in
          let same : number_of cap t.i t.k ≡ number = omega (arith, t.ticket, is) in (
            subst (λ (x : ℕ). f (low_place x) ≡ g (low_place x)) same (sym
                (held (low_place (number_of cap t.i t.k)) (logs.holds_low spec n cap w q t))),
            subst (λ (x : ℕ). f (high_place x) ≡ g (high_place x)) same (sym (held
                (high_place (number_of cap t.i t.k)) (logs.holds_high spec n cap w q t))),
          )

      operation_stays : joined (f (low_place number)) (f (high_place number))
          ≡ joined (g (low_place number)) (g (high_place number))
      operation_stays = ap (λ (x : ℕ). joined x (f (high_place number))) words_stay.0
          ∙ ap (λ (x : ℕ). joined (g (low_place number)) x) words_stay.1

    named_operation_stays : (q : ℕ) → q < total → ticket w q ≡ ticket u q
        → operation_at f (f (ticket_place total q)) ≡ operation_at g (g (ticket_place total q))
    named_operation_stays q low same =
        elim (cases_eq (ticket w q) 0) [
          | inl free ↦ ap (operation_at f) free ∙ sym (ap (operation_at g) (sym same ∙ free))
          | inr filled ↦
              let t = log.named q low filled in
              let number : ℕ = number_of cap t.i t.k in
              let at : ticket w q ≡ suc number = omega (arith, t.ticket) in
              ap (operation_at f) at
              ∙ ap (λ (x : ℕ). x ∷ []) (operation_stays q low filled number t.ticket)
              ∙ sym (ap (operation_at g) (sym same ∙ at))
        ]

    below_stays : (m : ℕ) → m ≤ total → ((q : ℕ) → q < m → ticket w q ≡ ticket u q)
        → operations_below f total m ≡ operations_below g total m
    below_stays m le same = operations_same f g total m
        (λ q low. named_operation_stays q (omega (arith, low, le)) (same q low))

    -- the reply of a call whose ticket is in the log stays where the tickets below it stay
    reply_stays : (number : ℕ) (o : Option ℕ) → ((p : ℕ) → o ≡ Some p → (p < total)
        × (ticket w p ≡ ticket_of number) × ((q : ℕ) → q < p → ticket w q ≡ ticket u q))
        → reply_there spec f total number o ≡ reply_there spec g total number o
    reply_stays number None h = refl
    reply_stays number (Some p) h =
        let found = h p refl in
        let filled : ticket w p ≢ 0 = λ free. omega (arith, sym found.1 ∙ free) in
        ap (λ (xs : List ℕ). Some
        (spec.next (list_of spec.next spec.init xs)
        (joined (f (low_place number)) (f (high_place number)))).1)
        (below_stays p (omega (arith, found.0)) found.2)
        ∙ ap
        (λ (x : ℕ). Some (spec.next (list_of spec.next spec.init (operations_below g total p)) x).1)
        (operation_stays p found.0 filled number found.1)

    -- where all tickets stay, no call takes effect
    quiet : ((q : ℕ) → q < total → ticket w q ≡ ticket u q) → IsQuiet (log_effects spec n cap) w u
    quiet same =
        record {
          list = ap (list_of spec.next spec.init) (sym (below_stays total (omega arith) same));
          replies = λ call.
              let number : ℕ = number_of cap call.caller call.number in
              let places : place_with f total (ticket_of number) total
              ≡ place_with g total (ticket_of number) total =
              place_same f g total (ticket_of number) total
              (λ q low. ap (λ (x : ℕ). x == ticket_of number) (same q low)) in
              let replies : reply_of_number spec f total number
              ≡ reply_of_number spec g total number =
              reply_stays number (place_with f total (ticket_of number) total)
              (λ p is. let found = place_is f total (ticket_of number) total p is in
              (found.0, found.1, λ q below. same q (omega (arith, below, found.0))))
              ∙ ap (reply_there spec g total number) places in
              ap (λ (o : Option ℕ). if nat_lt call.number cap then o else None) (sym replies);
        }

  -- A step that places a ticket: no other call takes effect.
  module _ (w : World) (who : ℕ) (kept : Kept s w) (log : IsLog s w) (step : Object_step)
      (may : IsTrue (is_possible s w (record { who = who; event = Object step })))
      (added : Adds (local_of w who)
      (local_of (after s w (record { who = who; event = Object step })) who) (Object step))
      (steps : (local_of (after s w (record { who = who; event = Object step })) who).object_steps
      ≡ with_step (local_of w who).object_steps (local_of w who).published step)
      (high : 2 * (n * cap) ≤ step.place) (free : step.old ≡ 0)
      (is : step.new ≡ ticket_of (number_of cap who (local_of w who).published))
      (below : IsTrue
      (are_filled_below (n * cap) (all_steps_of (local_of w who)) (step.place - 2 * (n * cap))))
      (has_low : (x : ℕ) × (known (low_place (number_of cap who (local_of w who).published))
      (steps_now (local_of w who)) ≡ Some x))
      (has_high : (x : ℕ) × (known (high_place (number_of cap who (local_of w who).published))
      (steps_now (local_of w who)) ≡ Some x))
      (none : placed_at (n * cap) (ticket_of (number_of cap who (local_of w who).published))
      (steps_now (local_of w who)) ≡ None) where
    abbrev u : World
    u = after s w (record { who = who; event = Object step })

    abbrev k : ℕ
    k = (local_of w who).published

    abbrev number : ℕ
    number = number_of cap who k

    abbrev operation : ℕ
    operation = operation_now (local_of w who)

    abbrev p : ℕ
    p = step.place - 2 * (n * cap)

    call : IsCallOf s w who k operation
    call = logs.call spec n cap w who kept log step may added steps

    p_low : p < total
    p_low = logs.p_low spec n cap w who kept log step may added steps high

    was_free : ticket w p ≡ 0
    was_free = logs.was_free spec n cap w who kept log step may added steps high free is below
        has_low has_high none

    is_placed : ticket u p ≡ ticket_of number
    is_placed = logs.is_placed spec n cap w who kept log step may added steps high free is
        below has_low has_high none

    away_from : (q : ℕ) → q ≢ p → ticket u q ≡ ticket w q
    away_from = logs.away_from spec n cap w who kept log step may added steps high free is
        below has_low has_high none

    m : logs.Keeps spec n cap w u
    m = logs.keeps_placing spec n cap w who kept log step may added steps high free is below
        has_low has_high none

    own_low : object_word s u (low_place number) ≡ low_of operation
    own_low = logs.own_low spec n cap w who kept log step may added steps high free is below
        has_low has_high none

    own_high : object_word s u (high_place number) ≡ high_of operation
    own_high = logs.own_high spec n cap w who kept log step may added steps high free is below
        has_low has_high none

    nowhere : (q : ℕ) → q < total → ticket w q ≡ ticket_of number → ⊥
    nowhere = logs.nowhere spec n cap w who kept log step may added steps high none

    -- from the free place on all places are free
    free_from : (q : ℕ) → p ≤ q → q < total → ticket w q ≡ 0
    free_from zero from low = let same : zero ≡ p = omega (arith, from) in
        ap (ticket w) same ∙ was_free
    free_from (suc q) from low =
        elim (cases_eq p (suc q)) [
          | inl here ↦ ap (ticket w) (sym here) ∙ was_free
          | inr away ↦
              let before = free_from q (omega (arith, from, away)) (omega (arith, low)) in
              elim (cases_eq (ticket w (suc q)) 0) [
                | inl free_there ↦ free_there
                | inr filled ↦
                    let more : suc q ≡ q + 1 = omega arith in
                    absurd (log.prefix q (omega (arith, low))
                    (λ free_there. filled (ap (ticket w) more ∙ free_there)) before)
              ]
        ]

    words_are : joined (object_word s u (low_place number))
        (object_word s u (high_place number)) ≡ operation
    words_are =
        ap (λ (x : ℕ). joined x (object_word s u (high_place number))) own_low
        ∙ ap (λ (x : ℕ). joined (low_of operation) x) own_high ∙ joined_halves operation

    below_is : (q : ℕ) → q ≤ p
        → operations_below (object_word s w) total q ≡ operations_below (object_word s u) total q
    below_is q le = below_stays w u log m.held q (omega (arith, le, p_low))
        (λ r low. sym (away_from r (λ same. omega (arith, same, low, le))))

    log_was : operations_below (object_word s w) total total
        ≡ operations_below (object_word s w) total p
    log_was = operations_end (object_word s w) total p total (omega (arith, p_low)) free_from

    log_is : operations_below (object_word s u) total total
        ≡ operations_below (object_word s w) total p ++ operation ∷ []
    log_is =
        let at : ticket u p ≡ suc number = omega (arith, is_placed) in
        operations_end (object_word s u) total (suc p) total (omega (arith, p_low))
        (λ q from low. away_from q (λ same. omega (arith, same, from))
        ∙ free_from q (omega (arith, from)) low)
        ∙ ap (λ (xs : List ℕ). xs ++ operation_at (object_word s u) (ticket u p))
        (sym (below_is p (omega arith)))
        ∙ ap
        (λ (x : ℕ). operations_below (object_word s w) total p ++ operation_at (object_word s u) x)
        at
        ∙ ap (λ (x : ℕ). operations_below (object_word s w) total p ++ x ∷ []) words_are

    abbrev list_was : List ℕ
    list_was = list_of spec.next spec.init (operations_below (object_word s w) total total)

    abbrev d : Done
    d = record {
      call = call_of who k;
      operation = operation;
      reply = (spec.next list_was operation).1;
    }

    new_reply : reply_of_number spec (object_word s u) total number
        ≡ Some (spec.next list_was operation).1
    new_reply =
        ap (reply_there spec (object_word s u) total number)
        (place_found (object_word s u) total (ticket_of number) total p p_low is_placed
        (λ q low at. elim (cases_eq q p) [
          | inl here ↦ here
          | inr away ↦ absurd (nowhere q low (sym (away_from q away) ∙ at))
        ]))
        ∙ ap (λ (x : ℕ).
        Some (spec.next (list_of spec.next spec.init (operations_below (object_word s u) total p))
        x).1) words_are
        ∙ ap (λ (xs : List ℕ). Some (spec.next (list_of spec.next spec.init xs) operation).1)
        (sym (log_was ∙ below_is p (omega arith)))

    -- the replies of other calls stay
    other_tests : (other : ℕ) → other ≢ number → (q : ℕ) → q < total
        → (ticket w q == ticket_of other) ≡ (ticket u q == ticket_of other)
    other_tests other away q low =
        elim (cases_eq q p) [
          | inl here ↦
              ap (λ (r : ℕ). ticket w r == ticket_of other) here
              ∙ ne_eqb (ticket w p) (ticket_of other) (λ same. omega (arith, sym was_free ∙ same))
              ∙ sym (ap (λ (r : ℕ). ticket u r == ticket_of other) here ∙ ne_eqb (ticket u p)
              (ticket_of other) (λ same. away (omega (arith, sym is_placed ∙ same))))
          | inr off ↦ ap (λ (x : ℕ). x == ticket_of other) (sym (away_from q off))
        ]

    other_replies : (other : ℕ) → other ≢ number → reply_of_number spec
        (object_word s u) total other ≡ reply_of_number spec (object_word s w) total other
    other_replies other away =
        sym (reply_stays w u log m.held other
        (place_with (object_word s w) total (ticket_of other) total)
        (λ r at.
        let found = place_is (object_word s w) total (ticket_of other) total r at in
        let low : r < p = elim (cases_lt r p) [
          | inl before ↦ before
          | inr from ↦ absurd (omega (arith, sym found.1 ∙ free_from r from found.0))
        ] in (
          found.0,
          found.1,
          λ q before. sym (away_from q (λ same. omega (arith, same, before, low))),
        ))
        ∙ ap (reply_there spec (object_word s u) total other) (place_same (object_word s w)
        (object_word s u) total (ticket_of other) total (other_tests other away)))

    takes : TakesEffect spec.next s (log_effects spec n cap) w u d
    takes =
        record {
          announced = record {
            caller = call.caller;
            is = (m.locals who).operations k operation call.there;
          };
          before =
              cond-true (nat_lt k cap) (reply_of_number spec (object_word s w) total number)
              None (lt-ltb k cap call.few)
              ∙ ap (reply_there spec (object_word s w) total number) (no_place
              (object_word s w) total (ticket_of number) total (λ q low at. nowhere q low at));
          now = cond-true (nat_lt k cap) (reply_of_number spec (object_word s u) total number)
              None (lt-ltb k cap call.few) ∙ new_reply;
          others = λ c away. elim (cases_Bool (nat_lt c.number cap)) [
            | inl few ↦
                let other : number_of cap c.caller c.number ≢ number =
                λ same.
                let parts = same_from_place c.caller c.number who k cap
                (ltb-true c.number cap few) call.few same in
                away (ap (λ (i : ℕ). call_of i c.number) parts.0 ∙ ap (call_of who) parts.1) in
                ap (λ (o : Option ℕ). if nat_lt c.number cap then o else None)
                (other_replies (number_of cap c.caller c.number) other)
            | inr many ↦
                cond-false (nat_lt c.number cap) (reply_of_number spec (object_word s u) total
                (number_of cap c.caller c.number)) None many
                ∙ sym (cond-false (nat_lt c.number cap) (reply_of_number spec
                (object_word s w) total (number_of cap c.caller c.number)) None many)
          ];
          list =
              ap (λ (xs : List ℕ). (spec.next (list_of spec.next spec.init xs) operation).0) log_was
              ∙ sym (ap (list_of spec.next spec.init) log_is
              ∙ list_of-push spec.next spec.init
              (operations_below (object_word s w) total p) operation);
          reply = refl;
        }

  -- The operations that a caller knows are those of the words.
  with_operation_is : (a : Option (List ℕ)) (b : Option ℕ) (operations : List ℕ)
      → with_operation a b ≡ Some operations
      → (before : List ℕ) × (operation : ℕ) × (a ≡ Some before) × (b ≡ Some operation)
      × (before ++ operation ∷ [] ≡ operations)
  with_operation_is None b operations e = absurd cc
  with_operation_is (Some before) None operations e = absurd cc
  with_operation_is (Some before) (Some operation) operations e =
      let same : before ++ operation ∷ [] ≡ operations = cc in (before, operation, refl, refl, same)

  joined_is : (a b : Option ℕ) (operation : ℕ) → joined_if_known a b ≡ Some operation → (low : ℕ)
      × (high : ℕ) × (a ≡ Some low) × (b ≡ Some high) × (joined low high ≡ operation)
  joined_is None b operation e = absurd cc
  joined_is (Some low) None operation e = absurd cc
  joined_is (Some low) (Some high) operation e =
      (low, high, refl, refl, same_Some (joined low high) operation e)

  known_operation_is : (o : Option ℕ) (steps : List Object_step) (operation : ℕ)
      → known_operation o steps ≡ Some operation
      → (number : ℕ) × (o ≡ Some (suc number)) × (joined_if_known (known (low_place number) steps)
      (known (high_place number) steps) ≡ Some operation)
  known_operation_is None steps operation e = absurd cc
  known_operation_is (Some zero) steps operation e = absurd cc
  known_operation_is (Some (suc number)) steps operation e = (number, refl, e)

  module _ (w : World) (steps : List Object_step) (lasting : Each (IsLasting s w) steps) where
    known_word : (place x : ℕ) → known place steps ≡ Some x → object_word s w place ≡ x
    known_word place x e = let found = known_step (IsLasting s w) place x steps lasting e in
        ap (object_word s w) (sym found.at) ∙ found.holds.stands ∙ found.left

    known_log_is : (m : ℕ) (operations : List ℕ) → known_log total steps m ≡ Some operations
        → operations_below (object_word s w) total m ≡ operations
    known_log_is zero operations e = let same : [] ≡ operations = cc in same
    known_log_is (suc m) operations e =
        let parts = with_operation_is (known_log total steps m)
        (known_operation (known (ticket_place total m) steps) steps) operations e in
        let there = known_operation_is (known (ticket_place total m) steps) steps parts.1 parts.3 in
        let halves = joined_is (known (low_place there.0) steps)
        (known (high_place there.0) steps) parts.1 there.2 in
        let word : ℕ → ℕ = object_word s w in
        let at : word (ticket_place total m) ≡ suc there.0 =
        known_word (ticket_place total m) (suc there.0) there.1 in
        let operation : joined (word (low_place there.0)) (word (high_place there.0)) ≡ parts.1 =
        ap (λ (x : ℕ). joined x (word (high_place there.0)))
        (known_word (low_place there.0) halves.0 halves.2)
        ∙ ap (λ (x : ℕ). joined halves.0 x) (known_word (high_place there.0) halves.1 halves.3)
        ∙ halves.4 in
        ap (λ (xs : List ℕ). xs ++ operation_at word (word (ticket_place total m)))
        (known_log_is m parts.0 parts.2)
        ∙ ap (λ (x : ℕ). parts.0 ++ operation_at word x) at
        ∙ ap (λ (x : ℕ). parts.0 ++ x ∷ []) operation ∙ parts.4

  -- What an allowed reply says: the own place in the log is known, and the operations below it.
  reply_at_is : (op reply : ℕ) (steps : List Object_step) (o : Option ℕ)
      → known_reply spec total op steps o ≡ Some reply → (p : ℕ) × (operations : List ℕ)
      × (o ≡ Some p) × (known_log total steps p ≡ Some operations)
      × ((spec.next (list_of spec.next spec.init operations) op).1 ≡ reply)
  reply_at_is op reply steps None e = absurd (none-some reply e)
  reply_at_is op reply steps (Some p) e = by_log (known_log total steps p) refl e
    where
      by_log : (l : Option (List ℕ)) → known_log total steps p ≡ l
          → reply_if_known spec op l ≡ Some reply
          → (q : ℕ) × (operations : List ℕ) × (Some p ≡ Some q)
          × (known_log total steps q ≡ Some operations)
          × ((spec.next (list_of spec.next spec.init operations) op).1 ≡ reply)
      by_log None is h = absurd (none-some reply h)
      by_log (Some operations) is h = (
        p,
        operations,
        refl,
        is,
        same_Some (spec.next (list_of spec.next spec.init operations) op).1 reply h,
      )

  -- The reply of a call whose ticket is at a place of the log.
  reply_of_ticket : (w : World) (i k p op reply : ℕ) (operations : List ℕ) → IsLog s w → k < cap
      → slice_get (local_of w i).operations k ≡ Some op → p < total → ticket w p
      ≡ ticket_of (number_of cap i k) → operations_below (object_word s w) total p ≡ operations
      → (spec.next (list_of spec.next spec.init operations) op).1 ≡ reply
      → (log_effects spec n cap).reply w (call_of i k) ≡ Some reply
  reply_of_ticket w i k p op reply operations log few there low stands below is =
      let number : ℕ = number_of cap i k in
      let word : ℕ → ℕ = object_word s w in
      let t = log.named p low (λ free. omega (arith, sym stands ∙ free)) in
      let one : number_of cap t.i t.k ≡ number = omega (arith, t.ticket, stands) in
      let same = same_from_place t.i t.k i k cap t.call.few few one in
      let mine : slice_get (local_of w i).operations k ≡ Some t.operation =
      subst (λ (j : ℕ). slice_get (local_of w j).operations k ≡ Some t.operation) same.0
      (subst (λ (m : ℕ). slice_get (local_of w t.i).operations m ≡ Some t.operation) same.1
      t.call.there) in
      let words : joined (word (low_place number)) (word (high_place number)) ≡ op =
      ap (λ (y : ℕ). joined (word (low_place y)) (word (high_place y))) (sym one)
      ∙ ap (λ (y : ℕ). joined y (word (high_place (number_of cap t.i t.k)))) t.low
      ∙ ap (λ (y : ℕ). joined (low_of t.operation) y) t.high
      ∙ joined_halves t.operation ∙ same_Some t.operation op (sym mine ∙ there) in
      let found : place_with word total (ticket_of number) total ≡ Some p =
      place_found word total (ticket_of number) total p low stands
      (λ q q_low at.
      log.once q p q_low low (λ free. omega (arith, sym at ∙ free)) (at ∙ sym stands)) in
      cond-true (nat_lt k cap) (reply_of_number spec word total number) None (lt-ltb k cap few)
      ∙ ap (reply_there spec word total number) found
      ∙ ap (λ (y : ℕ).
      Some (spec.next (list_of spec.next spec.init (operations_below word total p)) y).1) words
      ∙ ap (λ (xs : List ℕ). Some (spec.next (list_of spec.next spec.init xs) op).1) below
      ∙ ap Some is

  -- A ticket that a step left at a place is still at that place.
  pub placed_stands : (w : World) (t p : ℕ) (steps : List Object_step) → Each (IsLasting s w) steps
      → placed_at total t steps ≡ Some p → (p < total) × (ticket w p ≡ t)
  placed_stands w t p steps lasting is =
      let f = placed_step (IsLasting s w) total t p steps lasting is in (
        elim f.holds.kind [
          | inl h ↦ absurd (omega (arith, f.at, logs.held_low spec n cap w f.step.place h))
          | inr high ↦ omega (arith, f.at, high.1)
        ],
        ap (object_word s w) (sym f.at) ∙ f.holds.stands ∙ f.left,
      )

  -- A call that returns has taken effect, with this reply.
  returns : (w : World) (i x reply : ℕ) → Kept s w → IsLog s w
      → IsTrue (is_possible s w (return_of i x reply))
      → (log_effects spec n cap).reply w (call_of i (length (local_of w i).replies)) ≡ Some reply
  returns w i x reply kept log may =
      let me : Local = local_of w i in
      let r = return s w i x reply kept may in
      let k : ℕ = me.published in
      let op : ℕ = operation_now me in
      let lasting = log.lasting i r.caller in
      let place : Option ℕ = placed_at total (ticket_of (number_of cap i k)) (steps_now me) in
      let parts = reply_at_is op reply (all_steps_of me) place
      (reply_is (known_reply spec total op (all_steps_of me) place) reply r.allowed) in
      let at =
      placed_stands w (ticket_of (number_of cap i k)) parts.0 (steps_now me)
      (each_at (Each (IsLasting s w)) me.object_steps k [] lasting r.call.has_steps) parts.2 in
      subst (λ (j : ℕ). (log_effects spec n cap).reply w (call_of i j) ≡ Some reply)
      (sym r.call.replies)
      (reply_of_ticket w i k parts.0 op reply parts.1 log r.call.few r.call.operation at.0 at.1
      (known_log_is w (all_steps_of me)
      (each_of_all (IsLasting s w) me.object_steps lasting) parts.0 parts.1 parts.3) parts.4)

  -- What each step does to the effects of a log.
  same_words : (w u : World) → IsLog s w
      → ((place : ℕ) → object_word s u place ≡ object_word s w place)
      → IsQuiet (log_effects spec n cap) w u
  same_words w u log same =
      quiet w u log (λ place h. same place) (λ q low. sym (same (ticket_place total q)))

  by_deed : (w : World) (who : ℕ) (kept : Kept s w) (log : IsLog s w) (step : Object_step)
      (may : IsTrue (is_possible s w (record { who = who; event = Object step })))
      (added : Adds (local_of w who)
      (local_of (after s w (record { who = who; event = Object step })) who) (Object step))
      (steps : (local_of (after s w (record { who = who; event = Object step })) who).object_steps
      ≡ with_step (local_of w who).object_steps (local_of w who).published step)
      → logs.StepCase spec n cap w who step → IsQuietOrTakesEffect spec.next s
      (log_effects spec n cap) w (after s w (record { who = who; event = Object step }))
  by_deed w who kept log step may added steps (logs.Leaves same lasting) =
      inl (same_words w (after s w (record { who = who; event = Object step })) log
      (logs.words_same spec n cap w who kept log step may added steps same lasting))
  by_deed w who kept log step may added steps (logs.Stores half low at is) =
      let m = logs.keeps_store spec n cap w who kept log step may added steps half low at is in
      inl (quiet w (after s w (record { who = who; event = Object step })) log m.held
      (λ q below.
      sym
      (logs.word_other spec n cap w who kept log step may added steps (ticket_place total q)
      (logs.before_tickets spec n cap w who kept log step may added steps half low at is q))))
  by_deed w who kept log step may added steps
      (logs.Places high free is below has_low has_high none) =
      inr (
        d w who kept log step may added steps high free is below has_low has_high none,
        takes w who kept log step may added steps high free is below has_low has_high none,
      )

  by_event : (w : World) (who : ℕ) (kept : Kept s w) (log : IsLog s w) (event : Event)
      (may : IsTrue (is_possible s w (record { who = who; event = event })))
      → Adds (local_of w who) (local_of (after s w (record { who = who; event = event })) who) event
      → IsQuietOrTakesEffect spec.next s (log_effects spec n cap) w
      (after s w (record { who = who; event = event }))
  by_event w who kept log event may (Adds_nothing no_step operations steps) =
      inl (same_words w (after s w (record { who = who; event = event })) log
      (λ place. objects_stay s w (record { who = who; event = event }) place may no_step))
  by_event w who kept log event may (Adds_call op is operations steps) =
      inl (same_words w (after s w (record { who = who; event = event })) log
      (λ place. objects_stay s w (record { who = who; event = event }) place may
      (subst IsNoObjectStep (sym is) tt)))
  by_event w who kept log event may (Adds_step step is operations steps) =
      let v : Event → World = λ ev. after s w (record { who = who; event = ev }) in
      let here : IsTrue (is_possible s w (record { who = who; event = Object step })) =
      subst (λ (ev : Event). IsTrue (is_possible s w (record { who = who; event = ev }))) is may in
      let made : (local_of (v (Object step)) who).object_steps
      ≡ with_step (local_of w who).object_steps (local_of w who).published step =
      subst (λ (ev : Event). (local_of (v ev) who).object_steps
      ≡ with_step (local_of w who).object_steps (local_of w who).published step) is steps in
      let added : Adds (local_of w who) (local_of (v (Object step)) who) (Object step) =
      subst (λ (ev : Event). Adds (local_of w who) (local_of (v ev) who) ev) is
      (Adds_step step is operations steps) in
      subst (λ (ev : Event). IsQuietOrTakesEffect spec.next s (log_effects spec n cap) w (v ev))
      (sym is)
      (by_deed w who kept log step here added made
      (logs.deed spec n cap w who kept log step here))

  free_at_start : (p : ℕ) → ticket (start s) p ≡ 0
  free_at_start p =
      get_or-replicate_default (words_of s) (object_index n cap (ticket_place total p)) 0

  pub has_effects : HasEffects spec s (log_effects spec n cap)
  has_effects =
      record {
        first =
            ap (list_of spec.next spec.init) (operations_end (object_word s (start s)) total 0 total
            (omega arith) (λ q from low. free_at_start q));
        none = λ call.
            ap (λ (o : Option ℕ). if nat_lt call.number cap then reply_there spec
            (object_word s (start s)) total (number_of cap call.caller call.number) o else None)
            (no_place (object_word s (start s)) total
            (ticket_of (number_of cap call.caller call.number)) total
            (λ q low at. omega (arith, sym (free_at_start q) ∙ at)))
            ∙ both_none (nat_lt call.number cap);
        step = λ w step reach may.
            let kept = reachable_kept s w reach in
            by_event w step.who kept (logs.rules_hold spec n cap w reach) step.event may
            (step_adds s w step kept may);
        returns = λ w i x reply reach may. returns w i x reply (reachable_kept s w reach)
            (logs.rules_hold spec n cap w reach) may;
      }

pub logs_linearize : LogsLinearize
logs_linearize spec n cap steps run =
    effects_linearize spec (log_shape spec n cap) (log_effects spec n cap)
    (has_effects spec n cap) steps run
