-- Calls of a log under way: what their steps leave of what their callers know, and which steps its
-- program allows them.
use Rattle.std.proofs.Common.{◌≡◌, ◌≢◌, ℕ, zero, suc, ◌+◌, ◌-◌, ◌*◌, ◌<◌, ◌≤◌, Bool, true, false, not, ◌&&◌, ◌||◌, ◌==◌, nat_lt, if◌then◌else◌, List, [], ◌∷◌, ◌++◌, length, Option, Some, None, slice_index_or, slice_set, refl, sym, ap, ◌∙◌, subst, arith, IsTrue, inl, inr, eq-eqb, ne_eqb, append-nil, append_assoc, length-append}
use Rattle.std.proofs.lemmas.Bool.{and_from, cond-true, cond-false, lt-ltb}
use Rattle.std.proofs.lemmas.List.{get_or-set_same}
use Rattle.std.proofs.lemmas.Option.{slice_get-get_or}
use Rattle.list_laws.proofs.Places.{slice_get-push_cases, slice_get-push_last}
use prog.Atomic.{either}
use Rattle.book_base.specs.SeqSpec.{SeqSpec}
use Rattle.book_base.specs.OperationWord.{low_of, high_of, joined}
use Rattle.world_core.specs.Shape.{Meaning}
use Rattle.world_core.specs.Local.{Local, Object_step}
use Rattle.world_core.specs.CallSteps.{operation_now, steps_now, all_steps_of}
use Rattle.report_lines.specs.Phases.{Progress, progress_of}
use Rattle.row_table.specs.declared.caller.Caller.{Caller}
use Rattle.row_table.specs.declared.rows.Rows.{Rows}
use Rattle.row_table.specs.Callers.{shape_of, who_of, IsCallerOf, MayGet}
use Rattle.drv_wrapper.specs.declared.announced.Announced.{Announced}
use Rattle.drv_wrapper.specs.States.{caller_announced, who_announced, number_announced, op_announced, announced_local}
use Rattle.drv_wrapper.specs.ObjectSteps.{HasStepped}
use Rattle.world_objects.specs.LogWords.{number_of, low_place, high_place, ticket_place, ticket_of, known, is_known, placed_at, known_log, known_operation, joined_if_known, with_operation}
use Rattle.world_objects.specs.LogProgram.{log_program, log_may_step, is_low_store, is_high_store, is_exchange, is_load, list_of, known_reply, reply_if_known}
use Rattle.core_objects.specs.declared.core_log.LogProgram.{LogProgram}
use Rattle.core_objects.specs.CoreObjects.{with_steps, after_steps, HasReplied}
use Rattle.core_objects.specs.LogCalls.{KnowsTickets, KnowsOperations, places_on, number_on, HasMade, HasStored, HasPlaced, place_on, KnowsPlaces, KnowsLog, MayLoad, KnowsOperation}
use Rattle.core_objects.proofs.OneWordCalls.{has_steps, is_this_reply}
use Rattle.core_objects.proofs.KnownSteps.{known-append, known-push_new, known-push_away, placed-push_new, placed-push_away, placed-append, exchange_allowed, load_allowed, log-append}
use Rattle.core_objects.proofs.LogWorlds.{known_last, ticket_is_low, not_all_filled, own_number_is_low}

-- a list set at a place to what is there stays, and the last of two that were set at a place is
-- there
set_back : (xs : List (List Object_step)) (k : ℕ) → slice_set xs k (slice_index_or xs k []) ≡ xs
set_back [] k = refl
set_back (x ∷ xs) zero = refl
set_back (x ∷ xs) (suc k) = ap (λ (ys : List (List Object_step)). x ∷ ys) (set_back xs k)

set_twice : (xs : List (List Object_step)) (k : ℕ) (a b : List Object_step)
    → slice_set (slice_set xs k a) k b ≡ slice_set xs k b
set_twice [] k a b = refl
set_twice (x ∷ xs) zero a b = refl
set_twice (x ∷ xs) (suc k) a b = ap (λ (ys : List (List Object_step)). x ∷ ys) (set_twice xs k a b)

or_left : (a b : Bool) → a ≡ true → (a || b) ≡ true
or_left a b h = ap (λ (x : Bool). x || b) h

or_right : (a b : Bool) → b ≡ true → (a || b) ≡ true
or_right true b h = refl
or_right false b h = h

pub either_is : (b : Bool) (x y : ℕ) → either b x y ≡ (if b then x else y)
either_is true x y = refl
either_is false x y = refl

-- a step at a low place places no ticket
low_places_none : (total ticket place new : ℕ) → place < 2 * total
    → (not (nat_lt place (2 * total)) && new == ticket) ≡ false
low_places_none total ticket place new low =
    ap (λ (b : Bool). not b && new == ticket) (lt-ltb place (2 * total) low)

-- tickets that are known stay known by a step at another place
tickets_stay_known : (total : ℕ) (tickets : List ℕ) (steps : List Object_step) (step : Object_step)
    → step.place < 2 * total → KnowsTickets total tickets steps
    → KnowsTickets total tickets (steps ++ step ∷ [])
tickets_stay_known total tickets steps step low h =
    record {
      few = h.few;
      filled = λ q ticket at. (
        known-append (ticket_place total q) ticket steps (step ∷ []) (h.filled q ticket at).0,
        (h.filled q ticket at).1,
      );
      free = λ q high. known-push_away (ticket_place total q) steps step
          (λ same. omega (arith, low, same)) ∙ h.free q high;
    }

-- a step at the next place makes its ticket known, after those that were known
tickets_grow : (total ticket : ℕ) (tickets : List ℕ) (steps : List Object_step) (step : Object_step)
    → step.place ≡ ticket_place total (length tickets)
    → length tickets < total → 0 < ticket → known step.place (steps ++ step ∷ []) ≡ Some ticket
    → KnowsTickets total tickets steps
    → KnowsTickets total (tickets ++ ticket ∷ []) (steps ++ step ∷ [])
tickets_grow total ticket tickets steps step at low filled is h =
    let count : length (tickets ++ ticket ∷ []) ≡ length tickets + 1 =
    length-append tickets (ticket ∷ []) in
    record {
      few = omega (arith, count, low);
      filled = λ q t there. elim (slice_get-push_cases tickets ticket q t there) [
        | inl old ↦ (
          known-append (ticket_place total q) t steps (step ∷ []) (h.filled q t old).0,
          (h.filled q t old).1,
        )
        | inr last ↦
            let here : ticket_place total q ≡ step.place =
            ap (ticket_place total) last.0 ∙ sym at in (
              ap (λ (place : ℕ). known place (steps ++ step ∷ [])) here ∙ is ∙ ap Some (sym last.1),
              omega (arith, filled, last.1),
            )
      ];
      free = λ q high.
          known-push_away (ticket_place total q) steps step
          (λ same. omega (arith, at, same, high, count)) ∙ h.free q (omega (arith, high, count));
    }

-- a conjunction fails where its second test does
and_fails : (a b : Bool) → b ≡ false → (a && b) ≡ false
and_fails true b h = h
and_fails false b h = refl

-- a log is known with the operation of its next ticket
pub log_grown : (total ticket op : ℕ) (log : List ℕ) (steps : List Object_step)
    → KnowsOperations total log steps → known (ticket_place total (length log)) steps ≡ Some ticket
    → known_operation (Some ticket) steps ≡ Some op → KnowsOperations total (log ++ op ∷ []) steps
log_grown total ticket op log steps before at is =
    let count : length (log ++ op ∷ []) ≡ suc (length log) =
    omega (arith, length-append log (op ∷ [])) in
    ap (known_log total steps) count
    ∙ ap (λ (a : Option (List ℕ)).
    with_operation a (known_operation (known (ticket_place total (length log)) steps) steps)) before
    ∙ ap (λ (o : Option ℕ). with_operation (Some log) (known_operation o steps)) at
    ∙ ap (with_operation (Some log)) is

module _ {S : Type 0} (spec : S → SeqSpec) where
  abbrev pub P : Type 0
  P = LogProgram S

  abbrev pub meaning : P → ℕ → ℕ → Meaning
  meaning = λ program n cap. log_program (spec program.object) n cap

  module _ (r : Rows P) where
    abbrev pub IsCaller : Announced P → Type 0
    IsCaller a = IsCallerOf meaning r (caller_announced a)

    abbrev pub Made : Announced P → Announced P → Type 0
    Made a b = HasMade meaning r a b

    abbrev pub Stepped : Announced P → Announced P → Object_step → Type 0
    Stepped a b step = HasStepped meaning r a b step

    abbrev pub all : Announced P → List Object_step
    all a = all_steps_of (announced_local a)

    abbrev pub now : Announced P → List Object_step
    now a = steps_now (announced_local a)

    -- the number of an announced call is one of the log's
    pub number_is_low : (a : Announced P) → IsCaller a → (number_announced a < r.cap)
        × (number_on r a < places_on r)
    number_is_low a caller =
        own_number_is_low (spec r.program.object) r.callers r.cap
        (who_announced a) (announced_local a) caller.seat.local a.asked.asking

    has_list : (a : Announced P) → IsCaller a
        → number_announced a < length (announced_local a).object_steps
    has_list a caller = has_steps (shape_of meaning r) (who_announced a)
        (announced_local a) a.op caller.seat.local a.asked

    -- What a call has made by no object step, by one object step, and by some steps after others.
    pub made_none : (a : Announced P) → IsCaller a → Made a a
    made_none a caller =
        let l : Local = announced_local a in
        record {
          steps = [];
          still = (caller, refl);
          operation = refl;
          local =
              ap (λ (xs : List (List Object_step)). record l { object_steps = xs })
              (sym (ap (slice_set l.object_steps l.published) (append-nil (steps_now l))
              ∙ set_back l.object_steps l.published));
          progress = ap (λ (xs : List Object_step). record (progress_of l) { steps = xs })
              (sym (append-nil (all_steps_of l)));
        }

    pub made_one : (a b : Announced P) (step : Object_step) → Stepped a b step → Made a b
    made_one a b step h = record {
      steps = step ∷ [];
      still = h.still;
      operation = h.operation;
      local = h.event;
      progress = h.progress;
    }

    pub made_both : (a b c : Announced P) → IsCaller a → Made a b → Made b c → Made a c
    made_both a b c caller h k =
        let l : Local = announced_local a in
        let xs : List Object_step = steps_now l ++ h.steps in
        let set : List (List Object_step) = slice_set l.object_steps l.published xs in
        let there : slice_index_or set l.published [] ≡ xs =
        get_or-set_same l.object_steps l.published xs [] (has_list a caller) in
        record {
          steps = h.steps ++ k.steps;
          still = (k.still.0, k.still.1 ∙ h.still.1);
          operation = k.operation ∙ h.operation;
          local =
              k.local
              ∙ ap (λ (m : Local). with_steps m (steps_now m ++ k.steps)) h.local
              ∙ ap (λ (ys : List (List Object_step)). record l { object_steps = ys })
              (ap (λ (ys : List Object_step). slice_set set l.published (ys ++ k.steps)) there
              ∙ set_twice l.object_steps l.published xs (xs ++ k.steps)
              ∙ ap (slice_set l.object_steps l.published)
              (append_assoc (steps_now l) h.steps k.steps));
          progress =
              k.progress
              ∙ ap (after_steps k.steps) h.progress
              ∙ ap (λ (ys : List Object_step). record (progress_of l) { steps = ys })
              (append_assoc (all_steps_of l) h.steps k.steps);
        }

    pub made_all : (a b : Announced P) (h : Made a b) → all b ≡ all a ++ h.steps
    made_all a b h = ap (λ (p : Progress). p.steps) h.progress

    made_now : (a b : Announced P) → IsCaller a → (h : Made a b) → now b ≡ now a ++ h.steps
    made_now a b caller h =
        let l : Local = announced_local a in
        ap steps_now h.local
        ∙ get_or-set_same l.object_steps l.published (steps_now l ++ h.steps) [] (has_list a caller)

    pub made_number : (a b : Announced P) → Made a b → number_on r b ≡ number_on r a
    made_number a b h =
        ap (λ (i : ℕ). number_of r.cap i (number_announced b)) h.still.1
        ∙ ap (λ (m : Local). number_of r.cap (who_announced a) m.published) h.local

    step_all : (a b : Announced P) (step : Object_step) → Stepped a b step
        → all b ≡ all a ++ step ∷ []
    step_all a b step h = ap (λ (p : Progress). p.steps) h.progress

    step_now : (a b : Announced P) (step : Object_step) → IsCaller a → Stepped a b step
        → now b ≡ now a ++ step ∷ []
    unfolding made_one
    step_now a b step caller h = made_now a b caller (made_one a b step h)

    -- what is known, stored, placed and loaded stays so along further object steps
    known_kept : (a b : Announced P) (place x : ℕ) → Made a b → known place (all a) ≡ Some x
        → known place (all b) ≡ Some x
    known_kept a b place x h e =
        ap (known place) (made_all a b h) ∙ known-append place x (all a) h.steps e

    pub log_kept : (a b : Announced P) (log : List ℕ) → Made a b → KnowsLog r a log
        → KnowsLog r b log
    log_kept a b log h e =
        ap (λ (xs : List Object_step). known_log (places_on r) xs (length log)) (made_all a b h)
        ∙ log-append (places_on r) (all a) h.steps (length log) log e

    stored_now : (a b : Announced P) (place : ℕ → ℕ) (half : ℕ → ℕ) → IsCaller a → Made a b
        → known (place (number_on r a)) (now a) ≡ Some (half (op_announced a))
        → known (place (number_on r b)) (now b) ≡ Some (half (op_announced b))
    stored_now a b place half caller h e =
        ap (λ (k : ℕ). known (place k) (now b)) (made_number a b h)
        ∙ ap (known (place (number_on r a))) (made_now a b caller h)
        ∙ known-append (place (number_on r a)) (half (op_announced a)) (now a) h.steps e
        ∙ ap (λ (o : ℕ). Some (half o)) (sym h.operation)

    stored_before : (a b : Announced P) (place : ℕ → ℕ) (half : ℕ → ℕ) → Made a b
        → known (place (number_on r a)) (all a) ≡ Some (half (op_announced a))
        → known (place (number_on r b)) (all b) ≡ Some (half (op_announced b))
    stored_before a b place half h e =
        ap (λ (k : ℕ). known (place k) (all b)) (made_number a b h)
        ∙ known_kept a b (place (number_on r a)) (half (op_announced a)) h e
        ∙ ap (λ (o : ℕ). Some (half o)) (sym h.operation)

    pub stored_kept : (a b : Announced P) → IsCaller a → Made a b → HasStored r a → HasStored r b
    stored_kept a b caller h e =
        record {
          low_now = stored_now a b low_place low_of caller h e.low_now;
          high_now = stored_now a b high_place high_of caller h e.high_now;
          low = stored_before a b low_place low_of h e.low;
          high = stored_before a b high_place high_of h e.high;
        }

    pub place_kept : (a b : Announced P) (p : ℕ) → IsCaller a → Made a b → place_on r a ≡ Some p
        → place_on r b ≡ Some p
    place_kept a b p caller h e =
        ap (λ (k : ℕ). placed_at (places_on r) (ticket_of k) (now b)) (made_number a b h)
        ∙ ap (placed_at (places_on r) (ticket_of (number_on r a))) (made_now a b caller h)
        ∙ placed-append (places_on r) (ticket_of (number_on r a)) p (now a) h.steps e

    pub placed_kept : (a b : Announced P) (tickets : List ℕ) → IsCaller a → Made a b
        → HasPlaced r a tickets → HasPlaced r b tickets
    placed_kept a b tickets caller h e =
        record {
          place = e.place;
          last = e.last;
          placed = place_kept a b e.place caller h e.placed;
          ticket = e.ticket ∙ ap (λ (k : ℕ). Some (ticket_of k)) (sym (made_number a b h));
        }

    -- the word that a step left is known
    pub step_known : (a b : Announced P) (step : Object_step) → Stepped a b step
        → known step.place (all b) ≡ Some step.new
    step_known a b step h =
        known_last (spec r.program.object) r.callers r.cap (who_announced b)
        (announced_local b) (all a) step h.still.0.seat.local
        (step_all a b step h)

    pub tickets_kept : (a b : Announced P) (step : Object_step) (tickets : List ℕ)
        → Stepped a b step → step.place < 2 * places_on r → KnowsPlaces r a tickets
        → KnowsPlaces r b tickets
    tickets_kept a b step tickets h low e =
        subst (KnowsTickets (places_on r) tickets) (sym (step_all a b step h))
        (tickets_stay_known (places_on r) tickets (all a) step low e)

    pub tickets_grown : (a b : Announced P) (step : Object_step) (tickets : List ℕ)
        → Stepped a b step → step.place ≡ ticket_place (places_on r) (length tickets)
        → length tickets < places_on r → 0 < step.new → KnowsPlaces r a tickets
        → KnowsPlaces r b (tickets ++ step.new ∷ [])
    tickets_grown a b step tickets h at low filled e =
        subst (KnowsTickets (places_on r) (tickets ++ step.new ∷ [])) (sym (step_all a b step h))
        (tickets_grow (places_on r) step.new tickets (all a) step at low filled
        (ap (known step.place) (sym (step_all a b step h)) ∙ step_known a b step h) e)

    -- a step at a low place, and one that leaves another ticket, leave the call unplaced
    pub unplaced_kept : (a b : Announced P) (step : Object_step) → IsCaller a → Stepped a b step
        → (not (nat_lt step.place (2 * places_on r)) && step.new == ticket_of (number_on r a))
        ≡ false → place_on r a ≡ None → place_on r b ≡ None
    unplaced_kept a b step caller h away e =
        ap (λ (k : ℕ). placed_at (places_on r) (ticket_of k) (now b))
        (made_number a b (made_one a b step h))
        ∙ ap (placed_at (places_on r) (ticket_of (number_on r a))) (step_now a b step caller h)
        ∙ placed-push_away (places_on r) (ticket_of (number_on r a)) (now a) step away ∙ e

    pub low_unplaced : (a b : Announced P) (step : Object_step) → IsCaller a → Stepped a b step
        → step.place < 2 * places_on r → place_on r a ≡ None
        → place_on r b ≡ None
    low_unplaced a b step caller h low e =
        unplaced_kept a b step caller h
        (low_places_none (places_on r) (ticket_of (number_on r a)) step.place step.new low) e

    -- a step that leaves the call's own ticket places the call
    pub now_placed : (a b : Announced P) (step : Object_step) (tickets : List ℕ) → IsCaller a
        → Stepped a b step
        → step.place ≡ ticket_place (places_on r) (length tickets)
        → step.new ≡ ticket_of (number_on r a) → place_on r a ≡ None
        → place_on r b ≡ Some (length tickets)
    now_placed a b step tickets caller h at is e =
        let p : step.place - 2 * places_on r ≡ length tickets = omega (arith, at) in
        ap (λ (k : ℕ). placed_at (places_on r) (ticket_of k) (now b))
        (made_number a b (made_one a b step h))
        ∙ ap (placed_at (places_on r) (ticket_of (number_on r a))) (step_now a b step caller h)
        ∙ placed-push_new (places_on r) (ticket_of (number_on r a)) (now a) step e
        (omega (arith, at)) is ∙ ap Some p

    -- the program allows a call to store its low word and then its high word
    pub may_store_low : (a : Announced P) (number word : ℕ) → number ≡ number_on r a
        → now a ≡ [] → word ≡ low_of (op_announced a)
        → (x : ℕ) → IsTrue (log_may_step r.callers r.cap (who_announced a) (announced_local a)
        (record { place = 2 * number; old = x; new = word }))
    may_store_low a number word is first half x =
        let l : Local = announced_local a in
        let own : ℕ = number_on r a in
        let step : Object_step = record { place = 2 * number; old = x; new = word } in
        or_left (is_low_store own l step) (is_high_store own l step
        || (is_exchange (places_on r) own l step || is_load (places_on r) own l step))
        (and_from (step.place == low_place own)
        (word == low_of (operation_now l) && not (is_known (known (low_place own) (now a))))
        (eq-eqb step.place (low_place own) (ap low_place is))
        (and_from (word == low_of (operation_now l))
        (not (is_known (known (low_place own) (now a))))
        (eq-eqb word (low_of (operation_now l)) (half ∙ ap low_of (sym a.asked.operation)))
        (ap (λ (xs : List Object_step). not (is_known (known (low_place own) xs))) first)))

    pub may_store_high : (a : Announced P) (number word low : ℕ) → number ≡ number_on r a
        → known (low_place (number_on r a)) (now a) ≡ Some low
        → known (high_place (number_on r a)) (now a) ≡ None → word ≡ high_of (op_announced a)
        → (x : ℕ) → IsTrue (log_may_step r.callers r.cap (who_announced a) (announced_local a)
        (record { place = 2 * number + 1; old = x; new = word }))
    may_store_high a number word low is has_low none half x =
        let l : Local = announced_local a in
        let own : ℕ = number_on r a in
        let step : Object_step = record { place = 2 * number + 1; old = x; new = word } in
        let later : Bool = is_known (known (low_place own) (now a))
        && not (is_known (known (high_place own) (now a))) in
        or_right (is_low_store own l step) (is_high_store own l step
        || (is_exchange (places_on r) own l step || is_load (places_on r) own l step))
        (or_left (is_high_store own l step)
        (is_exchange (places_on r) own l step || is_load (places_on r) own l step)
        (and_from (step.place == high_place own) (word == high_of (operation_now l) && later)
        (eq-eqb step.place (high_place own) (ap high_place is))
        (and_from (word == high_of (operation_now l)) later
        (eq-eqb word (high_of (operation_now l)) (half ∙ ap high_of (sym a.asked.operation)))
        (and_from (is_known (known (low_place own) (now a)))
        (not (is_known (known (high_place own) (now a)))) (ap is_known has_low)
        (ap (λ (o : Option ℕ). not (is_known o)) none)))))

    -- the program allows a call to exchange 0 for its ticket at the first place that isn't known
    pub may_place : (a : Announced P) (number place : ℕ) (tickets : List ℕ) → number ≡ number_on r a
        → place ≡ ticket_place (places_on r) (length tickets)
        → HasStored r a → place_on r a ≡ None → KnowsPlaces r a tickets
        → (x : ℕ) → IsTrue (log_may_step r.callers r.cap (who_announced a) (announced_local a)
        (record { place = place; old = x; new = either (x == 0) (number + 1) x }))
    may_place a number place tickets is at stored none h x =
        let l : Local = announced_local a in
        let own : ℕ = number_on r a in
        let there : Object_step = record {
          place = ticket_place (places_on r) (length tickets);
          old = x;
          new = if x == 0 then ticket_of own else x;
        } in
        let step : Object_step =
        record { place = place; old = x; new = either (x == 0) (number + 1) x } in
        let new : either (x == 0) (number + 1) x ≡ (if x == 0 then ticket_of own else x) =
        either_is (x == 0) (number + 1) x ∙ ap (λ (k : ℕ). if x == 0 then k + 1 else x) is in
        let same : there ≡ step =
        sym (ap (λ (p : ℕ). record { place = p; old = x; new = either (x == 0) (number + 1) x }) at
        ∙ ap (λ (y : ℕ).
        record { place = ticket_place (places_on r) (length tickets); old = x; new = y }) new) in
        let allowed : IsTrue (is_exchange (places_on r) own l there) =
        exchange_allowed (places_on r) own l (length tickets) x (low_of (op_announced a))
        (high_of (op_announced a))
        (λ q low. let t = h.filled q (slice_index_or tickets q 0)
        (slice_get-get_or tickets q 0 low) in (slice_index_or tickets q 0, t.0, t.1))
        (h.free (length tickets) (omega arith)) stored.low_now stored.high_now none in
        or_right (is_low_store own l step) (is_high_store own l step
        || (is_exchange (places_on r) own l step || is_load (places_on r) own l step))
        (or_right (is_high_store own l step)
        (is_exchange (places_on r) own l step || is_load (places_on r) own l step)
        (or_left (is_exchange (places_on r) own l step) (is_load (places_on r) own l step)
        (subst (λ (st : Object_step). IsTrue (is_exchange (places_on r) own l st)) same allowed)))

    -- the program allows a call to load a word of an operation before its own
    may_load : (a : Announced P) (named place x : ℕ) → MayLoad r a named
        → (place == low_place named || place == high_place named) ≡ true
        → IsTrue (log_may_step r.callers r.cap (who_announced a) (announced_local a)
        (record { place = place; old = x; new = x }))
    may_load a named place x h at =
        let l : Local = announced_local a in
        let own : ℕ = number_on r a in
        let step : Object_step = record { place = place; old = x; new = x } in
        let suc_is : ticket_of named ≡ suc named = omega arith in
        or_right (is_low_store own l step) (is_high_store own l step
        || (is_exchange (places_on r) own l step || is_load (places_on r) own l step))
        (or_right (is_high_store own l step)
        (is_exchange (places_on r) own l step || is_load (places_on r) own l step)
        (or_right (is_exchange (places_on r) own l step) (is_load (places_on r) own l step)
        (load_allowed (places_on r) own l h.own h.place named place x h.placed h.before
        (h.ticket ∙ ap Some suc_is) at)))

    pub may_load_low : (a : Announced P) (named : ℕ) → MayLoad r a named → (x : ℕ)
        → IsTrue (log_may_step r.callers r.cap (who_announced a) (announced_local a)
        (record { place = 2 * named; old = x; new = x }))
    may_load_low a named h x =
        may_load a named (2 * named) x h (or_left (2 * named == low_place named)
        (2 * named == high_place named) (eq-eqb (2 * named) (low_place named) refl))

    pub may_load_high : (a : Announced P) (named : ℕ) → MayLoad r a named → (x : ℕ)
        → IsTrue (log_may_step r.callers r.cap (who_announced a) (announced_local a)
        (record { place = 2 * named + 1; old = x; new = x }))
    may_load_high a named h x =
        may_load a named (2 * named + 1) x h (or_right (2 * named + 1 == low_place named)
        (2 * named + 1 == high_place named) (eq-eqb (2 * named + 1) (high_place named) refl))

    pub may_load_kept : (a b : Announced P) (named : ℕ) → IsCaller a → Made a b → MayLoad r a named
        → MayLoad r b named
    may_load_kept a b named caller h e =
        record {
          own = e.own;
          placed = place_kept a b e.own caller h e.placed;
          place = e.place;
          before = e.before;
          low = e.low;
          ticket = known_kept a b (ticket_place (places_on r) e.place) (ticket_of named) h e.ticket;
        }

    -- both words of an operation were loaded
    pub operation_known : (a b c : Announced P) (named low high : ℕ)
        → Stepped a b (record { place = 2 * named; old = low; new = low })
        → Stepped b c (record { place = 2 * named + 1; old = high; new = high })
        → KnowsOperation c named (joined low high)
    operation_known a b c named low high h k =
        let first : Object_step = record { place = 2 * named; old = low; new = low } in
        let last : Object_step = record { place = 2 * named + 1; old = high; new = high } in
        let suc_is : ticket_of named ≡ suc named = omega arith in
        let has_low : known (low_place named) (all c) ≡ Some low =
        known_kept b c (low_place named) low (made_one b c last k) (step_known a b first h) in
        let has_high : known (high_place named) (all c) ≡ Some high = step_known b c last k in
        ap (λ (t : ℕ). known_operation (Some t) (all c)) suc_is
        ∙ ap (λ (o : Option ℕ). joined_if_known o (known (high_place named) (all c))) has_low
        ∙ ap (joined_if_known (Some low)) has_high

    -- the program allows a reply once the operations before the own one are known
    pub may_get : (a : Announced P) (object : S) (log : List ℕ) (op reply p : ℕ) → IsCaller a
        → r.program ≡ record { object = object }
        → op_announced a ≡ op → place_on r a ≡ Some p → p ≡ length log → KnowsLog r a log
        → reply ≡ ((spec object).next (list_of (spec object).next (spec object).init log) op).1
        → MayGet meaning (caller_announced a) reply
    may_get a object log op reply p caller program is placed count known reply_is =
        let l : Local = announced_local a in
        let c : Caller P = caller_announced a in
        let n : ℕ = r.callers in
        let cap : ℕ = r.cap in
        let operation : operation_now l ≡ op = a.asked.operation ∙ is in
        let found : known_reply (spec object) (n * cap) (operation_now l) (all a)
        (place_on r a) ≡ Some reply =
        ap (known_reply (spec object) (n * cap) (operation_now l) (all a)) placed
        ∙ ap (λ (k : ℕ). reply_if_known (spec object) (operation_now l)
        (known_log (n * cap) (all a) k)) count
        ∙ ap (reply_if_known (spec object) (operation_now l)) known
        ∙ ap (λ (o : ℕ).
        Some ((spec object).next (list_of (spec object).next (spec object).init log) o).1) operation
        ∙ ap Some (sym reply_is) in
        let allowed : IsTrue
        ((log_program (spec object) n cap).may_reply (who_of c) l reply) =
        is_this_reply (known_reply (spec object) (n * cap) (operation_now l) (all a)
        (place_on r a)) reply found in
        let by_program : IsTrue ((meaning c.program n cap).may_reply (who_of c) l reply) =
        subst (λ (q : P). IsTrue ((meaning q n cap).may_reply (who_of c) l reply))
        (sym (caller.program ∙ program)) allowed in
        let by_callers : IsTrue ((meaning c.program c.callers cap).may_reply (who_of c) l reply) =
        subst (λ (m : ℕ). IsTrue ((meaning c.program m cap).may_reply (who_of c) l reply))
        (sym caller.callers) by_program in
        subst (λ (m : ℕ). IsTrue ((meaning c.program c.callers m).may_reply (who_of c) l reply))
        (sym caller.cap) by_callers

    -- a log's words are few
    pub places_few : r.objects ≡ 3 * places_on r → places_on r ≤ 21845
    places_few words = omega (arith, words, r.few.4)

    -- the number of an announced call is small enough for what its steps reckon with it
    pub number_few : (a : Announced P) (number : ℕ) → IsCaller a → number ≡ number_on r a
        → r.objects ≡ 3 * places_on r → number < 21845
    number_few a number caller is words =
        omega (arith, is, (number_is_low a caller).1, places_few words)

    -- A call has stored the words of its operation, the low one and then the high one.
    module _ (a b d : Announced P) (number lo hi x y : ℕ) (caller : IsCaller a)
        (is : number ≡ number_on r a) (first : now a ≡ []) (lo_is : lo ≡ low_of (op_announced a))
        (hi_is : hi ≡ high_of (op_announced a))
        (h : Stepped a b (record { place = 2 * number; old = x; new = lo })) where
      abbrev low_step : Object_step
      low_step = record { place = 2 * number; old = x; new = lo }

      low_made : Made a b
      low_made = made_one a b low_step h

      own_is : number ≡ number_on r b
      own_is = is ∙ sym (made_number a b low_made)

      now_is : now b ≡ low_step ∷ []
      now_is =
          step_now a b low_step caller h ∙ ap (λ (xs : List Object_step). xs ++ low_step ∷ []) first

      has_low : known (low_place (number_on r b)) (now b) ≡ Some lo
      has_low =
          ap (known (low_place (number_on r b))) now_is
          ∙ cond-true (2 * number == low_place (number_on r b)) (Some lo) None
          (eq-eqb (2 * number) (low_place (number_on r b)) (ap low_place own_is))

      no_high : known (high_place (number_on r b)) (now b) ≡ None
      no_high =
          ap (known (high_place (number_on r b))) now_is
          ∙ cond-false (2 * number == high_place (number_on r b)) (Some lo) None
          (ne_eqb (2 * number) (high_place (number_on r b)) (λ same. omega (arith, same)))

      pub may_store_second : (z : ℕ) → IsTrue (log_may_step r.callers r.cap (who_announced b)
          (announced_local b) (record { place = 2 * number + 1; old = z; new = hi }))
      may_store_second z = may_store_high b number hi lo own_is has_low no_high
          (hi_is ∙ ap high_of (sym h.operation)) z

      module _ (k : Stepped b d (record { place = 2 * number + 1; old = y; new = hi })) where
        abbrev high_step : Object_step
        high_step = record { place = 2 * number + 1; old = y; new = hi }

        pub both_made : Made a d
        both_made = made_both a b d caller low_made (made_one b d high_step k)

        high_now_is : known (high_place (number_on r d)) (now d) ≡ Some hi
        high_now_is =
            ap (λ (m : ℕ). known (high_place m) (now d))
            (made_number b d (made_one b d high_step k))
            ∙ ap (known (high_place (number_on r b))) (step_now b d high_step h.still.0 k)
            ∙ known-push_new (high_place (number_on r b)) (now b) high_step no_high
            (ap high_place own_is)

        hi_here : hi ≡ high_of (op_announced d)
        hi_here = hi_is ∙ ap high_of (sym (k.operation ∙ h.operation))

        low_all : known (low_place (number_on r b)) (all b) ≡ Some (low_of (op_announced b))
        low_all =
            ap (λ (m : ℕ). known (low_place m) (all b)) (sym own_is) ∙ step_known a b low_step h
            ∙ ap Some (lo_is ∙ ap low_of (sym h.operation))

        pub both_stored : HasStored r d
        both_stored =
            record {
              low_now = stored_now b d low_place low_of h.still.0 (made_one b d high_step k)
                  (has_low ∙ ap Some (lo_is ∙ ap low_of (sym h.operation)));
              high_now = high_now_is ∙ ap Some hi_here;
              low = stored_before b d low_place low_of (made_one b d high_step k) low_all;
              high =
                  ap (λ (m : ℕ). known (high_place m) (all d))
                  (sym (own_is ∙ sym (made_number b d (made_one b d high_step k))))
                  ∙ step_known b d high_step k ∙ ap Some hi_here;
            }

        -- the number of the call is one of the log's
        own_low : number < places_on r
        own_low = omega (arith, is, (number_is_low a caller).1)

        pub stored_unplaced : place_on r d ≡ None
        stored_unplaced =
            low_unplaced b d high_step h.still.0 k (omega (arith, own_low))
            (low_unplaced a b low_step caller h (omega (arith, own_low))
            (ap (placed_at (places_on r) (ticket_of (number_on r a))) first))

        pub stored_tickets : (tickets : List ℕ) → KnowsPlaces r a tickets → KnowsPlaces r d tickets
        stored_tickets tickets e =
            tickets_kept b d high_step tickets k (omega (arith, own_low))
            (tickets_kept a b low_step tickets h (omega (arith, own_low)) e)

    -- a call of which a ticket is known has a number of the log's
    pub named_is_low : (a : Announced P) (named : ℕ) → IsCaller a → MayLoad r a named
        → named < places_on r
    named_is_low a named caller h =
        let suc_is : ticket_of named ≡ suc named = omega arith in
        ticket_is_low (spec r.program.object) r.callers r.cap
        (who_announced a) (announced_local a) h.place named caller.seat.local h.low
        (h.ticket ∙ ap Some suc_is)

    -- a call without a place finds one
    pub finds_a_place : (a : Announced P) (tickets : List ℕ) → IsCaller a → KnowsPlaces r a tickets
        → place_on r a ≡ None → places_on r ≤ length tickets → ⊥
    finds_a_place a tickets caller h none many =
        not_all_filled (spec r.program.object) r.callers r.cap
        (who_announced a) (announced_local a) caller.seat.local a.asked.asking none
        (λ q low.
        let t = h.filled q (slice_index_or tickets q 0)
        (slice_get-get_or tickets q 0 (omega (arith, low, many))) in
        (slice_index_or tickets q 0, t.0, t.1))

    -- One more place was tried, at which this ticket is now.
    module _ (a b d : Announced P) (number found ticket place : ℕ) (tickets : List ℕ)
        (caller : IsCaller a) (is : number ≡ number_on r a) (made : Made a b)
        (h : Stepped b d (record { place = place; old = found; new = ticket }))
        (at : place ≡ ticket_place (places_on r) (length tickets))
        (none : place_on r b ≡ None) where
      abbrev tried : Object_step
      tried = record { place = place; old = found; new = ticket }

      own_before : number ≡ number_on r b
      own_before = is ∙ sym (made_number a b made)

      pub tried_made : Made a d
      tried_made = made_both a b d caller made (made_one b d tried h)

      pub tried_placed : ticket ≡ number + 1 → HasPlaced r d (tickets ++ ticket ∷ [])
      tried_placed own =
          record {
            place = length tickets;
            last = length-append tickets (ticket ∷ []);
            placed =
                now_placed b d tried tickets made.still.0 h at (own ∙ ap ticket_of own_before) none;
            ticket = slice_get-push_last tickets ticket
                ∙ ap Some (own ∙ ap ticket_of (is ∙ sym (made_number a d tried_made)));
          }

      pub tried_unplaced : ticket ≢ number + 1 → place_on r d ≡ None
      tried_unplaced other =
          unplaced_kept b d tried made.still.0 h
          (and_fails (not (nat_lt place (2 * places_on r))) (ticket == ticket_of (number_on r b))
          (ne_eqb ticket (ticket_of (number_on r b))
          (λ same. other (same ∙ ap ticket_of (sym own_before))))) none

    -- The own operation is known to be the last of the log.
    own_operation : (a : Announced P) (op : ℕ) → HasStored r a → op ≡ op_announced a
        → known_operation (Some (ticket_of (number_on r a))) (all a) ≡ Some op
    own_operation a op stored is =
        let own : ℕ = number_on r a in
        let suc_is : ticket_of own ≡ suc own = omega arith in
        let whole : joined (low_of (op_announced a)) (high_of (op_announced a)) ≡ op_announced a =
        omega arith in
        ap (λ (t : ℕ). known_operation (Some t) (all a)) suc_is
        ∙ ap (λ (o : Option ℕ). joined_if_known o (known (high_place own) (all a))) stored.low
        ∙ ap (joined_if_known (Some (low_of (op_announced a)))) stored.high
        ∙ ap Some (whole ∙ sym is)

    pub own_log_known : (a : Announced P) (op : ℕ) (log tickets : List ℕ) → HasStored r a
        → op ≡ op_announced a → HasPlaced r a tickets → KnowsPlaces r a tickets
        → length log + 1 ≡ length tickets → KnowsLog r a log → KnowsLog r a (log ++ op ∷ [])
    own_log_known a op log tickets stored is placed h count before =
        let here : placed.place ≡ length log = omega (arith, placed.last, count) in
        log_grown (places_on r) (ticket_of (number_on r a)) op log (all a) before
        (ap (λ (p : ℕ). known (ticket_place (places_on r) p) (all a)) (sym here)
        ∙ (h.filled placed.place (ticket_of (number_on r a)) placed.ticket).0)
        (own_operation a op stored is)

    -- a call has its reply once the operations before its own in the log are known
    abbrev pub has_replied : (a b : Announced P) (object : S) (log tickets : List ℕ) (op reply : ℕ)
        → now a ≡ [] → Made a b → r.program ≡ record { object = object }
        → op_announced b ≡ op → HasPlaced r b tickets → length log + 1 ≡ length tickets
        → KnowsLog r b log
        → reply ≡ ((spec object).next (list_of (spec object).next (spec object).init log) op).1
        → HasReplied meaning r a b reply
    has_replied a b object log tickets op reply first made program is placed count known reply_is =
        record {
          steps = made.steps;
          still = made.still;
          operation = made.operation;
          local = made.local ∙ ap
              (λ (xs : List Object_step). with_steps (announced_local a) (xs ++ made.steps)) first;
          progress = made.progress;
          allowed = may_get b object log op reply placed.place made.still.0 program is placed.placed
              (omega (arith, placed.last, count)) known reply_is;
        }
