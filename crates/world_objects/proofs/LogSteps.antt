-- Each step keeps the rules of the log, and the words that never change.
use Rattle.std.proofs.Common.{◌≡◌, ◌≢◌, ℕ, suc, ◌+◌, ◌-◌, ◌*◌, ◌<◌, ◌≤◌, ◌⊎◌, Bool, true, not, ◌&&◌, ◌||◌, ◌==◌, nat_lt, if◌then◌else◌, List, [], ◌∷◌, ◌++◌, length, Option, Some, None, slice_get, slice_index_or, slice_set, refl, sym, ap, ◌∙◌, subst, arith, IsTrue, inl, inr}
use Rattle.std.proofs.lemmas.Bool.{and_parts, cases_eq, cases_Bool, or_cases, eqb-true, eqb-false, cond-true, cond-false}
use Rattle.std.proofs.lemmas.Option.{same_Some}
use Rattle.std.proofs.lemmas.List.{get_or-set_other, get_or-set_same}
use Rattle.std.proofs.lemmas.Nat.{mul-add-lt, same_from_place}
use Rattle.list_laws.proofs.Places.{get_or-replicate_default, slice_get-push_old, slice_get-push_last}
use Rattle.book_base.specs.SeqSpec.{SeqSpec}
use Rattle.book_base.specs.OperationWord.{low_of, high_of}
use Rattle.world_core.specs.Layout.{object_index}
use Rattle.world_core.specs.Shape.{Shape, words_of}
use Rattle.world_core.specs.Local.{Local, Object_step, fresh, with_step}
use Rattle.world_core.specs.CallSteps.{operation_now, steps_now, all_steps_of}
use Rattle.world_core.specs.Event.{Event, Object}
use Rattle.world_core.specs.World.{World, Step, start, local_of, object_word, after, is_possible, after_all, are_possible, IsReachable, end_of}
use Rattle.world_laws.proofs.Each.{Each, each_map, each_push, each_set, each_at}
use Rattle.world_laws.proofs.Running.{Kept, start_kept, step_kept, possible, other_local, are_possible-append, goes_on}
use Rattle.world_laws.proofs.ObjectWords.{Adds, Adds_nothing, Adds_call, Adds_step, IsNoObjectStep, step_adds, objects_stay, object_is, other_object}
use Rattle.world_objects.proofs.AskedCalls.{IsObjectStep, object_step}
use Rattle.world_objects.proofs.OneWords.{steps_of-push}
use Rattle.world_objects.specs.LogWords.{number_of, low_place, high_place, ticket_place, ticket_of, known, is_known, are_filled_below, is_filled, is_first_unfilled, placed_at}
use Rattle.world_objects.specs.LogProgram.{is_low_store, is_high_store, is_exchange, is_named_before, is_load, log_shape}
use Rattle.world_objects.specs.LogRules.{ticket_at, half_of, IsCallOf, HoldsOperation, NamesCall, IsLasting, IsLog, LogRulesHold, TicketsStay}
use Rattle.world_objects.proofs.LogWords.{each_of_all, known_step, known_is, unknown_is, filled_is, is_ticket, unplaced_step, IsNamed, named_is}

-- The operations and the object steps of a local are those of a later one, at the same places.
pub record Carries (l m : Local) : Type 0 where
  pub operations : (k operation : ℕ) → slice_get l.operations k ≡ Some operation
      → slice_get m.operations k ≡ Some operation
  pub steps : (k j : ℕ) (step : Object_step)
      → slice_get (slice_index_or l.object_steps k []) j ≡ Some step
      → slice_get (slice_index_or m.object_steps k []) j ≡ Some step

carries_itself : (l : Local) → Carries l l
carries_itself l = record { operations = λ k operation e. e; steps = λ k j step e. e }

adds_carries : (l m : Local) (e : Event)
    → ((step : Object_step) → e ≡ Object step → l.published < length l.object_steps) → Adds l m e
    → Carries l m
adds_carries l m e low (Adds_nothing no_step operations steps) =
    record {
      operations = λ k operation is. ap (λ (xs : List ℕ). slice_get xs k) operations ∙ is;
      steps = λ k j step is.
          ap (λ (xs : List (List Object_step)). slice_get (slice_index_or xs k []) j) steps ∙ is;
    }
adds_carries l m e low (Adds_call operation event operations steps) =
    record {
      operations = λ k x is. ap (λ (xs : List ℕ). slice_get xs k) operations
          ∙ slice_get-push_old l.operations operation k x is;
      steps = λ k j step is.
          ap (λ (xs : List (List Object_step)). slice_get (slice_index_or xs k []) j) steps
          ∙ ap (λ (xs : List Object_step). slice_get xs j) (steps_of-push l.object_steps k) ∙ is;
    }
adds_carries l m e low (Adds_step made event operations steps) =
    let now : List Object_step = steps_now l in
    record {
      operations = λ k x is. ap (λ (xs : List ℕ). slice_get xs k) operations ∙ is;
      steps = λ k j step is.
          ap (λ (xs : List (List Object_step)). slice_get (slice_index_or xs k []) j) steps
          ∙ elim (cases_eq k l.published) [
            | inl here ↦
                subst (λ (i : ℕ). slice_get (slice_index_or (slice_set l.object_steps l.published
                (now ++ made ∷ [])) i []) j ≡ Some step) (sym here)
                (ap (λ (xs : List Object_step). slice_get xs j)
                (get_or-set_same l.object_steps l.published (now ++ made ∷ []) [] (low made event))
                ∙ slice_get-push_old now made j step (subst
                (λ (i : ℕ). slice_get (slice_index_or l.object_steps i []) j ≡ Some step) here is))
            | inr away ↦
                ap (λ (xs : List Object_step). slice_get xs j)
                (get_or-set_other l.object_steps l.published k (now ++ made ∷ []) [] away) ∙ is
          ];
    }

module _ (spec : SeqSpec) (n cap : ℕ) where
  abbrev pub s : Shape
  s = log_shape spec n cap

  abbrev pub total : ℕ
  total = n * cap

  abbrev pub ticket : World → ℕ → ℕ
  ticket w p = object_word s w (ticket_place total p)

  -- the words of different calls lie apart, and before the tickets
  pub number_low : (i k : ℕ) → i < n → k < cap → number_of cap i k < total
  number_low i k low few = omega (arith, mul-add-lt i cap k n low few)

  same_place : (a b half other : ℕ) → half < 2 → other < 2 → 2 * a + half ≡ 2 * b + other → (a ≡ b)
      × (half ≡ other)
  same_place a b half other one two e = (omega (arith, one, two, e), omega (arith, one, two, e))

  pub held_low : (w : World) (place : ℕ) → HoldsOperation s w place → place < 2 * total
  held_low w place h = omega (arith, h.at, h.low, number_low h.i h.k h.call.caller h.call.few)

  pub holds_low : (w : World) (p : ℕ) (t : NamesCall s w p)
      → HoldsOperation s w (low_place (number_of cap t.i t.k))
  holds_low w p t = record {
    i = t.i;
    k = t.k;
    operation = t.operation;
    half = 0;
    call = t.call;
    low = omega arith;
    at = omega arith;
    word = t.low;
  }

  pub holds_high : (w : World) (p : ℕ) (t : NamesCall s w p)
      → HoldsOperation s w (high_place (number_of cap t.i t.k))
  holds_high w p t = record {
    i = t.i;
    k = t.k;
    operation = t.operation;
    half = 1;
    call = t.call;
    low = omega arith;
    at = refl;
    word = t.high;
  }

  held_at : (w : World) (place at : ℕ) → place ≡ at → HoldsOperation s w at
      → HoldsOperation s w place
  held_at w place at same h = subst (HoldsOperation s w) (sym same) h

  -- a ticket is at no place while no step of its call has placed it
  pub unplaced_nowhere : (w : World) (who k : ℕ) → IsLog s w → k < cap
      → placed_at total (ticket_of (number_of cap who k))
      (slice_index_or (local_of w who).object_steps k []) ≡ None
      → (q : ℕ) → q < total → ticket w q ≡ ticket_of (number_of cap who k) → ⊥
  unplaced_nowhere w who k log few none q low is =
      let t = log.named q low (λ free. omega (arith, sym is ∙ free)) in
      let same : number_of cap t.i t.k ≡ number_of cap who k = omega (arith, sym t.ticket ∙ is) in
      let parts = same_from_place t.i t.k who k cap t.call.few few same in
      let placed =
      subst (λ (i : ℕ). slice_get (slice_index_or (local_of w i).object_steps k []) t.placed.j
      ≡ Some t.placed.step) parts.0
      (subst (λ (j : ℕ). slice_get (slice_index_or (local_of w t.i).object_steps j []) t.placed.j
      ≡ Some t.placed.step) parts.1 t.placed.made) in
      unplaced_step total (ticket_of (number_of cap who k)) t.placed.j
      (slice_index_or (local_of w who).object_steps k []) t.placed.step none placed t.placed.high
      (t.placed.left ∙ ap ticket_of same)

  -- From one world to another, what never changes stays: the words of operations, the tickets, and
  -- what locals have.
  pub record Keeps (w v : World) : Type 0 where
    pub locals : (i : ℕ) → Carries (local_of w i) (local_of v i)
    pub held : (place : ℕ) → HoldsOperation s w place
        → object_word s v place ≡ object_word s w place
    pub tickets : (p : ℕ) → ticket w p ≢ 0 → ticket v p ≡ ticket w p

  module _ (w v : World) (m : Keeps w v) where
    call_kept : (i k operation : ℕ) → IsCallOf s w i k operation → IsCallOf s v i k operation
    call_kept i k operation c = record {
      caller = c.caller;
      few = c.few;
      there = (m.locals i).operations k operation c.there;
    }

    held_kept : (place : ℕ) → HoldsOperation s w place → HoldsOperation s v place
    held_kept place h =
        record {
          i = h.i;
          k = h.k;
          operation = h.operation;
          half = h.half;
          call = call_kept h.i h.k h.operation h.call;
          low = h.low;
          at = h.at;
          word = m.held place h ∙ h.word;
        }

    lasting_kept : (step : Object_step) → IsLasting s w step → IsLasting s v step
    lasting_kept step f =
        elim f.kind [
          | inl h ↦ record {
            stands = m.held step.place h ∙ f.stands;
            kind = inl (held_kept step.place h);
          }
          | inr t ↦
              let p : ℕ = step.place - 2 * total in
              let at : ticket_place total p ≡ step.place = omega (arith, t.0) in
              let was : ticket w p ≡ step.new = ap (object_word s w) at ∙ f.stands in
              record {
                stands = ap (object_word s v) (sym at)
                    ∙ m.tickets p (λ free. t.2 (sym was ∙ free)) ∙ was;
                kind = inr t;
              }
        ]

    all_lasting_kept : (xs : List (List Object_step)) → Each (Each (IsLasting s w)) xs
        → Each (Each (IsLasting s v)) xs
    all_lasting_kept xs h = each_map (Each (IsLasting s w)) (Each (IsLasting s v)) xs
        (λ ys g. each_map (IsLasting s w) (IsLasting s v) ys lasting_kept g) h

    named_kept : (p : ℕ) → ticket w p ≢ 0 → NamesCall s w p → NamesCall s v p
    named_kept p filled t =
        record {
          i = t.i;
          k = t.k;
          operation = t.operation;
          call = call_kept t.i t.k t.operation t.call;
          ticket = m.tickets p filled ∙ t.ticket;
          low = m.held (low_place (number_of cap t.i t.k)) (holds_low w p t) ∙ t.low;
          high = m.held (high_place (number_of cap t.i t.k)) (holds_high w p t) ∙ t.high;
          placed =
              record {
                j = t.placed.j;
                step = t.placed.step;
                made = (m.locals t.i).steps t.k t.placed.j t.placed.step t.placed.made;
                high = t.placed.high;
                left = t.placed.left;
              };
        }

    -- without a new ticket the rules of a log still hold
    without_new_ticket : IsLog s w → ((p : ℕ) → p < total → ticket v p ≢ 0 → ticket w p ≢ 0)
        → ((i : ℕ) → i < n → Each (Each (IsLasting s v)) (local_of v i).object_steps) → IsLog s v
    without_new_ticket log old all_lasting =
        record {
          prefix = λ p low filled.
              let before = log.prefix p low (old (p + 1) low filled) in
              λ free. before (sym (m.tickets p before) ∙ free);
          named =
              λ p low filled. let was = old p low filled in named_kept p was (log.named p low was);
          once = λ p q low below filled same.
              let was = old p low filled in
              let other = old q below (λ free. filled (same ∙ free)) in
              log.once p q low below was (sym (m.tickets p was) ∙ same ∙ m.tickets q other);
          lasting = all_lasting;
        }

  -- A step leads from a world to one in which what never changes stays, and the rules hold.
  pub record LeadsOn (w v : World) : Type 0 where
    pub keeps : Keeps w v
    pub log : IsLog s v

  -- An event of a caller.
  module _ (w : World) (who : ℕ) (kept : Kept s w) (log : IsLog s w) (event : Event)
      (may : IsTrue (is_possible s w (record { who = who; event = event }))) where
    abbrev l : Local
    l = local_of w who

    abbrev v : World
    v = after s w (record { who = who; event = event })

    all_carry : Carries l (local_of v who) → (i : ℕ) → Carries (local_of w i) (local_of v i)
    all_carry own i =
        elim (cases_eq i who) [
          | inl here ↦ subst (λ (j : ℕ). Carries (local_of w j) (local_of v j)) (sym here) own
          | inr away ↦ subst (λ (m : Local). Carries (local_of w i) m)
              (sym (other_local s w (record { who = who; event = event }) i away))
              (carries_itself (local_of w i))
        ]

    all_lasting : Keeps w v → Each (Each (IsLasting s v)) (local_of v who).object_steps → (i : ℕ)
        → i < n → Each (Each (IsLasting s v)) (local_of v i).object_steps
    all_lasting m own i low =
        elim (cases_eq i who) [
          | inl here ↦ subst (λ (j : ℕ). Each (Each (IsLasting s v)) (local_of v j).object_steps)
              (sym here) own
          | inr away ↦
              subst (λ (q : Local). Each (Each (IsLasting s v)) q.object_steps)
              (sym (other_local s w (record { who = who; event = event }) i away))
              (all_lasting_kept w v m (local_of w i).object_steps (log.lasting i low))
        ]

    -- an event that is no object step leaves all object words
    module _ (no_step : IsNoObjectStep event) (added : Adds l (local_of v who) event) where
      words_stay : (place : ℕ) → object_word s v place ≡ object_word s w place
      words_stay place = objects_stay s w (record { who = who; event = event }) place may no_step

      keeps_beside : Keeps w v
      keeps_beside =
          record {
            locals = all_carry (adds_carries l (local_of v who) event
                (λ step is. absurd (subst IsNoObjectStep is no_step)) added);
            held = λ place h. words_stay place;
            tickets = λ p filled. words_stay (ticket_place total p);
          }

      leads_beside : Each (Each (IsLasting s v)) (local_of v who).object_steps → LeadsOn w v
      leads_beside own =
          record {
            keeps = keeps_beside;
            log =
                without_new_ticket w v keeps_beside log
                (λ p low filled free. filled (words_stay (ticket_place total p) ∙ free))
                (all_lasting keeps_beside own);
          }

    was_lasting : Keeps w v → Each (Each (IsLasting s v)) l.object_steps
    was_lasting m = all_lasting_kept w v m l.object_steps
        (log.lasting who (possible s w (record { who = who; event = event }) may).caller)

    beside : IsNoObjectStep event → Adds l (local_of v who) event → LeadsOn w v
    beside no_step (Adds_nothing still operations steps) =
        let added : Adds l (local_of v who) event = Adds_nothing still operations steps in
        leads_beside no_step added
        (subst (Each (Each (IsLasting s v))) (sym steps) (was_lasting (keeps_beside no_step added)))
    beside no_step (Adds_call operation is operations steps) =
        let added : Adds l (local_of v who) event = Adds_call operation is operations steps in
        leads_beside no_step added
        (subst (Each (Each (IsLasting s v))) (sym steps) (each_push (Each (IsLasting s v))
        l.object_steps [] (was_lasting (keeps_beside no_step added)) tt))
    beside no_step (Adds_step step is operations steps) = absurd (subst IsNoObjectStep is no_step)

  -- An object step of a caller.
  module _ (w : World) (who : ℕ) (kept : Kept s w) (log : IsLog s w) (step : Object_step)
      (may : IsTrue (is_possible s w (record { who = who; event = Object step })))
      (added : Adds (local_of w who)
      (local_of (after s w (record { who = who; event = Object step })) who) (Object step))
      (steps : (local_of (after s w (record { who = who; event = Object step })) who).object_steps
      ≡ with_step (local_of w who).object_steps (local_of w who).published step) where
    abbrev pub me : Local
    me = local_of w who

    abbrev pub u : World
    u = after s w (record { who = who; event = Object step })

    abbrev pub k : ℕ
    k = me.published

    abbrev pub number : ℕ
    number = number_of cap who k

    abbrev pub operation : ℕ
    operation = operation_now me

    made : IsObjectStep s w who step
    made = object_step s w who step kept may

    pub call : IsCallOf s w who k operation
    call = record { caller = made.caller; few = made.call.few; there = made.call.operation }

    number_is_low : number < total
    number_is_low = number_low who k made.caller call.few

    carries : (i : ℕ) → Carries (local_of w i) (local_of u i)
    carries = all_carry w who kept log (Object step) may
        (adds_carries me (local_of u who) (Object step) (λ st is. made.call.has_steps) added)

    word_is : object_word s u step.place ≡ step.new
    word_is = object_is s w who step kept made.place

    pub word_other : (place : ℕ) → place ≢ step.place
        → object_word s u place ≡ object_word s w place
    word_other place away = other_object s w who step place away

    own_lasting : Each (Each (IsLasting s w)) me.object_steps
    own_lasting = log.lasting who made.caller

    now_lasting : Each (IsLasting s w) (steps_now me)
    now_lasting =
        each_at (Each (IsLasting s w)) me.object_steps k [] own_lasting made.call.has_steps

    -- where the new step's word lasts, the words that the steps of all callers left last too
    lasting_after : Keeps w u → IsLasting s u step → (i : ℕ) → i < n
        → Each (Each (IsLasting s u)) (local_of u i).object_steps
    lasting_after m new =
        let old = all_lasting_kept w u m me.object_steps own_lasting in
        all_lasting w who kept log (Object step) may m
        (subst (Each (Each (IsLasting s u))) (sym steps)
        (each_set (Each (IsLasting s u)) me.object_steps k (steps_now me ++ step ∷ []) old
        (each_push (IsLasting s u) (steps_now me) step
        (each_at (Each (IsLasting s u)) me.object_steps k [] old made.call.has_steps) new)))

    -- A step that leaves the word that it finds, where this word lasts.
    module _ (same : step.new ≡ step.old) (lasting : IsLasting s w step) where
      pub words_same : (place : ℕ) → object_word s u place ≡ object_word s w place
      words_same place =
          elim (cases_eq place step.place) [
            | inl here ↦ ap (object_word s u) here ∙ word_is ∙ same ∙ made.found
                ∙ ap (object_word s w) (sym here)
            | inr away ↦ word_other place away
          ]

      keeps_same : Keeps w u
      keeps_same = record {
        locals = carries;
        held = λ place h. words_same place;
        tickets = λ p filled. words_same (ticket_place total p);
      }

      leads_same : LeadsOn w u
      leads_same =
          record {
            keeps = keeps_same;
            log =
                without_new_ticket w u keeps_same log
                (λ p low filled free. filled (words_same (ticket_place total p) ∙ free))
                (lasting_after keeps_same (lasting_kept w u keeps_same step lasting));
          }

    -- the place of a word of an operation says whose it is
    same_call : (place half : ℕ) (h : HoldsOperation s w place) → half < 2
        → place ≡ 2 * number + half → (h.half ≡ half) × (h.operation ≡ operation)
    same_call place half h low at =
        let apart =
        same_place (number_of cap h.i h.k) number h.half half h.low low (sym h.at ∙ at) in
        let parts = same_from_place h.i h.k who k cap h.call.few call.few apart.0 in
        let mine : slice_get (local_of w who).operations k ≡ Some h.operation =
        subst (λ (i : ℕ). slice_get (local_of w i).operations k ≡ Some h.operation) parts.0
        (subst (λ (j : ℕ). slice_get (local_of w h.i).operations j ≡ Some h.operation) parts.1
        h.call.there) in
        (apart.1, same_Some h.operation operation (sym mine ∙ call.there))

    -- A store of a word of the own operation.
    module _ (half : ℕ) (low : half < 2) (at : step.place ≡ 2 * number + half)
        (is : step.new ≡ half_of half operation) where
      pub before_tickets : (p : ℕ) → ticket_place total p ≢ step.place
      before_tickets p same = omega (arith, same, at, low, number_is_low)

      pub keeps_store : Keeps w u
      keeps_store =
          record {
            locals = carries;
            held = λ place h. elim (cases_eq place step.place) [
              | inl here ↦
                  let own = same_call place half h low (here ∙ at) in
                  ap (object_word s u) here ∙ word_is ∙ is
                  ∙ sym
                  (h.word ∙ ap (λ (x : ℕ). half_of x h.operation) own.0 ∙ ap (half_of half) own.1)
              | inr away ↦ word_other place away
            ];
            tickets = λ p filled. word_other (ticket_place total p) (before_tickets p);
          }

      leads_store : LeadsOn w u
      leads_store =
          record {
            keeps = keeps_store;
            log =
                without_new_ticket w u keeps_store log (λ p p_low filled free.
                filled (word_other (ticket_place total p) (before_tickets p) ∙ free))
                (lasting_after keeps_store (record {
                  stands = word_is;
                  kind =
                      inl (record {
                        i = who;
                        k = k;
                        operation = operation;
                        half = half;
                        call = call_kept w u keeps_store who k operation call;
                        low = low;
                        at = at;
                        word = word_is ∙ is;
                      });
                }));
          }

    -- A step at a place of the log.
    module _ (high : 2 * total ≤ step.place) where
      abbrev pub p : ℕ
      p = step.place - 2 * total

      ticket_is : ticket_place total p ≡ step.place
      ticket_is = omega (arith, high)

      pub p_low : p < total
      p_low = omega (arith, high, made.place)

      -- an own word that this call has stored is still at its place
      own_word : (half x : ℕ) → half < 2 → known (2 * number + half) (steps_now me) ≡ Some x
          → object_word s w (2 * number + half) ≡ half_of half operation
      own_word half x low e =
          let f = known_step (IsLasting s w) (2 * number + half) x (steps_now me) now_lasting e in
          elim f.holds.kind [
            | inl h ↦
                let own = same_call f.step.place half h low f.at in
                ap (object_word s w) (sym f.at) ∙ h.word
                ∙ ap (λ (y : ℕ). half_of y h.operation) own.0 ∙ ap (half_of half) own.1
            | inr t ↦ absurd (omega (arith, t.0, f.at, low, number_is_low))
          ]

      pub nowhere : placed_at total (ticket_of number) (steps_now me) ≡ None → (q : ℕ) → q < total
          → ticket w q ≡ ticket_of number → ⊥
      nowhere none = unplaced_nowhere w who k log call.few none

      -- An exchange that places the own ticket.
      module _ (free : step.old ≡ 0) (is : step.new ≡ ticket_of number)
          (below : IsTrue (are_filled_below total (all_steps_of me) p))
          (has_low : (x : ℕ) × (known (low_place number) (steps_now me) ≡ Some x))
          (has_high : (x : ℕ) × (known (high_place number) (steps_now me) ≡ Some x))
          (none : placed_at total (ticket_of number) (steps_now me) ≡ None) where
        pub was_free : ticket w p ≡ 0
        was_free = ap (object_word s w) ticket_is ∙ sym made.found ∙ free

        pub is_placed : ticket u p ≡ ticket_of number
        is_placed = ap (object_word s u) ticket_is ∙ word_is ∙ is

        pub away_from : (q : ℕ) → q ≢ p → ticket u q ≡ ticket w q
        away_from q away =
            word_other (ticket_place total q) (λ same. away (omega (arith, same, ticket_is)))

        pub keeps_placing : Keeps w u
        keeps_placing =
            record {
              locals = carries;
              held = λ place h.
                  word_other place (λ same. omega (arith, same, high, held_low w place h));
              tickets = λ q filled. away_from q (λ same. filled (ap (ticket w) same ∙ was_free));
            }

        pub own_low : object_word s u (low_place number) ≡ low_of operation
        own_low =
            let zero_more : 2 * number + 0 ≡ 2 * number = omega arith in
            word_other (low_place number) (λ same. omega (arith, same, high, number_is_low))
            ∙ ap (object_word s w) (sym zero_more) ∙ own_word 0 has_low.0 (omega arith)
            (ap (λ (y : ℕ). known y (steps_now me)) zero_more ∙ has_low.1)

        pub own_high : object_word s u (high_place number) ≡ high_of operation
        own_high = word_other (high_place number) (λ same. omega (arith, same, high, number_is_low))
            ∙ own_word 1 has_high.0 (omega arith) has_high.1

        new_ticket : NamesCall s u p
        new_ticket =
            record {
              i = who;
              k = k;
              operation = operation;
              call = call_kept w u keeps_placing who k operation call;
              ticket = is_placed;
              low = own_low;
              high = own_high;
              placed =
                  record {
                    j = length (steps_now me);
                    step = step;
                    made =
                        ap (λ (xs : List (List Object_step)).
                        slice_get (slice_index_or xs k []) (length (steps_now me))) steps
                        ∙ ap (λ (xs : List Object_step). slice_get xs (length (steps_now me)))
                        (get_or-set_same me.object_steps k
                        (steps_now me ++ step ∷ []) [] made.call.has_steps)
                        ∙ slice_get-push_last (steps_now me) step;
                    high = high;
                    left = is;
                  };
            }

        filled_before : (q : ℕ) → p ≡ suc q → ticket w q ≢ 0
        filled_before q same =
            let all : IsTrue (are_filled_below total (all_steps_of me) (suc q)) =
            subst (λ (x : ℕ). IsTrue (are_filled_below total (all_steps_of me) x)) same below in
            let last = and_parts (is_filled (known (ticket_place total q) (all_steps_of me)))
            (are_filled_below total (all_steps_of me) q) all in
            let some = filled_is (known (ticket_place total q) (all_steps_of me)) last.0 in
            let f = known_step (IsLasting s w) (ticket_place total q) some.0 (all_steps_of me)
            (each_of_all (IsLasting s w) me.object_steps own_lasting) some.1 in
            λ free. omega
            (arith, some.2, sym (sym (ap (object_word s w) f.at) ∙ f.holds.stands ∙ f.left) ∙ free)

        leads_placing : LeadsOn w u
        leads_placing =
            let m = keeps_placing in
            record {
              keeps = m;
              log =
                  record {
                    prefix = λ q low filled. elim (cases_eq p (q + 1)) [
                      | inl here ↦ let before = filled_before q (omega (arith, here)) in
                          λ none_there. before (sym (m.tickets q before) ∙ none_there)
                      | inr away ↦
                          let before = log.prefix q low (λ none_there.
                          filled (away_from (q + 1) (λ same. away (sym same)) ∙ none_there)) in
                          λ none_there. before (sym (m.tickets q before) ∙ none_there)
                    ];
                    named = λ q low filled. elim (cases_eq q p) [
                      | inl here ↦ subst (NamesCall s u) (sym here) new_ticket
                      | inr away ↦ let was : ticket w q ≢ 0 =
                          λ none_there. filled (away_from q away ∙ none_there) in
                          named_kept w u m q was (log.named q low was)
                    ];
                    once = λ q r low below_r filled same. elim (cases_eq q p) [
                      | inl here ↦ elim (cases_eq r p) [
                        | inl there ↦ here ∙ sym there
                        | inr away ↦ absurd (nowhere none r below_r
                            (sym (away_from r away) ∙ sym same ∙ ap (ticket u) here ∙ is_placed))
                      ]
                      | inr away ↦ elim (cases_eq r p) [
                        | inl there ↦ absurd (nowhere none q low
                            (sym (away_from q away) ∙ same ∙ ap (ticket u) there ∙ is_placed))
                        | inr off ↦ log.once q r low below_r
                            (λ none_there. filled (away_from q away ∙ none_there))
                            (sym (away_from q away) ∙ same ∙ away_from r off)
                      ]
                    ];
                    lasting = lasting_after m (record {
                      stands = word_is;
                      kind =
                          inr (high, made.place, λ none_there. omega (arith, sym is ∙ none_there));
                    });
                  };
            }

  -- What an object step does: it leaves a lasting word; it stores a word of the own operation; or
  -- it places the own ticket.
  pub data StepCase (w : World) (who : ℕ) (step : Object_step) : Type 0 where
    Leaves : (same : step.new ≡ step.old) (lasting : IsLasting s w step) → StepCase w who step
    Stores : (half : ℕ) (low : half < 2)
        (at : step.place ≡ 2 * number_of cap who (local_of w who).published + half)
        (is : step.new ≡ half_of half (operation_now (local_of w who))) → StepCase w who step
    Places : (high : 2 * total ≤ step.place) (free : step.old ≡ 0)
        (is : step.new ≡ ticket_of (number_of cap who (local_of w who).published))
        (below : IsTrue
        (are_filled_below total (all_steps_of (local_of w who)) (step.place - 2 * total)))
        (has_low : (x : ℕ) × (known (low_place (number_of cap who (local_of w who).published))
        (steps_now (local_of w who)) ≡ Some x))
        (has_high : (x : ℕ) × (known (high_place (number_of cap who (local_of w who).published))
        (steps_now (local_of w who)) ≡ Some x))
        (none : placed_at total (ticket_of (number_of cap who (local_of w who).published))
        (steps_now (local_of w who)) ≡ None) → StepCase w who step

  module _ (w : World) (who : ℕ) (kept : Kept s w) (log : IsLog s w) (step : Object_step)
      (may : IsTrue (is_possible s w (record { who = who; event = Object step }))) where
    abbrev mine : Local
    mine = local_of w who

    abbrev own_number : ℕ
    own_number = number_of cap who mine.published

    made_here : IsObjectStep s w who step
    made_here = object_step s w who step kept may

    all_last : Each (IsLasting s w) (all_steps_of mine)
    all_last = each_of_all (IsLasting s w) mine.object_steps (log.lasting who made_here.caller)

    -- a word of a call whose ticket is in the log lasts
    lasting_at : (q named : ℕ) (t : NamesCall s w q) → named ≡ number_of cap t.i t.k
        → step.new ≡ step.old
        → (step.place ≡ low_place named) ⊎ (step.place ≡ high_place named) → IsLasting s w step
    lasting_at q named t same leaves at =
        let stands : object_word s w step.place ≡ step.new = sym made_here.found ∙ sym leaves in
        elim at [
          | inl low ↦
              record {
                stands = stands;
                kind = inl (held_at w step.place (low_place (number_of cap t.i t.k))
                    (low ∙ ap low_place same) (holds_low w q t));
              }
          | inr high ↦
              record {
                stands = stands;
                kind = inl (held_at w step.place (high_place (number_of cap t.i t.k))
                    (high ∙ ap high_place same) (holds_high w q t));
              }
        ]

    -- a load is of a word of a call whose ticket is in the log
    loads_lasting : (p : ℕ) → step.new ≡ step.old → IsNamed total (all_steps_of mine) p step.place
        → IsLasting s w step
    loads_lasting p same named =
        let q : ℕ = named.q in
        let f = known_step (IsLasting s w) (ticket_place total q) (suc named.number)
        (all_steps_of mine) all_last named.ticket in
        let is : ticket w q ≡ suc named.number =
        ap (object_word s w) (sym f.at) ∙ f.holds.stands ∙ f.left in
        let low : q < total =
        elim f.holds.kind [
          | inl h ↦ absurd (omega (arith, f.at, held_low w f.step.place h))
          | inr t ↦ omega (arith, f.at, t.1)
        ] in
        let t = log.named q low (λ free. omega (arith, sym is ∙ free)) in
        lasting_at q named.number t (omega (arith, is, t.ticket)) same named.at

    load_deed : (o : Option ℕ) → step.new ≡ step.old
        → is_named_before o total (all_steps_of mine) step.place ≡ true → StepCase w who step
    load_deed None same h = absurd cc
    load_deed (Some p) same h =
        Leaves same (loads_lasting p same (named_is total (all_steps_of mine) step.place p h))

    exchange_deed : IsTrue (is_exchange total own_number mine step) → StepCase w who step
    exchange_deed exchange =
        let steps : List Object_step = steps_now mine in
        let all : List Object_step = all_steps_of mine in
        let own : ℕ = ticket_of own_number in
        let first : Bool = is_first_unfilled total all (step.place - 2 * total) in
        let low : Bool = is_known (known (low_place own_number) steps) in
        let high : Bool = is_known (known (high_place own_number) steps) in
        let unplaced : Bool = not (is_known (placed_at total own steps)) in
        let left : Bool = step.new == (if step.old == 0 then own else step.old) in
        let a = and_parts (not (nat_lt step.place (2 * total)))
        (first && (low && (high && (unplaced && left)))) exchange in
        let b = and_parts first (low && (high && (unplaced && left))) a.1 in
        let c = and_parts low (high && (unplaced && left)) b.1 in
        let d = and_parts high (unplaced && left) c.1 in
        let f = and_parts unplaced left d.1 in
        let below = and_parts (are_filled_below total all (step.place - 2 * total))
        (not (is_filled (known (ticket_place total (step.place - 2 * total)) all))) b.0 in
        let above : 2 * total ≤ step.place = (is_ticket total step.place a.0).0 in
        elim (cases_Bool (step.old == 0)) [
          | inl free ↦
              Places above (eqb-true step.old 0 free)
              (eqb-true step.new (if step.old == 0 then own else step.old) f.1
              ∙ cond-true (step.old == 0) own step.old free)
              below.0 (known_is (known (low_place own_number) steps) c.0)
              (known_is (known (high_place own_number) steps) d.0)
              (unknown_is (placed_at total own steps) f.0)
          | inr taken ↦
              let same : step.new ≡ step.old =
              eqb-true step.new (if step.old == 0 then own else step.old) f.1
              ∙ cond-false (step.old == 0) own step.old taken in
              Leaves same (record {
                stands = sym made_here.found ∙ sym same;
                kind = inr (
                  above,
                  made_here.place,
                  λ none_there. eqb-false step.old 0 taken (sym same ∙ none_there),
                );
              })
        ]

    pub deed : StepCase w who step
    deed =
        let low : Bool = is_low_store own_number mine step in
        let high : Bool = is_high_store own_number mine step in
        let exchange : Bool = is_exchange total own_number mine step in
        let load : Bool = is_load total own_number mine step in
        elim (or_cases low (high || (exchange || load)) made_here.allowed) [
          | inl is ↦
              let a = and_parts (step.place == low_place own_number)
              (step.new == low_of (operation_now mine)
              && not (is_known (known (low_place own_number) (steps_now mine)))) is in
              let b = and_parts (step.new == low_of (operation_now mine))
              (not (is_known (known (low_place own_number) (steps_now mine)))) a.1 in
              let zero_more : low_place own_number ≡ 2 * own_number + 0 = omega arith in
              Stores 0 (omega arith) (eqb-true step.place (low_place own_number) a.0 ∙ zero_more)
              (eqb-true step.new (low_of (operation_now mine)) b.0)
          | inr others ↦ elim (or_cases high (exchange || load) others) [
            | inl is ↦
                let once : Bool = is_known (known (low_place own_number) (steps_now mine))
                && not (is_known (known (high_place own_number) (steps_now mine))) in
                let a = and_parts (step.place == high_place own_number)
                (step.new == high_of (operation_now mine) && once) is in
                let b = and_parts (step.new == high_of (operation_now mine)) once a.1 in
                Stores 1 (omega arith) (eqb-true step.place (high_place own_number) a.0)
                (eqb-true step.new (high_of (operation_now mine)) b.0)
            | inr more ↦ elim (or_cases exchange load more) [
              | inl is ↦ exchange_deed is
              | inr is ↦
                  let place : Option ℕ = placed_at total (ticket_of own_number) (steps_now mine) in
                  let a = and_parts (step.new == step.old)
                  (is_named_before place total (all_steps_of mine) step.place) is in
                  load_deed place (eqb-true step.new step.old a.0) a.1
            ]
          ]
        ]

  by_deed : (w : World) (who : ℕ) (kept : Kept s w) (log : IsLog s w) (step : Object_step)
      (may : IsTrue (is_possible s w (record { who = who; event = Object step })))
      (added : Adds (local_of w who)
      (local_of (after s w (record { who = who; event = Object step })) who) (Object step))
      (steps : (local_of (after s w (record { who = who; event = Object step })) who).object_steps
      ≡ with_step (local_of w who).object_steps (local_of w who).published step)
      → StepCase w who step → LeadsOn w (after s w (record { who = who; event = Object step }))
  by_deed w who kept log step may added steps (Leaves same lasting) =
      leads_same w who kept log step may added steps same lasting
  by_deed w who kept log step may added steps (Stores half low at is) =
      leads_store w who kept log step may added steps half low at is
  by_deed w who kept log step may added steps (Places high free is below has_low has_high none) =
      leads_placing w who kept log step may added steps high free is below has_low has_high none

  by_event : (w : World) (who : ℕ) (kept : Kept s w) (log : IsLog s w) (event : Event)
      (may : IsTrue (is_possible s w (record { who = who; event = event })))
      → Adds (local_of w who) (local_of (after s w (record { who = who; event = event })) who) event
      → LeadsOn w (after s w (record { who = who; event = event }))
  by_event w who kept log event may (Adds_nothing no_step operations steps) =
      beside w who kept log event may no_step (Adds_nothing no_step operations steps)
  by_event w who kept log event may (Adds_call operation is operations steps) =
      beside w who kept log event may (subst IsNoObjectStep (sym is) tt)
      (Adds_call operation is operations steps)
  by_event w who kept log event may (Adds_step step is operations steps) =
      let v : Event → World = λ ev. after s w (record { who = who; event = ev }) in
      let here : IsTrue (is_possible s w (record { who = who; event = Object step })) =
      subst (λ (ev : Event). IsTrue (is_possible s w (record { who = who; event = ev }))) is may in
      let made : (local_of (v (Object step)) who).object_steps
      ≡ with_step (local_of w who).object_steps (local_of w who).published step =
      subst (λ (ev : Event). (local_of (v ev) who).object_steps
      ≡ with_step (local_of w who).object_steps (local_of w who).published step) is steps in
      let added : Adds (local_of w who) (local_of (v (Object step)) who) (Object step) =
      subst (λ (ev : Event). Adds (local_of w who) (local_of (v ev) who) ev) is
      (Adds_step step is operations steps) in
      subst (λ (ev : Event). LeadsOn w (v ev)) (sym is)
      (by_deed w who kept log step here added made (deed w who kept log step here))

  pub step_leads : (w : World) (step : Step) → Kept s w → IsLog s w → IsTrue (is_possible s w step)
      → LeadsOn w (after s w step)
  step_leads w step kept log may =
      by_event w step.who kept log step.event may (step_adds s w step kept may)

  free_at_start : (p : ℕ) → ticket (start s) p ≡ 0
  free_at_start p =
      get_or-replicate_default (words_of s) (object_index n cap (ticket_place total p)) 0

  starts : IsLog s (start s)
  starts =
      record {
        prefix = λ p low filled. absurd (filled (free_at_start (p + 1)));
        named = λ p low filled. absurd (filled (free_at_start p));
        once = λ p q low below filled same. absurd (filled (free_at_start p));
        lasting = λ i low. subst (λ (l : Local). Each (Each (IsLasting s (start s))) l.object_steps)
            (sym (get_or-replicate_default n i fresh)) tt;
      }

  rules_after : (w : World) (steps : List Step) → Kept s w → IsLog s w
      → IsTrue (are_possible s w steps) → IsLog s (after_all s w steps)
  rules_after w [] kept log may = log
  rules_after w (step ∷ steps) kept log may =
      let parts = and_parts (is_possible s w step) (are_possible s (after s w step) steps) may in
      rules_after (after s w step) steps (step_kept s w step kept parts.0)
      (step_leads w step kept log parts.0).log parts.1

  pub rules_hold : (w : World) → IsReachable s w → IsLog s w
  rules_hold w (steps, run, at) =
      subst (IsLog s) at (rules_after (start s) steps (start_kept s) starts run)

  tickets_after : (w : World) (steps : List Step) (p : ℕ) → Kept s w → IsLog s w
      → IsTrue (are_possible s w steps) → ticket w p ≢ 0
      → ticket (after_all s w steps) p ≡ ticket w p
  tickets_after w [] p kept log may filled = refl
  tickets_after w (step ∷ steps) p kept log may filled =
      let parts = and_parts (is_possible s w step) (are_possible s (after s w step) steps) may in
      let on = step_leads w step kept log parts.0 in
      let stays : ticket (after s w step) p ≡ ticket w p = on.keeps.tickets p filled in
      tickets_after (after s w step) steps p (step_kept s w step kept parts.0) on.log parts.1
      (λ free. filled (sym stays ∙ free)) ∙ stays

pub log_rules_hold : LogRulesHold
log_rules_hold spec n cap w reach = rules_hold spec n cap w reach

pub tickets_stay : TicketsStay
tickets_stay spec n cap before later p run filled =
    let sh : Shape = log_shape spec n cap in
    let on = goes_on sh before later run in
    let parts =
    and_parts (are_possible sh (start sh) before) (are_possible sh (end_of sh before) later)
    (sym (are_possible-append sh (start sh) before later) ∙ run) in
    let log = rules_hold spec n cap (end_of sh before) (before, parts.0, refl) in
    ap (λ (v : World). ticket_at sh v p) on.at
    ∙ tickets_after spec n cap (end_of sh before) later p on.kept log on.may filled
