-- Calls that take effect one at a time linearize, in the order of their effects.
use Rattle.std.proofs.Common.{◌≡◌, ◌≢◌, ℕ, ◌<◌, true, List, [], ◌∷◌, ◌++◌, length, Some, slice_get, refl, sym, ap, ◌∙◌, subst, arith, IsTrue, inl, inr, append_assoc, append-nil}
use Rattle.std.specs.Prelude.{Contains, ◌⊎◌}
use Rattle.std.proofs.lemmas.Bool.{and_parts, and_from, cases_eq}
use Rattle.std.proofs.lemmas.Option.{same_Some, none-some, slice_get_within}
use Rattle.std.proofs.lemmas.List.Elements.{Contains-append_left, Contains-push, Contains-push_cases}
use Rattle.list_laws.proofs.Places.{get_or-replicate_default, slice_get-push_cases}
use Rattle.book_base.specs.declared.call.Call.{Call}
use Rattle.book_base.specs.SeqSpec.{SeqSpec}
use Rattle.world_core.specs.Shape.{Shape}
use Rattle.world_core.specs.Local.{Local, fresh}
use Rattle.world_core.specs.Event.{Event}
use Rattle.world_core.specs.World.{World, Step, start, local_of, after, is_possible, after_all, are_possible, IsRun, end_of, IsReachable}
use Rattle.world_core.specs.History.{Happening, Invoked, Done, happenings, history_from, history_of, call_of, IsLinearization}
use Rattle.world_laws.specs.Views.{return_of}
use Rattle.world_laws.proofs.Running.{Kept, start_kept, steps_kept, possible, after_all-append, are_possible-append}
use Rattle.world_laws.proofs.Recording.{Told, Nothing, Called, Answered, step_told, invoked_is_announced, invoked_since, history_from-append}
use Rattle.world_objects.specs.Effects.{Effects, IsQuiet, IsAnnounced, TakesEffect, HasEffects, TakesEffectBefore, EffectsLinearize, TheOrderIsOfEffects}
use Rattle.world_objects.proofs.Linearizations.{list_after, list_after-push, contained, after_invocation, after_return, after_effect}

-- A run leads to this world, with this history.
record RunLeadsTo (s : Shape) (steps : List Step) (w : World)
    (history : List Happening) : Type 0 where
  run : IsRun s steps
  at : end_of s steps ≡ w
  told : history_of s steps ≡ history

leads_on : (s : Shape) (steps : List Step) (w : World) (history : List Happening) (step : Step)
    → RunLeadsTo s steps w history → IsTrue (is_possible s w step)
    → RunLeadsTo s (steps ++ step ∷ []) (after s w step)
    (history ++ happenings step.who (local_of w step.who) step.event)
leads_on s steps w history step l may =
    let next : IsTrue (are_possible s (end_of s steps) (step ∷ [])) =
    subst (λ (v : World). IsTrue (are_possible s v (step ∷ []))) (sym l.at)
    (and_from (is_possible s w step) true may refl) in
    let here : List Happening = happenings step.who (local_of w step.who) step.event in
    record {
      run = are_possible-append s (start s) steps (step ∷ []) ∙ and_from
          (are_possible s (start s) steps) (are_possible s (end_of s steps) (step ∷ [])) l.run next;
      at = after_all-append s (start s) steps (step ∷ []) ∙ ap (λ (v : World). after s v step) l.at;
      told =
          history_from-append s (start s) steps (step ∷ [])
          ∙ ap (λ (v : World). history_of s steps ++ history_from s v (step ∷ [])) l.at
          ∙ ap (λ (hs : List Happening). hs ++ (here ++ [])) l.told
          ∙ ap (λ (hs : List Happening). history ++ hs) (append-nil here);
    }

module _ (s : Shape) (steps : List Step) (w : World) (history : List Happening)
    (l : RunLeadsTo s steps w history) where
  reached : IsReachable s w
  reached = (steps, l.run, l.at)

  kept : Kept s w
  kept = subst (Kept s) l.at (steps_kept s (start s) steps (start_kept s) l.run)

  -- the calls that were invoked are those that have been announced
  invoked_announced : (call : Call) (operation : ℕ) → Contains history (Invoked call operation)
      → IsAnnounced s w call operation
  invoked_announced call operation h =
      let found =
      invoked_is_announced s (start s) steps call operation (start_kept s) l.run
      (subst (λ (hs : List Happening). Contains hs (Invoked call operation)) (sym l.told) h) in
      record {
        caller = found.0;
        is = subst (λ (v : World). slice_get (local_of v call.caller).operations call.number
            ≡ Some operation) l.at found.1;
      }

  announced_invoked : (call : Call) (operation : ℕ) → IsAnnounced s w call operation
      → Contains history (Invoked call operation)
  announced_invoked call operation a =
      let none : length (local_of (start s) call.caller).operations ≡ 0 =
      ap (λ (m : Local). length m.operations)
      (get_or-replicate_default s.callers call.caller fresh) in
      let there =
      subst (λ (v : World). call.number < length (local_of v call.caller).operations) (sym l.at)
      (slice_get_within (local_of w call.caller).operations call.number operation a.is) in
      let found = invoked_since s (start s) steps call.caller call.number (start_kept s) l.run
      (omega (arith, none)) there in
      let here : Contains history (Invoked call found.0) =
      subst (λ (hs : List Happening). Contains hs (Invoked call found.0)) l.told found.1 in
      let same : found.0 ≡ operation =
      same_Some found.0 operation (sym (invoked_announced call found.0 here).is ∙ a.is) in
      subst (λ (x : ℕ). Contains history (Invoked call x)) same here

-- two calls are one call or two
cases_call : (a b : Call) → (a ≡ b) ⊎ (a ≢ b)
cases_call a b =
    elim (cases_eq a.caller b.caller) [
      | inl caller ↦ elim (cases_eq a.number b.number) [
        | inl number ↦
            inl (ap (λ (i : ℕ). call_of i a.number) caller ∙ ap (call_of b.caller) number)
        | inr away ↦ inr (λ same. away (ap (λ (c : Call). c.number) same))
      ]
      | inr away ↦ inr (λ same. away (ap (λ (c : Call). c.caller) same))
    ]

-- a call that took effect before another in a run did so in each longer run
before_on : (s : Shape) (e : Effects) (steps : List Step) (step : Step) (a b : Call)
    → TakesEffectBefore s e steps a b → TakesEffectBefore s e (steps ++ step ∷ []) a b
before_on s e steps step a b t =
    record {
      before = t.before;
      later = t.later ++ step ∷ [];
      run = sym (append_assoc t.before t.later (step ∷ []))
          ∙ ap (λ (xs : List Step). xs ++ step ∷ []) t.run;
      reply = t.reply;
      first = t.first;
      second = t.second;
    }

-- An order that linearizes a run's history, with the list and the replies of its last world.
record Orders (spec : SeqSpec) (s : Shape) (e : Effects) (steps : List Step) (w : World)
    (history : List Happening) (order : List Done) : Type 0 where
  lin : IsLinearization spec history order
  list : list_after spec.next spec.init order ≡ e.list w
  replied : (d : Done) → Contains order d → e.reply w d.call ≡ Some d.reply
  stands : (call : Call) (reply : ℕ) → e.reply w call ≡ Some reply → (operation : ℕ)
      × Contains order (record { call = call; operation = operation; reply = reply })
  ordered : (p q : ℕ) (a b : Done) → p < q → slice_get order p ≡ Some a → slice_get order q ≡ Some b
      → TakesEffectBefore s e steps a.call b.call

module _ (spec : SeqSpec) (s : Shape) (e : Effects) (has : HasEffects spec s e) where
  -- A step, with its happenings.
  module _ (steps : List Step) (w : World) (history : List Happening) (order : List Done)
      (step : Step) (l : RunLeadsTo s steps w history) (o : Orders spec s e steps w history order)
      (may : IsTrue (is_possible s w step)) where
    abbrev me : Local
    me = local_of w step.who

    abbrev v : World
    v = after s w step

    abbrev here : List Happening
    here = happenings step.who me step.event

    -- the order linearizes the history with the step's happenings
    linearizes : Told step.who me (local_of v step.who) step.event here
        → IsLinearization spec (history ++ here) order
    linearizes (Nothing is operations replies) =
        subst (λ (hs : List Happening). IsLinearization spec (history ++ hs) order) (sym is)
        (subst (λ (hs : List Happening). IsLinearization spec hs order)
        (sym (append-nil history)) o.lin)
    linearizes (Called operation is operations replies) =
        let who = possible s w step may in
        let long : length me.operations ≡ me.announced =
        ((kept s steps w history l).agree step.who who.caller).phase.operations in
        subst (λ (hs : List Happening). IsLinearization spec (history ++ hs) order) (sym is)
        (after_invocation spec history order o.lin (call_of step.who me.announced) operation
        (λ x h. let a = invoked_announced s steps w history l (call_of step.who me.announced) x h in
        let low = slice_get_within me.operations me.announced x a.is in
        absurd (omega (arith, low, long))))
    linearizes (Answered x reply event is operations replies phase) =
        let call : Call = call_of step.who (length me.replies) in
        let same : step ≡ return_of step.who x reply =
        ap (λ (ev : Event). record { who = step.who; event = ev }) event in
        let done = has.returns w step.who x reply (reached s steps w history l)
        (subst (λ (st : Step). IsTrue (is_possible s w st)) same may) in
        let there = o.stands call reply done in
        subst (λ (hs : List Happening). IsLinearization spec (history ++ hs) order) (sym is)
        (after_return spec history order o.lin call there.0 reply there.1)

    linearized : IsLinearization spec (history ++ here) order
    linearized = linearizes (step_told s w step (kept s steps w history l) may)

    abbrev on : RunLeadsTo s (steps ++ step ∷ []) v (history ++ here)
    on = leads_on s steps w history step l may

    -- the step takes no call into effect
    quiet : IsQuiet e w v → Orders spec s e (steps ++ step ∷ []) v (history ++ here) order
    quiet q =
        record {
          lin = linearized;
          list = o.list ∙ sym q.list;
          replied = λ d h. q.replies d.call ∙ o.replied d h;
          stands = λ call reply is. o.stands call reply (sym (q.replies call) ∙ is);
          ordered = λ p r a b lt at there.
              before_on s e steps step a.call b.call (o.ordered p r a b lt at there);
        }

    -- the step takes one call into effect
    module _ (d : Done) (t : TakesEffect spec.next s e w v d) where
      new : (f : Done) → Contains order f → f.call ≡ d.call → ⊥
      new f h same = none-some f.reply (sym t.before ∙ ap (e.reply w) (sym same) ∙ o.replied f h)

      stands_after : (call : Call) (reply : ℕ) → e.reply v call ≡ Some reply
          → (operation : ℕ) × Contains (order ++ d ∷ [])
          (record { call = call; operation = operation; reply = reply })
      stands_after call reply is =
          elim (cases_call call d.call) [
            | inl own ↦
                let word : d.reply ≡ reply =
                same_Some d.reply reply (sym t.now ∙ ap (e.reply v) (sym own) ∙ is) in
                let made : Call → ℕ → Done =
                λ c r. record { call = c; operation = d.operation; reply = r } in
                let same : d ≡ made call reply =
                ap (λ (c : Call). made c d.reply) (sym own) ∙ ap (made call) word in
                (d.operation, subst (Contains (order ++ d ∷ [])) same (Contains-push order d))
            | inr away ↦
                let found = o.stands call reply (sym (t.others call away) ∙ is) in (
                  found.0,
                  Contains-append_left order (d ∷ [])
                      (record { call = call; operation = found.0; reply = reply }) found.1,
                )
          ]

      -- each call of the order took effect before this one
      before_last : (p : ℕ) (a : Done) → slice_get order p ≡ Some a
          → TakesEffectBefore s e (steps ++ step ∷ []) a.call d.call
      before_last p a at =
          record {
            before = steps;
            later = step ∷ [];
            run = refl;
            reply = a.reply;
            first =
                ap (λ (u : World). e.reply u a.call) l.at ∙ o.replied a (contained order p a at);
            second = ap (λ (u : World). e.reply u d.call) l.at ∙ t.before;
          }

      ordered_after : (p q : ℕ) (a b : Done) → p < q → slice_get (order ++ d ∷ []) p ≡ Some a
          → slice_get (order ++ d ∷ []) q ≡ Some b
          → TakesEffectBefore s e (steps ++ step ∷ []) a.call b.call
      ordered_after p q a b lt at there =
          elim (slice_get-push_cases order d q b there) [
            | inl old ↦ elim (slice_get-push_cases order d p a at) [
              | inl first ↦ before_on s e steps step a.call b.call (o.ordered p q a b lt first old)
              | inr last ↦ absurd (omega (arith, lt, last.0, slice_get_within order q b old))
            ]
            | inr last ↦ elim (slice_get-push_cases order d p a at) [
              | inl first ↦
                  subst (λ (c : Done). TakesEffectBefore s e (steps ++ step ∷ []) a.call c.call)
                  (sym last.1) (before_last p a first)
              | inr both ↦ absurd (omega (arith, lt, last.0, both.0))
            ]
          ]

      takes : Orders spec s e (steps ++ step ∷ []) v (history ++ here) (order ++ d ∷ [])
      takes =
          record {
            lin =
                after_effect spec (history ++ here) order linearized d (announced_invoked s
                (steps ++ step ∷ []) v (history ++ here) on d.call d.operation t.announced) new
                (ap (λ (xs : List ℕ). (spec.next xs d.operation).1) o.list ∙ t.reply);
            list = list_after-push spec.next spec.init order d
                ∙ ap (λ (xs : List ℕ). (spec.next xs d.operation).0) o.list ∙ t.list;
            replied = λ f h. elim (Contains-push_cases order d f h) [
              | inl old ↦ t.others f.call (new f old) ∙ o.replied f old
              | inr last ↦ subst (λ (g : Done). e.reply v g.call ≡ Some g.reply) last t.now
            ];
            stands = stands_after;
            ordered = ordered_after;
          }

  -- Some order linearizes a run's history, with the list and the replies of its last world.
  abbrev HasOrder : List Step → World → List Happening → Type 0
  HasOrder steps w history = (order : List Done) × Orders spec s e steps w history order

  goes_on : (steps : List Step) (w : World) (history : List Happening) (order : List Done)
      (later : List Step) → RunLeadsTo s steps w history → Orders spec s e steps w history order
      → IsTrue (are_possible s w later)
      → HasOrder (steps ++ later) (after_all s w later) (history ++ history_from s w later)
  goes_on steps w history order [] l o may = (
    order,
    subst (λ (sts : List Step). Orders spec s e sts w (history ++ []) order)
        (sym (append-nil steps))
        (subst (λ (hs : List Happening). Orders spec s e steps w hs order)
        (sym (append-nil history)) o),
  )
  goes_on steps w history order (step ∷ later) l o may =
      let parts = and_parts (is_possible s w step) (are_possible s (after s w step) later) may in
      let here : List Happening = happenings step.who (local_of w step.who) step.event in
      let v : World = after s w step in
      let on = leads_on s steps w history step l parts.0 in
      let rest : HasOrder ((steps ++ step ∷ []) ++ later) (after_all s v later)
      ((history ++ here) ++ history_from s v later) =
      elim (has.step w step (reached s steps w history l) parts.0) [
        | inl q ↦ goes_on (steps ++ step ∷ []) v (history ++ here) order later on
            (quiet steps w history order step l o parts.0 q) parts.1
        | inr t ↦ goes_on (steps ++ step ∷ []) v (history ++ here) (order ++ t.0 ∷ []) later on
            (takes steps w history order step l o parts.0 t.0 t.1) parts.1
      ] in
      subst (λ (sts : List Step). HasOrder sts (after_all s v later)
      (history ++ (here ++ history_from s v later))) (append_assoc steps (step ∷ []) later)
      (subst (HasOrder ((steps ++ step ∷ []) ++ later) (after_all s v later))
      (append_assoc history here (history_from s v later)) rest)

  has_order : (steps : List Step) → IsRun s steps
      → HasOrder steps (end_of s steps) (history_of s steps)
  has_order steps run =
      goes_on [] (start s) [] [] steps
      (record { run = refl; at = refl; told = refl })
      (record {
        lin =
            record {
              invoked = λ k d low. absurd (omega (arith, low));
              once = λ i j d lt low. absurd (omega (arith, low));
              returned = λ call reply h. absurd (omega (arith, h.1));
              legal = tt;
              ordered = λ p q d f at. absurd (none-some d at);
            };
        list = sym has.first;
        replied = λ d h. absurd (omega (arith, h.1));
        stands = λ call reply is. absurd (none-some reply (sym (has.none call) ∙ is));
        ordered = λ p q a b lt at. absurd (none-some a at);
      }) run

pub the_order_is_of_effects : TheOrderIsOfEffects
the_order_is_of_effects spec s e has steps run =
    let found = has_order spec s e has steps run in (
      found.0,
      found.1.lin,
      record { replied = found.1.replied; stands = found.1.stands; ordered = found.1.ordered },
    )

pub effects_linearize : EffectsLinearize
effects_linearize spec s e has steps run = let found =
    the_order_is_of_effects spec s e has steps run in (found.0, found.1)
