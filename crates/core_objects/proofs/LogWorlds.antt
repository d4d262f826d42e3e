-- What the rules of a log say of what a caller knows by its object steps.
use Rattle.std.proofs.Common.{◌≡◌, ℕ, suc, ◌*◌, ◌<◌, true, List, [], ◌∷◌, ◌++◌, Some, None, sym, ap, ◌∙◌, subst, arith}
use Rattle.book_base.specs.SeqSpec.{SeqSpec}
use Rattle.world_core.specs.Shape.{Shape}
use Rattle.world_core.specs.Local.{Local, Object_step}
use Rattle.world_core.specs.CallSteps.{steps_now, all_steps_of}
use Rattle.world_core.specs.Calls.{IsLocalOf}
use Rattle.world_core.specs.Event.{is_asking}
use Rattle.world_core.specs.World.{World, IsReachable, local_of, object_word}
use Rattle.world_laws.proofs.Each.{Each}
use Rattle.world_objects.proofs.AskedCalls.{reachable_kept, asked}
use Rattle.world_objects.specs.LogWords.{number_of, ticket_place, ticket_of, known, placed_at}
use Rattle.world_objects.specs.LogProgram.{log_shape}
use Rattle.world_objects.specs.LogRules.{IsLasting, IsLog, ticket_at}
use Rattle.world_objects.proofs.LogWords.{each_of_all, known_step}
use Rattle.world_objects.proofs.LogSteps.{number_low, rules_hold}
use Rattle.world_objects.proofs.LogCapacity.{some_place_is_free}
use Rattle.core_objects.proofs.KnownSteps.{known_somehow}

each_last : {X : Type 0} (P : X → Type 0) (xs : List X) (y : X) → Each P (xs ++ y ∷ []) → P y
each_last P [] y h = h.0
each_last P (x ∷ xs) y h = each_last P xs y h.1

module _ (spec : SeqSpec) (n cap : ℕ) where
  abbrev s : Shape
  s = log_shape spec n cap

  abbrev total : ℕ
  total = n * cap

  -- A reachable world of a local, in which the words that its steps left are still there.
  record IsWorldWith (i : ℕ) (l : Local) : Type 0 where
    world : World
    reach : IsReachable s world
    low : i < n
    local : local_of world i ≡ l
    log : IsLog s world
    lasting : Each (IsLasting s world) (all_steps_of l)

  world_with : (i : ℕ) (l : Local) → IsLocalOf s i l → IsWorldWith i l
  world_with i l (locals, (w, reach, are), low, is) =
      let local : local_of w i ≡ l =
      subst (λ (ls : List Local). local_of (record w { locals = ls }) i ≡ l) (sym are) is in
      let log : IsLog s w = rules_hold spec n cap w reach in
      record {
        world = w;
        reach = reach;
        low = low;
        local = local;
        log = log;
        lasting = subst (λ (m : Local). Each (IsLasting s w) (all_steps_of m)) local
            (each_of_all (IsLasting s w) (local_of w i).object_steps (log.lasting i low));
      }

  -- a known word is still at its place
  known_stands : (i : ℕ) (l : Local) (h : IsWorldWith i l) (place x : ℕ)
      → known place (all_steps_of l) ≡ Some x → object_word s h.world place ≡ x
  known_stands i l h place x e =
      let found = known_step (IsLasting s h.world) place x (all_steps_of l) h.lasting e in
      ap (object_word s h.world) (sym found.at) ∙ found.holds.stands ∙ found.left

  -- the last step of a caller left the word that is known at its place
  pub known_last : (i : ℕ) (l : Local) (before : List Object_step) (step : Object_step)
      → IsLocalOf s i l → all_steps_of l ≡ before ++ step ∷ []
      → known step.place (all_steps_of l) ≡ Some step.new
  known_last i l before step here e =
      let h = world_with i l here in
      let some = known_somehow before step in
      let at : known step.place (all_steps_of l) ≡ Some some.0 = ap (known step.place) e ∙ some.1 in
      let last = each_last (IsLasting s h.world) before step
      (subst (Each (IsLasting s h.world)) e h.lasting) in
      at ∙ ap Some (sym (known_stands i l h step.place some.0 at) ∙ last.stands)

  -- a ticket that is known names a call
  pub ticket_is_low : (i : ℕ) (l : Local) (q number : ℕ) → IsLocalOf s i l → q < total
      → known (ticket_place total q) (all_steps_of l) ≡ Some (suc number)
      → number < total
  ticket_is_low i l q number here low e =
      let h = world_with i l here in
      let is : ticket_at s h.world q ≡ suc number =
      known_stands i l h (ticket_place total q) (suc number) e in
      let t = h.log.named q low (λ free. omega (arith, sym is ∙ free)) in
      omega (arith, sym is ∙ t.ticket, number_low spec n cap t.i t.k t.call.caller t.call.few)

  -- while the call under way has no place in the log, not all places are known to be filled
  pub not_all_filled : (i : ℕ) (l : Local) → IsLocalOf s i l → is_asking l.phase ≡ true
      → placed_at total (ticket_of (number_of cap i l.published)) (steps_now l) ≡ None
      → ((q : ℕ) → q < total → (x : ℕ) × (known (ticket_place total q) (all_steps_of l) ≡ Some x)
      × (0 < x)) → ⊥
  not_all_filled i l here asking none each =
      let h = world_with i l here in
      let free =
      some_place_is_free spec n cap h.world i h.reach h.low
      (ap (λ (m : Local). is_asking m.phase) h.local ∙ asking)
      (subst (λ (m : Local). placed_at total (ticket_of (number_of cap i m.published)) (steps_now m)
      ≡ None) (sym h.local) none) in
      let filled = each free.0 free.1 in
      omega (
        arith,
        filled.2,
        sym (known_stands i l h (ticket_place total free.0) filled.0 filled.1) ∙ free.2,
      )

  -- the numbers of calls of one caller are below the number of all calls
  pub own_number_is_low : (i : ℕ) (l : Local) → IsLocalOf s i l → is_asking l.phase ≡ true
      → (l.published < cap) × (number_of cap i l.published < total)
  own_number_is_low i l here asking =
      let h = world_with i l here in
      let call = asked s h.world i (reachable_kept s h.world h.reach) h.low
      (ap (λ (m : Local). is_asking m.phase) h.local ∙ asking) in
      let few : l.published < cap = subst (λ (m : Local). m.published < cap) h.local call.few in
      (few, number_low spec n cap i l.published h.low few)
