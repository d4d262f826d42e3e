-- The order of effects of a log is that of its tickets.
use Rattle.std.proofs.Common.{◌≡◌, ◌≢◌, ℕ, zero, suc, ◌+◌, ◌-◌, ◌*◌, ◌<◌, true, nat_lt, List, [], ◌++◌, length, Option, Some, None, slice_get, slice_index_or, refl, sym, ap, ◌∙◌, subst, arith, IsTrue, inl, inr}
use Rattle.std.proofs.lemmas.Bool.{and_parts, cases_lt, cases_Bool, lt-ltb, ltb-true, cond-true, cond-false}
use Rattle.std.proofs.lemmas.Nat.{same_from_place}
use Rattle.std.proofs.lemmas.Option.{none-some}
use Rattle.list_laws.proofs.Options.{cases_Option, none_from_never}
use Rattle.book_base.specs.SeqSpec.{SeqSpec}
use Rattle.book_base.specs.OperationWord.{joined}
use Rattle.book_base.specs.declared.call.Call.{Call}
use Rattle.world_core.specs.Shape.{Shape}
use Rattle.world_core.specs.Local.{Local, Object_step}
use Rattle.world_core.specs.CallSteps.{operation_now, steps_now, all_steps_of}
use Rattle.world_core.specs.World.{World, Step, start, local_of, object_word, are_possible, IsRun, end_of, IsReachable}
use Rattle.world_core.specs.History.{call_of}
use Rattle.world_laws.proofs.Each.{Each, each_at}
use Rattle.world_laws.proofs.Running.{are_possible-append}
use Rattle.world_objects.specs.Effects.{TakesEffectBefore}
use Rattle.world_objects.proofs.AskedCalls.{reachable_kept}
use Rattle.world_objects.proofs.EffectOrders.{the_order_is_of_effects}
use Rattle.world_objects.proofs.Linearizations.{contained}
use Rattle.world_objects.proofs.OneWords.{reply_is}
use Rattle.world_objects.specs.LogWords.{number_of, low_place, high_place, ticket_place, ticket_of, placed_at}
use Rattle.world_objects.specs.LogProgram.{list_of, known_reply, log_may_reply, log_shape}
use Rattle.world_objects.specs.LogEffects.{operations_below, place_with, reply_there, reply_of_number, log_effects, HasPlace, LogOrdersAreOfTickets}
use Rattle.world_objects.specs.LogRules.{IsLasting, IsLog}
use Rattle.world_objects.proofs.LogWords.{place_is, no_place_is}
use Rattle.world_objects.proofs.LogSteps.{rules_hold, tickets_stay}
use Rattle.world_objects.proofs.LogEffects.{placed_stands, has_effects}

module _ (spec : SeqSpec) (n cap : ℕ) where
  abbrev s : Shape
  s = log_shape spec n cap

  abbrev total : ℕ
  total = n * cap

  abbrev ticket : World → ℕ → ℕ
  ticket w q = object_word s w (ticket_place total q)

  abbrev reply : World → Call → Option ℕ
  reply w call = (log_effects spec n cap).reply w call

  abbrev own_ticket : Call → ℕ
  own_ticket call = ticket_of (number_of cap call.caller call.number)

  -- a call with a reply is below the cap
  reply_few : (w : World) (call : Call) (x : ℕ) → reply w call ≡ Some x
      → nat_lt call.number cap ≡ true
  reply_few w call x is =
      elim (cases_Bool (nat_lt call.number cap)) [
        | inl few ↦ few
        | inr many ↦
            absurd (none-some x (sym (cond-false (nat_lt call.number cap) (reply_of_number spec
            (object_word s w) total (number_of cap call.caller call.number)) None many) ∙ is))
      ]

  -- the ticket of a call with a reply is at a place of the log
  place_of_reply : (w : World) (number x : ℕ) (o : Option ℕ)
      → reply_there spec (object_word s w) total number o ≡ Some x → (p : ℕ) × (o ≡ Some p)
  place_of_reply w number x None is = absurd (none-some x is)
  place_of_reply w number x (Some p) is = (p, refl)

  no_place_of_none : (w : World) (number : ℕ) (o : Option ℕ)
      → reply_there spec (object_word s w) total number o ≡ None → o ≡ None
  no_place_of_none w number None is = refl
  no_place_of_none w number (Some p) is = absurd cc

  has_place : (w : World) (call : Call) (x : ℕ) → reply w call ≡ Some x → (p : ℕ) × (p < total)
      × (ticket w p ≡ own_ticket call)
  has_place w call x is =
      let number : ℕ = number_of cap call.caller call.number in
      let there : reply_of_number spec (object_word s w) total number ≡ Some x =
      sym (cond-true (nat_lt call.number cap)
      (reply_of_number spec (object_word s w) total number) None (reply_few w call x is))
      ∙ is in
      let found = place_of_reply w number x
      (place_with (object_word s w) total (ticket_of number) total) there in
      let at = place_is (object_word s w) total (ticket_of number) total found.0 found.1 in
      (found.0, at.0, at.1)

  has_no_place : (w : World) (call : Call) → nat_lt call.number cap ≡ true → reply w call ≡ None
      → (q : ℕ) → q < total → ticket w q ≢ own_ticket call
  has_no_place w call few is =
      let number : ℕ = number_of cap call.caller call.number in
      let none : reply_of_number spec (object_word s w) total number ≡ None =
      sym (cond-true (nat_lt call.number cap)
      (reply_of_number spec (object_word s w) total number) None few) ∙ is in
      no_place_is (object_word s w) total (ticket_of number) total
      (no_place_of_none w number (place_with (object_word s w) total (ticket_of number) total) none)

  -- a call without an object step has no reply
  pub no_reply_without_steps : (w : World) → IsReachable s w → (i k : ℕ)
      → slice_index_or (local_of w i).object_steps k [] ≡ [] → reply w (call_of i k) ≡ None
  no_reply_without_steps w reach i k none =
      none_from_never (reply w (call_of i k)) (λ x is.
      let few : k < cap = ltb-true k cap (reply_few w (call_of i k) x is) in
      let at = has_place w (call_of i k) x is in
      let t = (rules_hold spec n cap w reach).named at.0 at.1
      (λ free. omega (arith, sym at.2 ∙ free)) in
      let same = same_from_place t.i t.k i k cap t.call.few few (omega (arith, t.ticket, at.2)) in
      let made : slice_get (slice_index_or (local_of w i).object_steps k []) t.placed.j
      ≡ Some t.placed.step =
      subst (λ (j : ℕ). slice_get (slice_index_or (local_of w j).object_steps k []) t.placed.j
      ≡ Some t.placed.step) same.0
      (subst (λ (m : ℕ). slice_get (slice_index_or (local_of w t.i).object_steps m []) t.placed.j
      ≡ Some t.placed.step) same.1 t.placed.made) in
      none-some t.placed.step
      (subst (λ (own : List Object_step). slice_get own t.placed.j ≡ Some t.placed.step) none made))

  -- the call under way has a reply where its program allows it one
  pub reply_where_allowed : (w : World) → IsReachable s w → (i answer : ℕ) → i < n
      → (local_of w i).published < length (local_of w i).operations
      → IsTrue (log_may_reply spec n cap i (local_of w i) answer) → (x : ℕ)
      × (reply w (call_of i (local_of w i).published) ≡ Some x)
  reply_where_allowed w reach i answer caller there may =
      let me : Local = local_of w i in
      let k : ℕ = me.published in
      let number : ℕ = number_of cap i k in
      let word : ℕ → ℕ = object_word s w in
      let agrees = (reachable_kept s w reach).agree i caller in
      let few : k < cap = omega (arith, there, agrees.few, agrees.phase.operations) in
      let has_steps : k < length me.object_steps =
      omega (arith, there, agrees.phase.operations, agrees.phase.object_steps) in
      let lasting = each_at (Each (IsLasting s w)) me.object_steps
      k [] ((rules_hold spec n cap w reach).lasting i caller) has_steps in
      let place : Option ℕ = placed_at total (ticket_of number) (steps_now me) in
      let allowed : known_reply spec total (operation_now me) (all_steps_of me) place
      ≡ Some answer =
      reply_is (known_reply spec total (operation_now me) (all_steps_of me) place)
      answer may in
      elim (cases_Option place) [
        | inl none ↦ absurd (none-some answer (sym
            (ap (known_reply spec total (operation_now me) (all_steps_of me)) none) ∙ allowed))
        | inr some ↦
            let at = placed_stands spec n cap w (ticket_of number) some.0
            (steps_now me) lasting some.1 in
            elim (cases_Option (place_with word total (ticket_of number) total)) [
              | inl nowhere ↦
                  absurd (no_place_is word total (ticket_of number) total nowhere some.0 at.0 at.1)
              | inr found ↦ (
                (spec.next (list_of spec.next spec.init (operations_below word total found.0))
                    (joined (word (low_place number)) (word (high_place number)))).1,
                cond-true (nat_lt k cap) (reply_of_number spec word total number) None
                    (lt-ltb k cap few)
                    ∙ ap (reply_there spec word total number) found.1,
              )
            ]
      ]

  -- below a filled place all are filled
  filled_below : (w : World) → IsLog s w → (q d : ℕ) → q + d < total → ticket w (q + d) ≢ 0
      → ticket w q ≢ 0
  filled_below w log q zero low filled = let same : q + 0 ≡ q = omega arith in
      λ free. filled (ap (ticket w) same ∙ free)
  filled_below w log q (suc d) low filled =
      let same : q + suc d ≡ (q + d) + 1 = omega arith in
      filled_below w log q d (omega (arith, low))
      (log.prefix (q + d) (omega (arith, low)) (λ free. filled (ap (ticket w) same ∙ free)))

  -- of two calls, the one that took effect first has the lower place
  lower : (steps : List Step) → IsRun s steps → (a b : Call) (y : ℕ)
      → TakesEffectBefore s (log_effects spec n cap) steps a b → reply (end_of s steps) b ≡ Some y
      → (p q : ℕ) × (p < q) × HasPlace s (end_of s steps) a p × HasPlace s (end_of s steps) b q
  lower steps run a b y t is =
      let v : World = end_of s t.before in
      let both : IsRun s (t.before ++ t.later) = subst (IsRun s) (sym t.run) run in
      let parts = and_parts (are_possible s (start s) t.before) (are_possible s v t.later)
      (sym (are_possible-append s (start s) t.before t.later) ∙ both) in
      let log = rules_hold spec n cap v (t.before, parts.0, refl) in
      let first = has_place v a t.reply t.first in
      let last = has_place (end_of s steps) b y is in
      let stays : (q : ℕ) → ticket v q ≢ 0 → ticket (end_of s steps) q ≡ ticket v q =
      λ q filled. ap (λ (sts : List Step). ticket (end_of s sts) q) (sym t.run)
      ∙ tickets_stay spec n cap t.before t.later q both filled in
      let filled : ticket v first.0 ≢ 0 = λ free. omega (arith, sym first.2 ∙ free) in
      let none = has_no_place v b (reply_few (end_of s steps) b y is) t.second in
      let below : first.0 < last.0 = elim (cases_lt first.0 last.0) [
        | inl low ↦ low
        | inr high ↦
            let more : last.0 + (first.0 - last.0) ≡ first.0 = omega (arith, high) in
            let there : ticket v last.0 ≢ 0 =
            filled_below v log last.0 (first.0 - last.0) (omega (arith, more, first.1))
            (λ free. filled (ap (ticket v) (sym more) ∙ free)) in
            absurd (none last.0 last.1 (sym (stays last.0 there) ∙ last.2))
      ] in (
        first.0,
        last.0,
        below,
        record { low = first.1; ticket = stays first.0 filled ∙ first.2 },
        record { low = last.1; ticket = last.2 },
      )

pub log_orders_are_of_tickets : LogOrdersAreOfTickets
log_orders_are_of_tickets spec n cap steps run =
    let sh : Shape = log_shape spec n cap in
    let found = the_order_is_of_effects spec sh (log_effects spec n cap)
    (has_effects spec n cap) steps run in (
      found.0,
      found.1,
      found.2,
      λ p q a b lt at there.
          lower spec n cap steps run a.call b.call b.reply
          (found.2.ordered p q a b lt at there) (found.2.replied b (contained found.0 q b there)),
    )
