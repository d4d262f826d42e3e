-- What the object history of a run has of the locals that the run leads to.
use Rattle.std.proofs.Common.{◌≡◌, ℕ, zero, suc, ◌<◌, ◌≤◌, true, false, ◌==◌, nat_lt, List, [], ◌∷◌, ◌++◌, length, Some, slice_get, refl, sym, ap, ◌∙◌, subst, arith, IsTrue, inl, inr, length-append, append_assoc}
use Rattle.std.specs.Prelude.{Contains}
use Rattle.std.proofs.lemmas.Bool.{and_parts, eqb-true, cases_eq, cases_lt}
use Rattle.std.proofs.lemmas.List.Elements.{Contains-append_left, Contains-append_right, Contains-append_cases}
use Rattle.list_laws.proofs.Places.{slice_get-push_old, slice_get-push_last}
use Rattle.book_base.specs.declared.call.Call.{Call}
use Rattle.world_core.specs.declared.region.Region.{Region}
use Rattle.world_core.specs.declared.region.Region.TheVariants.{N, M}
use Rattle.world_core.specs.Shape.{Shape}
use Rattle.world_core.specs.Local.{Asking, Local}
use Rattle.world_core.specs.Event.{Event, Stage, Announce, Object, Look, Peek, Publish, Begins_none, Begins_scan, Begins_view, is_enabled, may_begin, local_after, with_peek, is_asking, is_peek_wanted, staged_operation}
use Rattle.world_core.specs.World.{World, Step, local_of, after, is_possible, after_all, are_possible}
use Rattle.world_core.specs.History.{Happening, Invoked, Returned, happenings, history_from, call_of}
use Rattle.world_laws.specs.Views.{return_of}
use Rattle.world_laws.proofs.Running.{Kept, step_kept, possible, own_local, other_local}
use Rattle.world_laws.proofs.Agreeing.{asking_is}
use Rattle.world_laws.proofs.SameCalls.{fed_calls, looked_calls}

-- What an event of a caller tells of its calls: nothing, that one was invoked, or that one
-- returned.
pub data Told (me : ℕ) (l m : Local) (e : Event) (told : List Happening) : Type 0 where
  Nothing : (is : told ≡ []) (operations : m.operations ≡ l.operations)
      (replies : m.replies ≡ l.replies) → Told me l m e told
  Called : (operation : ℕ) (is : told ≡ Invoked (call_of me l.announced) operation ∷ [])
      (operations : m.operations ≡ l.operations ++ operation ∷ [])
      (replies : m.replies ≡ l.replies) → Told me l m e told
  Answered : (x reply : ℕ) (event : e ≡ Look N 0 x (Begins_view reply))
      (is : told ≡ Returned (call_of me (length l.replies)) reply ∷ [])
      (operations : m.operations ≡ l.operations) (replies : m.replies ≡ l.replies ++ reply ∷ [])
      (phase : l.phase ≡ Asking) → Told me l m e told

told_view : (s : Shape) (me : ℕ) (l : Local) (q : Region) (j x reply : ℕ)
    → IsTrue (may_begin s me l q j (Begins_view reply))
    → Told me l (local_after s.callers l (Look q j x (Begins_view reply)))
    (Look q j x (Begins_view reply)) (happenings me l (Look q j x (Begins_view reply)))
told_view s me l N j x reply may =
    let a = and_parts (j == 0) _ may in
    let h = looked_calls s.callers l N j x (Begins_view reply) in
    Answered x reply (ap (λ (i : ℕ). Look N i x (Begins_view reply)) (eqb-true j 0 a.0)) refl
    h.operations h.replies (asking_is l.phase (and_parts (is_asking l.phase) _ a.1).0)
told_view s me l M j x reply may = let never : false ≡ true = (and_parts (j == 0) false may).1 in
    absurd cc

told_by : (s : Shape) (me : ℕ) (l : Local) (e : Event) → IsTrue (is_enabled s me l e)
    → Told me l (local_after s.callers l e) e (happenings me l e)
told_by s me l (Stage q t x) may = Nothing refl refl refl
told_by s me l Announce may = Called (staged_operation l.staged) refl refl refl
told_by s me l Publish may = Nothing refl refl refl
told_by s me l (Object o) may = Nothing refl refl refl
told_by s me l (Peek q j k t x) may =
    let h = fed_calls s.callers
    (with_peek l (record { region = q; caller = j; row = k; place = t; word = x })) l.scan q
    (is_peek_wanted s.callers q j k t) x in
    Nothing refl h.operations h.replies
told_by s me l (Look q j x Begins_none) may = let h = looked_calls s.callers l q j x Begins_none in
    Nothing refl h.operations h.replies
told_by s me l (Look q j x Begins_scan) may = let h = looked_calls s.callers l q j x Begins_scan in
    Nothing refl h.operations h.replies
told_by s me l (Look q j x (Begins_view reply)) may = told_view s me l q j x reply
    (and_parts (nat_lt j s.callers) (may_begin s me l q j (Begins_view reply)) may).1

-- The operations and replies of a local are those of a later one, at the same places.
pub record Carries (l m : Local) : Type 0 where
  pub operations : (k x : ℕ) → slice_get l.operations k ≡ Some x → slice_get m.operations k ≡ Some x
  pub replies : (k x : ℕ) → slice_get l.replies k ≡ Some x → slice_get m.replies k ≡ Some x

same_list : (xs ys : List ℕ) (k x : ℕ) → ys ≡ xs → slice_get xs k ≡ Some x → slice_get ys k ≡ Some x
same_list xs ys k x same e = ap (λ (zs : List ℕ). slice_get zs k) same ∙ e

pushed_list : (xs ys : List ℕ) (y k x : ℕ) → ys ≡ xs ++ y ∷ [] → slice_get xs k ≡ Some x
    → slice_get ys k ≡ Some x
pushed_list xs ys y k x same e =
    ap (λ (zs : List ℕ). slice_get zs k) same ∙ slice_get-push_old xs y k x e

told_carries : (me : ℕ) (l m : Local) (e : Event) (hs : List Happening) → Told me l m e hs
    → Carries l m
told_carries me l m e hs (Nothing is operations replies) =
    record {
      operations = λ k x. same_list l.operations m.operations k x operations;
      replies = λ k x. same_list l.replies m.replies k x replies;
    }
told_carries me l m e hs (Called op is operations replies) =
    record {
      operations = λ k x. pushed_list l.operations m.operations op k x operations;
      replies = λ k x. same_list l.replies m.replies k x replies;
    }
told_carries me l m e hs (Answered y reply event is operations replies phase) =
    record {
      operations = λ k x. same_list l.operations m.operations k x operations;
      replies = λ k x. pushed_list l.replies m.replies reply k x replies;
    }

-- a step makes the happenings that the change of its caller's local tells
pub step_told : (s : Shape) (w : World) (step : Step) → Kept s w → IsTrue (is_possible s w step)
    → Told step.who (local_of w step.who) (local_of (after s w step) step.who) step.event
    (happenings step.who (local_of w step.who) step.event)
step_told s w step kept may =
    let p = possible s w step may in
    subst (λ (m : Local). Told step.who (local_of w step.who) m step.event (happenings step.who
    (local_of w step.who) step.event)) (sym (own_local s w step kept.locals_long p.caller))
    (told_by s step.who (local_of w step.who) step.event p.allowed)

step_carries : (s : Shape) (w : World) (step : Step) (i : ℕ) → Kept s w
    → IsTrue (is_possible s w step) → Carries (local_of w i) (local_of (after s w step) i)
step_carries s w step i kept may =
    elim (cases_eq i step.who) [
      | inl here ↦
          subst (λ (j : ℕ). Carries (local_of w j) (local_of (after s w step) j)) (sym here)
          (told_carries step.who (local_of w step.who)
          (local_of (after s w step) step.who) step.event
          (happenings step.who (local_of w step.who) step.event) (step_told s w step kept may))
      | inr away ↦
          subst (λ (m : Local). Carries (local_of w i) m) (sym (other_local s w step i away))
          (record { operations = λ k x e. e; replies = λ k x e. e })
    ]

pub steps_carry : (s : Shape) (w : World) (steps : List Step) (i : ℕ) → Kept s w
    → IsTrue (are_possible s w steps) → Carries (local_of w i) (local_of (after_all s w steps) i)
steps_carry s w [] i kept may = record { operations = λ k x e. e; replies = λ k x e. e }
steps_carry s w (step ∷ steps) i kept may =
    let parts = and_parts (is_possible s w step) (are_possible s (after s w step) steps) may in
    let first = step_carries s w step i kept parts.0 in
    let rest = steps_carry s (after s w step) steps i (step_kept s w step kept parts.0) parts.1 in
    record {
      operations = λ k x e. rest.operations k x (first.operations k x e);
      replies = λ k x e. rest.replies k x (first.replies k x e);
    }

-- Who was invoked is announced, with that operation.
abbrev pub IsAnnounced : Shape → World → Call → ℕ → Type 0
IsAnnounced s w call op = (call.caller < s.callers)
    × (slice_get (local_of w call.caller).operations call.number ≡ Some op)

contained_one : (x y : Happening) → Contains (y ∷ []) x → y ≡ x
contained_one x y (zero, low, is) = is
contained_one x y (suc k, low, is) = absurd (omega (arith, low))

told_invoked : (me : ℕ) (l m : Local) (e : Event) (hs : List Happening) (call : Call) (op : ℕ)
    → length l.operations ≡ l.announced → Told me l m e hs → Contains hs (Invoked call op)
    → (call.caller ≡ me) × (slice_get m.operations call.number ≡ Some op)
told_invoked me l m e hs call op long (Nothing is operations replies) h =
    let none = subst (λ (xs : List Happening). Contains xs (Invoked call op)) is h in
    absurd (omega (arith, none.1))
told_invoked me l m e hs call op long (Called x is operations replies) h =
    let one : Invoked (call_of me l.announced) x ≡ Invoked call op =
    contained_one (Invoked call op) (Invoked (call_of me l.announced) x)
    (subst (λ (xs : List Happening). Contains xs (Invoked call op)) is h) in
    let same : call_of me l.announced ≡ call = cc in
    let word : x ≡ op = cc in
    let number : length l.operations ≡ call.number = long ∙ ap (λ (c : Call). c.number) same in (
      sym (ap (λ (c : Call). c.caller) same),
      ap (λ (xs : List ℕ). slice_get xs call.number) operations
          ∙ ap (λ (k : ℕ). slice_get (l.operations ++ x ∷ []) k) (sym number)
          ∙ slice_get-push_last l.operations x ∙ ap Some word,
    )
told_invoked me l m e hs call op long (Answered y reply event is operations replies phase) h =
    let one : Returned (call_of me (length l.replies)) reply ≡ Invoked call op =
    contained_one (Invoked call op) (Returned (call_of me (length l.replies)) reply)
    (subst (λ (xs : List Happening). Contains xs (Invoked call op)) is h) in
    absurd cc

pub invoked_is_announced : (s : Shape) (w : World) (steps : List Step) (call : Call) (op : ℕ)
    → Kept s w → IsTrue (are_possible s w steps)
    → Contains (history_from s w steps) (Invoked call op)
    → IsAnnounced s (after_all s w steps) call op
invoked_is_announced s w [] call op kept may h = absurd (omega (arith, h.1))
invoked_is_announced s w (step ∷ steps) call op kept may h =
    let parts = and_parts (is_possible s w step) (are_possible s (after s w step) steps) may in
    let next = step_kept s w step kept parts.0 in
    let p = possible s w step parts.0 in
    elim (Contains-append_cases (happenings step.who (local_of w step.who) step.event)
    (history_from s (after s w step) steps) (Invoked call op) h) [
      | inl here ↦
          let found =
          told_invoked step.who (local_of w step.who) (local_of (after s w step) step.who)
          step.event (happenings step.who (local_of w step.who) step.event) call op
          (kept.agree step.who p.caller).phase.operations (step_told s w step kept parts.0) here in
          let there : slice_get
          (local_of (after s w step) call.caller).operations call.number ≡ Some op =
          subst
          (λ (i : ℕ). slice_get (local_of (after s w step) i).operations call.number ≡ Some op)
          (sym found.0) found.1 in (
            subst (λ (i : ℕ). i < s.callers) (sym found.0) p.caller,
            (steps_carry s (after s w step) steps call.caller next parts.1).operations
                call.number op there,
          )
      | inr later ↦ invoked_is_announced s (after s w step) steps call op next parts.1 later
    ]

-- The call was invoked in this history.
abbrev pub IsInvokedIn : List Happening → Call → Type 0
IsInvokedIn history call = (op : ℕ) × Contains history (Invoked call op)

-- a call that is announced after an event, and wasn't before it, was invoked in what the event
-- tells
told_new : (me : ℕ) (l m : Local) (e : Event) (hs : List Happening) (k : ℕ)
    → length l.operations ≡ l.announced → Told me l m e hs
    → length l.operations ≤ k → k < length m.operations → IsInvokedIn hs (call_of me k)
told_new me l m e hs k long (Nothing is operations replies) before now =
    absurd (omega (arith, before, now, ap (λ (xs : List ℕ). length xs) operations))
told_new me l m e hs k long (Called x is operations replies) before now =
    let same : l.announced ≡ k = omega (
      arith,
      long,
      before,
      now,
      ap (λ (xs : List ℕ). length xs) operations,
      length-append l.operations (x ∷ []),
    ) in (
      x,
      subst (λ (xs : List Happening). Contains xs (Invoked (call_of me k) x)) (sym is)
          (0, omega arith, ap (λ (i : ℕ). Invoked (call_of me i) x) same),
    )
told_new me l m e hs k long (Answered y reply event is operations replies phase) before now =
    absurd (omega (arith, before, now, ap (λ (xs : List ℕ). length xs) operations))

-- a call that is announced at the end of some steps, and wasn't at their beginning, was invoked in
-- them
pub invoked_since : (s : Shape) (w : World) (steps : List Step) (j k : ℕ) → Kept s w
    → IsTrue (are_possible s w steps)
    → length (local_of w j).operations ≤ k
    → k < length (local_of (after_all s w steps) j).operations
    → IsInvokedIn (history_from s w steps) (call_of j k)
invoked_since s w [] j k kept may before now = absurd (omega (arith, before, now))
invoked_since s w (step ∷ steps) j k kept may before now =
    let parts = and_parts (is_possible s w step) (are_possible s (after s w step) steps) may in
    let p = possible s w step parts.0 in
    let here : List Happening = happenings step.who (local_of w step.who) step.event in
    let later : List Happening = history_from s (after s w step) steps in
    elim (cases_lt k (length (local_of (after s w step) j).operations)) [
      | inl there ↦ elim (cases_eq j step.who) [
        | inl own ↦
            let found =
            told_new step.who (local_of w step.who) (local_of (after s w step) step.who) step.event
            here k (kept.agree step.who p.caller).phase.operations (step_told s w step kept parts.0)
            (subst (λ (i : ℕ). length (local_of w i).operations ≤ k) own before)
            (subst (λ (i : ℕ). k < length (local_of (after s w step) i).operations) own there) in (
              found.0,
              subst (λ (i : ℕ). Contains (here ++ later) (Invoked (call_of i k) found.0)) (sym own)
                  (Contains-append_left here later (Invoked (call_of step.who k) found.0) found.1),
            )
        | inr away ↦ absurd (omega (
          arith,
          before,
          there,
          ap (λ (l : Local). length l.operations) (other_local s w step j away),
        ))
      ]
      | inr not_yet ↦
          let found = invoked_since s (after s w step) steps j k
          (step_kept s w step kept parts.0) parts.1 not_yet now in
          (found.0, Contains-append_right here later (Invoked (call_of j k) found.0) found.1)
    ]

-- The step at which a call returned, in the course of some steps.
pub record ReturnStep (s : Shape) (w : World) (steps : List Step) (i k : ℕ) : Type 0 where
  pub before : List Step
  pub later : List Step
  pub x : ℕ
  pub reply : ℕ
  pub are : steps ≡ before ++ return_of i x reply ∷ later
  pub number : length (local_of (after_all s w before) i).replies ≡ k
  pub phase : (local_of (after_all s w before) i).phase ≡ Asking

returned_here : (s : Shape) (w : World) (step : Step) (steps : List Step) (i k : ℕ) → i ≡ step.who
    → Told step.who (local_of w step.who) (local_of (after s w step) step.who) step.event
    (happenings step.who (local_of w step.who) step.event)
    → length (local_of w i).replies ≤ k → k < length (local_of (after s w step) i).replies
    → ReturnStep s w (step ∷ steps) i k
returned_here s w step steps i k own (Nothing is operations replies) before now =
    absurd (omega (
      arith,
      before,
      now,
      ap (λ (j : ℕ). length (local_of w j).replies) own,
      ap (λ (j : ℕ). length (local_of (after s w step) j).replies) own,
      ap (λ (xs : List ℕ). length xs) replies,
    ))
returned_here s w step steps i k own (Called op is operations replies) before now =
    absurd (omega (
      arith,
      before,
      now,
      ap (λ (j : ℕ). length (local_of w j).replies) own,
      ap (λ (j : ℕ). length (local_of (after s w step) j).replies) own,
      ap (λ (xs : List ℕ). length xs) replies,
    ))
returned_here s w step steps i k own
    (Answered x reply event is operations replies phase) before now =
    let made : ℕ → Event → Step = λ who e. record { who = who; event = e } in
    let same : step ≡ return_of i x reply =
    ap (λ (j : ℕ). made j step.event) (sym own) ∙ ap (made i) event in
    record {
      before = [];
      later = steps;
      x = x;
      reply = reply;
      are = ap (λ (st : Step). st ∷ steps) same;
      number = omega (
        arith,
        before,
        now,
        ap (λ (j : ℕ). length (local_of w j).replies) own,
        ap (λ (j : ℕ). length (local_of (after s w step) j).replies) own,
        ap (λ (xs : List ℕ). length xs) replies,
        length-append (local_of w step.who).replies (reply ∷ []),
      );
      phase = ap (λ (j : ℕ). (local_of w j).phase) own ∙ phase;
    }

pub returned_since : (s : Shape) (w : World) (steps : List Step) (i k : ℕ) → Kept s w
    → IsTrue (are_possible s w steps)
    → length (local_of w i).replies ≤ k → k < length (local_of (after_all s w steps) i).replies
    → ReturnStep s w steps i k
returned_since s w [] i k kept may before now = absurd (omega (arith, before, now))
returned_since s w (step ∷ steps) i k kept may before now =
    let parts = and_parts (is_possible s w step) (are_possible s (after s w step) steps) may in
    elim (cases_lt k (length (local_of (after s w step) i).replies)) [
      | inl there ↦ elim (cases_eq i step.who) [
        | inl own ↦
            returned_here s w step steps i k own (step_told s w step kept parts.0) before there
        | inr away ↦ absurd (omega (
          arith,
          before,
          there,
          ap (λ (l : Local). length l.replies) (other_local s w step i away),
        ))
      ]
      | inr not_yet ↦
          let found = returned_since s (after s w step) steps i k
          (step_kept s w step kept parts.0) parts.1 not_yet now in
          record {
            before = step ∷ found.before;
            later = found.later;
            x = found.x;
            reply = found.reply;
            are = ap (λ (sts : List Step). step ∷ sts) found.are;
            number = found.number;
            phase = found.phase;
          }
    ]

-- the history of two lists of steps in a row is that of the first and then that of the second
pub history_from-append : (s : Shape) (w : World) (xs ys : List Step)
    → history_from s w (xs ++ ys) ≡ history_from s w xs ++ history_from s (after_all s w xs) ys
history_from-append s w [] ys = refl
history_from-append s w (x ∷ xs) ys =
    let here : List Happening = happenings x.who (local_of w x.who) x.event in
    ap (λ (hs : List Happening). here ++ hs) (history_from-append s (after s w x) xs ys)
    ∙ sym (append_assoc here (history_from s (after s w x) xs)
    (history_from s (after_all s (after s w x) xs) ys))

-- the reply is in the local after the step
pub reply_stands : (s : Shape) (w : World) (i x reply : ℕ) → Kept s w
    → IsTrue (is_possible s w (return_of i x reply))
    → slice_get (local_of (after s w (return_of i x reply)) i).replies
    (length (local_of w i).replies) ≡ Some reply
reply_stands s w i x reply kept may =
    let p = possible s w (return_of i x reply) may in
    let h = looked_calls s.callers (local_of w i) N 0 x (Begins_view reply) in
    ap (λ (l : Local). slice_get l.replies (length (local_of w i).replies))
    (own_local s w (return_of i x reply) kept.locals_long p.caller)
    ∙ ap (λ (xs : List ℕ). slice_get xs (length (local_of w i).replies)) h.replies
    ∙ slice_get-push_last (local_of w i).replies reply
