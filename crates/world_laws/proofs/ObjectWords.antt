-- What each event makes of the object words, and of the operations and object steps of its caller.
use Rattle.std.proofs.Common.{◌≡◌, ◌≢◌, ℕ, ◌+◌, ◌<◌, ◌&&◌, nat_lt, [], ◌∷◌, ◌++◌, refl, sym, ◌∙◌, subst, arith, IsTrue}
use Rattle.std.proofs.lemmas.Bool.{and_parts, ltb-true}
use Rattle.std.proofs.lemmas.List.{get_or-set_other, get_or-set_same}
use Rattle.world_core.specs.declared.region.Region.{Region}
use Rattle.world_core.specs.declared.region.Region.TheVariants.{N, M}
use Rattle.world_core.specs.Layout.{places, content, count_index, place_index, object_index}
use Rattle.world_core.specs.Shape.{Shape}
use Rattle.world_core.specs.Local.{Local, Object_step, own_count, with_step}
use Rattle.world_core.specs.Event.{Event, Stage, Announce, Object, Look, Peek, Publish, Opening, Begins_none, Begins_scan, Begins_view, is_enabled, is_staging, is_due, local_after, opened, with_peek, is_peek_wanted, staged_operation}
use Rattle.world_core.specs.World.{World, Step, object_word, local_of, after, is_possible}
use Rattle.world_core.proofs.Indices.{count_or_object, row_or_object}
use Rattle.world_laws.proofs.Running.{Kept, possible, own_local}
use Rattle.world_laws.proofs.SameCalls.{fed_calls, looked_calls}

-- An event is no object step.
abbrev pub IsNoObjectStep : Event → Type 0
IsNoObjectStep (Object o) = ⊥
IsNoObjectStep _ = Unit {0}

-- What an event of a caller adds to its operations and object steps: nothing; a call; or a step of
-- the call under way.
pub data Adds (l m : Local) (e : Event) : Type 0 where
  Adds_nothing : (no_step : IsNoObjectStep e) (operations : m.operations ≡ l.operations)
      (object_steps : m.object_steps ≡ l.object_steps) → Adds l m e
  Adds_call : (operation : ℕ) (event : e ≡ Announce)
      (operations : m.operations ≡ l.operations ++ operation ∷ [])
      (object_steps : m.object_steps ≡ l.object_steps ++ [] ∷ []) → Adds l m e
  Adds_step : (step : Object_step) (event : e ≡ Object step)
      (operations : m.operations ≡ l.operations)
      (object_steps : m.object_steps ≡ with_step l.object_steps l.published step) → Adds l m e

opened_operations : (l : Local) (q : Region) (o : Opening)
    → (opened l q o).operations ≡ l.operations
opened_operations l q Begins_none = refl
opened_operations l q Begins_scan = refl
opened_operations l q (Begins_view reply) = refl

opened_steps : (l : Local) (q : Region) (o : Opening) → (opened l q o).object_steps ≡ l.object_steps
opened_steps l q Begins_none = refl
opened_steps l q Begins_scan = refl
opened_steps l q (Begins_view reply) = refl

adds : (n : ℕ) (l : Local) (e : Event) → Adds l (local_after n l e) e
adds n l (Stage q t x) = Adds_nothing tt refl refl
adds n l Announce = Adds_call (staged_operation l.staged) refl refl refl
adds n l Publish = Adds_nothing tt refl refl
adds n l (Object o) = Adds_step o refl refl refl
adds n l (Peek q j k t x) =
    let h =
    fed_calls n (with_peek l (record { region = q; caller = j; row = k; place = t; word = x }))
    l.scan q (is_peek_wanted n q j k t) x in
    Adds_nothing tt h.operations h.object_steps
adds n l (Look q j x o) =
    let h = looked_calls n l q j x o in
    Adds_nothing tt (h.operations ∙ opened_operations l q o) (h.object_steps ∙ opened_steps l q o)

-- a possible step adds to its caller's local what `Adds` says
pub step_adds : (s : Shape) (w : World) (step : Step) → Kept s w → IsTrue (is_possible s w step)
    → Adds (local_of w step.who) (local_of (after s w step) step.who) step.event
step_adds s w step kept may =
    let l : Local = local_of w step.who in
    subst (λ (m : Local). Adds l m step.event)
    (sym (own_local s w step kept.locals_long (possible s w step may).caller))
    (adds s.callers l step.event)

module _ (s : Shape) (w : World) where
  leaves_objects : (who : ℕ) (e : Event) (place : ℕ) → who < s.callers
      → IsTrue (is_enabled s who (local_of w who) e) → IsNoObjectStep e
      → object_word s (after s w (record { who = who; event = e })) place ≡ object_word s w place
  leaves_objects who (Stage q t x) place low may no_step =
      let l : Local = local_of w who in
      let a = and_parts (is_staging l.phase q) (nat_lt (own_count l q) s.cap
      && (nat_lt t (places s.callers q) && is_due l (content s.callers q t) x)) may in
      let b = and_parts (nat_lt (own_count l q) s.cap)
      (nat_lt t (places s.callers q) && is_due l (content s.callers q t) x) a.1 in
      let c = and_parts (nat_lt t (places s.callers q)) (is_due l (content s.callers q t) x) b.1 in
      get_or-set_other w.words (place_index s.callers s.cap q who (own_count l q) t)
      (object_index s.callers s.cap place) x 0
      (λ same. row_or_object s.callers s.cap q who (own_count l q) t place low
      (ltb-true (own_count l q) s.cap b.0) (ltb-true t (places s.callers q) c.0) (sym same))
  leaves_objects who Announce place low may no_step =
      get_or-set_other w.words (count_index s.callers N who) (object_index s.callers s.cap place)
      ((local_of w who).announced + 1) 0
      (λ same. count_or_object s.callers s.cap N who place low (sym same))
  leaves_objects who Publish place low may no_step =
      get_or-set_other w.words (count_index s.callers M who) (object_index s.callers s.cap place)
      ((local_of w who).published + 1) 0
      (λ same. count_or_object s.callers s.cap M who place low (sym same))
  leaves_objects who (Object o) place low may no_step = absurd no_step
  leaves_objects who (Look q j x o) place low may no_step = refl
  leaves_objects who (Peek q j k t x) place low may no_step = refl

  -- an event that is no object step leaves all object words
  pub objects_stay : (step : Step) (place : ℕ) → IsTrue (is_possible s w step)
      → IsNoObjectStep step.event
      → object_word s (after s w step) place ≡ object_word s w place
  objects_stay step place may no_step =
      let p = possible s w step may in
      leaves_objects step.who step.event place p.caller p.allowed no_step

  -- an object step leaves its new word at its place
  pub object_is : (who : ℕ) (o : Object_step) → Kept s w → o.place < s.program.objects
      → object_word s (after s w (record { who = who; event = Object o })) o.place ≡ o.new
  object_is who o kept low = get_or-set_same w.words (object_index s.callers s.cap o.place) o.new 0
      (omega (arith, low, kept.words_long))

  -- an object step leaves the other object words as they are
  pub other_object : (who : ℕ) (o : Object_step) (place : ℕ) → place ≢ o.place
      → object_word s (after s w (record { who = who; event = Object o })) place
      ≡ object_word s w place
  other_object who o place away =
      get_or-set_other w.words (object_index s.callers s.cap o.place)
      (object_index s.callers s.cap place) o.new 0 (λ same. away (omega (arith, same)))
