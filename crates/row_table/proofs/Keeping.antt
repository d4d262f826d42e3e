-- Each step of the table keeps its rule: one lemma for each kind of step.
use Rattle.std.proofs.Common.{◌≡◌, ℕ, ◌<◌, List, [], ◌∷◌, length, slice_index, slice_set, Some, zero, suc, refl, sym, ap, ◌∙◌, subst, arith, IsTrue, length-set}
use Rattle.std.proofs.lemmas.Bool.{and_parts, ltb-true, and_from}
use mathlib.Core.Option.{some, some-ne-none}
use lib.ListN.{get_elem?}
use Rattle.atomic_table.specs.Table.{Me, keeps, Allows}
use Rattle.atomic_table.proofs.Lists.{set_here, set_again}
use Rattle.world_core.specs.Shape.{Shape}
use Rattle.world_core.specs.Local.{Local}
use Rattle.world_core.specs.Event.{Event, is_allowed, is_loaded, words_after, local_after}
use Rattle.world_core.specs.World.{World, Step, local_of, after}
use Rattle.world_laws.proofs.Running.{steps_reach, own_local, other_local}
use Rattle.row_table.specs.Holders.{has, AreHeld}
use Rattle.row_table.specs.Seats.{View, the, Ruled, Together, moved, Tells, TellsOfSome, Shows, Makes}
use Rattle.row_table.proofs.Holders.{inside, with_here, held_changed}

-- An index at which a list has an element is less than its length.
pub at_lt : {A : Type 0} (xs : List A) (i : ℕ) (x : A) → get_elem? xs i ≡ some x → i < length xs
at_lt [] i x e = absurd (some-ne-none x (sym e))
at_lt (y ∷ xs) zero x e = omega arith
at_lt (y ∷ xs) (suc i) x e = let deeper = at_lt xs i x e in omega arith

-- The view after an event of a caller has the local after this event of that caller.
pub moved_here : (n : ℕ) (v : View) (who : ℕ) (l : Local) (event : Event) → has v who ≡ Some l
    → has (moved n v who event) who ≡ Some (local_after n l event)
moved_here n v who l event e =
    with_here v who (local_after n (the (has v who)) event) (inside v who l e)
    ∙ ap (λ o. Some (local_after n (the o) event)) e

-- The rule allows a change of a word that is an event of a caller, and its seat then knows the view
-- after this event.
pub does : (s : Shape) (n slots id : ℕ) (me : Me (Unit {0}) View) (who word : ℕ) (l : Local)
    (f : ℕ → ℕ) (event : ℕ → Event) → has me.0 who ≡ Some l → Makes s n who l word f event
    → Allows (Ruled s n) slots id me word f (λ found after. Tells s who event me found after)
does s n slots id me who word l f event here m t r long at low =
    let x : ℕ = slice_index t.words word in
    let step : Step = record { who = who; event = event x } in
    let next : World = after s r.world step in
    let mine : local_of r.world who ≡ l = (r.locals.held who id me.0 l at here).1 in
    let allowed = m.allowed r.counted x low in
    let caller = ltb-true who s.callers (and_parts _ _ allowed).0 in
    let loads = subst (λ ws. IsTrue (is_loaded s ws (event x))) r.words (m.loads t.words) in
    let may = and_from (is_allowed s who (local_of r.world who) (event x))
    (is_loaded s r.world.words (event x))
    (subst (λ k. IsTrue (is_allowed s who k (event x))) (sym mine) allowed) loads in
    let reach = steps_reach s r.world step r.reach may in
    let wide : length next.locals ≡ s.callers =
    length-set r.world.locals who (local_after s.callers (local_of r.world who) (event x))
    ∙ r.wide in
    let view : View = moved s.callers me.0 who (event x) in
    let locals : AreHeld (λ i k. local_of next i ≡ k) (slice_set t.views id view) =
    held_changed (λ i k. local_of r.world i ≡ k) (λ i k. local_of next i ≡ k) t.views id me.0 who l
    (local_after s.callers (the (has me.0 who)) (event x)) r.locals at here
    (own_local s r.world step r.wide caller
    ∙ ap (λ k. local_after s.callers k (event x)) (mine ∙ ap the (sym here)))
    (λ i k ne was. other_local s r.world step i ne ∙ was) in
    let there = set_here t.views id view (at_lt t.views id me.0 at) in (
      view,
      keeps,
      tt,
      record {
        counted = r.counted;
        world = next;
        reach = reach;
        words = sym (m.writes t.words) ∙ ap (λ ws. words_after s who l ws (event x)) r.words
            ∙ ap (λ k. words_after s who k r.world.words (event x)) (sym mine);
        wide = wide;
        locals = locals;
      },
      record {
        done = refl;
        together =
            record {
              world = next;
              reach = reach;
              wide = wide;
              locals_are = λ i k e. (locals.held i id view k there e).1;
            };
      },
    )

-- The rule allows a store that is an event of a caller, and its seat then knows the view after this
-- event for some word that was found.
pub stores : (s : Shape) (n slots id : ℕ) (me : Me (Unit {0}) View) (who word new : ℕ) (l : Local)
    (event : ℕ → Event) → has me.0 who ≡ Some l → Makes s n who l word (λ _. new) event
    → Allows (Ruled s n) slots id me word (λ _. new) (λ _ after. TellsOfSome s who event me after)
stores s n slots id me who word new l event here m t r long at low =
    let one = does s n slots id me who word l (λ _. new) event here m t r long at low in (
      one.0,
      one.1,
      one.2,
      one.3,
      record { found = slice_index t.words word; word = low; tells = one.4 },
    )

-- A list in which an element is set to itself is as it was.
pub set_read : (ws : List ℕ) (i : ℕ) → slice_set ws i (slice_index ws i) ≡ ws
set_read [] i = refl
set_read (w ∷ ws) zero = refl
set_read (w ∷ ws) (suc i) = ap (λ (vs : List ℕ). w ∷ vs) (set_read ws i)

-- The rule allows a load that is no event, after which the locals of its seat are known to be those
-- of one reachable world.
pub learns : (s : Shape) (n slots id : ℕ) (me : Me (Unit {0}) View) (word : ℕ)
    → Allows (Ruled s n) slots id me word (λ x. x) (λ _ after. Shows s me after)
learns s n slots id me word t r long at low =
    let together : Together s me.0 = record {
      world = r.world;
      reach = r.reach;
      wide = r.wide;
      locals_are = λ i l e. (r.locals.held i id me.0 l at e).1;
    } in (
      me.0,
      keeps,
      tt,
      subst (λ (y : List ℕ × List View).
          Ruled s n (record { words = y.0; homes = t.homes; views = y.1 }))
          (λ i. (sym (set_read t.words word) i, sym (set_again t.views id me.0 at) i)) r,
      record { same = refl; together = together },
    )
