-- A run without its object steps is a run for the program whose object is outside.
use Rattle.std.proofs.Common.{◌≡◌, ℕ, zero, suc, ◌+◌, ◌<◌, ◌≤◌, Bool, true, false, ◌&&◌, ◌==◌, nat_lt, if◌then◌else◌, List, [], ◌∷◌, ◌++◌, map, take, Option, Some, None, slice_index, slice_index_or, slice_set, replicate, refl, sym, ap, ◌∙◌, subst, arith, inl, inr}
use Rattle.std.proofs.lemmas.List.{get_or-take, map-set, map_push, take-set-le, take-replicate}
use lib.Seq.{map-set_same}
use Rattle.std.proofs.lemmas.Bool.{and_parts, and_from, ltb-true, eqb-true, eq-eqb, cases_Bool}
use Rattle.world_core.specs.declared.region.Region.{Region}
use Rattle.world_core.specs.declared.region.Region.TheVariants.{N, M}
use Rattle.world_core.specs.declared.want.Want.{Want}
use Rattle.world_core.specs.declared.want.Want.TheVariants.{Look as Wants_look, Peek as Wants_peek, Done}
use Rattle.world_core.specs.Layout.{row_words, count_index, place_index, object_index, places}
use Rattle.world_core.specs.Shape.{Shape}
use Rattle.world_core.specs.Local.{Local, Scan, Object_step, fresh, own_count}
use Rattle.world_core.specs.Scan.{wanted}
use Rattle.world_core.specs.Event.{Event, Stage, Announce, Object, Look, Peek, Publish, Opening, Begins_none, Begins_scan, Begins_view, is_enabled, may_begin, is_allowed, is_loaded, words_after, local_after, opened, fed, went_on, with_word, with_look, with_peek, looked_at, given_by, served, purpose_of, Purpose, For_row, For_view, For_seen, For_nothing, is_asking, is_word, is_same_region, is_look_wanted, is_peek_wanted, knows_row}
use Rattle.world_core.specs.World.{World, Step, start, local_of, after, after_all, is_possible, are_possible}
use Rattle.world_core.specs.History.{Happening, happenings, history_from}
use Rattle.book_base.specs.Book.{Page}
use Rattle.world_core.specs.Calls.{page_with, calls_in}
use Rattle.world_core.proofs.Indices.{count_within, row_within}
use Rattle.world_laws.specs.Projection.{outside_of, is_object, plain, without_steps, IsPlain, RunsProject, BeginningsProject, BooksProject}
use Rattle.world_laws.proofs.Words.{own_few}
use Rattle.world_laws.proofs.Knowing.{Sound, start_sound, sound_after, known_counted}
use Rattle.world_laws.proofs.Running.{possible}

-- setting an item of a list and taking a prefix of it can be done in either order
take-set_prefix : (n : ℕ) (xs : List ℕ) (i x : ℕ)
    → take n (slice_set xs i x) ≡ slice_set (take n xs) i x
take-set_prefix zero xs i x = refl
take-set_prefix (suc n) [] i x = refl
take-set_prefix (suc n) (y ∷ ys) zero x = refl
take-set_prefix (suc n) (y ∷ ys) (suc i) x = ap (λ (zs : List ℕ). y ∷ zs) (take-set_prefix n ys i x)

get_or-map_default : {X Y : Type 0} (f : X → Y) (xs : List X) (i : ℕ) (d : X)
    → slice_index_or (map f xs) i (f d) ≡ f (slice_index_or xs i d)
get_or-map_default f [] i d = refl
get_or-map_default f (x ∷ xs) zero d = refl
get_or-map_default f (x ∷ xs) (suc i) d = get_or-map_default f xs i d

map-replicate : {X Y : Type 0} (f : X → Y) (n : ℕ) (x : X)
    → map f (replicate n x) ≡ replicate n (f x)
map-replicate f zero x = refl
map-replicate f (suc n) x = ap (λ (ys : List _). f x ∷ ys) (map-replicate f n x)

-- where both arms commute with a change, the choice between them does
if_commutes : (b : Bool) (x y u v : Local) → x ≡ without_steps u → y ≡ without_steps v
    → (if b then x else y) ≡ without_steps (if b then u else v)
if_commutes true x y u v p q = p
if_commutes false x y u v p q = q

served_commutes : (l : Local) (p : Purpose) (cut : List ℕ)
    → served (without_steps l) p cut ≡ without_steps (served l p cut)
served_commutes l For_row cut = refl
served_commutes l For_view cut = refl
served_commutes l For_seen cut = refl
served_commutes l For_nothing cut = refl

went_on_commutes : (l : Local) (scan : Scan) (want : Want)
    → went_on (without_steps l) scan want ≡ without_steps (went_on l scan want)
went_on_commutes l scan (Done cut) =
    served_commutes (record l { scan = None; cuts = l.cuts ++ given_by scan cut ∷ [] })
    (purpose_of l.phase l.staged scan) cut
went_on_commutes l scan (Wants_look j) = refl
went_on_commutes l scan (Wants_peek j k e) = refl

fed_commutes : (n : ℕ) (l : Local) (o : Option Scan) (q : Region) (is_it : Want → Bool) (x : ℕ)
    → fed n (without_steps l) o q is_it x ≡ without_steps (fed n l o q is_it x)
fed_commutes n l None q is_it x = refl
fed_commutes n l (Some scan) q is_it x =
    if_commutes (is_same_region scan.region q && is_it (wanted n scan.taken))
    (went_on (without_steps l) (with_word scan x) (wanted n (with_word scan x).taken))
    (without_steps l)
    (went_on l (with_word scan x) (wanted n (with_word scan x).taken)) l
    (went_on_commutes l (with_word scan x) (wanted n (with_word scan x).taken)) refl

opened_commutes : (l : Local) (q : Region) (o : Opening)
    → opened (without_steps l) q o ≡ without_steps (opened l q o)
opened_commutes l q Begins_none = refl
opened_commutes l q Begins_scan = refl
opened_commutes l q (Begins_view reply) = refl

-- the scan under way after a look begins one is that of the local without object steps
opened_scan : (l : Local) (q : Region) (o : Opening)
    → (opened (without_steps l) q o).scan ≡ (opened l q o).scan
opened_scan l q Begins_none = refl
opened_scan l q Begins_scan = refl
opened_scan l q (Begins_view reply) = refl

-- an event that is no object step does to the local without object steps what it does to the local
local_commutes : (n : ℕ) (l : Local) (e : Event) → is_object e ≡ false
    → local_after n (without_steps l) e ≡ without_steps (local_after n l e)
local_commutes n l (Stage q t x) is = refl
local_commutes n l Announce is =
    let more : map (λ (steps : List Object_step). []) l.object_steps
    ++ [] ∷ [] ≡ map (λ (steps : List Object_step). []) (l.object_steps ++ [] ∷ []) =
    sym (map_push (λ (steps : List Object_step). []) l.object_steps []) in
    ap (λ (steps : List (List Object_step)).
    record (local_after n l Announce) { object_steps = steps }) more
local_commutes n l Publish is = refl
local_commutes n l (Object o) is = absurd cc
local_commutes n l (Look q j x o) is =
    ap (λ (m : Local). looked_at n m q j x) (opened_commutes l q o)
    ∙ fed_commutes n (with_look (opened l q o) (record { region = q; caller = j; count = x }))
    (opened l q o).scan q (is_look_wanted j) x
local_commutes n l (Peek q j k t x) is =
    fed_commutes n (with_peek l (record { region = q; caller = j; row = k; place = t; word = x }))
    l.scan q (is_peek_wanted n q j k t) x

-- an object step does nothing to the local without object steps
object_nothing : (n : ℕ) (l : Local) (o : Object_step)
    → without_steps (local_after n l (Object o)) ≡ without_steps l
object_nothing n l o =
    ap (λ (steps : List (List Object_step)). record l { object_steps = steps })
    (map-set_same (λ (steps : List Object_step). let none : List Object_step = [] in none)
    l.object_steps l.published (slice_index_or l.object_steps l.published [] ++ o ∷ []) [] refl)

-- what a look may begin in the world, it may also begin where the object is outside
may_begin_outside : (s : Shape) (me : ℕ) (l : Local) (q : Region) (j : ℕ) (o : Opening)
    → may_begin s me l q j o ≡ true → may_begin (outside_of s) me (without_steps l) q j o ≡ true
may_begin_outside s me l q j Begins_none h = refl
may_begin_outside s me l q j Begins_scan h = h
may_begin_outside s me l q j (Begins_view reply) h =
    let a = and_parts (j == 0) _ h in
    let b = and_parts (is_same_region q N) _ a.1 in
    let c = and_parts (is_asking l.phase) (is_word reply && s.program.may_reply me l reply) b.1 in
    let d = and_parts (is_word reply) (s.program.may_reply me l reply) c.1 in
    and_from (j == 0) _ a.0 (and_from (is_same_region q N) _ b.0
    (and_from (is_asking l.phase) _ c.0 (and_from (is_word reply) true d.0 refl)))

may_outside : (s : Shape) (me : ℕ) (l : Local) (e : Event) → is_object e ≡ false
    → is_enabled s me l e ≡ true → is_enabled (outside_of s) me (without_steps l) e ≡ true
may_outside s me l (Stage q t x) is h = h
may_outside s me l Announce is h = h
may_outside s me l Publish is h = h
may_outside s me l (Object o) is h = absurd cc
may_outside s me l (Look q j x o) is h =
    let a = and_parts (nat_lt j s.callers) (may_begin s me l q j o) h in
    and_from (nat_lt j s.callers) _ a.0 (may_begin_outside s me l q j o a.1)
may_outside s me l (Peek q j k t x) is h = h

same_happenings : (who : ℕ) (l : Local) (e : Event)
    → happenings who (without_steps l) e ≡ happenings who l e
same_happenings who l (Stage q t x) = refl
same_happenings who l Announce = refl
same_happenings who l Publish = refl
same_happenings who l (Object o) = refl
same_happenings who l (Look q j x Begins_none) = refl
same_happenings who l (Look q j x Begins_scan) = refl
same_happenings who l (Look q j x (Begins_view reply)) = refl
same_happenings who l (Peek q j k t x) = refl

-- A world, and the plain world: the same without object words and object steps.
module _ (s : Shape) (w v : World) (h : Sound s w) (p : IsPlain s w v) where
  abbrev prefix : ℕ
  prefix = row_words s.callers s.cap

  word_same : (i : ℕ) → i < prefix → slice_index v.words i ≡ slice_index w.words i
  word_same i low =
      ap (λ (ws : List ℕ). slice_index ws i) p.words ∙ get_or-take prefix w.words i 0 low

  local_same : (i : ℕ) → local_of v i ≡ without_steps (local_of w i)
  local_same i = ap (λ (ls : List Local). slice_index_or ls i fresh) p.locals
      ∙ get_or-map_default without_steps w.locals i fresh

  -- what is loaded in the world is loaded in the plain world
  loaded_outside : (me : ℕ) → me < s.callers → (e : Event) → is_object e ≡ false
      → is_enabled s me (local_of w me) e ≡ true → is_loaded s w.words e ≡ true
      → is_loaded (outside_of s) v.words e ≡ true
  loaded_outside me low (Stage q t x) is may load = refl
  loaded_outside me low Announce is may load = refl
  loaded_outside me low Publish is may load = refl
  loaded_outside me low (Object o) is may load = absurd cc
  loaded_outside me low (Look q j x o) is may load =
      let caller = ltb-true j s.callers (and_parts (nat_lt j s.callers) _ may).0 in
      eq-eqb x (slice_index v.words (count_index s.callers q j))
      (eqb-true x (slice_index w.words (count_index s.callers q j)) load
      ∙ sym (word_same (count_index s.callers q j) (count_within s.callers s.cap q j caller)))
  loaded_outside me low (Peek q j k t x) is may load =
      let a = and_parts (nat_lt j s.callers)
      (nat_lt t (places s.callers q) && knows_row s.callers (local_of w me) q j k) may in
      let b =
      and_parts (nat_lt t (places s.callers q)) (knows_row s.callers (local_of w me) q j k) a.1 in
      let row = known_counted s w h.kept h.low (local_of w me) (h.low me low) q j k b.1 in
      let agrees = h.kept.agree j row.0 in
      let few : own_count (local_of w j) q ≤ s.cap = own_few s w.words j (local_of w j) agrees q in
      let fits : k < s.cap = omega (arith, row.1, agrees.counts q, few) in
      eq-eqb x (slice_index v.words (place_index s.callers s.cap q j k t))
      (eqb-true x (slice_index w.words (place_index s.callers s.cap q j k t)) load
      ∙ sym (word_same (place_index s.callers s.cap q j k t)
      (row_within s.callers s.cap q j k t row.0 fits (ltb-true t (places s.callers q) b.0))))

  words_outside : (me : ℕ) (e : Event) → is_object e ≡ false
      → words_after (outside_of s) me (without_steps (local_of w me)) v.words e
      ≡ take prefix (words_after s me (local_of w me) w.words e)
  words_outside me (Stage q t x) is =
      ap (λ (ws : List ℕ).
      slice_set ws (place_index s.callers s.cap q me (own_count (local_of w me) q) t) x) p.words
      ∙ sym (take-set_prefix prefix w.words
      (place_index s.callers s.cap q me (own_count (local_of w me) q) t) x)
  words_outside me Announce is =
      ap (λ (ws : List ℕ).
      slice_set ws (count_index s.callers N me) ((local_of w me).announced + 1)) p.words
      ∙ sym
      (take-set_prefix prefix w.words (count_index s.callers N me) ((local_of w me).announced + 1))
  words_outside me Publish is =
      ap (λ (ws : List ℕ).
      slice_set ws (count_index s.callers M me) ((local_of w me).published + 1)) p.words
      ∙ sym
      (take-set_prefix prefix w.words (count_index s.callers M me) ((local_of w me).published + 1))
  words_outside me (Object o) is = absurd cc
  words_outside me (Look q j x o) is = p.words
  words_outside me (Peek q j k t x) is = p.words

  -- a step that is no object step is enabled in the plain world, and leads to the plain world of
  -- the world that it leads to
  step_outside : (step : Step) → is_object step.event ≡ false → is_possible s w step ≡ true
      → (is_possible (outside_of s) v step ≡ true)
      × IsPlain s (after s w step) (after (outside_of s) v step)
  step_outside step is may =
      let q = possible s w step may in
      let low = (and_parts (nat_lt step.who s.callers)
      (is_enabled s step.who (local_of w step.who) step.event)
      (and_parts (is_allowed s step.who (local_of w step.who) step.event)
      (is_loaded s w.words step.event) may).0).0 in
      let allowed : is_enabled (outside_of s) step.who (local_of v step.who) step.event ≡ true =
      subst (λ (l : Local). is_enabled (outside_of s) step.who l step.event ≡ true)
      (sym (local_same step.who))
      (may_outside s step.who (local_of w step.who) step.event is q.allowed) in
      let loads = loaded_outside step.who q.caller step.event is q.allowed q.loaded in (
        and_from (is_allowed (outside_of s) step.who (local_of v step.who) step.event)
            (is_loaded (outside_of s) v.words step.event)
            (and_from (nat_lt step.who s.callers) (is_enabled (outside_of s) step.who
            (local_of v step.who) step.event) low allowed) loads,
        record {
          words =
              ap (λ (l : Local). words_after (outside_of s) step.who l v.words step.event)
              (local_same step.who) ∙ words_outside step.who step.event is;
          locals =
              ap (λ (l : Local). slice_set v.locals step.who (local_after s.callers l step.event))
              (local_same step.who)
              ∙ ap (λ (l : Local). slice_set v.locals step.who l)
              (local_commutes s.callers (local_of w step.who) step.event is)
              ∙ ap (λ (ls : List Local). slice_set ls step.who
              (without_steps (local_after s.callers (local_of w step.who) step.event))) p.locals
              ∙ sym (map-set without_steps w.locals step.who
              (local_after s.callers (local_of w step.who) step.event));
        },
      )

  -- an object step leads to a world with this same plain world
  object_outside : (who : ℕ) (o : Object_step)
      → IsPlain s (after s w (record { who = who; event = Object o })) v
  object_outside who o =
      record {
        words = p.words ∙ sym
            (take-set-le prefix w.words (object_index s.callers s.cap o.place) o.new (omega arith));
        locals = p.locals
            ∙ sym (map-set_same without_steps w.locals who (local_after s.callers (local_of w who)
            (Object o)) fresh (object_nothing s.callers (local_of w who) o));
      }

  -- a step makes the same happenings in the plain world
  happens_outside : (who : ℕ) (e : Event)
      → happenings who (local_of v who) e ≡ happenings who (local_of w who) e
  happens_outside who e = ap (λ (l : Local). happenings who l e) (local_same who)
      ∙ same_happenings who (local_of w who) e

-- The rest of a run, from a world w on, against the same steps without the object steps, from the
-- plain world v on: these are possible, make the same history, and lead to the plain world of the
-- one to which the rest of the run leads.
record Projects (s : Shape) (w v : World) (steps : List Step) : Type 0 where
  may : are_possible (outside_of s) v (plain steps) ≡ true
  at : IsPlain s (after_all s w steps) (after_all (outside_of s) v (plain steps))
  history : history_from (outside_of s) v (plain steps) ≡ history_from s w steps

-- the happenings of an object step are none
none_happens : (who : ℕ) (l : Local) (e : Event) → is_object e ≡ true → happenings who l e ≡ []
none_happens who l (Object o) is = refl
none_happens who l (Stage q t x) is = absurd cc
none_happens who l Announce is = absurd cc
none_happens who l Publish is = absurd cc
none_happens who l (Look q j x o) is = absurd cc
none_happens who l (Peek q j k t x) is = absurd cc

plain_object : (s : Shape) (w v : World) (who : ℕ) (e : Event) → Sound s w → IsPlain s w v
    → is_object e ≡ true
    → IsPlain s (after s w (record { who = who; event = e })) v
plain_object s w v who (Object o) h p is = object_outside s w v h p who o
plain_object s w v who (Stage q t x) h p is = absurd cc
plain_object s w v who Announce h p is = absurd cc
plain_object s w v who Publish h p is = absurd cc
plain_object s w v who (Look q j x o) h p is = absurd cc
plain_object s w v who (Peek q j k t x) h p is = absurd cc

project : (s : Shape) (w v : World) (steps : List Step) → Sound s w → IsPlain s w v
    → are_possible s w steps ≡ true → Projects s w v steps
project s w v [] h p may = record { may = refl; at = p; history = refl }
project s w v (step ∷ steps) h p may =
    let parts = and_parts (is_possible s w step) (are_possible s (after s w step) steps) may in
    let on = sound_after s w step h parts.0 in
    elim (cases_Bool (is_object step.event)) [
      | inl object ↦
          let rest = project s (after s w step) v steps on
          (plain_object s w v step.who step.event h p object) parts.1 in
          let skips : plain (step ∷ steps) ≡ plain steps =
          ap (λ (b : Bool). if b then plain steps else step ∷ plain steps) object in
          let none : history_from s w (step ∷ steps) ≡ history_from s (after s w step) steps =
          ap (λ (hs : List Happening). hs ++ history_from s (after s w step) steps)
          (none_happens step.who (local_of w step.who) step.event object) in
          record {
            may = ap (are_possible (outside_of s) v) skips ∙ rest.may;
            at = subst (λ (xs : List Step). IsPlain s (after_all s w (step ∷ steps))
                (after_all (outside_of s) v xs)) (sym skips) rest.at;
            history = ap (history_from (outside_of s) v) skips ∙ rest.history ∙ sym none;
          }
      | inr other ↦
          let here = step_outside s w v h p step other parts.0 in
          let rest =
          project s (after s w step) (after (outside_of s) v step) steps on here.1 parts.1 in
          let keeps : plain (step ∷ steps) ≡ step ∷ plain steps =
          ap (λ (b : Bool). if b then plain steps else step ∷ plain steps) other in
          record {
            may = ap (are_possible (outside_of s) v) keeps
                ∙ and_from (is_possible (outside_of s) v step)
                (are_possible (outside_of s) (after (outside_of s) v step) (plain steps))
                here.0 rest.may;
            at = subst (λ (xs : List Step). IsPlain s (after_all s w (step ∷ steps))
                (after_all (outside_of s) v xs)) (sym keeps) rest.at;
            history = ap (history_from (outside_of s) v) keeps
                ∙ ap (λ (hs : List Happening).
                hs ++ history_from (outside_of s) (after (outside_of s) v step) (plain steps))
                (happens_outside s w v h p step.who step.event)
                ∙ ap (λ (hs : List Happening).
                happenings step.who (local_of w step.who) step.event ++ hs) rest.history;
          }
    ]

-- the start has a plain world
take_zeros : (m more : ℕ) → take {A = ℕ} m (replicate (m + more) 0) ≡ replicate (m + 0) 0
take_zeros m more = take-replicate m (m + more) 0 (omega arith)
    ∙ ap (λ (k : ℕ). replicate k 0) (let e : m ≡ m + 0 = omega arith in e)

plain_start : (s : Shape) → IsPlain s (start s) (start (outside_of s))
plain_start s =
    record {
      words = sym (take_zeros (row_words s.callers s.cap) s.program.objects);
      locals = sym (map-replicate without_steps s.callers fresh);
    }

pub runs_project : RunsProject
runs_project s steps run =
    let p = project s (start s) (start (outside_of s)) steps (start_sound s) (plain_start s) run in
    (p.may, p.at, p.history)

both : (b : Bool) (all early late : List Step) (step : Step) → all ≡ early ++ late
    → (if b then all else step ∷ all) ≡ (if b then early else step ∷ early) ++ late
both true all early late step e = e
both false all early late step e = ap (λ (xs : List Step). step ∷ xs) e

pub beginnings_project : BeginningsProject
beginnings_project [] later = refl
beginnings_project (step ∷ before) later =
    both (is_object step.event) (plain (before ++ later)) (plain before) (plain later) step
    (beginnings_project before later)

pub books_project : BooksProject
books_project [] = refl
books_project (l ∷ locals) =
    ap (λ (pages : List Page). page_with (calls_in l) ∷ pages) (books_project locals)
