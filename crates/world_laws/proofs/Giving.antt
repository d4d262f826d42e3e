-- The cuts that a caller keeps are cuts that its scans gave.
use Rattle.std.proofs.Common.{◌≡◌, ℕ, ◌<◌, Bool, true, ◌&&◌, nat_lt, List, [], ◌∷◌, ◌++◌, length, Option, Some, None, slice_index, slice_index_or, refl, sym, subst, arith, IsTrue, inl, inr}
use Rattle.std.specs.Option.{unwrap_or}
use Rattle.std.proofs.lemmas.Bool.{and_parts, cases_eq, cond_both}
use Rattle.list_laws.proofs.Places.{get_or-replicate_default, slice_get-push_old, slice_get-push_last}
use Rattle.book_base.specs.Cut.{IsWithin, AreComparable}
use Rattle.world_core.specs.declared.region.Region.{Region}
use Rattle.world_core.specs.declared.region.Region.TheVariants.{N, M}
use Rattle.world_core.specs.declared.want.Want.{Want}
use Rattle.world_core.specs.declared.want.Want.TheVariants.{Look as Wants_look, Peek as Wants_peek, Done}
use Rattle.world_core.specs.Layout.{embedded_place}
use Rattle.world_core.specs.Shape.{Shape}
use Rattle.world_core.specs.Local.{Phase, Announcing, Asking, Viewing, Publishing, Judging, Scan, Given, Local, fresh, own_count, embedded_in}
use Rattle.world_core.specs.Scan.{wanted}
use Rattle.world_core.specs.Event.{Event, Stage, Announce, Object, Look, Peek, Publish, Opening, Begins_none, Begins_scan, Begins_view, is_enabled, may_begin, local_after, opened, fed, went_on, given_by, with_word, with_look, with_peek, cut_to_embed, served, purpose_of, Purpose, For_row, For_view, For_seen, For_nothing, is_staging, is_unstaged, is_row_staged, is_entry_to_embed, staged_at, is_same_region, is_look_wanted, is_peek_wanted}
use Rattle.world_core.specs.World.{World, Step, start, local_of, after, is_possible, after_all, are_possible}
use Rattle.world_core.specs.Agreement.{Agrees, IsKeptIn}
use Rattle.world_core.specs.Calls.{AreTogether, local_at}
use Rattle.world_laws.specs.Given.{IsGivenIn, ViewsAreGiven, SeenCutsAreGiven, EmbeddedCutsAreGiven, ViewsRise, SeenCutsRise}
use Rattle.world_laws.proofs.Each.{Each, each_map, each_push, each_at}
use Rattle.world_laws.proofs.Endings.{same_region_is, announcing_in_N, publishing_in_M}
use Rattle.world_laws.proofs.Knowing.{Sound, embedded_long, none_asked, keeps_open, sound_after, start_sound, steps_sound}
use Rattle.world_laws.proofs.Rising.{embedded_due, staging_of}
use Rattle.world_laws.proofs.Running.{possible, own_local, other_local}
use Rattle.world_laws.proofs.OwnEntries.{views_count_their_call, seen_cuts_count_their_call}
use Rattle.world_laws.proofs.Instants.{given_cuts_are_comparable, views_are_comparable}

abbrev pub MaybeGiven : List Given → Region → Option (List ℕ) → Type 0
MaybeGiven gs r None = Unit {0}
MaybeGiven gs r (Some cut) = IsGivenIn gs r cut

-- Each cut that a local keeps is one of these.
pub record Keeps (gs : List Given) (l : Local) : Type 0 where
  pub views : Each (IsGivenIn gs N) l.views
  pub seen : Each (IsGivenIn gs M) l.seen
  pub embedded : (r : Region) → Each (IsGivenIn gs r) (embedded_in l r)
  pub to_embed : (r : Region) → is_staging l.phase r ≡ true → MaybeGiven gs r l.to_embed

none_given : (gs : List Given) (r : Region) (kept : Option (List ℕ)) → kept ≡ None
    → MaybeGiven gs r kept
none_given gs r kept none = subst (λ (o : Option (List ℕ)). MaybeGiven gs r o) (sym none) tt

given_on : (gs : List Given) (g : Given) (r : Region) (cut : List ℕ) → IsGivenIn gs r cut
    → IsGivenIn (gs ++ g ∷ []) r cut
given_on gs g r cut h =
    record {
      place = h.place;
      since = h.since;
      is = slice_get-push_old gs g h.place (record { region = r; cut = cut; since = h.since }) h.is;
    }

maybe_on : (gs : List Given) (g : Given) (r : Region) (kept : Option (List ℕ))
    → MaybeGiven gs r kept → MaybeGiven (gs ++ g ∷ []) r kept
maybe_on gs g r None h = tt
maybe_on gs g r (Some cut) h = given_on gs g r cut h

keeps_on : (gs : List Given) (g : Given) (l : Local) → Keeps gs l → Keeps (gs ++ g ∷ []) l
keeps_on gs g l h =
    record {
      views = each_map (IsGivenIn gs N) (IsGivenIn (gs ++ g ∷ []) N) l.views
          (λ c a. given_on gs g N c a) h.views;
      seen = each_map (IsGivenIn gs M) (IsGivenIn (gs ++ g ∷ []) M) l.seen
          (λ c a. given_on gs g M c a) h.seen;
      embedded = λ r. each_map (IsGivenIn gs r) (IsGivenIn (gs ++ g ∷ []) r) (embedded_in l r)
          (λ c a. given_on gs g r c a) (h.embedded r);
      to_embed = λ r staging. maybe_on gs g r l.to_embed (h.to_embed r staging);
    }

-- A local whose scan gave one more cut.
module _ (l : Local) (h : Keeps l.cuts l) (keeps : IsKeptIn l.phase l.to_embed) (scan : Scan)
    (cut : List ℕ) where
  abbrev more : List Given
  more = l.cuts ++ given_by scan cut ∷ []

  abbrev ended : Local
  ended = record l { scan = None; cuts = l.cuts ++ given_by scan cut ∷ [] }

  old : Keeps more l
  old = keeps_on l.cuts (given_by scan cut) l h

  new : IsGivenIn more scan.region cut
  new = record {
    place = length l.cuts;
    since = scan.since;
    is = slice_get-push_last l.cuts (given_by scan cut);
  }

  ended_given : Keeps more ended
  ended_given = record {
    views = old.views;
    seen = old.seen;
    embedded = λ r. old.embedded r;
    to_embed = λ r staging. old.to_embed r staging;
  }

  row_given : ((r : Region) → is_staging l.phase r ≡ true → scan.region ≡ r)
      → Keeps more (served ended For_row cut)
  row_given same =
      record {
        views = old.views;
        seen = old.seen;
        embedded = λ r. old.embedded r;
        to_embed = λ r staging. subst (λ (q : Region). IsGivenIn more q cut) (same r staging) new;
      }

  view_given : scan.region ≡ N → l.to_embed ≡ None → Keeps more (served ended For_view cut)
  view_given region none =
      record {
        views = each_push (IsGivenIn more N) l.views cut old.views
            (subst (λ (q : Region). IsGivenIn more q cut) region new);
        seen = old.seen;
        embedded = λ r. old.embedded r;
        to_embed = λ r staging. none_given more r l.to_embed none;
      }

  seen_given : scan.region ≡ M → l.to_embed ≡ None → Keeps more (served ended For_seen cut)
  seen_given region none =
      record {
        views = old.views;
        seen = each_push (IsGivenIn more M) l.seen cut old.seen
            (subst (λ (q : Region). IsGivenIn more q cut) region new);
        embedded = λ r. old.embedded r;
        to_embed = λ r staging. none_given more r l.to_embed none;
      }

  served_given : (phase : Phase) → l.phase ≡ phase
      → Keeps more (served ended (purpose_of phase l.staged scan) cut)
  served_given Announcing is =
      cond_both (is_same_region scan.region N && is_unstaged l.staged) For_row For_nothing
      (λ (p : Purpose). Keeps more (served ended p cut))
      (λ e. row_given (announcing_in_N l.phase scan.region is (same_region_is scan.region N
      (and_parts (is_same_region scan.region N) (is_unstaged l.staged) e).0))) (λ _. ended_given)
  served_given Publishing is =
      cond_both (is_same_region scan.region M && is_unstaged l.staged) For_row For_nothing
      (λ (p : Purpose). Keeps more (served ended p cut))
      (λ e. row_given (publishing_in_M l.phase scan.region is (same_region_is scan.region M
      (and_parts (is_same_region scan.region M) (is_unstaged l.staged) e).0))) (λ _. ended_given)
  served_given Viewing is =
      cond_both (is_same_region scan.region N && scan.is_view) For_view For_nothing
      (λ (p : Purpose). Keeps more (served ended p cut))
      (λ e. view_given
      (same_region_is scan.region N (and_parts (is_same_region scan.region N) scan.is_view e).0)
      (subst (λ (f : Phase). IsKeptIn f l.to_embed) is keeps)) (λ _. ended_given)
  served_given Judging is =
      cond_both (is_same_region scan.region M) For_seen For_nothing
      (λ (p : Purpose). Keeps more (served ended p cut))
      (λ e. seen_given (same_region_is scan.region M e)
      (subst (λ (f : Phase). IsKeptIn f l.to_embed) is keeps)) (λ _. ended_given)
  served_given Asking is = ended_given

  -- a local keeps all its cuts as one of them serves its purpose
  served_all : (p : Purpose) → Keeps more (served ended p cut)
      → Keeps (served ended p cut).cuts (served ended p cut)
  served_all For_row k = k
  served_all For_view k = k
  served_all For_seen k = k
  served_all For_nothing k = k

scanning_given : (l : Local) (o : Option Scan) → Keeps l.cuts l
    → Keeps l.cuts (record l { scan = o })
scanning_given l o h = record {
  views = h.views;
  seen = h.seen;
  embedded = λ r. h.embedded r;
  to_embed = λ r staging. h.to_embed r staging;
}

went_on_given : (l : Local) (scan : Scan) (want : Want) → Keeps l.cuts l
    → IsKeptIn l.phase l.to_embed → Keeps (went_on l scan want).cuts (went_on l scan want)
went_on_given l scan (Done cut) h keeps = served_all l h keeps scan cut
    (purpose_of l.phase l.staged scan) (served_given l h keeps scan cut l.phase refl)
went_on_given l scan (Wants_look j) h keeps = scanning_given l (Some scan) h
went_on_given l scan (Wants_peek j k e) h keeps = scanning_given l (Some scan) h

fed_given : (n : ℕ) (l : Local) (o : Option Scan) (q : Region) (is_it : Want → Bool) (x : ℕ)
    → Keeps l.cuts l → IsKeptIn l.phase l.to_embed
    → Keeps (fed n l o q is_it x).cuts (fed n l o q is_it x)
fed_given n l None q is_it x h keeps = h
fed_given n l (Some scan) q is_it x h keeps =
    cond_both (is_same_region scan.region q && is_it (wanted n scan.taken))
    (went_on l (with_word scan x) (wanted n (with_word scan x).taken)) l
    (λ (m : Local). Keeps m.cuts m)
    (λ _. went_on_given l (with_word scan x) (wanted n (with_word scan x).taken) h keeps) (λ _. h)

opened_given : (l : Local) (q : Region) (o : Opening)
    → ((r : ℕ) → o ≡ Begins_view r → l.to_embed ≡ None) → Keeps l.cuts l
    → Keeps (opened l q o).cuts (opened l q o)
opened_given l q Begins_none none h = h
opened_given l q Begins_scan none h =
    record {
      views = h.views;
      seen = h.seen;
      embedded = λ r. h.embedded r;
      to_embed = λ r staging. h.to_embed r staging;
    }
opened_given l q (Begins_view reply) none h =
    record {
      views = h.views;
      seen = h.seen;
      embedded = λ r. h.embedded r;
      to_embed = λ r staging. none_given l.cuts r l.to_embed (none reply refl);
    }

-- The caller that makes the step.
module _ (s : Shape) (w : World) (sound : Sound s w) (me : ℕ) (low : me < s.callers)
    (h : Keeps (local_of w me).cuts (local_of w me)) where
  abbrev mine : Local
  mine = local_of w me

  agrees : Agrees s w.words me mine
  agrees = sound.kept.agree me low

  given_there : (r : Region) (kept : Option (List ℕ)) (x : ℕ) → is_entry_to_embed kept 0 x ≡ true
      → MaybeGiven mine.cuts r kept → IsGivenIn mine.cuts r (unwrap_or kept [])
  given_there r None x e g = absurd cc
  given_there r (Some cut) x e g = g

  staged_given : (r : Region) → IsTrue (is_row_staged s.callers mine r)
      → IsGivenIn mine.cuts r (cut_to_embed mine)
  staged_given r whole =
      given_there r mine.to_embed (staged_at mine.staged (embedded_place s.callers r 0))
      (embedded_due s w sound me low r whole)
      (h.to_embed r (staging_of s w sound me low r whole))

  announced_given : IsTrue (is_enabled s me mine Announce) → (r : Region)
      → Each (IsGivenIn mine.cuts r) (embedded_in (local_after s.callers mine Announce) r)
  announced_given may N = each_push (IsGivenIn mine.cuts N) mine.embedded_in_N (cut_to_embed mine)
      (h.embedded N) (staged_given N may)
  announced_given may M = h.embedded M

  published_given : IsTrue (is_enabled s me mine Publish) → (r : Region)
      → Each (IsGivenIn mine.cuts r) (embedded_in (local_after s.callers mine Publish) r)
  published_given may N = h.embedded N
  published_given may M = each_push (IsGivenIn mine.cuts M) mine.embedded_in_M (cut_to_embed mine)
      (h.embedded M) (staged_given M may)

  own_given : (e : Event) → IsTrue (is_enabled s me mine e)
      → Keeps (local_after s.callers mine e).cuts (local_after s.callers mine e)
  own_given (Stage q t x) may = record {
    views = h.views;
    seen = h.seen;
    embedded = λ r. h.embedded r;
    to_embed = λ r staging. h.to_embed r staging;
  }
  own_given (Object o) may = record {
    views = h.views;
    seen = h.seen;
    embedded = λ r. h.embedded r;
    to_embed = λ r staging. h.to_embed r staging;
  }
  own_given Announce may = record {
    views = h.views;
    seen = h.seen;
    embedded = announced_given may;
    to_embed = λ r staging. tt;
  }
  own_given Publish may = record {
    views = h.views;
    seen = h.seen;
    embedded = published_given may;
    to_embed = λ r staging. tt;
  }
  own_given (Look q j x o) may =
      let begins = (and_parts (nat_lt j s.callers) (may_begin s me mine q j o) may).1 in
      let opens =
      opened_given mine q o (none_asked s w sound.kept sound.low me low q j o begins) h in
      fed_given s.callers
      (with_look (opened mine q o) (record { region = q; caller = j; count = x }))
      (opened mine q o).scan q (is_look_wanted j) x
      (record {
        views = opens.views;
        seen = opens.seen;
        embedded = λ r. opens.embedded r;
        to_embed = λ r staging. opens.to_embed r staging;
      })
      (keeps_open s w sound.kept sound.low me low q j o begins)
  own_given (Peek q j k t x) may =
      fed_given s.callers
      (with_peek mine (record { region = q; caller = j; row = k; place = t; word = x })) mine.scan q
      (is_peek_wanted s.callers q j k t) x
      (record {
        views = h.views;
        seen = h.seen;
        embedded = λ r. h.embedded r;
        to_embed = λ r staging. h.to_embed r staging;
      }) agrees.kept_in

abbrev pub AllKeep : Shape → World → Type 0
AllKeep s w = (i : ℕ) → i < s.callers → Keeps (local_of w i).cuts (local_of w i)

step_keeps : (s : Shape) (w : World) (step : Step) → Sound s w → IsTrue (is_possible s w step)
    → AllKeep s w → AllKeep s (after s w step)
step_keeps s w step sound may all i low =
    let p = possible s w step may in
    elim (cases_eq i step.who) [
      | inl here ↦
          subst (λ (j : ℕ). Keeps (local_of (after s w step) j).cuts (local_of (after s w step) j))
          (sym here)
          (subst (λ (l : Local). Keeps l.cuts l)
          (sym (own_local s w step sound.kept.locals_long p.caller))
          (own_given s w sound step.who p.caller (all step.who p.caller) step.event p.allowed))
      | inr away ↦
          subst (λ (l : Local). Keeps l.cuts l) (sym (other_local s w step i away)) (all i low)
    ]

none_embedded : (r : Region) → Each (IsGivenIn [] r) (embedded_in fresh r)
none_embedded N = tt
none_embedded M = tt

fresh_keeps : Keeps fresh.cuts fresh
fresh_keeps = record { views = tt; seen = tt; embedded = none_embedded; to_embed = λ r staging. tt }

start_keeps : (s : Shape) → AllKeep s (start s)
start_keeps s i low = subst (λ (l : Local). Keeps l.cuts l)
    (sym (get_or-replicate_default s.callers i fresh)) fresh_keeps

steps_keep : (s : Shape) (w : World) (steps : List Step) → Sound s w → AllKeep s w
    → IsTrue (are_possible s w steps) → AllKeep s (after_all s w steps)
steps_keep s w [] sound all may = all
steps_keep s w (step ∷ steps) sound all may =
    let parts = and_parts (is_possible s w step) (are_possible s (after s w step) steps) may in
    steps_keep s (after s w step) steps (sound_after s w step sound parts.0)
    (step_keeps s w step sound parts.0 all) parts.1

-- These locals are those of some sound world in which every local keeps its cuts.
record Of (s : Shape) (locals : List Local) : Type 0 where
  world : World
  sound : Sound s world
  keep : AllKeep s world
  are : world.locals ≡ locals

together : (s : Shape) (locals : List Local) → AreTogether s locals → Of s locals
together s locals (w, (steps, run, at), are) =
    record {
      world = w;
      sound =
          subst (λ (v : World). Sound s v) at (steps_sound s (start s) steps (start_sound s) run);
      keep = subst (λ (v : World). AllKeep s v) at
          (steps_keep s (start s) steps (start_sound s) (start_keeps s) run);
      are = are;
    }

keeps_in : (s : Shape) (locals : List Local) (i : ℕ) → AreTogether s locals → i < s.callers
    → Keeps (local_at locals i).cuts (local_at locals i)
keeps_in s locals i t low =
    let o = together s locals t in
    subst (λ (ls : List Local). Keeps (local_at ls i).cuts (local_at ls i)) o.are (o.keep i low)

-- the laws that `specs` states, from what is proved above
pub views_are_given : ViewsAreGiven
views_are_given s locals i k t low below =
    let l : Local = local_at locals i in
    each_at (IsGivenIn l.cuts N) l.views k [] (keeps_in s locals i t low).views below

pub seen_cuts_are_given : SeenCutsAreGiven
seen_cuts_are_given s locals i k t low below =
    let l : Local = local_at locals i in
    each_at (IsGivenIn l.cuts M) l.seen k [] (keeps_in s locals i t low).seen below

pub embedded_cuts_are_given : EmbeddedCutsAreGiven
embedded_cuts_are_given s locals i k r t low =
    let o = together s locals t in
    subst (λ (ls : List Local). k < own_count (local_at ls i) r
    → IsGivenIn (local_at ls i).cuts r (slice_index_or (embedded_in (local_at ls i) r) k [])) o.are
    (λ below.
    let l : Local = local_of o.world i in
    each_at (IsGivenIn l.cuts r) (embedded_in l r) k [] ((o.keep i low).embedded r)
    (omega (arith, below, embedded_long s o.world o.sound.kept o.sound.low i low r)))

-- Of two comparable cuts the one with the lesser own entry is within the other.
lesser_within : (a b : List ℕ) (i : ℕ) → slice_index a i < slice_index b i → AreComparable a b
    → IsWithin a b
lesser_within a b i less (inl h) = h
lesser_within a b i less (inr h) = let down = h i in absurd (omega (arith, less, down))

pub views_rise : ViewsRise
views_rise s locals i k m t low less below =
    let a = views_count_their_call s locals i k t low (omega (arith, less, below)) in
    let b = views_count_their_call s locals i m t low below in
    let l : Local = local_at locals i in
    lesser_within (slice_index_or l.views k []) (slice_index_or l.views m []) i
    (omega (arith, a.own, b.own, less))
    (views_are_comparable s locals i i k m t low low (omega (arith, less, below)) below)

pub seen_cuts_rise : SeenCutsRise
seen_cuts_rise s locals i k m t low less below =
    let l : Local = local_at locals i in
    let a = seen_cuts_count_their_call s locals i k t low (omega (arith, less, below)) in
    let b = seen_cuts_count_their_call s locals i m t low below in
    let p = seen_cuts_are_given s locals i k t low (omega (arith, less, below)) in
    let q = seen_cuts_are_given s locals i m t low below in
    lesser_within (slice_index_or l.seen k []) (slice_index_or l.seen m []) i
    (omega (arith, a.own, b.own, less))
    (given_cuts_are_comparable s locals i i p.place q.place
    (record { region = M; cut = slice_index_or l.seen k []; since = p.since })
    (record { region = M; cut = slice_index_or l.seen m []; since = q.since })
    t low low p.is q.is refl)
