-- An event that changes no row and no count keeps the agreement of its caller's local with the
-- words; and every event keeps it.
use Rattle.std.proofs.Common.{◌≡◌, ℕ, ◌+◌, ◌<◌, ◌≤◌, ◌⊎◌, Bool, true, false, ◌&&◌, ◌==◌, nat_lt, List, [], ◌∷◌, ◌++◌, length, Option, Some, None, slice_index, slice_index_or, refl, sym, ap, ◌∙◌, subst, arith, IsTrue, if◌then◌else◌, inl, inr, length-append, length-set}
use Rattle.std.proofs.lemmas.List.{get_or-set_other, get_or_append_left}
use Rattle.std.proofs.lemmas.Bool.{and_parts, cond_both, not-true}
use Rattle.world_core.specs.declared.region.Region.{Region}
use Rattle.world_core.specs.declared.region.Region.TheVariants.{N, M}
use Rattle.world_core.specs.declared.want.Want.{Want}
use Rattle.world_core.specs.declared.want.Want.TheVariants.{Look as Wants_look, Peek as Wants_peek, Done}
use Rattle.world_core.specs.Layout.{places, count_index, place_index, object_index, content}
use Rattle.world_core.specs.Shape.{Shape, words_of}
use Rattle.world_core.specs.Local.{Phase, Announcing, Asking, Viewing, Publishing, Judging, Staged, Scan, Given, Looked, Peeked, Object_step, Local, own_count, word_of, with_step}
use Rattle.world_core.specs.Scan.{wanted}
use Rattle.world_core.specs.Event.{Event, Stage, Announce, Object, Look, Peek, Publish, Opening, Begins_none, Begins_scan, Begins_view, is_enabled, may_begin, words_after, local_after, opened, begun, fed, went_on, given_by, with_word, with_look, with_peek, served, purpose_of, Purpose, For_row, For_view, For_seen, For_nothing, is_staged, is_unstaged, staged_at, is_due, is_view_under_way, is_asking, is_same_region, is_look_wanted, is_peek_wanted}
use Rattle.world_core.specs.Agreement.{Agrees, IsInRow, FitsPhase, IsStagedIn, IsKeptIn}
use Rattle.world_core.proofs.Indices.{count_or_object, row_or_object}
use Rattle.world_laws.proofs.RowWords.{same_row}
use Rattle.world_laws.proofs.Words.{own_few}
use Rattle.world_laws.proofs.Staging.{stage_agrees}
use Rattle.world_laws.proofs.Raising.{in_phase, announce_agrees, publish_agrees}

-- where nothing is staged, no word is staged at a place
none_staged : (staged : List Staged) (p : ℕ) → staged ≡ [] → is_staged staged p ≡ true → ⊥
none_staged staged p empty h = let e : false ≡ true =
    sym (ap (λ (ws : List Staged). is_staged ws p) empty) ∙ h in cc

-- What a local looked at, peeked and was given concerns no word; nor do its object steps, or a scan
-- and a cut to embed that its phase allows.
module _ (s : Shape) (words : List ℕ) (i : ℕ) (l : Local) (scan : Option Scan)
    (kept : Option (List ℕ)) (cuts : List Given) (looked : List Looked)
    (peeked : List Peeked) (steps : List (List Object_step)) (h : Agrees s words i l) where
  abbrev like : Local
  like = record l {
    scan = scan;
    to_embed = kept;
    cuts = cuts;
    looked = looked;
    peeked = peeked;
    object_steps = steps;
  }

  like_count : (r : Region) → slice_index words (count_index s.callers r i) ≡ own_count like r
  like_count N = h.counts N
  like_count M = h.counts M

  like_row : (r : Region) (k p : ℕ) → k < own_count like r → p < places s.callers r
      → slice_index words (place_index s.callers s.cap r i k p)
      ≡ word_of like k (content s.callers r p)
  like_row N k p below fits = h.rows N k p below fits
  like_row M k p below fits = h.rows M k p below fits

  like_staged : (r : Region) (p : ℕ) → kept ≡ l.to_embed → IsInRow s words i l r p
      → IsInRow s words i like r p
  like_staged r p same here =
      record {
        row = here.row;
        place_fits = here.place_fits;
        stands = here.stands;
        due = subst (λ (o : Option (List ℕ)). is_due (record like { to_embed = o })
            (content s.callers r p) (staged_at l.staged p) ≡ true) (sym same) here.due;
      }

  like_agrees : FitsPhase l.phase scan → IsKeptIn l.phase kept → (kept ≡ l.to_embed)
      ⊎ (l.staged ≡ []) → length steps ≡ l.announced → Agrees s words i like
  like_agrees fits may_keep same long =
      record {
        counts = like_count;
        few = h.few;
        rows = like_row;
        staged = λ r p staging staged. elim same [
          | inl to_embed ↦ like_staged r p to_embed (h.staged r p staging staged)
          | inr empty ↦ absurd (none_staged l.staged p empty staged)
        ];
        staged_in = h.staged_in;
        kept_in = may_keep;
        phase =
            record {
              announced = h.phase.announced;
              operations = h.phase.operations;
              replies = h.phase.replies;
              views = h.phase.views;
              seen = h.phase.seen;
              embedded_in_N = h.phase.embedded_in_N;
              embedded_in_M = h.phase.embedded_in_M;
              object_steps = long;
            };
        scan = fits;
      }

-- a local with another scan, other cuts, looks and peeks agrees with the words
with_scan : (s : Shape) (words : List ℕ) (i : ℕ) (l : Local) (scan : Option Scan)
    (cuts : List Given) (looked : List Looked) (peeked : List Peeked)
    → Agrees s words i l → FitsPhase l.phase scan
    → Agrees s words i (record l { scan = scan; cuts = cuts; looked = looked; peeked = peeked })
with_scan s words i l scan cuts looked peeked h fits =
    like_agrees s words i l scan l.to_embed cuts looked peeked l.object_steps h fits h.kept_in
    (inl refl) h.phase.object_steps

-- A local with other replies and views, that are the same at each published record, and another
-- phase.
module _ (s : Shape) (words : List ℕ) (i : ℕ) (l : Local) (h : Agrees s words i l)
    (replies : List ℕ) (views : List (List ℕ)) (seen : List (List ℕ)) (phase : Phase)
    (scan : Option Scan) (cuts : List Given) where
  abbrev turned : Local
  turned = record l {
    replies = replies;
    views = views;
    seen = seen;
    phase = phase;
    scan = scan;
    cuts = cuts;
  }

  turned_count : (r : Region) → slice_index words (count_index s.callers r i) ≡ own_count turned r
  turned_count N = h.counts N
  turned_count M = h.counts M

  turned_row : ((k : ℕ) → k < l.published → slice_index replies k ≡ slice_index l.replies k)
      → ((k : ℕ) → k < l.published → slice_index_or views k [] ≡ slice_index_or l.views k [])
      → (r : Region) (k p : ℕ) → k < own_count turned r → p < places s.callers r
      → slice_index words (place_index s.callers s.cap r i k p)
      ≡ word_of turned k (content s.callers r p)
  turned_row a b N k p below fits =
      h.rows N k p below fits
      ∙ same_row s.callers l turned N k p (record { operation = refl; embedded = refl })
  turned_row a b M k p below fits =
      h.rows M k p below fits ∙ same_row s.callers l turned M k p
      (record { reply = sym (a k below); view = sym (b k below); embedded = refl })

-- Reply, view and seen cut, each added as its phase ends.
module _ (s : Shape) (words : List ℕ) (i : ℕ) (l : Local) (cuts : List Given)
    (h : Agrees s words i l) where
  -- the local agrees with the words once the object has replied, at the first look of the view's
  -- scan
  replied_agrees : (reply : ℕ) (since : ℕ) (taken : List ℕ) → l.phase ≡ Asking
      → Agrees s words i (turned s words i l h (l.replies ++ reply ∷ []) l.views l.seen Viewing
      (Some (record { region = N; is_view = true; since = since; taken = taken })) cuts)
  replied_agrees reply since taken phase =
      let empty : l.staged ≡ [] = subst (λ (f : Phase). IsStagedIn f l.staged) phase h.staged_in in
      let was = in_phase l Asking h.phase phase in
      record {
        counts = turned_count s words i l h (l.replies ++ reply ∷ []) l.views l.seen Viewing
            (Some (record { region = N; is_view = true; since = since; taken = taken })) cuts;
        few = h.few;
        rows = turned_row s words i l h (l.replies ++ reply ∷ []) l.views l.seen Viewing
            (Some (record { region = N; is_view = true; since = since; taken = taken })) cuts
            (λ k below. get_or_append_left l.replies (reply ∷ []) 0 k
            (omega (arith, below, was.replies)))
            (λ k below. refl);
        staged = λ r p staging staged. absurd (none_staged l.staged p empty staged);
        staged_in = empty;
        kept_in = let none : l.to_embed ≡ None =
            subst (λ (f : Phase). IsKeptIn f l.to_embed) phase h.kept_in in none;
        phase = record {
          announced = was.announced;
          operations = h.phase.operations;
          replies = omega (arith, length-append l.replies (reply ∷ []), was.replies);
          views = was.views;
          seen = was.seen;
          embedded_in_N = h.phase.embedded_in_N;
          embedded_in_M = h.phase.embedded_in_M;
          object_steps = h.phase.object_steps;
        };
        scan = (refl, refl);
      }

  -- the local agrees with the words once it has its view, at the last look of the view's scan
  viewed_agrees : (cut : List ℕ) → l.phase ≡ Viewing
      → Agrees s words i
      (turned s words i l h l.replies (l.views ++ cut ∷ []) l.seen Publishing None cuts)
  viewed_agrees cut phase =
      let empty : l.staged ≡ [] = subst (λ (f : Phase). IsStagedIn f l.staged) phase h.staged_in in
      let was = in_phase l Viewing h.phase phase in
      record {
        counts =
            turned_count s words i l h l.replies (l.views ++ cut ∷ []) l.seen Publishing None cuts;
        few = h.few;
        rows = turned_row s words i l h l.replies (l.views ++ cut ∷ []) l.seen Publishing None cuts
            (λ k below. refl) (λ k below. get_or_append_left l.views (cut ∷ []) [] k
            (omega (arith, below, was.views)));
        staged = λ r p staging staged. absurd (none_staged l.staged p empty staged);
        staged_in = tt;
        kept_in = tt;
        phase = record {
          announced = was.announced;
          operations = h.phase.operations;
          replies = was.replies;
          views = omega (arith, length-append l.views (cut ∷ []), was.views);
          seen = was.seen;
          embedded_in_N = h.phase.embedded_in_N;
          embedded_in_M = h.phase.embedded_in_M;
          object_steps = h.phase.object_steps;
        };
        scan = tt;
      }

  -- the local agrees with the words once it has its seen cut, at the last look of that scan
  seen_agrees : (cut : List ℕ) → l.phase ≡ Judging
      → Agrees s words i
      (turned s words i l h l.replies l.views (l.seen ++ cut ∷ []) Announcing None cuts)
  seen_agrees cut phase =
      let empty : l.staged ≡ [] = subst (λ (f : Phase). IsStagedIn f l.staged) phase h.staged_in in
      let was = in_phase l Judging h.phase phase in
      record {
        counts =
            turned_count s words i l h l.replies l.views (l.seen ++ cut ∷ []) Announcing None cuts;
        few = h.few;
        rows = turned_row s words i l h l.replies l.views (l.seen ++ cut ∷ []) Announcing None cuts
            (λ k below. refl) (λ k below. refl);
        staged = λ r p staging staged. absurd (none_staged l.staged p empty staged);
        staged_in = tt;
        kept_in = tt;
        phase = record {
          announced = was.announced;
          operations = h.phase.operations;
          replies = was.replies;
          views = was.views;
          seen = omega (arith, length-append l.seen (cut ∷ []), was.seen);
          embedded_in_N = h.phase.embedded_in_N;
          embedded_in_M = h.phase.embedded_in_M;
          object_steps = h.phase.object_steps;
        };
        scan = tt;
      }

  -- the local after a scan ended that serves no purpose
  abbrev ended : Local
  ended = record l { scan = None; cuts = cuts }

  nothing_agrees : FitsPhase l.phase None → Agrees s words i ended
  nothing_agrees fits = with_scan s words i l None cuts l.looked l.peeked h fits

  row_agrees : (cut : List ℕ) → FitsPhase l.phase None → IsKeptIn l.phase (Some cut)
      → l.staged ≡ [] → Agrees s words i (served ended For_row cut)
  row_agrees cut fits may_keep empty = like_agrees s words i l None (Some cut) cuts l.looked
      l.peeked l.object_steps h fits may_keep (inr empty) h.phase.object_steps

  -- the local agrees with the words after a scan whose cut it keeps to embed, and after one whose
  -- cut it doesn't keep
  maybe_row : (b : Bool) (cut : List ℕ) → FitsPhase l.phase None → IsKeptIn l.phase (Some cut)
      → (b ≡ true → l.staged ≡ [])
      → Agrees s words i (served ended (if b then For_row else For_nothing) cut)
  maybe_row true cut fits may_keep empty = row_agrees cut fits may_keep (empty refl)
  maybe_row false cut fits may_keep empty = nothing_agrees fits

  maybe_seen : (b : Bool) (cut : List ℕ) → l.phase ≡ Judging
      → Agrees s words i (served ended (if b then For_seen else For_nothing) cut)
  maybe_seen true cut is = seen_agrees cut is
  maybe_seen false cut is = nothing_agrees (subst (λ (f : Phase). FitsPhase f None) (sym is) tt)

  unstaged_is : (staged : List Staged) → is_unstaged staged ≡ true → staged ≡ []
  unstaged_is [] e = refl
  unstaged_is (w ∷ ws) e = absurd cc

  -- a cut serves its purpose
  served_agrees : (scan : Scan) (cut : List ℕ) (phase : Phase) → l.phase ≡ phase
      → FitsPhase phase (Some scan)
      → Agrees s words i (served ended (purpose_of phase l.staged scan) cut)
  served_agrees scan cut Viewing is fits =
      subst (λ (p : Purpose). Agrees s words i (served ended p cut))
      (let e : For_view ≡ purpose_of Viewing l.staged scan =
      sym (ap
      (λ (r : Region). if is_same_region r N && scan.is_view then For_view else For_nothing) fits.1
      ∙ ap (λ (b : Bool). if is_same_region N N && b then For_view else For_nothing) fits.0) in e)
      (viewed_agrees cut is)
  served_agrees scan cut Judging is fits = maybe_seen (is_same_region scan.region M) cut is
  served_agrees scan cut Asking is fits =
      nothing_agrees (subst (λ (f : Phase). FitsPhase f None) (sym is) tt)
  served_agrees scan cut Announcing is fits =
      maybe_row (is_same_region scan.region N && is_unstaged l.staged) cut
      (subst (λ (f : Phase). FitsPhase f None) (sym is) tt)
      (subst (λ (f : Phase). IsKeptIn f (Some cut)) (sym is) tt) (λ e.
      unstaged_is l.staged (and_parts (is_same_region scan.region N) (is_unstaged l.staged) e).1)
  served_agrees scan cut Publishing is fits =
      maybe_row (is_same_region scan.region M && is_unstaged l.staged) cut
      (subst (λ (f : Phase). FitsPhase f None) (sym is) tt)
      (subst (λ (f : Phase). IsKeptIn f (Some cut)) (sym is) tt) (λ e.
      unstaged_is l.staged (and_parts (is_same_region scan.region M) (is_unstaged l.staged) e).1)

-- a local whose scan took a word agrees with the words
went_on_agrees : (s : Shape) (words : List ℕ) (i : ℕ) (l : Local) (scan : Scan) (want : Want)
    → Agrees s words i l → FitsPhase l.phase (Some scan)
    → Agrees s words i (went_on l scan want)
went_on_agrees s words i l scan (Done cut) h fits =
    served_agrees s words i l (l.cuts ++ given_by scan cut ∷ []) h scan cut l.phase refl fits
went_on_agrees s words i l scan (Wants_look j) h fits =
    with_scan s words i l (Some scan) l.cuts l.looked l.peeked h fits
went_on_agrees s words i l scan (Wants_peek j k e) h fits =
    with_scan s words i l (Some scan) l.cuts l.looked l.peeked h fits

-- what a phase allows of a scan doesn't depend on the scan's words
more_fits : (phase : Phase) (scan : Scan) (x : ℕ) → FitsPhase phase (Some scan)
    → FitsPhase phase (Some (with_word scan x))
more_fits Announcing scan x h = h
more_fits Asking scan x h = h
more_fits Viewing scan x h = h
more_fits Publishing scan x h = h
more_fits Judging scan x h = h

-- a loaded word keeps the agreement, whether or not a scan takes it
fed_agrees : (s : Shape) (words : List ℕ) (i : ℕ) (l : Local) (o : Option Scan) (q : Region)
    (is_it : Want → Bool) (x : ℕ) → Agrees s words i l → FitsPhase l.phase o
    → Agrees s words i (fed s.callers l o q is_it x)
fed_agrees s words i l None q is_it x h fits = h
fed_agrees s words i l (Some scan) q is_it x h fits =
    cond_both (is_same_region scan.region q && is_it (wanted s.callers scan.taken))
    (went_on l (with_word scan x) (wanted s.callers (with_word scan x).taken)) l
    (λ (m : Local). Agrees s words i m)
    (λ _. went_on_agrees s words i l (with_word scan x)
    (wanted s.callers (with_word scan x).taken) h (more_fits l.phase scan x fits))
    (λ _. h)

-- where no view's scan is under way, another may begin
may_fit : (phase : Phase) (o : Option Scan) (scan : Scan) → FitsPhase phase o
    → is_view_under_way o ≡ false → scan.is_view ≡ false → FitsPhase phase (Some scan)
may_fit Announcing o scan fits h plain = plain
may_fit Asking o scan fits h plain = plain
may_fit Publishing o scan fits h plain = plain
may_fit Judging o scan fits h plain = plain
may_fit Viewing None scan fits h plain = absurd fits
may_fit Viewing (Some old) scan fits h plain = let e : true ≡ false = sym fits.0 ∙ h in absurd cc

pub asking_is : (phase : Phase) → is_asking phase ≡ true → phase ≡ Asking
asking_is Asking h = refl
asking_is Announcing h = absurd cc
asking_is Viewing h = absurd cc
asking_is Publishing h = absurd cc
asking_is Judging h = absurd cc

-- the beginning of a scan keeps the agreement
pub opened_agrees : (s : Shape) (me : ℕ) (words : List ℕ) (i : ℕ) (l : Local) (q : Region) (j : ℕ)
    (o : Opening) → Agrees s words i l → IsTrue (may_begin s me l q j o)
    → Agrees s words i (opened l q o)
opened_agrees s me words i l q j Begins_none h may = h
opened_agrees s me words i l q j Begins_scan h may =
    let free = not-true (is_view_under_way l.scan) (and_parts (j == 0) _ may).1 in
    with_scan s words i l (Some (begun l q false)) l.cuts l.looked l.peeked h
    (may_fit l.phase l.scan (begun l q false) h.scan free refl)
opened_agrees s me words i l N j (Begins_view reply) h may =
    let asks = and_parts (is_asking l.phase) _ (and_parts (j == 0) _ may).1 in
    replied_agrees s words i l l.cuts h reply (length l.looked) [] (asking_is l.phase asks.0)
opened_agrees s me words i l M j (Begins_view reply) h may =
    let never : false ≡ true = (and_parts (j == 0) false may).1 in absurd cc

-- a look keeps the agreement of its own caller
look_agrees : (s : Shape) (me : ℕ) (l : Local) (words : List ℕ) (q : Region) (j x : ℕ) (o : Opening)
    → IsTrue (is_enabled s me l (Look q j x o)) → Agrees s words me l
    → Agrees s words me (local_after s.callers l (Look q j x o))
look_agrees s me l words q j x o may h =
    let begins : Local = opened l q o in
    let opens : Agrees s words me begins =
    opened_agrees s me words me l q j o h (and_parts (nat_lt j s.callers) _ may).1 in
    let look : Looked = record { region = q; caller = j; count = x } in
    fed_agrees s words me (with_look begins look) begins.scan q (is_look_wanted j) x
    (with_scan s words me begins begins.scan begins.cuts
    (look ∷ begins.looked) begins.peeked opens opens.scan) opens.scan

-- a peek keeps the agreement of its own caller
peek_agrees : (s : Shape) (me : ℕ) (l : Local) (words : List ℕ) (q : Region) (j k t x : ℕ)
    → Agrees s words me l
    → Agrees s words me (local_after s.callers l (Peek q j k t x))
peek_agrees s me l words q j k t x h =
    let peek : Peeked = record { region = q; caller = j; row = k; place = t; word = x } in
    fed_agrees s words me (with_peek l peek) l.scan q (is_peek_wanted s.callers q j k t) x
    (with_scan s words me l l.scan l.cuts l.looked (peek ∷ l.peeked) h h.scan) h.scan

-- a change of no word of the counts and the rows keeps the agreement
same_words : (s : Shape) (words more : List ℕ) (i : ℕ) (l : Local) → i < s.callers
    → ((r : Region)
    → slice_index more (count_index s.callers r i) ≡ slice_index words (count_index s.callers r i))
    → ((r : Region) (k p : ℕ) → k < s.cap → p < places s.callers r
    → slice_index more (place_index s.callers s.cap r i k p)
    ≡ slice_index words (place_index s.callers s.cap r i k p))
    → Agrees s words i l → Agrees s more i l
same_words s words more i l low counts rows h =
    record {
      counts = λ r. counts r ∙ h.counts r;
      few = h.few;
      rows = λ r k p below fits. rows r k p (omega (arith, own_few s words i l h r)) fits
          ∙ h.rows r k p below fits;
      staged = λ r p staging staged.
          let here = h.staged r p staging staged in
          record {
            row = here.row;
            place_fits = here.place_fits;
            stands = rows r (own_count l r) p here.row here.place_fits ∙ here.stands;
            due = here.due;
          };
      staged_in = h.staged_in;
      kept_in = h.kept_in;
      phase = h.phase;
      scan = h.scan;
    }

-- an object step keeps the agreement of its own caller
object_agrees : (s : Shape) (me : ℕ) (l : Local) (words : List ℕ) (o : Object_step) → me < s.callers
    → Agrees s words me l
    → Agrees s (words_after s me l words (Object o)) me (local_after s.callers l (Object o))
object_agrees s me l words o low h =
    same_words s words (words_after s me l words (Object o)) me
    (local_after s.callers l (Object o)) low
    (λ r. get_or-set_other words (object_index s.callers s.cap o.place)
    (count_index s.callers r me) o.new 0 (count_or_object s.callers s.cap r me o.place low))
    (λ r k p a b. get_or-set_other words (object_index s.callers s.cap o.place)
    (place_index s.callers s.cap r me k p) o.new 0
    (row_or_object s.callers s.cap r me k p o.place low a b))
    (like_agrees s words me l l.scan l.to_embed l.cuts l.looked l.peeked
    (with_step l.object_steps l.published o) h h.scan h.kept_in (inl refl)
    (length-set l.object_steps l.published (slice_index_or l.object_steps l.published [] ++ o ∷ [])
    ∙ h.phase.object_steps))

-- an event keeps the agreement of its own caller
pub own_agrees : (s : Shape) (me : ℕ) (l : Local) (words : List ℕ) (e : Event) → me < s.callers
    → words_of s ≤ length words
    → IsTrue (is_enabled s me l e) → Agrees s words me l
    → Agrees s (words_after s me l words e) me (local_after s.callers l e)
own_agrees s me l words (Stage q t x) low long may h =
    stage_agrees s me l words q t x low long may h
own_agrees s me l words Announce low long may h = announce_agrees s me l words low long may h
own_agrees s me l words Publish low long may h = publish_agrees s me l words low long may h
own_agrees s me l words (Object o) low long may h = object_agrees s me l words o low h
own_agrees s me l words (Look q j x o) low long may h = look_agrees s me l words q j x o may h
own_agrees s me l words (Peek q j m t x) low long may h = peek_agrees s me l words q j m t x h
