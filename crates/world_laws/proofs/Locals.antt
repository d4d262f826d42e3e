-- What holds of the locals of one reachable world.
use Rattle.std.proofs.Common.{◌≡◌, ℕ, ◌<◌, ◌≤◌, true, List, [], ◌∷◌, ◌++◌, length, Some, sym, ap, ◌∙◌, subst, arith, slice_get, slice_index}
use Rattle.std.specs.Prelude.{Contains}
use Rattle.std.proofs.lemmas.Bool.{and_parts}
use Rattle.book_base.specs.declared.call.Call.{Call}
use Rattle.world_core.specs.declared.region.Region.{Region}
use Rattle.world_core.specs.Layout.{places, content}
use Rattle.world_core.specs.Shape.{Shape}
use Rattle.world_core.specs.Local.{Local, Given, Looked, Peeked, own_count, word_of}
use Rattle.world_core.specs.Event.{Announce, Publish, knows_row, local_after}
use Rattle.world_core.specs.World.{World, Step, start, local_of, count_of, is_possible, IsRun, end_of}
use Rattle.world_core.specs.Agreement.{HasPhase}
use Rattle.world_core.specs.Calls.{AreTogether, HasPeeked, local_at}
use Rattle.world_laws.specs.Locals.{IsCountedRow, LocalsHavePhases, KnownRowsAreCounted, PeekedWordsAreWords, LookedCountsAreLow, GivenCutsAreLow, GivenCutsArePublished, KnownRowsAreCountedInRuns, PeekedWordsStand, LookedCountsAreLowInRuns, AnnouncementsGiveUpScans, PublicationsGiveUpScans}
use Rattle.world_laws.proofs.Words.{own_few}
use Rattle.world_laws.proofs.Each.{Each, each_get, each_at}
use Rattle.world_laws.proofs.Low.{IsLowCut, IsLowLook, IsLowGiven, IsCounted}
use Rattle.world_laws.proofs.Knowing.{Sound, steps_sound, start_sound, known_counted, word_is}
use Rattle.world_laws.proofs.Running.{possible, goes_on, own_local}

-- Locals that are together are those of a world in which all that was proved of worlds holds.
pub record Of (s : Shape) (locals : List Local) : Type 0 where
  pub world : World
  pub sound : Sound s world
  pub are : world.locals ≡ locals

pub together : (s : Shape) (locals : List Local) → AreTogether s locals → Of s locals
together s locals (w, (steps, run, at), are) =
    record {
      world = w;
      sound =
          subst (λ (v : World). Sound s v) at (steps_sound s (start s) steps (start_sound s) run);
      are = are;
    }

-- the count of a caller is its local's own
own_counted : (s : Shape) (w : World) → Sound s w → (r : Region) (j : ℕ) → j < s.callers
    → count_of s w r j ≡ own_count (local_of w j) r
own_counted s w h r j low = (h.kept.agree j low).counts r

counted_low : (s : Shape) (w : World) → Sound s w → (r : Region) (j : ℕ) → j < s.callers
    → count_of s w r j ≤ s.cap
counted_low s w h r j low =
    let few : own_count (local_of w j) r ≤ s.cap =
    own_few s w.words j (local_of w j) (h.kept.agree j low) r in
    omega (arith, own_counted s w h r j low, few)

-- a peeked word that a list contains
contained : (s : Shape) (w : World) (ps : List Peeked) (p : Peeked) → Each (IsCounted s w) ps
    → Contains ps p → IsCounted s w p
contained s w ps p h (k, below, is) =
    subst (IsCounted s w) is (each_at (IsCounted s w) ps k p h below)

module _ (s : Shape) (w : World) (h : Sound s w) where
  known_row : (i j k : ℕ) (r : Region) → i < s.callers
      → knows_row s.callers (local_of w i) r j k ≡ true → IsCountedRow s w.locals r j k
  known_row i j k r low knows =
      let row = known_counted s w h.kept h.low (local_of w i) (h.low i low) r j k knows in
      let count : count_of s w r j ≡ own_count (local_of w j) r = own_counted s w h r j row.0 in
      let few : count_of s w r j ≤ s.cap = counted_low s w h r j row.0 in
      (row.0, omega (arith, row.1, few), omega (arith, row.1, count))

  peeked_word : (i : ℕ) (r : Region) (call : Call) (place x : ℕ) → i < s.callers
      → HasPeeked (local_of w i) r call place x
      → IsCountedRow s w.locals r call.caller call.number × (place < places s.callers r)
      × (x ≡ word_of (local_of w call.caller) call.number (content s.callers r place))
  peeked_word i r call place x low peeked =
      let p : Peeked =
      record { region = r; caller = call.caller; row = call.number; place = place; word = x } in
      let here : IsCounted s w p =
      contained s w (local_of w i).peeked p (h.low i low).peeked peeked in
      let count : count_of s w r call.caller ≡ own_count (local_of w call.caller) r =
      own_counted s w h r call.caller here.caller in
      let few : count_of s w r call.caller ≤ s.cap =
      counted_low s w h r call.caller here.caller in (
        (here.caller, omega (arith, here.row, few), omega (arith, here.row, count)),
        here.place,
        here.word ∙ word_is s w h.kept h.low r call.caller call.number place here.caller
            here.row here.place,
      )

  looked_low : (i p : ℕ) (look : Looked) → i < s.callers
      → slice_get (local_of w i).looked p ≡ Some look
      → (look.caller < s.callers) × (look.count ≤ own_count (local_of w look.caller) look.region)
  looked_low i p look low is =
      let here : IsLowLook s w look =
      each_get (IsLowLook s w) (local_of w i).looked p look (h.low i low).looked is in
      let count = own_counted s w h look.region look.caller here.caller in
      (here.caller, omega (arith, here.count, count))

  given_low : (i p : ℕ) (given : Given) → i < s.callers
      → slice_get (local_of w i).cuts p ≡ Some given
      → (length given.cut ≡ s.callers)
      × ((j : ℕ) → j < s.callers → slice_index given.cut j ≤ own_count (local_of w j) given.region)
  given_low i p given low is =
      let here : IsLowCut s w given.region given.cut =
      each_get (IsLowGiven s w) (local_of w i).cuts p given (h.low i low).cuts is in (
        here.wide,
        λ j below. let a = here.low j below in let count = own_counted s w h given.region j below in
            omega (arith, a, count),
      )

-- the laws that `specs` states, from what is proved above
pub locals_have_phases : LocalsHavePhases
locals_have_phases s locals t =
    let o = together s locals t in
    subst (λ (ls : List Local). (length ls ≡ s.callers)
    × ((i : ℕ) → i < s.callers → HasPhase (local_at ls i))
    × ((i : ℕ) (region : Region) → i < s.callers → own_count (local_at ls i) region ≤ s.cap))
    o.are (
      o.sound.kept.locals_long,
      λ i low. (o.sound.kept.agree i low).phase,
      λ i r low. own_few s o.world.words i (local_of o.world i) (o.sound.kept.agree i low) r,
    )

pub known_rows_are_counted : KnownRowsAreCounted
known_rows_are_counted s locals i j k r t low =
    let o = together s locals t in
    subst (λ (ls : List Local). knows_row s.callers (local_at ls i) r j k ≡ true
    → IsCountedRow s ls r j k) o.are (known_row s o.world o.sound i j k r low)

pub peeked_words_are_words : PeekedWordsAreWords
peeked_words_are_words s locals i r call place x t low =
    let o = together s locals t in
    subst (λ (ls : List Local). HasPeeked (local_at ls i) r call place x
    → IsCountedRow s ls r call.caller call.number × (place < places s.callers r)
    × (x ≡ word_of (local_at ls call.caller) call.number (content s.callers r place))) o.are
    (peeked_word s o.world o.sound i r call place x low)

pub looked_counts_are_low : LookedCountsAreLow
looked_counts_are_low s locals i p look t low =
    let o = together s locals t in
    subst
    (λ (ls : List Local). slice_get (local_at ls i).looked p ≡ Some look → (look.caller < s.callers)
    × (look.count ≤ own_count (local_at ls look.caller) look.region)) o.are
    (looked_low s o.world o.sound i p look low)

pub given_cuts_are_low : GivenCutsAreLow
given_cuts_are_low s locals i p given t low =
    let o = together s locals t in
    subst (λ (ls : List Local). slice_get (local_at ls i).cuts p ≡ Some given
    → (length given.cut ≡ s.callers) × ((j : ℕ) → j < s.callers
    → slice_index given.cut j ≤ own_count (local_at ls j) given.region)) o.are
    (given_low s o.world o.sound i p given low)

pub given_cuts_are_published : GivenCutsArePublished
given_cuts_are_published s locals i p given t low is region =
    let low' = given_cuts_are_low s locals i p given t low is in
    let wide = (locals_have_phases s locals t).0 in
    record {
      wide = low'.0 ∙ sym wide;
      within = λ j below.
          let a : slice_index given.cut j ≤ own_count (local_at locals j) given.region =
          low'.1 j (omega (arith, below, wide)) in
          subst
          (λ (r : Region). slice_index given.cut j ≤ own_count (local_at locals j) r) region a;
    }

run_sound : (s : Shape) (steps : List Step) → IsRun s steps → Sound s (end_of s steps)
run_sound s steps run = steps_sound s (start s) steps (start_sound s) run

pub known_rows_are_counted_in_runs : KnownRowsAreCountedInRuns
known_rows_are_counted_in_runs s steps i j k r run low knows =
    let h = run_sound s steps run in
    let row = known_row s (end_of s steps) h i j k r low knows in
    (row.0, row.1, omega (arith, row.2, own_counted s (end_of s steps) h r j row.0))

pub peeked_words_stand : PeekedWordsStand
peeked_words_stand s steps i r call place x run low peeked =
    let h = run_sound s steps run in
    let p : Peeked =
    record { region = r; caller = call.caller; row = call.number; place = place; word = x } in
    let here : IsCounted s (end_of s steps) p = contained s (end_of s steps)
    (local_of (end_of s steps) i).peeked p (h.low i low).peeked peeked in
    (here.row, here.word)

pub looked_counts_are_low_in_runs : LookedCountsAreLowInRuns
looked_counts_are_low_in_runs s steps i p look run low is =
    let h = run_sound s steps run in
    let here : IsLowLook s (end_of s steps) look = each_get (IsLowLook s (end_of s steps))
    (local_of (end_of s steps) i).looked p look (h.low i low).looked is in
    (here.caller, here.count)

-- the local after the last step of a run
last_local : (s : Shape) (before : List Step) (step : Step) → IsRun s (before ++ step ∷ [])
    → local_of (end_of s (before ++ step ∷ [])) step.who
    ≡ local_after s.callers (local_of (end_of s before) step.who) step.event
last_local s before step run =
    let on = goes_on s before (step ∷ []) run in
    let may = (and_parts (is_possible s (end_of s before) step) true on.may).0 in
    ap (λ (v : World). local_of v step.who) on.at ∙ own_local s
    (end_of s before) step on.kept.locals_long (possible s (end_of s before) step may).caller

pub announcements_give_up_scans : AnnouncementsGiveUpScans
announcements_give_up_scans s before who run =
    ap (λ (l : Local). l.scan) (last_local s before (record { who = who; event = Announce }) run)

pub publications_give_up_scans : PublicationsGiveUpScans
publications_give_up_scans s before who run =
    ap (λ (l : Local). l.scan) (last_local s before (record { who = who; event = Publish }) run)
