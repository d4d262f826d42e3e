-- A row that a caller knows of is counted, and every local stays low: what it holds of counts isn't
-- above them.
use Rattle.std.proofs.Common.{◌≡◌, ℕ, zero, suc, ◌-◌, ◌<◌, ◌≤◌, Bool, true, false, ◌&&◌, ◌||◌, ◌==◌, if◌then◌else◌, nat_lt, List, [], ◌∷◌, length, Option, Some, None, slice_index, slice_index_or, refl, sym, ap, ◌∙◌, subst, arith, IsTrue, inl, inr}
use Rattle.std.specs.Option.{unwrap_or}
use Rattle.std.specs.List.{list_any}
use Rattle.std.proofs.lemmas.List.{get_or_past}
use Rattle.std.proofs.lemmas.Bool.{and_parts, ltb-true, eqb-true, cases_Bool, cases_eq, cases_lt}
use Rattle.list_laws.proofs.Places.{get_or-replicate_default}
use Rattle.world_core.specs.declared.region.Region.{Region}
use Rattle.world_core.specs.declared.region.Region.TheVariants.{N, M}
use Rattle.world_core.specs.Layout.{Content, Low as Low_word, High, Reply, View_entry, Embedded_entry, content, embedded_place, places}
use Rattle.world_core.specs.Shape.{Shape}
use Rattle.world_core.specs.Local.{Phase, Given, Looked, Peeked, Local, fresh, own_count, embedded_in, word_of}
use Rattle.world_core.specs.Scan.{open_round, course}
use Rattle.world_core.specs.Event.{Event, Stage, Announce, Object, Look, Peek, Publish, Opening, Begins_none, Begins_scan, Begins_view, is_enabled, may_begin, is_loaded, local_after, opened, with_look, with_peek, cut_to_embed, is_staging, is_row_staged, are_staged, is_entry_to_embed, staged_at, is_due, is_asking, is_same_region, is_look_wanted, is_peek_wanted, knows_row, is_view_entry}
use Rattle.world_core.specs.World.{World, Step, start, local_of, count_of, row_word, after, is_possible, after_all, are_possible}
use Rattle.world_core.specs.Agreement.{Agrees, IsKeptIn}
use Rattle.world_core.proofs.Scans.{open_lacks}
use Rattle.world_laws.proofs.Each.{Each, each_push, each_at, each_any}
use Rattle.world_laws.proofs.Endings.{same_region_is, look_is, peek_is, content_embedded, embedded_fits}
use Rattle.world_laws.proofs.Raising.{row_staged}
use Rattle.world_laws.proofs.Agreeing.{asking_is}
use Rattle.world_laws.proofs.Low.{Low, IsLowCut, IsLowLook, IsLowGiven, IsLowKept, IsCounted, Later, low_on, fed_low, opened_low}
use Rattle.world_laws.proofs.Running.{Kept, possible, start_kept, step_kept, step_grows, step_stays, own_local, other_local}

-- Every local of a world is low.
abbrev pub AllLow : Shape → World → Type 0
AllLow s w = (i : ℕ) → i < s.callers → Low s w (local_of w i)

-- A row that is counted.
abbrev IsRow : Shape → World → Region → ℕ → ℕ → Type 0
IsRow s w r j k = (j < s.callers) × (k < count_of s w r j)

-- a place of M that is for an entry of a view is for one of the callers
entry_of_view : (n i j e : ℕ) (b : Bool) → nat_lt j n ≡ b
    → (if b then View_entry j else Embedded_entry M e) ≡ View_entry i → i < n
entry_of_view n i j e true less is = let same : j ≡ i = cc in
    subst (λ (m : ℕ). m < n) same (ltb-true j n less)
entry_of_view n i j e false less is = absurd cc

view_entry_low : (n place i : ℕ) → content n M place ≡ View_entry i → i < n
view_entry_low n zero i is = absurd cc
view_entry_low n (suc j) i is = entry_of_view n i j (j - n) (nat_lt j n) refl is

view_entry_is : (part : Content) (j : ℕ) → is_view_entry part j ≡ true → part ≡ View_entry j
view_entry_is (View_entry i) j h = ap View_entry (eqb-true i j h)
view_entry_is Low_word j h = absurd cc
view_entry_is High j h = absurd cc
view_entry_is Reply j h = absurd cc
view_entry_is (Embedded_entry r i) j h = absurd cc

module _ (s : Shape) (w : World) (kept : Kept s w) (all : AllLow s w) where
  -- a row that is counted is one of its caller's own
  own_row : (r : Region) (j k : ℕ) → j < s.callers → k < count_of s w r j
      → k < own_count (local_of w j) r
  own_row r j k low below = omega (arith, (kept.agree j low).counts r, below)

  -- the word in a counted row is the word of its call
  pub word_is : (r : Region) (j k place : ℕ) → j < s.callers → k < count_of s w r j
      → place < places s.callers r
      → row_word s w r j k place ≡ word_of (local_of w j) k (content s.callers r place)
  word_is r j k place low below fits =
      (kept.agree j low).rows r k place (own_row r j k low below) fits

  -- an entry of a counted view is no more than the count
  pub view_low : (j k i x : ℕ) → j < s.callers → k < count_of s w M j → i < s.callers
      → x ≡ word_of (local_of w j) k (View_entry i) → x ≤ count_of s w N i
  view_low j k i x low below fits is =
      let local : Local = local_of w j in
      let short : k < length local.views =
      omega (arith, own_row M j k low below, (kept.agree j low).phase.views) in
      let entry : IsLowCut s w N (slice_index_or local.views k []) =
      each_at (IsLowCut s w N) local.views k [] (all j low).views short in
      let bound : slice_index (slice_index_or local.views k []) i ≤ count_of s w N i =
      entry.low i fits in
      omega (arith, is, bound)

  pub embedded_long : (j : ℕ) → j < s.callers → (r : Region)
      → length (embedded_in (local_of w j) r) ≡ own_count (local_of w j) r
  embedded_long j low N = (kept.agree j low).phase.embedded_in_N
  embedded_long j low M = (kept.agree j low).phase.embedded_in_M

  embedded_word : (l : Local) (r : Region) (k e : ℕ)
      → word_of l k (Embedded_entry r e) ≡ slice_index (slice_index_or (embedded_in l r) k []) e
  embedded_word l r k e = refl

  -- an entry of an embedded cut of a counted row is no more than the count
  pub embedded_low : (r : Region) (j k e x : ℕ) → j < s.callers → k < count_of s w r j
      → e < s.callers
      → x ≡ row_word s w r j k (embedded_place s.callers r e) → x ≤ count_of s w r e
  embedded_low r j k e x low below fits is =
      let local : Local = local_of w j in
      let word : row_word s w r j k (embedded_place s.callers r e)
      ≡ slice_index (slice_index_or (embedded_in local r) k []) e =
      word_is r j k (embedded_place s.callers r e) low below (embedded_fits s.callers r e fits)
      ∙ ap (λ (part : Content). word_of local k part) (content_embedded s.callers r e)
      ∙ embedded_word local r k e in
      let short : k < length (embedded_in local r) =
      omega (arith, own_row r j k low below, embedded_long j low r) in
      let entry : IsLowCut s w r (slice_index_or (embedded_in local r) k []) =
      each_at (IsLowCut s w r) (embedded_in local r) k [] ((all j low).embedded r) short in
      let bound : slice_index (slice_index_or (embedded_in local r) k []) e ≤ count_of s w r e =
      entry.low e fits in
      omega (arith, is, word, bound)

  -- A row that a local knows of, by a look, a cut or a peeked view, is a row of the world.
  module _ (l : Local) (h : Low s w l) (r : Region) (j k : ℕ) where
    by_look : list_any (λ (look : Looked). is_same_region look.region r
        && (look.caller == j && nat_lt k look.count)) l.looked ≡ true → IsRow s w r j k
    by_look e =
        let (look, low, passes) =
        each_any (IsLowLook s w) (λ (look : Looked). is_same_region look.region r
        && (look.caller == j && nat_lt k look.count)) l.looked h.looked e in
        let a =
        and_parts (is_same_region look.region r) (look.caller == j && nat_lt k look.count) passes in
        let b = and_parts (look.caller == j) (nat_lt k look.count) a.1 in
        let region : look.region ≡ r = same_region_is look.region r a.0 in
        let caller : look.caller ≡ j = eqb-true look.caller j b.0 in
        let count : look.count ≤ count_of s w r j =
        subst (λ (q : Region). look.count ≤ count_of s w q j) region
        (subst (λ (i : ℕ). look.count ≤ count_of s w look.region i) caller low.count) in (
          subst (λ (i : ℕ). i < s.callers) caller low.caller,
          omega (arith, count, ltb-true k look.count b.1),
        )

    by_cut : list_any
        (λ (given : Given). is_same_region given.region r && nat_lt k (slice_index given.cut j))
        l.cuts ≡ true → IsRow s w r j k
    by_cut e =
        let (given, low, passes) = each_any (IsLowGiven s w)
        (λ (given : Given). is_same_region given.region r && nat_lt k (slice_index given.cut j))
        l.cuts h.cuts e in
        let a =
        and_parts (is_same_region given.region r) (nat_lt k (slice_index given.cut j)) passes in
        let below : k < slice_index given.cut j = ltb-true k (slice_index given.cut j) a.1 in
        let there : IsLowCut s w r given.cut =
        subst (λ (q : Region). IsLowCut s w q given.cut) (same_region_is given.region r a.0) low in
        elim (cases_lt j s.callers) [
          | inl caller ↦ let bound : slice_index given.cut j ≤ count_of s w r j =
              there.low j caller in (caller, omega (arith, below, bound))
          | inr past ↦ absurd
              (omega (arith, below, get_or_past given.cut j 0 (omega (arith, past, there.wide))))
        ]

    by_view : (is_same_region r N && list_any (λ (p : Peeked). is_same_region p.region M
        && (is_view_entry (content s.callers M p.place) j && nat_lt k p.word)) l.peeked) ≡ true
        → IsRow s w r j k
    by_view e =
        let both =
        and_parts (is_same_region r N) (list_any (λ (p : Peeked). is_same_region p.region M
        && (is_view_entry (content s.callers M p.place) j && nat_lt k p.word)) l.peeked) e in
        let (p, row, passes) = each_any (IsCounted s w) (λ (p : Peeked). is_same_region p.region M
        && (is_view_entry (content s.callers M p.place) j && nat_lt k p.word)) l.peeked
        h.peeked both.1 in
        let a = and_parts (is_same_region p.region M)
        (is_view_entry (content s.callers M p.place) j && nat_lt k p.word) passes in
        let b = and_parts (is_view_entry (content s.callers M p.place) j) (nat_lt k p.word) a.1 in
        let region : p.region ≡ M = same_region_is p.region M a.0 in
        let part : content s.callers M p.place ≡ View_entry j =
        view_entry_is (content s.callers M p.place) j b.0 in
        let caller : j < s.callers = view_entry_low s.callers p.place j part in
        let below : p.row < count_of s w M p.caller =
        subst (λ (q : Region). p.row < count_of s w q p.caller) region row.row in
        let fits : p.place < places s.callers M =
        subst (λ (q : Region). p.place < places s.callers q) region row.place in
        let word : p.word ≡ row_word s w M p.caller p.row p.place =
        subst (λ (q : Region). p.word ≡ row_word s w q p.caller p.row p.place) region row.word in
        let is : p.word ≡ word_of (local_of w p.caller) p.row (View_entry j) =
        word ∙ word_is M p.caller p.row p.place row.caller below fits
        ∙ ap (λ (c : Content). word_of (local_of w p.caller) p.row c) part in
        let bound : p.word ≤ count_of s w N j =
        view_low p.caller p.row j p.word row.caller below caller is in
        let there : N ≡ r = sym (same_region_is r N both.0) in (
          caller,
          subst (λ (q : Region). k < count_of s w q j) there
              (omega (arith, bound, ltb-true k p.word b.1)),
        )

    pub known_counted : knows_row s.callers l r j k ≡ true → IsRow s w r j k
    known_counted e = elim (cases_Bool (list_any (λ (look : Looked). is_same_region look.region r
        && (look.caller == j && nat_lt k look.count)) l.looked)) [
          | inl look ↦ by_look look
          | inr no_look ↦
              let rest = sym (ap (λ (b : Bool). b || (list_any (λ (given : Given).
              is_same_region given.region r && nat_lt k (slice_index given.cut j)) l.cuts
              || (is_same_region r N && list_any (λ (p : Peeked). is_same_region p.region M
              && (is_view_entry (content s.callers M p.place) j && nat_lt k p.word)) l.peeked)))
              no_look) ∙ e in
              elim (cases_Bool (list_any (λ (given : Given). is_same_region given.region r
              && nat_lt k (slice_index given.cut j)) l.cuts)) [
                | inl cut ↦ by_cut cut
                | inr no_cut ↦
                    by_view (sym (ap (λ (b : Bool). b || (is_same_region r N
                    && list_any (λ (p : Peeked). is_same_region p.region M && (is_view_entry
                    (content s.callers M p.place) j && nat_lt k p.word)) l.peeked)) no_cut) ∙ rest)
              ]
        ]

-- where a cut to embed has an entry it exists, so it is low
entry_there : (s : Shape) (w : World) (r : Region) (kept : Option (List ℕ)) (j x : ℕ)
    → is_entry_to_embed kept j x ≡ true → IsLowKept s w r kept → IsLowCut s w r (unwrap_or kept [])
entry_there s w r None j x e h = absurd cc
entry_there s w r (Some cut) j x e h = h

-- The step's own caller stays low.
module _ (s : Shape) (w : World) (kept : Kept s w) (all : AllLow s w) (me : ℕ)
    (low : me < s.callers) where
  abbrev mine : Local
  mine = local_of w me

  was : Low s w mine
  was = all me low

  agrees : Agrees s w.words me mine
  agrees = kept.agree me low

  some : 0 < s.callers
  some = omega (arith, low)

  -- where a look begins the view's scan, no cut to embed is kept
  pub none_asked : (q : Region) (j : ℕ) (o : Opening) → may_begin s me mine q j o ≡ true → (r : ℕ)
      → o ≡ Begins_view r → mine.to_embed ≡ None
  none_asked q j Begins_none may r is = absurd cc
  none_asked q j Begins_scan may r is = absurd cc
  none_asked N j (Begins_view reply) may r is =
      let asks = and_parts (is_asking mine.phase) _ (and_parts (j == 0) _ may).1 in
      let none : mine.to_embed ≡ None = subst (λ (f : Phase). IsKeptIn f mine.to_embed)
      (asking_is mine.phase asks.0) agrees.kept_in in none
  none_asked M j (Begins_view reply) may r is = let never : false ≡ true =
      (and_parts (j == 0) false may).1 in absurd cc

  pub keeps_open : (q : Region) (j : ℕ) (o : Opening) → may_begin s me mine q j o ≡ true
      → IsKeptIn (opened mine q o).phase (opened mine q o).to_embed
  keeps_open q j Begins_none may = agrees.kept_in
  keeps_open q j Begins_scan may = agrees.kept_in
  keeps_open q j (Begins_view reply) may = none_asked q j (Begins_view reply) may reply refl

  look_low : (q : Region) (j x : ℕ) (o : Opening) → IsTrue (is_enabled s me mine (Look q j x o))
      → IsTrue (is_loaded s w.words (Look q j x o))
      → Low s w (local_after s.callers mine (Look q j x o))
  look_low q j x o may loaded =
      let parts = and_parts (nat_lt j s.callers) (may_begin s me mine q j o) may in
      let found : x ≡ count_of s w q j = eqb-true x (count_of s w q j) loaded in
      let caller : j < s.callers = ltb-true j s.callers parts.0 in
      let opens : Low s w (opened mine q o) =
      opened_low s w some mine q o (none_asked q j o parts.1) was in
      let look : Looked = record { region = q; caller = j; count = x } in
      let saw : Low s w (with_look (opened mine q o) look) =
      record {
        looked = (record { caller = caller; count = omega (arith, found) }, opens.looked);
        cuts = opens.cuts;
        views = opens.views;
        seen = opens.seen;
        embedded = λ r. opens.embedded r;
        to_embed = λ r staging. opens.to_embed r staging;
        scan = opens.scan;
        peeked = opens.peeked;
      } in
      fed_low s w some (with_look (opened mine q o) look) (opened mine q o).scan q
      (is_look_wanted j) x saw (keeps_open q j o parts.1) opens.scan
      (λ taken wants.
      let there : j ≡ length (open_round s.callers taken) =
      (look_is (course s.callers taken) (open_round s.callers taken) j wants).1 in
      let same : count_of s w q j ≡ count_of s w q (length (open_round s.callers taken)) =
      ap (count_of s w q) there in
      omega (arith, found, same))

  peek_low : (q : Region) (j k t x : ℕ) → IsTrue (is_enabled s me mine (Peek q j k t x))
      → IsTrue (is_loaded s w.words (Peek q j k t x))
      → Low s w (local_after s.callers mine (Peek q j k t x))
  peek_low q j k t x may loaded =
      let parts = and_parts (nat_lt j s.callers)
      (nat_lt t (places s.callers q) && knows_row s.callers mine q j k) may in
      let more =
      and_parts (nat_lt t (places s.callers q)) (knows_row s.callers mine q j k) parts.1 in
      let found : x ≡ row_word s w q j k t = eqb-true x (row_word s w q j k t) loaded in
      let row = known_counted s w kept all mine was q j k more.1 in
      let peek : Peeked = record { region = q; caller = j; row = k; place = t; word = x } in
      let here : IsCounted s w peek = record {
        caller = row.0;
        row = row.1;
        place = ltb-true t (places s.callers q) more.0;
        word = found;
      } in
      let saw : Low s w (with_peek mine peek) =
      record {
        looked = was.looked;
        cuts = was.cuts;
        views = was.views;
        seen = was.seen;
        embedded = λ r. was.embedded r;
        to_embed = λ r staging. was.to_embed r staging;
        scan = was.scan;
        peeked = (here, was.peeked);
      } in
      fed_low s w some (with_peek mine peek) mine.scan q
      (is_peek_wanted s.callers q j k t) x saw agrees.kept_in was.scan
      (λ taken wants.
      let at =
      peek_is s.callers q j k t (course s.callers taken) (open_round s.callers taken) wants in
      embedded_low s w kept all q j k (length (open_round s.callers taken)) x row.0 row.1
      (open_lacks s.callers taken 0 some)
      (found ∙ ap (λ (p : ℕ). row_word s w q j k p) at.at))

  -- a row that is staged embeds a low cut
  staged_low : (r : Region) → IsTrue (is_row_staged s.callers mine r)
      → IsLowCut s w r (cut_to_embed mine)
  staged_low r whole =
      let staging =
      (and_parts (is_staging mine.phase r) (are_staged mine.staged (places s.callers r)) whole).0 in
      let place = embedded_place s.callers r 0 in
      let here =
      row_staged s w.words me mine r whole agrees place (embedded_fits s.callers r 0 some) in
      let due : is_due mine (Embedded_entry r 0) (staged_at mine.staged place) ≡ true =
      subst (λ (part : Content). is_due mine part (staged_at mine.staged place) ≡ true)
      (content_embedded s.callers r 0) here.due in
      entry_there s w r mine.to_embed 0 (staged_at mine.staged place) due (was.to_embed r staging)

  announced_embedded : IsTrue (is_enabled s me mine Announce) → (r : Region)
      → Each (IsLowCut s w r) (embedded_in (local_after s.callers mine Announce) r)
  announced_embedded may N = each_push (IsLowCut s w N) mine.embedded_in_N (cut_to_embed mine)
      (was.embedded N) (staged_low N may)
  announced_embedded may M = was.embedded M

  published_embedded : IsTrue (is_enabled s me mine Publish) → (r : Region)
      → Each (IsLowCut s w r) (embedded_in (local_after s.callers mine Publish) r)
  published_embedded may N = was.embedded N
  published_embedded may M = each_push (IsLowCut s w M) mine.embedded_in_M (cut_to_embed mine)
      (was.embedded M) (staged_low M may)

  announce_low : IsTrue (is_enabled s me mine Announce)
      → Low s w (local_after s.callers mine Announce)
  announce_low may =
      record {
        looked = was.looked;
        cuts = was.cuts;
        views = was.views;
        seen = was.seen;
        embedded = announced_embedded may;
        to_embed = λ r staging. tt;
        scan = tt;
        peeked = was.peeked;
      }

  publish_low : IsTrue (is_enabled s me mine Publish) → Low s w (local_after s.callers mine Publish)
  publish_low may =
      record {
        looked = was.looked;
        cuts = was.cuts;
        views = was.views;
        seen = was.seen;
        embedded = published_embedded may;
        to_embed = λ r staging. tt;
        scan = tt;
        peeked = was.peeked;
      }

  -- a stage and an object step keep the caller's local low
  own_low : (e : Event) → IsTrue (is_enabled s me mine e) → IsTrue (is_loaded s w.words e)
      → Low s w (local_after s.callers mine e)
  own_low (Stage q t x) may loaded =
      record {
        looked = was.looked;
        cuts = was.cuts;
        views = was.views;
        seen = was.seen;
        embedded = λ r. was.embedded r;
        to_embed = λ r staging. was.to_embed r staging;
        scan = was.scan;
        peeked = was.peeked;
      }
  own_low (Object o) may loaded =
      record {
        looked = was.looked;
        cuts = was.cuts;
        views = was.views;
        seen = was.seen;
        embedded = λ r. was.embedded r;
        to_embed = λ r staging. was.to_embed r staging;
        scan = was.scan;
        peeked = was.peeked;
      }
  own_low Announce may loaded = announce_low may
  own_low Publish may loaded = publish_low may
  own_low (Look q j x o) may loaded = look_low q j x o may loaded
  own_low (Peek q j k t x) may loaded = peek_low q j k t x may loaded

-- A step leads to a later world.
pub step_later : (s : Shape) (w : World) (step : Step) → Kept s w → IsTrue (is_possible s w step)
    → Later s w (after s w step)
step_later s w step kept may =
    record {
      grows = λ r j low. step_grows s w step kept may r j low;
      stays = λ r j k place low below fits. step_stays s w step kept may r j k place low below fits;
    }

pub step_low : (s : Shape) (w : World) (step : Step) → Kept s w → AllLow s w
    → IsTrue (is_possible s w step) → AllLow s (after s w step)
step_low s w step kept all may i low =
    let p = possible s w step may in
    let on = step_later s w step kept may in
    elim (cases_eq i step.who) [
      | inl here ↦
          subst (λ (j : ℕ). Low s (after s w step) (local_of (after s w step) j)) (sym here)
          (subst (λ (l : Local). Low s (after s w step) l)
          (sym (own_local s w step kept.locals_long p.caller))
          (low_on s w (after s w step) on (local_after s.callers (local_of w step.who) step.event)
          (own_low s w kept all step.who p.caller step.event p.allowed p.loaded)))
      | inr away ↦
          subst (λ (l : Local). Low s (after s w step) l) (sym (other_local s w step i away))
          (low_on s w (after s w step) on (local_of w i) (all i low))
    ]

-- the start is low
nothing_embedded : (s : Shape) (w : World) (r : Region)
    → Each (IsLowCut s w r) (embedded_in fresh r)
nothing_embedded s w N = tt
nothing_embedded s w M = tt

fresh_low : (s : Shape) (w : World) → Low s w fresh
fresh_low s w =
    record {
      looked = tt;
      cuts = tt;
      views = tt;
      seen = tt;
      embedded = nothing_embedded s w;
      to_embed = λ r staging. tt;
      scan = tt;
      peeked = tt;
    }

pub start_low : (s : Shape) → AllLow s (start s)
start_low s i low = subst (λ (l : Local). Low s (start s) l)
    (sym (get_or-replicate_default s.callers i fresh)) (fresh_low s (start s))

-- A world keeps its shape, and no local has a count above the world's; this holds of every
-- reachable world.
pub record Sound (s : Shape) (w : World) : Type 0 where
  pub kept : Kept s w
  pub low : AllLow s w

pub sound_after : (s : Shape) (w : World) (step : Step) → Sound s w → IsTrue (is_possible s w step)
    → Sound s (after s w step)
sound_after s w step h may =
    record { kept = step_kept s w step h.kept may; low = step_low s w step h.kept h.low may }

pub steps_sound : (s : Shape) (w : World) (steps : List Step) → Sound s w
    → IsTrue (are_possible s w steps) → Sound s (after_all s w steps)
steps_sound s w [] h may = h
steps_sound s w (step ∷ steps) h may =
    let parts = and_parts (is_possible s w step) (are_possible s (after s w step) steps) may in
    steps_sound s (after s w step) steps (sound_after s w step h parts.0) parts.1

pub start_sound : (s : Shape) → Sound s (start s)
start_sound s = record { kept = start_kept s; low = start_low s }
