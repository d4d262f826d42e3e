-- The work of a caller's calls: peeks, and looks that don't begin the view's scan, don't change it.
-- And no event of a caller takes a peek out of its local.
use Rattle.std.proofs.Common.{◌≡◌, ℕ, Bool, true, false, ◌&&◌, if◌then◌else◌, List, [], ◌∷◌, ◌++◌, Option, Some, None, suc, refl, sym, ◌∙◌, subst, arith}
use Rattle.std.specs.Prelude.{Contains}
use Rattle.world_core.specs.declared.region.Region.{Region}
use Rattle.world_core.specs.declared.want.Want.{Want}
use Rattle.world_core.specs.declared.want.Want.TheVariants.{Look, Peek, Done}
use Rattle.world_core.specs.Local.{Local, Scan, Peeked}
use Rattle.world_core.specs.Event.{Purpose, For_row, For_view, For_seen, For_nothing, is_same_region, served, given_by, purpose_of, went_on, with_word, fed, Opening, Begins_none, Begins_scan, Begins_view, opened, looked_at, with_look, with_peek, is_look_wanted, is_peek_wanted}
use Rattle.world_core.specs.Event as event
use Rattle.world_core.specs.Scan.{wanted}
use Rattle.row_table.specs.Progress.{work_of, LooksLeaveWork, PeeksLeaveWork, PeekedWordsStay}

served_work : (l : Local) (p : Purpose) (cut : List ℕ) → work_of (served l p cut) ≡ work_of l
served_work l For_row cut = refl
served_work l For_view cut = refl
served_work l For_seen cut = refl
served_work l For_nothing cut = refl

went_work : (l : Local) (s : Scan) (w : Want) → work_of (went_on l s w) ≡ work_of l
went_work l s (Look j) = refl
went_work l s (Peek j row entry) = refl
went_work l s (Done cut) = served_work _ (purpose_of l.phase l.staged s) cut

if_work : (b : Bool) (m l : Local) → work_of m ≡ work_of l
    → work_of (if b then m else l) ≡ work_of l
if_work true m l e = e
if_work false m l e = refl

fed_work : (n : ℕ) (l : Local) (o : Option Scan) (region : Region) (is_it : Want → Bool) (x : ℕ)
    → work_of (fed n l o region is_it x) ≡ work_of l
fed_work n l None region is_it x = refl
fed_work n l (Some s) region is_it x =
    if_work (is_same_region s.region region && is_it (wanted n s.taken))
    (went_on l (with_word s x) (wanted n (with_word s x).taken)) l
    (went_work l (with_word s x) (wanted n (with_word s x).taken))

looked_work : (n : ℕ) (l : Local) (region : Region) (j x : ℕ)
    → work_of (looked_at n l region j x) ≡ work_of l
looked_work n l region j x =
    let saw : Local = with_look l (record { region = region; caller = j; count = x }) in
    fed_work n saw l.scan region (is_look_wanted j) x

-- A look that doesn't begin the view's scan doesn't change the work of its caller.
pub looks_leave_work : LooksLeaveWork
looks_leave_work n l region j x =
    (looked_work n l region j x, looked_work n (opened l region Begins_scan) region j x)

-- A peek doesn't change the work of its caller.
pub peeks_leave_work : PeeksLeaveWork
peeks_leave_work n l region j row place x =
    let saw : Local =
    with_peek l (record { region = region; caller = j; row = row; place = place; word = x }) in
    fed_work n saw l.scan region (is_peek_wanted n region j row place) x

-- a local has the peeks that it had after each part of an event that isn't a peek itself
served_peeked : (l : Local) (p : Purpose) (cut : List ℕ) → (served l p cut).peeked ≡ l.peeked
served_peeked l For_row cut = refl
served_peeked l For_view cut = refl
served_peeked l For_seen cut = refl
served_peeked l For_nothing cut = refl

went_peeked : (l : Local) (s : Scan) (w : Want) → (went_on l s w).peeked ≡ l.peeked
went_peeked l s (Look j) = refl
went_peeked l s (Peek j row entry) = refl
went_peeked l s (Done cut) =
    served_peeked (record l { scan = None; cuts = l.cuts ++ given_by s cut ∷ [] })
    (purpose_of l.phase l.staged s) cut

if_peeked : (b : Bool) (m l : Local) → m.peeked ≡ l.peeked → (if b then m else l).peeked ≡ l.peeked
if_peeked true m l e = e
if_peeked false m l e = refl

fed_peeked : (n : ℕ) (l : Local) (o : Option Scan) (region : Region) (is_it : Want → Bool) (x : ℕ)
    → (fed n l o region is_it x).peeked ≡ l.peeked
fed_peeked n l None region is_it x = refl
fed_peeked n l (Some s) region is_it x =
    if_peeked (is_same_region s.region region && is_it (wanted n s.taken))
    (went_on l (with_word s x) (wanted n (with_word s x).taken)) l
    (went_peeked l (with_word s x) (wanted n (with_word s x).taken))

opened_peeked : (l : Local) (region : Region) (o : Opening) → (opened l region o).peeked ≡ l.peeked
opened_peeked l region Begins_none = refl
opened_peeked l region Begins_scan = refl
opened_peeked l region (Begins_view reply) = refl

-- Each peek in a caller's local is still in it after any event of this caller.
pub peeked_words_stay : PeekedWordsStay
peeked_words_stay n l (event.Stage region place x) p h = h
peeked_words_stay n l event.Announce p h = h
peeked_words_stay n l event.Publish p h = h
peeked_words_stay n l (event.Object step) p h = h
peeked_words_stay n l (event.Look region j x o) p h =
    let l1 : Local = opened l region o in
    let saw : Local = with_look l1 (record { region = region; caller = j; count = x }) in
    subst (λ (ps : List Peeked). Contains ps p)
    (sym (fed_peeked n saw l1.scan region (is_look_wanted j) x ∙ opened_peeked l region o)) h
peeked_words_stay n l (event.Peek region j row place x) p (k, below, is) =
    let saw : Local =
    with_peek l (record { region = region; caller = j; row = row; place = place; word = x }) in
    subst (λ (ps : List Peeked). Contains ps p)
    (sym (fed_peeked n saw l.scan region (is_peek_wanted n region j row place) x))
    (suc k, omega arith, is)
