-- How the notes of a caller change with the steps that change its local.
use Rattle.std.proofs.Common.{◌≡◌, ℕ, Bool, true, false, ◌&&◌, if◌then◌else◌, List, [], ◌∷◌, ◌++◌, Option, Some, None, refl, sym, ap, ◌∙◌}
use Rattle.world_core.specs.declared.region.Region.{Region}
use Rattle.world_core.specs.declared.region.Region.TheVariants.{N, M}
use Rattle.world_core.specs.declared.want.Want.{Want}
use Rattle.world_core.specs.declared.want.Want.TheVariants.{Look, Peek, Done}
use Rattle.world_core.specs.Local as local
use Rattle.world_core.specs.Local.{Local, Scan, Staged, Given}
use Rattle.world_core.specs.Event.{Purpose, For_row, For_view, For_seen, For_nothing, is_same_region, is_unstaged, purpose_of, served, given_by, went_on, with_word, fed}
use Rattle.world_core.specs.Scan.{wanted}
use Rattle.row_table.specs.declared.phase.Phase.{Phase}
use Rattle.row_table.specs.declared.phase.Phase.TheVariants.{Announcing, Publishing}
use Rattle.row_table.specs.declared.notes.ScanUnderWay.{ScanUnderWay}
use Rattle.row_table.specs.declared.notes.Notes.{Notes}
use Rattle.row_table.specs.Notes.{phase_in, under_way, scan_kept, notes_of, last_given, cut_of, phase_after, takes}

-- the phase after a cut served its purpose, by the phase before
abbrev served_phase : Phase → Purpose → Phase
served_phase phase For_row = phase
served_phase phase For_view = Publishing
served_phase phase For_seen = Announcing
served_phase phase For_nothing = phase

served_notes : (n me : ℕ) (l : Local) (p : Purpose) (cut : List ℕ) → notes_of n me (served l p cut)
    ≡ record (notes_of n me l) { phase = served_phase (phase_in l.phase) p }
served_notes n me l For_row cut = refl
served_notes n me l For_view cut = refl
served_notes n me l For_seen cut = refl
served_notes n me l For_nothing cut = refl

if_row : (b : Bool) (q : Phase) → served_phase q (if b then For_row else For_nothing) ≡ q
if_row true q = refl
if_row false q = refl

purpose_phase : (p : local.Phase) (staged : List Staged) (region : Region) (is_view : Bool)
    (since : ℕ) (taken : List ℕ)
    → served_phase (phase_in p) (purpose_of p staged
    (record { region = region; is_view = is_view; since = since; taken = taken }))
    ≡ phase_after (phase_in p) region is_view
purpose_phase local.Announcing staged region is_view since taken =
    if_row (is_same_region region N && is_unstaged staged) Announcing
purpose_phase local.Publishing staged region is_view since taken =
    if_row (is_same_region region M && is_unstaged staged) Publishing
purpose_phase local.Asking staged region is_view since taken = refl
purpose_phase local.Viewing staged N true since taken = refl
purpose_phase local.Viewing staged N false since taken = refl
purpose_phase local.Viewing staged M is_view since taken = refl
purpose_phase local.Judging staged N is_view since taken = refl
purpose_phase local.Judging staged M is_view since taken = refl

-- The last cut of a list with one more at its end is that one.
pub last_given-push : (gs : List Given) (g : Given) → last_given (gs ++ g ∷ []) ≡ Some g.cut
last_given-push [] g = refl
last_given-push (h ∷ []) g = refl
last_given-push (h ∷ k ∷ gs) g = last_given-push (k ∷ gs) g

-- Where a scan has ended, the notes have no scan under way, the phase after the scan, and its cut
-- as the last one given.
pub scan_ended : (n me : ℕ) (l : Local) (s : Scan) (w : Want) (cut : List ℕ) → cut_of w ≡ Some cut
    → notes_of n me (went_on l s w) ≡ record (notes_of n me l)
    { phase = phase_after (phase_in l.phase) s.region s.is_view; scan = None; given = Some cut }
scan_ended n me l s (Look j) cut e = absurd cc
scan_ended n me l s (Peek j row entry) cut e = absurd cc
scan_ended n me l s (Done other) cut e =
    served_notes n me _ (purpose_of l.phase l.staged s) other
    ∙ (λ i. record (notes_of n me l) {
      phase = purpose_phase l.phase l.staged s.region s.is_view s.since s.taken i;
      scan = None;
      given = (last_given-push l.cuts (given_by s other) ∙ e) i;
    })

-- Where a scan hasn't ended, the notes have it as the one under way, and are as before besides.
pub scan_goes : (n me : ℕ) (l : Local) (s : Scan) (w : Want) → cut_of w ≡ None
    → notes_of n me (went_on l s w) ≡ record (notes_of n me l) { scan = Some (under_way n me s) }
scan_goes n me l s (Look j) e = refl
scan_goes n me l s (Peek j row entry) e = refl
scan_goes n me l s (Done cut) e = absurd cc

-- A scan is under way, and feeding this word to it adds the word to those that it took.
pub record Fed (n : ℕ) (l : Local) (o : Option Scan) (region : Region) (is_it : Want → Bool)
    (x : ℕ) : Type 0 where
  pub scan : Scan
  pub there : o ≡ Some scan
  pub on : fed n l o region is_it x
      ≡ went_on l (with_word scan x) (wanted n (with_word scan x).taken)

-- Where a scan of the region is under way and what is due next in it passes the test, it takes the
-- word.
pub fed_taken : (n : ℕ) (l : Local) (o : Option Scan) (region : Region) (is_it : Want → Bool)
    (x : ℕ) → takes n o region is_it ≡ true → Fed n l o region is_it x
fed_taken n l None region is_it x e = absurd cc
fed_taken n l (Some s) region is_it x e =
    record {
      scan = s;
      there = refl;
      on = ap (λ (b : Bool). if b
          then went_on l (with_word s x) (wanted n (with_word s x).taken) else l) e;
    }

-- Where no scan of the region is under way in which what is due next passes the test, a word
-- doesn't change the local.
pub fed_left : (n : ℕ) (l : Local) (o : Option Scan) (region : Region) (is_it : Want → Bool) (x : ℕ)
    → takes n o region is_it ≡ false → fed n l o region is_it x ≡ l
fed_left n l None region is_it x e = refl
fed_left n l (Some s) region is_it x e =
    ap (λ (b : Bool). if b then went_on l (with_word s x) (wanted n (with_word s x).taken) else l) e

-- A scan is under way, and what is kept is kept of it.
pub record KeptScan (n me : ℕ) (o : Option Scan) (u : ScanUnderWay) : Type 0 where
  pub scan : Scan
  pub there : o ≡ Some scan
  pub is : u ≡ under_way n me scan

pub kept_scan : (n me : ℕ) (o : Option Scan) (u : ScanUnderWay) → Some u ≡ scan_kept n me o
    → KeptScan n me o u
kept_scan n me None u e = absurd cc
kept_scan n me (Some s) u e = record { scan = s; there = refl; is = cc }

-- Where `b` says of each scan of which this is kept whether what is due next in it passes the test,
-- in this region, `b` says so of the scan under way.
pub takes_kept : (n me : ℕ) (o : Option Scan) (u : ScanUnderWay) (region : Region)
    (is_it : Want → Bool) (b : Bool) → Some u ≡ scan_kept n me o
    → ((s : Scan) → u ≡ under_way n me s
    → b ≡ (is_same_region s.region region && is_it (wanted n s.taken))) → b ≡ takes n o region is_it
takes_kept n me None u region is_it b e h = absurd cc
takes_kept n me (Some s) u region is_it b e h = h s cc

-- Where the scan under way has ended with a word, the notes with the phase after the scan, no scan
-- and its cut are those of the local after this word.
pub notes_ended : (n me : ℕ) (k : Notes) (u : ScanUnderWay) (l : Local) (s : Scan) (x : ℕ)
    (cut : List ℕ) → k ≡ notes_of n me l → u ≡ under_way n me (with_word s x)
    → cut_of (wanted n (with_word s x).taken) ≡ Some cut
    → ◌≡◌ {A = Notes} (record k {
      phase = phase_after k.phase u.core.region u.is_view;
      scan = None;
      given = Some cut;
    })
    (notes_of n me (went_on l (with_word s x) (wanted n (with_word s x).taken)))
notes_ended n me k u l s x cut is it done =
    (λ i. record (is i) {
      phase = phase_after (ap (λ (k : Notes). k.phase) is i)
          (ap (λ (u : ScanUnderWay). u.core.region) it i)
          (ap (λ (u : ScanUnderWay). u.is_view) it i);
      scan = None;
      given = Some cut;
    })
    ∙ sym (scan_ended n me l (with_word s x) (wanted n (with_word s x).taken) cut done)

-- Where the scan under way hasn't ended with a word, the notes with the scan after this word are
-- those of the local after it.
pub notes_go : (n me : ℕ) (k : Notes) (u : ScanUnderWay) (l : Local) (s : Scan) (x : ℕ)
    → k ≡ notes_of n me l → u ≡ under_way n me (with_word s x)
    → cut_of (wanted n (with_word s x).taken) ≡ None
    → ◌≡◌ {A = Notes} (record k { scan = Some u })
    (notes_of n me (went_on l (with_word s x) (wanted n (with_word s x).taken)))
notes_go n me k u l s x is it goes =
    (λ i. record (is i) { scan = Some (it i) })
    ∙ sym (scan_goes n me l (with_word s x) (wanted n (with_word s x).taken) goes)

-- What is kept of a scan under way is kept of the scan that the local has.
pub same_scan : (n me : ℕ) (o : Option Scan) (u : ScanUnderWay) (s : Scan)
    → Some u ≡ scan_kept n me o → o ≡ Some s → u ≡ under_way n me s
same_scan n me None u s e there = absurd cc
same_scan n me (Some t) u s e there = let same : t ≡ s = cc in
    let kept : u ≡ under_way n me t = cc in kept ∙ ap (under_way n me) same
