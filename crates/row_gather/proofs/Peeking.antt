-- What peeks change in a caller's local, and which rows the caller knows after them.
use Rattle.std.proofs.Common.{◌≡◌, ℕ, ◌+◌, ◌<◌, Bool, true, false, ◌&&◌, ◌||◌, ◌==◌, nat_lt, List, [], ◌∷◌, ◌++◌, Option, None, slice_index, refl, sym, ap, ◌∙◌, subst, arith, IsTrue, eq-eqb}
use Rattle.std.specs.Prelude.{Contains}
use Rattle.std.specs.List.{list_any}
use Rattle.std.proofs.lemmas.Bool.{lt-ltb}
use Rattle.std.proofs.lemmas.List.{append_assoc, length-append}
use Rattle.std.proofs.lemmas.List.Elements.{Contains-append_right}
use Rattle.std.proofs.lemmas.List.Folds.{list_any-append, list_any_at}
use Rattle.std.proofs.lemmas.Option.{slice_get_within, get_or_from_slice_get}
use Rattle.book_base.specs.declared.call.Call.{Call}
use Rattle.world_core.specs.declared.region.Region.{Region}
use Rattle.world_core.specs.declared.region.Region.TheVariants.{N, M}
use Rattle.world_core.specs.Layout.{View_entry, content}
use Rattle.world_core.specs.Shape.{Meaning}
use Rattle.world_core.specs.Local.{Local, Scan, Given, Looked, Peeked}
use Rattle.world_core.specs.Event.{Peek, is_same_region, is_view_entry, is_peek_wanted, with_peek, fed, knows_row, local_after}
use Rattle.world_core.specs.Calls.{HasPeeked}
use Rattle.world_laws.specs.Given.{IsGivenIn}
use Rattle.world_laws.specs.Gathering.{HasPeekedAll}
use Rattle.world_laws.proofs.Gathered.{view_place}
use Rattle.row_table.specs.declared.caller.Caller.{Caller}
use Rattle.row_table.specs.declared.rows.Rows.{Rows}
use Rattle.row_table.specs.Callers.{IsStill, HasDone, local_with, stance_of}
use Rattle.row_gather.specs.Peeks.{with_peeked, HasOnlyPeeked, IsReady, PeeksAlone}

-- A peek of a local without a scan under way adds the word that it found to the peeked words, and
-- changes nothing else.
pub peeked_word : (n : ℕ) (l : Local) (r : Region) (j k place x : ℕ) → l.scan ≡ None
    → local_after n l (Peek r j k place x)
    ≡ with_peeked l (record { region = r; caller = j; row = k; place = place; word = x } ∷ [])
peeked_word n l r j k place x none =
    let saw : Local =
    with_peek l (record { region = r; caller = j; row = k; place = place; word = x }) in
    ap (λ (scan : Option Scan). fed n saw scan r (is_peek_wanted n r j k place) x) none

-- Where a local became a second one by peeks alone, and that one a third by peeks alone, the first
-- became the third by peeks alone.
pub only_peeked_then : (l m o : Local) (a b c : ℕ) → HasOnlyPeeked l m a b → HasOnlyPeeked m o b c
    → HasOnlyPeeked l o a c
only_peeked_then l m o a b c one two =
    let first : o ≡ with_peeked (with_peeked l one.more) two.more =
    two.local ∙ ap (λ (x : Local). with_peeked x two.more) one.local in
    let joined : with_peeked (with_peeked l one.more) two.more
    ≡ with_peeked l (two.more ++ one.more)
    = ap (λ (ps : List Peeked). record l { peeked = ps })
    (sym (append_assoc two.more one.more l.peeked)) in
    record {
      more = two.more ++ one.more;
      local = first ∙ joined;
      ticks = omega (arith, one.ticks, two.ticks, length-append two.more one.more);
    }

-- Each word that a local has peeked is peeked after further peeks too.
pub all_stay : (l m : Local) (a b : ℕ) → HasOnlyPeeked l m a b → HasPeekedAll l m
all_stay l m a b h p there =
    subst (λ (x : Local). Contains x.peeked p) (sym h.local)
    (Contains-append_right h.more l.peeked p there)

pub all_stay_none : (l : Local) → HasPeekedAll l l
all_stay_none l p there = there

-- A disjunction of three that holds still holds when its last part gets one more alternative.
widened : (a b c d e : Bool) → (a || (b || (c && e))) ≡ true → (a || (b || (c && (d || e)))) ≡ true
widened true b c d e h = refl
widened false true c d e h = refl
widened false false false d e h = h
widened false false true true e h = refl
widened false false true false e h = h

knows_with : (n : ℕ) (l : Local) (more : List Peeked) (r : Region) (j k : ℕ)
    → knows_row n l r j k ≡ true → knows_row n (with_peeked l more) r j k ≡ true
knows_with n l more r j k h =
    let looked : Bool = list_any
    (λ (look : Looked). is_same_region look.region r && (look.caller == j && nat_lt k look.count))
    l.looked in
    let given : Bool =
    list_any (λ (g : Given). is_same_region g.region r && nat_lt k (slice_index g.cut j)) l.cuts in
    let test : Peeked → Bool =
    λ p. is_same_region p.region M && (is_view_entry (content n M p.place) j && nat_lt k p.word) in
    subst (λ (b : Bool). (looked || (given || (is_same_region r N && b))) ≡ true)
    (sym (list_any-append test more l.peeked))
    (widened looked given (is_same_region r N) (list_any test more) (list_any test l.peeked) h)

-- A row that a caller knows by its local it knows after further peeks too.
pub knows_still : (n : ℕ) (l m : Local) (a b : ℕ) (r : Region) (j k : ℕ) → HasOnlyPeeked l m a b
    → IsTrue (knows_row n l r j k) → IsTrue (knows_row n m r j k)
knows_still n l m a b r j k h knows =
    subst (λ (x : Local). knows_row n x r j k ≡ true) (sym h.local)
    (knows_with n l h.more r j k knows)

-- A disjunction of three holds where its second part does.
second_true : (a b c : Bool) → b ≡ true → (a || (b || c)) ≡ true
second_true true b c h = refl
second_true false true c h = refl
second_true false false c h = cc

third_true : (a b c : Bool) → c ≡ true → (a || (b || c)) ≡ true
third_true true b c h = refl
third_true false true c h = refl
third_true false false c h = h

-- A caller that a scan of M gave a cut knows row k of caller j in M where k is below the cut's
-- entry for j.
pub knows_given : (n : ℕ) (l : Local) (cut : List ℕ) (j k : ℕ) → IsGivenIn l.cuts M cut
    → k < slice_index cut j → IsTrue (knows_row n l M j k)
knows_given n l cut j k given low =
    let it : Given = record { region = M; cut = cut; since = given.since } in
    let test : Given → Bool = λ g. is_same_region g.region M && nat_lt k (slice_index g.cut j) in
    let passes : test it ≡ true = lt-ltb k (slice_index cut j) low in
    let found : list_any test l.cuts ≡ true
    = list_any_at test l.cuts given.place it (slice_get_within l.cuts given.place it given.is)
    (ap test (get_or_from_slice_get l.cuts given.place it it given.is) ∙ passes) in
    second_true (list_any (λ (look : Looked). is_same_region look.region M
    && (look.caller == j && nat_lt k look.count)) l.looked) (list_any test l.cuts) _ found

-- The test whether a peeked word is a view's entry for caller j above k passes for a word above k
-- at the place of such an entry.
viewed : (n j k place x : ℕ) → content n M place ≡ View_entry j → k < x
    → (is_view_entry (content n M place) j && nat_lt k x) ≡ true
viewed n j k place x at low =
    let here : is_view_entry (content n M place) j ≡ true =
    ap (λ c. is_view_entry c j) at ∙ eq-eqb j j refl in
    ap (λ (b : Bool). b && nat_lt k x) here ∙ lt-ltb k x low

-- A caller that has peeked the entry for caller j of a view knows row k of caller j in N where k is
-- below this entry.
pub knows_viewed : (n : ℕ) (l : Local) (call : Call) (j k x : ℕ) → j < n
    → HasPeeked l M call (1 + j) x → k < x → IsTrue (knows_row n l N j k)
knows_viewed n l call j k x low (at, inside, is) below =
    let it : Peeked =
    record { region = M; caller = call.caller; row = call.number; place = 1 + j; word = x } in
    let test : Peeked → Bool =
    λ p. is_same_region p.region M && (is_view_entry (content n M p.place) j && nat_lt k p.word) in
    let passes : test it ≡ true = viewed n j k (1 + j) x (view_place n j low) below in
    let found : list_any test l.peeked ≡ true =
    list_any_at test l.peeked at it inside (ap test is ∙ passes) in
    third_true (list_any (λ (look : Looked). is_same_region look.region N
    && (look.caller == j && nat_lt k look.count)) l.looked)
    (list_any (λ (g : Given). is_same_region g.region N && nat_lt k (slice_index g.cut j)) l.cuts)
    (list_any test l.peeked) found

module _ {P : Type 0} (meaning : P → ℕ → ℕ → Meaning) (r : Rows P) where
  pub alone_none : (c : Caller P) (a : ℕ) → IsReady meaning r c → PeeksAlone meaning r c c a a
  alone_none c a ready =
      record {
        still = (ready.caller, refl);
        stance = refl;
        peeks = record { more = []; local = refl; ticks = omega arith };
      }

  -- Where a caller became a second one by peeks alone, and that one a third by peeks alone, the
  -- first became the third by peeks alone.
  pub alone_then : (c d e : Caller P) (t u v : ℕ) → PeeksAlone meaning r c d t u
      → PeeksAlone meaning r d e u v → PeeksAlone meaning r c e t v
  alone_then c d e t u v one two =
      record {
        still = (two.still.0, two.still.1 ∙ one.still.1);
        stance = two.stance ∙ one.stance;
        peeks =
            only_peeked_then (local_with c) (local_with d) (local_with e) t u v one.peeks two.peeks;
      }

  -- A caller without a scan under way that has made one peek has made peeks alone, one of them.
  pub alone_one : (c d : Caller P) (t u : ℕ) (region : Region) (j k place x : ℕ)
      → IsReady meaning r c → IsStill meaning r c d → HasDone r c d (Peek region j k place x)
      → stance_of d ≡ stance_of c → u ≡ t + 1 → PeeksAlone meaning r c d t u
  alone_one c d t u region j k place x ready still done stance tick =
      record {
        still = still;
        stance = stance;
        peeks = record {
          more = record { region = region; caller = j; row = k; place = place; word = x } ∷ [];
          local = done ∙ peeked_word r.callers (local_with c) region j k place x ready.unscanned;
          ticks = tick;
        };
      }

  -- A caller without a scan under way that makes a peek has then peeked the word which it found.
  pub has_peeked : (c d : Caller P) (region : Region) (call : Call) (place x : ℕ)
      → IsReady meaning r c → HasDone r c d (Peek region call.caller call.number place x)
      → HasPeeked (local_with d) region call place x
  has_peeked c d region call place x ready done =
      let it : Peeked = record {
        region = region;
        caller = call.caller;
        row = call.number;
        place = place;
        word = x;
      } in
      let here : Contains (with_peeked (local_with c) (it ∷ [])).peeked it =
      (0, omega arith, refl) in
      subst (λ (l : Local). Contains l.peeked it) (sym (done ∙ peeked_word r.callers
      (local_with c) region call.caller call.number place x ready.unscanned)) here

  -- A caller of these rows without a scan under way is still one of these rows without a scan under
  -- way after peeks alone.
  pub ready_still : (c d : Caller P) (t u : ℕ) → PeeksAlone meaning r c d t u → IsReady meaning r c
      → IsReady meaning r d
  ready_still c d t u alone ready =
      record {
        caller = alone.still.0;
        unscanned = ap (λ (l : Local). l.scan) alone.peeks.local ∙ ready.unscanned;
      }
