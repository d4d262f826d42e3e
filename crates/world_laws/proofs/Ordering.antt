-- The cuts of one caller, in the order in which its scans gave them.
use Rattle.std.proofs.Common.{◌≡◌, ◌⊎◌, ℕ, zero, suc, ◌+◌, ◌<◌, ◌≤◌, Bool, ◌&&◌, List, [], ◌∷◌, ◌++◌, length, Option, Some, None, slice_get, slice_index, refl, sym, ap, ◌∙◌, subst, arith, IsTrue, inl, inr, length-append}
use Rattle.std.proofs.lemmas.List.{get_or_past}
use Rattle.std.proofs.lemmas.Option.{slice_get_within}
use Rattle.std.proofs.lemmas.Bool.{and_parts, cases_eq, cases_lt, cond_both}
use Rattle.list_laws.proofs.Places.{get_or-replicate_default, slice_get-push_cases}
use Rattle.book_base.specs.Cut.{IsWithin}
use Rattle.world_core.specs.declared.region.Region.{Region}
use Rattle.world_core.specs.declared.want.Want.{Want}
use Rattle.world_core.specs.declared.want.Want.TheVariants.{Look as Wants_look, Peek as Wants_peek, Done}
use Rattle.world_core.specs.Shape.{Shape}
use Rattle.world_core.specs.Local.{Scan, Given, Looked, Local, fresh}
use Rattle.world_core.specs.Scan.{wanted}
use Rattle.world_core.specs.Event.{Event, Stage, Announce, Object, Look, Peek, Publish, Opening, Begins_none, Begins_scan, Begins_view, local_after, opened, fed, went_on, given_by, with_word, with_look, with_peek, purpose_of, is_same_region, is_look_wanted, is_peek_wanted}
use Rattle.world_core.specs.World.{World, Step, start, local_of, count_of, after, is_possible, after_all, are_possible}
use Rattle.world_core.specs.Calls.{AreTogether, local_at}
use Rattle.world_laws.specs.Cuts.{CutsRise, CutsHoldLooked, CutsHaveSince}
use Rattle.world_laws.proofs.Each.{each_get}
use Rattle.world_laws.proofs.Low.{IsLowCut, IsLowGiven}
use Rattle.world_laws.proofs.Knowing.{Sound, sound_after, start_sound}
use Rattle.world_laws.proofs.Running.{possible, own_local, other_local}
use Rattle.world_laws.proofs.Begun.{IsBegun, Gave, AfterStep, step_outcome, served_looked}

-- A later cut of a region contains the earlier ones, and each count that was looked at before its
-- scan began.
pub record Ordered (l : Local) : Type 0 where
  pub rise : (p q : ℕ) (a b : Given) → p < q → slice_get l.cuts p ≡ Some a
      → slice_get l.cuts q ≡ Some b → a.region ≡ b.region → IsWithin a.cut b.cut
  pub looked : (p q : ℕ) (look : Looked) (given : Given) → slice_get l.looked p ≡ Some look
      → slice_get l.cuts q ≡ Some given
      → length l.looked ≤ p + given.since → look.region ≡ given.region
      → look.count ≤ slice_index given.cut look.caller
  pub few : (q : ℕ) (given : Given) → slice_get l.cuts q ≡ Some given
      → given.since ≤ length l.looked

-- The looks of the local m are those of l, with any further ones listed before them.
abbrev pub LooksGrow : Local → Local → Type 0
LooksGrow l m = (more : List Looked) × (m.looked ≡ more ++ l.looked)

went_on_looked : (l : Local) (scan : Scan) (want : Want) → (went_on l scan want).looked ≡ l.looked
went_on_looked l scan (Done cut) =
    served_looked (record l { scan = None; cuts = l.cuts ++ given_by scan cut ∷ [] })
    (purpose_of l.phase l.staged scan) cut
went_on_looked l scan (Wants_look j) = refl
went_on_looked l scan (Wants_peek j k e) = refl

fed_looked : (n : ℕ) (l : Local) (o : Option Scan) (q : Region) (is_it : Want → Bool) (x : ℕ)
    → (fed n l o q is_it x).looked ≡ l.looked
fed_looked n l None q is_it x = refl
fed_looked n l (Some scan) q is_it x =
    cond_both (is_same_region scan.region q && is_it (wanted n scan.taken))
    (went_on l (with_word scan x) (wanted n (with_word scan x).taken)) l
    (λ (m : Local). m.looked ≡ l.looked)
    (λ _. went_on_looked l (with_word scan x) (wanted n (with_word scan x).taken)) (λ _. refl)

opened_looked : (l : Local) (q : Region) (o : Opening) → (opened l q o).looked ≡ l.looked
opened_looked l q Begins_none = refl
opened_looked l q Begins_scan = refl
opened_looked l q (Begins_view reply) = refl

looks_grow : (n : ℕ) (l : Local) (e : Event) → LooksGrow l (local_after n l e)
looks_grow n l (Stage q t x) = ([], refl)
looks_grow n l Announce = ([], refl)
looks_grow n l (Object o) = ([], refl)
looks_grow n l Publish = ([], refl)
looks_grow n l (Peek q j k t x) = (
  [],
  fed_looked n (with_peek l (record { region = q; caller = j; row = k; place = t; word = x }))
      l.scan q (is_peek_wanted n q j k t) x,
)
looks_grow n l (Look q j x o) =
    let look : Looked = record { region = q; caller = j; count = x } in (
      look ∷ [],
      fed_looked n (with_look (opened l q o) look) (opened l q o).scan q (is_look_wanted j) x
          ∙ ap (λ (xs : List Looked). look ∷ xs) (opened_looked l q o),
    )

step_looks : (s : Shape) (w : World) (step : Step) (i : ℕ) → Sound s w
    → IsTrue (is_possible s w step) → LooksGrow (local_of w i) (local_of (after s w step) i)
step_looks s w step i sound may =
    let p = possible s w step may in
    elim (cases_eq i step.who) [
      | inl here ↦
          subst (λ (j : ℕ). LooksGrow (local_of w j) (local_of (after s w step) j)) (sym here)
          (subst (λ (l : Local). LooksGrow (local_of w step.who) l)
          (sym (own_local s w step sound.kept.locals_long p.caller))
          (looks_grow s.callers (local_of w step.who) step.event))
      | inr away ↦ ([], ap (λ (l : Local). l.looked) (other_local s w step i away))
    ]

-- one of the counts that were looked at first is still one of them
looked_after : (more xs : List Looked) (p since : ℕ) (look : Looked)
    → slice_get (more ++ xs) p ≡ Some look → since ≤ length xs → length (more ++ xs) ≤ p + since
    → (k : ℕ) × (slice_get xs k ≡ Some look) × (length xs ≤ k + since)
looked_after [] xs p since look is few late = (p, is, late)
looked_after (y ∷ more) xs zero since look is few late =
    absurd (omega (arith, few, late, length-append more xs))
looked_after (y ∷ more) xs (suc p) since look is few late =
    looked_after more xs p since look is few (omega (arith, late))

-- What holds of a local m that has the looks of an ordered local l and perhaps more, and the cuts
-- of l, with at most one more.
module _ (l m : Local) (h : Ordered l) (grows : LooksGrow l m) where
  longer : length l.looked ≤ length m.looked
  longer = omega (arith, length-append grows.0 l.looked, ap length grows.1)

  old_looked : (p q : ℕ) (look : Looked) (given : Given) → slice_get m.looked p ≡ Some look
      → slice_get l.cuts q ≡ Some given
      → length m.looked ≤ p + given.since → look.region ≡ given.region
      → look.count ≤ slice_index given.cut look.caller
  old_looked p q look given is there late same =
      let back = looked_after grows.0 l.looked p given.since look
      (sym (ap (λ (xs : List Looked). slice_get xs p) grows.1) ∙ is) (h.few q given there)
      (omega (arith, late, ap length grows.1)) in
      h.looked back.0 q look given back.1 there back.2 same

  same_ordered : m.cuts ≡ l.cuts → Ordered m
  same_ordered same =
      let at : (q : ℕ) (given : Given) → slice_get m.cuts q ≡ Some given → slice_get l.cuts q
      ≡ Some given = λ q given is. sym (ap (λ (gs : List Given). slice_get gs q) same) ∙ is in
      record {
        rise = λ p q a b less is is'. h.rise p q a b less (at p a is) (at q b is');
        looked = λ p q look given is there late region.
            old_looked p q look given is (at q given there) late region;
        few =
            λ q given is. let bound = h.few q given (at q given is) in omega (arith, bound, longer);
      }

  module _ (s : Shape) (w : World) (i : ℕ) (o : Option Scan) (from : World)
      (g : Gave s w i l.cuts m o from) where
    cases_given : (q : ℕ) (given : Given) → slice_get m.cuts q ≡ Some given
        → (slice_get l.cuts q ≡ Some given) ⊎ ((q ≡ length l.cuts) × (given ≡ g.given))
    cases_given q given is = slice_get-push_cases l.cuts g.given q given
        (sym (ap (λ (gs : List Given). slice_get gs q) g.cuts_are) ∙ is)

    -- a cut from before the scan is within the scan's
    before_within : (a : Given) (p : ℕ) → slice_get l.cuts p ≡ Some a → a.region ≡ g.given.region
        → IsWithin a.cut g.given.cut
    before_within a p is same j =
        let low : IsLowCut s from a.region a.cut =
        each_get (IsLowGiven s from) l.cuts p a g.prior is in
        elim (cases_lt j s.callers) [
          | inl fits ↦
              let down = low.low j fits in
              let up = g.high.high j fits in
              let region : count_of s from a.region j ≡ count_of s from g.given.region j =
              ap (λ (r : Region). count_of s from r j) same in
              omega (arith, down, up, region)
          | inr past ↦ omega (arith, get_or_past a.cut j 0 (omega (arith, past, low.wide)))
        ]

    -- a count that was looked at before the scan is within the scan's cut
    looked_within : (p : ℕ) (look : Looked) → slice_get m.looked p ≡ Some look
        → length m.looked ≤ p + g.given.since → look.region ≡ g.given.region
        → look.count ≤ slice_index g.given.cut look.caller
    looked_within p look is late same =
        let low = g.looked p look is late in
        let up = g.high.high look.caller low.caller in
        let region : count_of s from look.region look.caller
        ≡ count_of s from g.given.region look.caller =
        ap (λ (r : Region). count_of s from r look.caller) same in
        omega (arith, low.count, up, region)

    rises : (p q : ℕ) (a b : Given) → p < q → slice_get m.cuts p ≡ Some a
        → slice_get m.cuts q ≡ Some b → a.region ≡ b.region → IsWithin a.cut b.cut
    rises p q a b less is is' same = elim (cases_given q b is') [
      | inl old' ↦ elim (cases_given p a is) [
        | inl old ↦ h.rise p q a b less old old' same
        | inr new ↦ absurd (omega (arith, less, new.0, slice_get_within l.cuts q b old'))
      ]
      | inr new' ↦ elim (cases_given p a is) [
        | inl old ↦ subst (λ (c : Given). a.region ≡ c.region → IsWithin a.cut c.cut) (sym new'.1)
            (before_within a p old) same
        | inr new ↦ absurd (omega (arith, less, new.0, new'.0))
      ]
    ]

    more_ordered : Ordered m
    more_ordered =
        record {
          rise = rises;
          looked = λ p q look given is there late region. elim (cases_given q given there) [
            | inl old ↦ old_looked p q look given is old late region
            | inr new ↦
                subst (λ (c : Given). length m.looked ≤ p + c.since → look.region ≡ c.region
                → look.count ≤ slice_index c.cut look.caller) (sym new.1)
                (looked_within p look is) late region
          ];
          few = λ q given is. elim (cases_given q given is) [
            | inl old ↦ let bound = h.few q given old in omega (arith, bound, longer)
            | inr new ↦ subst (λ (c : Given). c.since ≤ length m.looked) (sym new.1) g.few
          ];
        }

-- The condition that every world meets.
abbrev pub Anywhere : World → Type 0
Anywhere w = Unit {0}

-- A caller's scan under way, if there is one, began at some world, and the caller's cuts are
-- ordered.
pub record Placed (s : Shape) (w : World) (i : ℕ) (l : Local) : Type 0 where
  pub begun : IsBegun s w i Anywhere l l.scan
  pub ordered : Ordered l

abbrev pub AllPlaced : Shape → World → Type 0
AllPlaced s w = (i : ℕ) → i < s.callers → Placed s w i (local_of w i)

pub step_placed : (s : Shape) (w : World) (step : Step) → Sound s w → IsTrue (is_possible s w step)
    → AllPlaced s w → AllPlaced s (after s w step)
step_placed s w step sound may all i low =
    let after_it : AfterStep s w step i Anywhere =
    step_outcome s w step Anywhere sound may i low (λ _. (all i low).begun) (λ _. tt) in
    let l : Local = local_of w i in
    let m : Local = local_of (after s w step) i in
    let grows : LooksGrow l m = step_looks s w step i sound may in
    record {
      begun = after_it.0;
      ordered = elim after_it.1 [
        | inl same ↦ same_ordered l m (all i low).ordered grows same
        | inr (from, kind, gave) ↦
            more_ordered l m (all i low).ordered grows s w i gave.under from gave.gave
      ];
    }

fresh_placed : (s : Shape) (w : World) (i : ℕ) → Placed s w i fresh
fresh_placed s w i =
    record {
      begun = tt;
      ordered =
          record {
            rise = λ p q a b less is is'. let none : None ≡ Some a = is in absurd cc;
            looked = λ p q look given is there late region. let none : None ≡ Some look = is in
                absurd cc;
            few = λ q given is. let none : None ≡ Some given = is in absurd cc;
          };
    }

pub start_placed : (s : Shape) → AllPlaced s (start s)
start_placed s i low = subst (λ (l : Local). Placed s (start s) i l)
    (sym (get_or-replicate_default s.callers i fresh)) (fresh_placed s (start s) i)

pub steps_placed : (s : Shape) (w : World) (steps : List Step) → Sound s w → AllPlaced s w
    → IsTrue (are_possible s w steps) → AllPlaced s (after_all s w steps)
steps_placed s w [] sound all may = all
steps_placed s w (step ∷ steps) sound all may =
    let parts = and_parts (is_possible s w step) (are_possible s (after s w step) steps) may in
    steps_placed s (after s w step) steps (sound_after s w step sound parts.0)
    (step_placed s w step sound parts.0 all) parts.1

-- These locals are those of some world in which every caller is placed.
pub record Of (s : Shape) (locals : List Local) : Type 0 where
  pub world : World
  pub placed : AllPlaced s world
  pub are : world.locals ≡ locals

pub together : (s : Shape) (locals : List Local) → AreTogether s locals → Of s locals
together s locals (w, (steps, run, at), are) =
    record {
      world = w;
      placed = subst (λ (v : World). AllPlaced s v) at
          (steps_placed s (start s) steps (start_sound s) (start_placed s) run);
      are = are;
    }

ordered_in : (s : Shape) (locals : List Local) (i : ℕ) → AreTogether s locals → i < s.callers
    → Ordered (local_at locals i)
ordered_in s locals i t low =
    let o = together s locals t in
    subst (λ (ls : List Local). Ordered (local_at ls i)) o.are (o.placed i low).ordered

-- the laws that `specs` states, from what is proved above
pub cuts_rise : CutsRise
cuts_rise s locals i p q a b t low less is is' same =
    (ordered_in s locals i t low).rise p q a b less is is' same

pub cuts_hold_looked : CutsHoldLooked
cuts_hold_looked s locals i p q look given t low is there late same =
    (ordered_in s locals i t low).looked p q look given is there late same

pub cuts_have_since : CutsHaveSince
cuts_have_since s locals i q given t low is = (ordered_in s locals i t low).few q given is
