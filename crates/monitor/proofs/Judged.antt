-- What the rounds of monitors say of a reachable world.
use Rattle.std.proofs.Common.{◌≡◌, ◌∙◌, refl, sym, ap, subst, ℕ, ◌+◌, ◌-◌, ◌<◌, ◌≤◌, inl, inr, List, [], ◌∷◌, ◌++◌, length, Option, None, Some, slice_get, length-append, append_assoc, arith}
use Rattle.std.proofs.lemmas.Bool.{cases_lt}
use Rattle.std.proofs.lemmas.List.{get_or_past, get_or-map}
use Rattle.list_laws.proofs.Places.{slice_get-push_last, slice_get-push_cases}
use Rattle.book_base.specs.SeqSpec.{SeqSpec}
use Rattle.book_base.specs.Cut.{IsWithin}
use Rattle.book_base.specs.Book.{Page}
use Rattle.book_base.specs.BookAt.{book_at}
use Rattle.book_base.specs.Order.{HasLegalOrder}
use Rattle.legal_orders.proofs.BookAtLaws.{larger_has_none}
use Rattle.world_core.specs.declared.region.Region.TheVariants.{M}
use Rattle.world_core.specs.Shape.{Shape}
use Rattle.world_core.specs.Local.{Local, Given, fresh}
use Rattle.world_core.specs.Calls.{AreTogether, IsPublished, book_in, local_at}
use Rattle.world_laws.proofs.Locals.{given_cuts_are_published}
use Rattle.world_laws.proofs.Gathered.{gathered_is_the_book_at}
use Rattle.world_laws.proofs.Validity.{books_are_valid}
use Rattle.collect_scan.specs.Given.{given_with}
use Rattle.monitor.specs.declared.witness.Witness.{Witness}
use Rattle.monitor.specs.declared.round.Round.TheVariants.{Legal, Illegal}
use Rattle.monitor.specs.Rounds.{HasScannedOnce, IsLegalAt, AreLegal, IsIllegalAt, AreRounds}
use Rattle.monitor.specs.Worlds.{published_of, IsWitnessOf, AreRoundsOver, AreJudgedRounds, RoundsAreRight, RoundsAreJudged, ShortRoundsAreRounds, OwnIsAWitness, WitnessesAreFinal}
use Rattle.monitor.proofs.Resting.{given_last}
use Rattle.monitor.proofs.Rounds.{legal_stays, illegal_stays}

-- an element that isn't the last is one of those before it
get_before : {X : Type 0} (xs : List X) (x y : X) (k : ℕ) → slice_get (xs ++ x ∷ []) k ≡ Some y
    → k + 1 < length (xs ++ x ∷ []) → slice_get xs k ≡ Some y
get_before xs x y k there low =
    elim (slice_get-push_cases xs x k y there) [
      | inl old ↦ old
      | inr new ↦ absurd (omega (arith, new.0, low, length-append xs (x ∷ [])))
    ]

-- an item at the end of two lists in a row is at the place that both lengths make
get_last : {X : Type 0} (xs ys : List X) (x : X)
    → slice_get (xs ++ (ys ++ x ∷ [])) (length (xs ++ ys)) ≡ Some x
get_last {X} xs ys x = subst (λ (zs : List X). slice_get zs (length (xs ++ ys)) ≡ Some x)
    (append_assoc xs ys (x ∷ [])) (slice_get-push_last (xs ++ ys) x)

one_less : (n m : ℕ) → n ≡ m + 1 → n - 1 ≡ m
one_less n m e = omega (arith, e)

module _ (spec : SeqSpec) (s : Shape) (locals : List Local) (i : ℕ) (t : AreTogether s locals)
    (low : i < s.callers) where
  abbrev mine : Local
  mine = local_at locals i

  -- what caller i gathered is the book of all calls
  legal : (cut : List ℕ) → IsLegalAt spec s.callers mine cut
      → HasLegalOrder spec (book_at cut (book_in locals))
  legal cut h = subst (HasLegalOrder spec)
      (gathered_is_the_book_at s locals i cut h.book t low h.gathered) h.order

  illegal : (w : Witness) → IsIllegalAt spec s.callers mine w
      → ¬ HasLegalOrder spec (book_at w.cut (book_in locals))
  illegal w h = subst (λ (book : List Page). ¬ HasLegalOrder spec book)
      (gathered_is_the_book_at s locals i w.cut w.book t low h.gathered) h.none

  -- a witness whose cut a scan of M gave
  witness : (w : Witness) (k since : ℕ)
      → slice_get mine.cuts k ≡ Some (record { region = M; cut = w.cut; since = since })
      → IsIllegalAt spec s.callers mine w
      → IsWitnessOf spec locals w
  witness w k since there h =
      record {
        published = given_cuts_are_published s locals i k
            (record { region = M; cut = w.cut; since = since }) t low there refl;
        book = gathered_is_the_book_at s locals i w.cut w.book t low h.gathered;
        none = h.none;
      }

  -- legal rounds and one more are rounds over the book of all calls
  over : (most : ℕ) (rounds before : List Given) (last : Given) → rounds ≡ before ++ last ∷ []
      → length rounds ≤ most → last.region ≡ M → AreLegal spec s.callers mine before
      → AreRoundsOver spec (book_in locals) most rounds
  over most rounds before last is few region all = record {
    few = few;
    regions = λ k other there.
        elim (slice_get-push_cases before last k other
        (ap (λ (xs : List Given). slice_get xs k) (sym is) ∙ there)) [
          | inl old ↦ (all k other old).region
          | inr new ↦ ap (λ (g : Given). g.region) new.1 ∙ region
        ];
    legal = λ k other there past.
        let at : slice_get before k ≡ Some other =
        get_before before last other k
        (ap (λ (xs : List Given). slice_get xs k) (sym is) ∙ there)
        (subst (λ (xs : List Given). k + 1 < length xs) is past) in
        legal other.cut (all k other at).legal;
  }

  judged : (most : ℕ) (rounds : List Given) (own : Option Witness)
      → AreRounds spec s.callers most mine rounds own
      → AreJudgedRounds spec (book_in locals) most rounds
  judged most rounds None h = record {
    over = record {
      few = omega (arith, h.0);
      regions = λ k given there. (h.1 k given there).region;
      legal = λ k given there past. legal given.cut (h.1 k given there).legal;
    };
    ends = inl h.0;
  }
  judged most rounds (Some w) h =
      let ends = h.1 in
      let given : Given = record { region = M; cut = w.cut; since = ends.since } in
      record {
        over = over most rounds ends.before given ends.is h.0 refl ends.legal;
        ends = inr (
          given,
          ap (λ (xs : List Given). slice_get xs (length xs - 1)) ends.is
              ∙ ap (λ (k : ℕ). slice_get (ends.before ++ given ∷ []) k)
              (one_less (length (ends.before ++ given ∷ [])) (length ends.before)
              (length-append ends.before (given ∷ [])))
              ∙ slice_get-push_last ends.before given,
          illegal w ends.illegal,
        );
      }

pub rounds_are_right : RoundsAreRight
rounds_are_right spec s locals i l m own (Legal cut) t low more found =
    let (once, is, none) = found in
    let there = more.cuts (length l.cuts) (given_with l M cut) (given_last cut l m once) in (
      given_cuts_are_published s locals i (length l.cuts) (given_with l M cut) t low there refl,
      legal spec s locals i t low cut
          (legal_stays spec s.callers m (local_at locals i) cut more.peeked is),
    )
rounds_are_right spec s locals i l m own (Illegal cut) t low more found =
    let (once, w, is_own, at, is) = found in
    let mine : HasScannedOnce w.cut l m =
    subst (λ (x : List ℕ). HasScannedOnce x l m) (sym at) once in
    let there = more.cuts (length l.cuts) (given_with l M w.cut) (given_last w.cut l m mine) in (
      w,
      is_own,
      at,
      witness spec s locals i t low w (length l.cuts) (length l.looked) there
          (illegal_stays spec s.callers m (local_at locals i) w more.peeked is),
    )

pub rounds_are_judged : RoundsAreJudged
rounds_are_judged spec s locals i most before own t low h =
    (h.rounds, h.cuts, judged spec s locals i t low most h.rounds own h.are)

pub short_rounds_are_rounds : ShortRoundsAreRounds
short_rounds_are_rounds spec s locals i most before t low h =
    let rounds : List Given = h.before ++ h.last ∷ [] in (
      rounds,
      h.cuts,
      over spec s locals i t low most rounds h.before h.last refl
          (omega (arith, h.few, length-append h.before (h.last ∷ []))) h.region h.legal,
    )

pub own_is_a_witness : OwnIsAWitness
own_is_a_witness spec s locals i most before w t low h =
    let ends = h.are.1 in
    let given : Given = record { region = M; cut = w.cut; since = ends.since } in
    let place : ℕ = length (before.cuts ++ ends.before) in
    let there : slice_get (local_at locals i).cuts place ≡ Some given =
    ap (λ (cuts : List Given). slice_get cuts place) h.cuts
    ∙ ap (λ (rounds : List Given). slice_get (before.cuts ++ rounds) place) ends.is
    ∙ get_last before.cuts ends.before given in
    witness spec s locals i t low w place ends.since there ends.illegal

-- a published cut is within all that is published
published_within : (locals : List Local) (cut : List ℕ) → IsPublished locals cut
    → IsWithin cut (published_of locals)
published_within locals cut p i =
    elim (cases_lt i (length locals)) [
      | inl within ↦ omega (
        arith,
        p.within i within,
        get_or-map (λ (l : Local). l.published) locals i fresh 0 within,
      )
      | inr past ↦ omega (arith, get_or_past cut i 0 (omega (arith, past, p.wide)))
    ]

pub witnesses_are_final : WitnessesAreFinal
witnesses_are_final spec s locals w t h =
    larger_has_none spec (book_in locals) w.cut (published_of locals)
    (books_are_valid s locals t) (published_within locals w.cut h.published)
    (subst (λ (book : List Page). ¬ HasLegalOrder spec book) h.book h.none)
