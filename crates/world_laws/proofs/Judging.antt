-- Verdicts at seen cuts.
use Rattle.std.proofs.Common.{◌≡◌, ℕ, zero, suc, ◌+◌, ◌<◌, Bool, nat_lt, List, [], ◌∷◌, length, map, cond, Some, slice_get, slice_index, slice_index_or, refl, sym, ap, ◌∙◌, subst, arith, inl, inr}
use Rattle.std.proofs.lemmas.Bool.{cases_lt, lt-ltb, le-ltb, cond_both}
use Rattle.std.proofs.lemmas.List.FromFn.{length-map-range_with_len, get_or-map-range_with_len}
use Rattle.std.proofs.lemmas.List.{get_or_past}
use Rattle.std.proofs.lemmas.Option.{same_Some, none-some, slice_get_within}
use Rattle.book_base.specs.declared.call.Call.{Call}
use Rattle.book_base.specs.declared.call.Record.{Record}
use Rattle.book_base.specs.SeqSpec.{SeqSpec}
use Rattle.book_base.specs.Cut.{AreComparable}
use Rattle.book_base.specs.Book.{Page, IsValid}
use Rattle.book_base.specs.BookAt.{greatest_count, book_at}
use Rattle.book_base.specs.Order.{StandsAt, IsLegalOrder, HasLegalOrder}
use Rattle.book_base.proofs.ViewLemmas.{record_from_part}
use Rattle.legal_orders.specs.Greatest.{greatest_counts, AreCutsOf, ArePairwiseComparable}
use Rattle.legal_orders.proofs.BookAt.{record_of-part}
use Rattle.legal_orders.proofs.BookAtLaws.{is_the_book_at}
use Rattle.legal_orders.proofs.GreatestCuts.{greatest_is_one, greatest_contains_each}
use Rattle.world_core.specs.declared.region.Region.TheVariants.{M}
use Rattle.world_core.specs.Shape.{Shape}
use Rattle.world_core.specs.Local.{Local, fresh}
use Rattle.world_core.specs.World.{end_of}
use Rattle.world_core.specs.Calls.{Made, Reached, Is_announced, Has_record, Has_seen, AreTogether, IsPublished, record_in, reached_in, call_in, calls_in, book_of, book_in, local_at}
use Rattle.world_laws.proofs.Locals.{locals_have_phases}
use Rattle.world_laws.proofs.OwnEntries.{seen_cuts_count_their_call}
use Rattle.world_laws.proofs.Instants.{given_cuts_are_comparable}
use Rattle.world_laws.proofs.Giving.{seen_cuts_are_given}
use Rattle.world_laws.specs.Verdicts.{HasSeenCut, SeenCutsFit, NoRunHasThisError, NoRunHasThisErrorSeen, AreDelivered, DeliveredCallsStandInOne}
use Rattle.world_laws.proofs.Pages.{slice_get-made}
use Rattle.world_laws.proofs.Validity.{books_are_valid}
use Rattle.world_laws.proofs.NoFalseErrors.{no_false_error}

-- the calls of a caller among those of all
calls_at : (locals : List Local) (i : ℕ)
    → slice_index_or (map calls_in locals) i [] ≡ calls_in (local_at locals i)
calls_at [] i = refl
calls_at (l ∷ ls) zero = refl
calls_at (l ∷ ls) (suc i) = calls_at ls i

-- Call k of this local has seen this cut.
record SeesIn (l : Local) (k : ℕ) (cut : List ℕ) : Type 0 where
  below : k < length l.seen
  is : cut ≡ slice_index_or l.seen k []

sees_in : (l : Local) (k : ℕ) (r : Record) (cut : List ℕ) → reached_in l k ≡ Has_seen r cut
    → SeesIn l k cut
sees_in l k r cut e =
    let made : Bool → Reached = λ b. cond b (Has_seen (record_in l k) (slice_index_or l.seen k []))
    (cond (nat_lt k (length l.views)) (Has_record (record_in l k)) Is_announced) in
    elim (cases_lt k (length l.seen)) [
      | inl below ↦
          let one : Has_seen (record_in l k) (slice_index_or l.seen k []) ≡ Has_seen r cut =
          sym (ap made (lt-ltb k (length l.seen) below)) ∙ e in
          let same : slice_index_or l.seen k [] ≡ cut = cc in
          record { below = below; is = sym same }
      | inr past ↦
          let one : cond (nat_lt k (length l.views)) (Has_record (record_in l k)) Is_announced
          ≡ Has_seen r cut = sym (ap made (le-ltb k (length l.seen) past)) ∙ e in
          absurd (cond_both (nat_lt k (length l.views)) (Has_record (record_in l k)) Is_announced
          (λ (v : Reached). v ≡ Has_seen r cut → ⊥) (λ _ h. absurd cc) (λ _ h. absurd cc) one)
    ]

seen_by : (locals : List Local) (call : Call) (cut : List ℕ)
    → HasSeenCut (map calls_in locals) call cut
    → SeesIn (local_at locals call.caller) call.number cut
seen_by locals call cut h =
    let l : Local = local_at locals call.caller in
    let made : Made = record { operation = h.operation; reached = Has_seen h.answer cut } in
    let there : slice_get (calls_in l) call.number ≡ Some made = ap
    (λ (cs : List Made). slice_get cs call.number) (sym (calls_at locals call.caller)) ∙ h.made in
    let low : call.number < length l.operations =
    omega (
      arith,
      slice_get_within (calls_in l) call.number made there,
      length-map-range_with_len (λ k. call_in l k) 0 (length l.operations),
    ) in
    let same : call_in l call.number ≡ made = same_Some (call_in l call.number) made
    (sym (slice_get-made (λ k. call_in l k) (length l.operations) call.number low) ∙ there) in
    sees_in l call.number h.answer cut (ap (λ (m : Made). m.reached) same)

module _ (s : Shape) (locals : List Local) (t : AreTogether s locals) where
  long : length locals ≡ s.callers
  long = (locals_have_phases s locals t).0

  -- who has seen a cut is one of the callers
  seer : (i k : ℕ) → k < length (local_at locals i).seen → i < s.callers
  seer i k below = elim (cases_lt i s.callers) [
    | inl low ↦ low
    | inr past ↦ absurd (omega (
      arith,
      below,
      ap (λ (l : Local). length l.seen) (get_or_past locals i fresh (omega (arith, past, long))),
    ))
  ]

  published : (call : Call) (cut : List ℕ) → HasSeenCut (map calls_in locals) call cut
      → IsPublished locals cut
  published call cut h =
      let sees = seen_by locals call cut h in
      let at = seen_cuts_count_their_call s locals call.caller call.number t
      (seer call.caller call.number sees.below) sees.below in
      subst (IsPublished locals) (sym sees.is)
      (record { wide = at.wide; within = λ i low. at.within i low })

  own : (call : Call) (cut : List ℕ) → HasSeenCut (map calls_in locals) call cut
      → slice_index cut call.caller ≡ call.number + 1
  own call cut h =
      let sees = seen_by locals call cut h in
      ap (λ (c : List ℕ). slice_index c call.caller) sees.is
      ∙ (seen_cuts_count_their_call s locals call.caller call.number t
      (seer call.caller call.number sees.below) sees.below).own

  comparable : (a b : Call) (x y : List ℕ) → HasSeenCut (map calls_in locals) a x
      → HasSeenCut (map calls_in locals) b y → AreComparable x y
  comparable a b x y h g =
      let sa = seen_by locals a x h in
      let sb = seen_by locals b y g in
      let la = seer a.caller a.number sa.below in
      let lb = seer b.caller b.number sb.below in
      let ga = seen_cuts_are_given s locals a.caller a.number t la sa.below in
      let gb = seen_cuts_are_given s locals b.caller b.number t lb sb.below in
      subst (λ (c : List ℕ). AreComparable c y) (sym sa.is)
      (subst
      (λ (c : List ℕ). AreComparable (slice_index_or (local_at locals a.caller).seen a.number []) c)
      (sym sb.is)
      (given_cuts_are_comparable s locals a.caller b.caller ga.place gb.place
      (record {
        region = M;
        cut = slice_index_or (local_at locals a.caller).seen a.number [];
        since = ga.since;
      })
      (record {
        region = M;
        cut = slice_index_or (local_at locals b.caller).seen b.number [];
        since = gb.since;
      }) t la lb ga.is gb.is refl))

pub seen_cuts_fit : SeenCutsFit
seen_cuts_fit s locals t = record {
  published = published s locals t;
  own = own s locals t;
  comparable = comparable s locals t;
}

pub no_run_has_this_error : NoRunHasThisError
no_run_has_this_error spec s steps cut run p none linearizable =
    none (no_false_error spec s steps cut run linearizable p)

pub no_run_has_this_error_seen : NoRunHasThisErrorSeen
no_run_has_this_error_seen spec calls call cut h none s steps run same linearizable =
    let locals : List Local = (end_of s steps).locals in
    let t : AreTogether s locals = (end_of s steps, (steps, run, refl), refl) in
    let seen : HasSeenCut (map calls_in locals) call cut =
    subst (λ (cs : List (List Made)). HasSeenCut cs call cut) (sym same) h in
    none (subst (λ (cs : List (List Made)). HasLegalOrder spec (book_at cut (book_of cs))) same
    (no_false_error spec s steps cut run linearizable (published s locals t call cut seen)))

-- The greatest counts of no cuts are all 0.
zeros_are : (n i : ℕ) → slice_index (greatest_counts n []) i ≡ 0
zeros_are n i = elim (cases_lt i n) [
  | inl low ↦ get_or-map-range_with_len (greatest_count []) 0 n i i 0 low (omega arith)
  | inr past ↦ get_or_past (greatest_counts n []) i 0
      (omega (arith, past, length-map-range_with_len (greatest_count []) 0 n))
]

-- the empty order has no place
none_stands : (k : ℕ) (call : Call) → StandsAt [] k call → ⊥
none_stands k call at = none-some at.0 at.1

-- at a cut of zeros no call is answered, so the empty order is legal
empty_is_legal : (spec : SeqSpec) (book : List Page) (n : ℕ) → IsValid book
    → IsLegalOrder spec (book_at (greatest_counts n []) book) []
empty_is_legal spec book n valid =
    let zeros : List ℕ = greatest_counts n [] in
    record {
      calls = λ k call at. absurd (none_stands k call at);
      once = λ j k call at bt. absurd (none_stands j call at);
      earlier = λ k call at. absurd (none_stands k call at);
      answered = λ call r e.
          let held = (record_from_part book zeros (book_at zeros book)
          (is_the_book_at book zeros valid) call r e).0 in
          absurd (omega (arith, held, zeros_are n call.caller));
      run = tt;
      precedence = λ j k a b at bt p. absurd (none_stands j a at);
    }

module _ (spec : SeqSpec) (s : Shape) (locals : List Local) (t : AreTogether s locals) where
  wide : (cuts : List (List ℕ)) → AreDelivered spec locals cuts → AreCutsOf s.callers cuts
  wide cuts all k cut e = let d = all k cut e in
      (published s locals t d.0 cut d.1).wide ∙ long s locals t

  compared : (cuts : List (List ℕ)) → AreDelivered spec locals cuts → ArePairwiseComparable cuts
  compared cuts all j k a b x y = let d = all j a x in let e = all k b y in
      comparable s locals t d.0 e.0 a b d.1 e.1

  -- the greatest counts are one of the cuts, or all 0
  abbrev IsGood : List ℕ → Type 0
  IsGood cut = IsPublished locals cut × HasLegalOrder spec (book_at cut (book_in locals))

  good : (cuts : List (List ℕ)) → AreDelivered spec locals cuts
      → IsGood (greatest_counts s.callers cuts)
  good [] all = (
    record {
      wide = length-map-range_with_len (greatest_count []) 0 s.callers ∙ sym (long s locals t);
      within = λ i low. omega (arith, zeros_are s.callers i);
    },
    ([], empty_is_legal spec (book_in locals) s.callers (books_are_valid s locals t)),
  )
  good (first ∷ others) all =
      let found = greatest_is_one s.callers first others (wide (first ∷ others) all)
      (compared (first ∷ others) all) in
      let d = all found.0 (greatest_counts s.callers (first ∷ others)) found.1 in
      (published s locals t d.0 (greatest_counts s.callers (first ∷ others)) d.1, d.2)

pub delivered_calls_stand_in_one : DeliveredCallsStandInOne
delivered_calls_stand_in_one spec s locals cuts t all =
    let top : List ℕ = greatest_counts s.callers cuts in
    let contains = greatest_contains_each s.callers cuts (wide spec s locals t cuts all) in
    record {
      published = (good spec s locals t cuts all).0;
      contains = contains;
      holds =
          λ k cut call e h. omega (arith, own s locals t call cut h, contains k cut e call.caller);
      records = λ call h. record_of-part (book_in locals) top (book_at top (book_in locals))
          (is_the_book_at (book_in locals) top (books_are_valid s locals t)) call h;
      one_order = (good spec s locals t cuts all).1;
    }
