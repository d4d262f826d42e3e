-- The lines of a reachable world's locals are a lawful report.
use Rattle.std.proofs.Common.{◌≡◌, ℕ, ◌<◌, List, [], ◌∷◌, length, map, Some, slice_get, slice_index, sym, ap, ◌∙◌, subst, arith, inl, inr}
use Rattle.std.proofs.lemmas.Bool.{cases_lt}
use Rattle.std.proofs.lemmas.List.{length-map, get_or_past}
use Rattle.std.proofs.lemmas.List.FromFn.{get_or-map-range_with_len}
use Rattle.std.proofs.lemmas.Option.{none-some}
use Rattle.book_base.specs.declared.call.Call.{Call}
use Rattle.book_base.specs.SeqSpec.{SeqSpec}
use Rattle.book_base.specs.Cut.{IsWithin}
use Rattle.book_base.specs.Book.{IsValid}
use Rattle.book_base.specs.BookAt.{book_at}
use Rattle.book_base.specs.Order.{HasLegalOrder}
use Rattle.legal_orders.specs.Greatest.{greatest_counts, AreCutsOf, ArePairwiseComparable}
use Rattle.legal_orders.proofs.GreatestCuts.{greatest_is_one}
use Rattle.world_core.specs.Shape.{Shape}
use Rattle.world_core.specs.Local.{Local}
use Rattle.world_core.specs.Calls.{Made, AreTogether, calls_in, book_of, book_in, local_at}
use Rattle.world_laws.proofs.Locals.{locals_have_phases}
use Rattle.world_laws.specs.Verdicts.{HasSeenCut, AreSeenCuts, AreDelivered, HasAllDelivered}
use Rattle.world_laws.proofs.Validity.{books_are_valid}
use Rattle.world_laws.proofs.Judging.{seen_cuts_fit, no_run_has_this_error_seen, delivered_calls_stand_in_one}
use Rattle.report_lines.specs.declared.line.Line.{Line}
use Rattle.report_lines.specs.Lines.{made_of, calls_of, book_of_lines, lines_at, seen_at, delivered_at, error_at, AreLinesOf, IsJudged}
use Rattle.report_lines.specs.Phases.{published_by}
use Rattle.report_lines.specs.Allotments.{phases_of, published_in}
use Rattle.report_lines.specs.Lawful.{AreSeen, delivered_cuts, delivered_cut, IsLawful}
use Rattle.report_lines.specs.Reporting.{HaveMade, WorldsAreLawful}
use Rattle.report_lines.proofs.Lines.{has_seen_cut, delivered_line, error_line, seen_from_delivered, seen_from_error, from_delivered_cuts, in_delivered_cuts}

-- A verdict of some lines, as it was judged.
module _ (spec : SeqSpec) (locals : List Local) (lines : List (List Line))
    (are : AreLinesOf spec locals lines) where
  pub legal_at : (call : Call) (cut : List ℕ) → delivered_at lines call ≡ Some cut
      → HasLegalOrder spec (book_at cut (book_of_lines lines))
  legal_at call cut e =
      let v = delivered_line lines call cut e in
      subst (IsJudged spec (book_of_lines lines)) v.end (are.judged call v.line v.there)

  pub illegal_at : (call : Call) (cut : List ℕ) → error_at lines call ≡ Some cut
      → HasLegalOrder spec (book_at cut (book_of_lines lines)) → ⊥
  illegal_at call cut e =
      let v = error_line lines call cut e in
      subst (IsJudged spec (book_of_lines lines)) v.end (are.judged call v.line v.there)

  -- the seen cut of a line is one that the line's call has seen, by the locals
  pub sees : (call : Call) (cut : List ℕ) → seen_at lines call ≡ Some cut
      → HasSeenCut (map calls_in locals) call cut
  sees call cut e = subst (λ (calls : List (List Made)). HasSeenCut calls call cut) are.calls
      (has_seen_cut lines call cut e)

  pub as_many : length lines ≡ length locals
  as_many =
      omega (
        arith,
        length-map lines (λ (own : List Line). map made_of own),
        length-map locals calls_in,
        ap (λ (calls : List (List Made)). length calls) are.calls,
      )

  -- the book of the lines is that of the locals
  pub same_book : book_of_lines lines ≡ book_in locals
  same_book = ap book_of are.calls

  module _ (s : Shape) (t : AreTogether s locals) where
    pub callers : length lines ≡ s.callers
    callers = as_many ∙ (locals_have_phases s locals t).0

    pub valid : IsValid (book_of_lines lines)
    valid = subst IsValid (sym same_book) (books_are_valid s locals t)

    fit : AreSeenCuts locals
    fit = seen_cuts_fit s locals t

    -- each cut of a delivered line is one that a delivered call has seen
    all_delivered : AreDelivered spec locals (delivered_cuts lines)
    all_delivered k cut e =
        let found = from_delivered_cuts lines k cut e in (
          found.0,
          sees found.0 cut (seen_from_delivered lines found.0 cut found.1),
          subst (λ book. HasLegalOrder spec (book_at cut book)) same_book
              (legal_at found.0 cut found.1),
        )

    pub one : HasAllDelivered spec locals (delivered_cuts lines) (delivered_cut s.callers lines)
    one = delivered_calls_stand_in_one spec s locals (delivered_cuts lines) t all_delivered

    wide : AreCutsOf s.callers (delivered_cuts lines)
    wide k cut e = let d = all_delivered k cut e in
        (fit.published d.0 cut d.1).wide ∙ (locals_have_phases s locals t).0

    compared : ArePairwiseComparable (delivered_cuts lines)
    compared j k a b x y = let d = all_delivered j a x in let e = all_delivered k b y in
        fit.comparable d.0 e.0 a b d.1 e.1

    -- where some call is delivered, the greatest counts of the delivered cuts are one of these cuts
    top_of : (cuts : List (List ℕ)) (k : ℕ) (cut : List ℕ) → slice_get cuts k ≡ Some cut
        → AreCutsOf s.callers cuts → ArePairwiseComparable cuts
        → (j : ℕ) × (slice_get cuts j ≡ Some (greatest_counts s.callers cuts))
    top_of [] k cut e w c = absurd (none-some cut e)
    top_of (first ∷ others) k cut e w c = greatest_is_one s.callers first others w c

    pub greatest : (call : Call) (cut : List ℕ) → delivered_at lines call ≡ Some cut → (top : Call)
        × (delivered_at lines top ≡ Some (delivered_cut s.callers lines))
    greatest call cut e =
        let there = in_delivered_cuts lines call cut e in
        let top = top_of (delivered_cuts lines) there.0 cut there.1 wide compared in
        from_delivered_cuts lines top.0 (delivered_cut s.callers lines) top.1

    -- What the callers published is what their lines say.
    module _ (operations : List (List ℕ)) (allotments : List ℕ)
        (have : HaveMade s operations allotments locals lines) where
      published_at : (i : ℕ) → i < length lines
          → slice_index (published_in allotments lines) i ≡ (local_at locals i).published
      published_at i low =
          get_or-map-range_with_len
          (λ i. published_by (phases_of (slice_index allotments i) (lines_at lines i))) 0
          (length lines) i i 0 low (omega arith)
          ∙ sym (have.made i (omega (arith, low, callers))).published

      seen_within : (call : Call) (cut : List ℕ) → seen_at lines call ≡ Some cut
          → IsWithin cut (published_in allotments lines)
      seen_within call cut e i =
          let p = fit.published call cut (sees call cut e) in
          elim (cases_lt i (length lines)) [
            | inl low ↦ omega (arith, published_at i low, p.within i (omega (arith, low, as_many)))
            | inr past ↦ omega (arith, get_or_past cut i 0 (omega (arith, past, p.wide, as_many)))
          ]

      seen_fit : AreSeen (published_in allotments lines) lines
      seen_fit = record {
        wide = λ call cut e. (fit.published call cut (sees call cut e)).wide ∙ sym as_many;
        within = seen_within;
        own = λ call cut e. fit.own call cut (sees call cut e);
        comparable = λ a b x y e f. fit.comparable a b x y (sees a x e) (sees b y f);
      }

      pub lawful : IsLawful spec s operations allotments lines
      lawful = record {
        callers = callers;
        allotted = have.allotted;
        valid = valid;
        seen = seen_fit;
        greatest = greatest;
        contains = λ call cut e. let there = in_delivered_cuts lines call cut e in
            one.contains there.0 cut there.1;
        holds = λ call cut e.
            let there = in_delivered_cuts lines call cut e in
            one.holds there.0 cut call there.1
            (sees call cut (seen_from_delivered lines call cut e));
        one_order =
            subst (λ book. HasLegalOrder spec (book_at (delivered_cut s.callers lines) book))
            (sym same_book) one.one_order;
        no_order = illegal_at;
        no_run = λ call cut e other steps run same.
            no_run_has_this_error_seen spec (calls_of lines) call cut
            (has_seen_cut lines call cut (seen_from_error lines call cut e)) (illegal_at call cut e)
            other steps run same;
        reached =
            (t.0, t.1, subst (λ (ls : List Local). AreLinesOf spec ls lines) (sym t.2) are);
      }

pub worlds_are_lawful : WorldsAreLawful
worlds_are_lawful spec s operations allotments locals lines t are have =
    lawful spec locals lines are s t operations allotments have
