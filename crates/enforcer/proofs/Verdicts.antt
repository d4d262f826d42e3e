-- What an outcome has of the verdict that makes it, and that a verdict is right at the end of its
-- line.
use Rattle.std.proofs.Common.{◌≡◌, ℕ, List, [], Option, Some, None, IfSome, IsSome, IsSomeAnd, refl, sym, subst}
use Rattle.std.proofs.lemmas.Option.{same_Some}
use Rattle.book_base.specs.declared.call.Record.{Record}
use Rattle.book_base.specs.SeqSpec.{SeqSpec}
use Rattle.frontier_check.specs.declared.kept_order.KeptOrder.{KeptOrder}
use Rattle.frontier_check.specs.declared.kept_order.OrderMark.{OrderMark}
use Rattle.frontier_check.specs.Standing.{AreMarks}
use Rattle.world_core.specs.Local.{Local}
use Rattle.report_lines.specs.Workers.{IsJudgedBy}
use Rattle.row_gather.specs.declared.gathered.Gathered.{Gathered}
use Rattle.enforcer.specs.declared.call_verdict.CallVerdict.{CallVerdict}
use Rattle.enforcer.specs.declared.call_verdict.CallVerdict.TheVariants.{Delivered, Illegal}
use Rattle.enforcer.specs.declared.outcome.Outcome.{Outcome}
use Rattle.enforcer.specs.declared.outcome.Outcome.TheVariants as outcome
use Rattle.enforcer.specs.Judged.{record_in, cut_in, stance_after, IsRightByPeeks}
use Rattle.enforcer.specs.Kept.{IsKeptAfterOutcome, TicksForNewAfter}
use Rattle.enforcer.specs.Verdicts.{OrderStandsIn, stance_judged, line_judged, outcome_of, IsOutcome, IsKeptAfter, TicksForJudged}

-- An order without marks stands in each book, for each object.
pub unmarked_stands : (spec : SeqSpec) (gathered : Option Gathered) (standing : Option KeptOrder)
    → IfSome standing (λ kept. kept.marks.items ≡ []) → OrderStandsIn spec gathered standing
unmarked_stands spec gathered None none = tt
unmarked_stands spec None (Some s) none = tt
unmarked_stands spec (Some g) (Some s) none =
    subst (λ (marks : List OrderMark). AreMarks spec g.book s.order.items 0 marks) (sym none) tt

-- What the outcome `o` has of the verdict `v` on a call with this record and this seen cut, where
-- the order `s` is kept after it.
pub record IsMadeOf (r : Record) (cut : List ℕ) (v : CallVerdict) (s : Option KeptOrder)
    (o : Outcome) : Type 0 where
  pub record_is : record_in o ≡ r
  pub cut_is : cut_in o ≡ cut
  pub stance : stance_after o ≡ stance_judged v
  pub kept : (n : ℕ) (g : Option Gathered) → IsKeptAfter n cut v g → IsKeptAfterOutcome n o g
  pub ticks : (n : ℕ) (kept g : Option Gathered) (before after : ℕ)
      → TicksForJudged n kept cut v g before after → TicksForNewAfter n kept o g before after

made_of : (r : Record) (cut : List ℕ) (v : CallVerdict) (s : Option KeptOrder) (o : Outcome)
    → outcome_of r cut v s ≡ Some o → IsMadeOf r cut v s o
made_of r cut Delivered None o is = absurd cc
made_of r cut Delivered (Some s) o is =
    subst (λ (x : Outcome). IsMadeOf r cut Delivered (Some s) x)
    (same_Some (outcome.Delivered r.reply r.view cut s.order) o is)
    (record {
      record_is = refl;
      cut_is = refl;
      stance = refl;
      kept = λ n g h. h;
      ticks = λ n kept g before after h. h;
    })
made_of r cut (Illegal book) s o is =
    subst (λ (x : Outcome). IsMadeOf r cut (Illegal book) s x)
    (same_Some (outcome.Illegal r.reply r.view cut book) o is)
    (record {
      record_is = refl;
      cut_is = refl;
      stance = refl;
      kept = λ n g h. h;
      ticks = λ n kept g before after h. h;
    })

-- Where a verdict and the kept order make an outcome with one record and one seen cut, they make one
-- with each.
pub some_outcome : (r told : Record) (cut shown : List ℕ) (v : CallVerdict) (s : Option KeptOrder)
    (P : Outcome → Type 0) → IsOutcome r cut v s P → IsSome (outcome_of told shown v s)
some_outcome r told cut shown Delivered None P is = absurd is
some_outcome r told cut shown Delivered (Some s) P is = refl
some_outcome r told cut shown (Illegal book) s P is = refl

-- An outcome that is made with the record `told` and the cut `shown` is made with those that are
-- equal to them.
pub made_from : (r told : Record) (cut shown : List ℕ) (v : CallVerdict) (s : Option KeptOrder)
    (o : Outcome) → told ≡ r → shown ≡ cut → outcome_of told shown v s ≡ Some o
    → IsMadeOf r cut v s o
made_from r told cut shown v s o same_record same_cut is =
    subst (λ (x : Record). IsMadeOf x cut v s o) same_record
    (subst (λ (x : List ℕ). IsMadeOf told x v s o) same_cut (made_of told shown v s o is))

-- What is true of the outcome of a record and a seen cut is true of the outcome that is made with those
-- that are equal to them.
pub true_of_made : (r told : Record) (cut shown : List ℕ) (v : CallVerdict) (s : Option KeptOrder)
    (o : Outcome) (P : Outcome → Type 0) → told ≡ r → shown ≡ cut
    → outcome_of told shown v s ≡ Some o → IsOutcome r cut v s P → P o
true_of_made r told cut shown v s o P same_record same_cut is holds =
    let made : outcome_of r cut v s ≡ Some o =
    subst (λ (x : Record). outcome_of x cut v s ≡ Some o) same_record
    (subst (λ (x : List ℕ). outcome_of told x v s ≡ Some o) same_cut is) in
    subst (λ (x : Option Outcome). IsSomeAnd x P) made holds

-- A verdict that is right by what its caller has peeked makes a right end of its call's line.
pub verdicts_end_lines : (spec : SeqSpec) (n : ℕ) (l : Local) (r : Record) (cut : List ℕ)
    (v : CallVerdict) (s : Option KeptOrder) → IsOutcome r cut v s (IsRightByPeeks spec n l)
    → IsJudgedBy spec n l (line_judged r cut v)
verdicts_end_lines spec n l r cut Delivered None is = absurd is
verdicts_end_lines spec n l r cut Delivered (Some s) (book, gathered, legal) =
    (book, gathered, (s.order.items, legal))
verdicts_end_lines spec n l r cut (Illegal carried) s (book, gathered, (same, none)) =
    (book, gathered, none)
