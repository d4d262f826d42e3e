use Rattle.std.proofs.Common.{◌≡◌, ℕ, ◌+◌, ◌-◌, ◌<◌, ◌≤◌, ◌⊎◌, List, set, get_or, length, subst, inr, arith}
use Rattle.book_base.specs.BookAt.{book_at}
use Rattle.book_base.specs.Order.{HasLegalOrder}
use Rattle.seq_objects.specs.Objects.{kind_spec}
use Rattle.smaller_book.specs.Earliest.{IsIllegalCut}
use Rattle.smaller_book.proofs.LeastCuts.{least_from_search, set-within_answered}
use Rattle.smaller_book.proofs.cuts.least_count.Goals as goal

pub loop-low-preserved : goal.loop-low-preserved
loop-low-preserved c =
    let inv = c.loop-low.invariant in
    let middle : ℕ = c.loop-low.high - c.clamp.result in
    let at : List ℕ → Type 0 = λ cut.
    HasLegalOrder (kind_spec c.args.kind) (book_at cut c.args.book.now) in
    let legal : at (set c.args.cut.now c.args.caller middle) =
    subst at c.with_count-tried.ensures (c.in_ok-is_illegal_at.ensures.legal c.if-branch.false) in
    let next : middle ≡ middle + 1 - 1 = omega arith in (
      omega arith,
      inv.1,
      inv.2,
      inr (subst (λ (n : ℕ). at (set c.args.cut.now c.args.caller n)) next legal),
    )

pub loop-low-preserved-then-branch : goal.loop-low-preserved-then-branch
loop-low-preserved-then-branch c =
    let inv = c.loop-low.invariant in
    let spec = kind_spec c.args.kind in
    let book = c.args.book.now in
    let middle : ℕ = c.loop-low.high - c.clamp.result in
    let few : middle ≤ get_or c.args.cut.now c.args.caller 0 = omega (arith, inv.1) in
    let fits =
    set-within_answered spec book c.args.cut.now c.args.caller middle c.requires.cut few in
    let none : List ℕ → Type 0 = λ cut. ¬ (HasLegalOrder spec (book_at cut book)) in
    let here : IsIllegalCut spec book (set c.args.cut.now c.args.caller middle) = record {
      wide = fits.0;
      within = fits.1;
      illegal = subst none c.with_count-tried.ensures
          (c.in_ok-is_illegal_at.ensures.illegal c.if-branch.true);
    } in
    (omega arith, few, here, inv.3)

pub returns-clause-least : goal.returns-clause-least
returns-clause-least c =
    let inv = c.loop-low.invariant in
    let at : List ℕ → Type 0 = λ cut.
    HasLegalOrder (kind_spec c.args.kind) (book_at cut c.args.book.now) in
    let same : c.loop-low.low ≡ c.loop-low.high = omega arith in
    let inside : c.args.caller < length c.args.cut.now =
    omega (arith, c.requires.caller, c.requires.cut.wide) in
    least_from_search (kind_spec c.args.kind) c.args.book.now c.args.cut.now c.args.caller
    c.loop-low.high inside
    (subst (λ (n : ℕ). (n ≡ 0) ⊎ at (set c.args.cut.now c.args.caller (n - 1))) same inv.3)
