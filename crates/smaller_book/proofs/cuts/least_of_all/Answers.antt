use Rattle.std.proofs.Common.{ℕ, ◌+◌, ◌<◌, List, length, set, sym, subst, inl, inr, arith}
use Rattle.std.proofs.lemmas.Bool.{cases_lt, cases_eq}
use Rattle.std.proofs.lemmas.List.{get_or_past}
use Rattle.seq_objects.specs.Objects.{kind_spec}
use Rattle.smaller_book.specs.Earliest.{IsIllegalCut, IsLeastAt}
use Rattle.smaller_book.proofs.LeastCuts.{least_stays, least_from_all}
use Rattle.smaller_book.proofs.cuts.least_of_all.Goals as goal

pub loop-caller-preserved : goal.loop-caller-preserved
loop-caller-preserved c =
    let spec = kind_spec c.args.kind in
    let book = c.args.book.now in
    let cut = c.loop-caller.least in
    let i = c.loop-caller.caller in
    let count = c.in_ok-count.count in
    let P : List ℕ → Type 0 = λ new. IsIllegalCut spec book new
    × ((j : ℕ) → j < i + 1 → IsLeastAt spec book new j) in
    let whole : P (set cut i count) = (
      c.in_ok-count.ensures.illegal,
      λ (j : ℕ) (less : j < i + 1). elim (cases_eq j i) [
        | inl e ↦ subst (λ (k : ℕ). IsLeastAt spec book (set cut i count) k)
            (sym e) c.in_ok-count.ensures.least
        | inr other ↦
            least_stays spec book cut i j count c.callers-caller-end.ensures.valid other
            c.in_ok-count.ensures.few
            (c.loop-caller.invariant.1 j (omega (arith, less, other)))
      ],
    ) in
    subst P (sym c.set.ensures) whole

pub returns : goal.returns
returns c =
    let cut = c.loop-caller.least in
    let inv = c.loop-caller.invariant in
    let callers = c.callers-caller-end.ensures in
    least_from_all (kind_spec c.args.kind) c.args.book.now cut callers.valid
    inv.0 (λ i. elim (cases_lt i (length cut)) [
      | inl inside ↦ inv.1 i (omega (arith, inside, inv.0.wide, callers.count))
      | inr past ↦ inl (get_or_past cut i 0 past)
    ])
