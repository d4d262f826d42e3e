use Rattle.std.proofs.Common.{ℕ, ◌+◌, ◌<◌, length, get_or, sym, subst, inl, inr, arith}
use Rattle.std.proofs.lemmas.Bool.{cases_lt, cases_eq}
use Rattle.std.proofs.lemmas.List.{get_or_past}
use Rattle.seq_objects.specs.Objects.{kind_spec}
use Rattle.smaller_book.specs.Earliest.{IsLegalBelow}
use Rattle.smaller_book.proofs.LeastCuts.{legal_below_stays}
use Rattle.smaller_book.proofs.open_cuts.least_open_cut.Goals as goal

pub loop-caller-preserved : goal.loop-caller-preserved
loop-caller-preserved c =
    let spec = kind_spec c.args.kind in
    let book = c.args.book.now in
    let before = c.loop-caller.least in
    let cut = c.in_ok-least.least in
    let within = c.in_ok-least.ensures.within in
    let i = c.loop-caller.caller in (
      c.in_ok-least.ensures.illegal,
      λ (j : ℕ) (less : j < i + 1). elim (cases_eq j i) [
        | inl e ↦
            subst (λ (k : ℕ). IsLegalBelow spec book cut k (get_or cut k 0)) (sym e)
            c.in_ok-least.ensures.least
        | inr other ↦
            legal_below_stays spec book before cut j (get_or before j 0) (get_or cut j 0)
            within (within j) (c.loop-caller.invariant.1 j (omega (arith, less, other)))
      ],
    )

pub returns : goal.returns
returns c =
    let cut = c.loop-caller.least in
    let inv = c.loop-caller.invariant in
    record {
      here = inv.0;
      least = λ i. elim (cases_lt i (length cut)) [
        | inl inside ↦
            inv.1 i (omega (arith, inside, inv.0.wide, c.callers-caller-end.ensures.count))
        | inr past ↦ λ other within less one. absurd
            (omega (arith, get_or_past cut i 0 past, less))
      ];
    }
