use Rattle.std.proofs.Common.{◌∙◌, ℕ, List, Vec, Global, sym, ap, subst, arith}
use Rattle.book_base.specs.declared.call.Record.{Record}
use Rattle.row_gather.specs.Words.{AreWide, greatest_of}
use Rattle.row_gather.proofs.Counting.{greatest_in-more, records_at-map}
use Rattle.row_gather.proofs.held.held_calls.Goals as goal

pub raise_to_all-requires : goal.raise_to_all-requires
raise_to_all-requires c =
    let items : Vec Record Global → List Record = λ v. v.items in
    let at = records_at-map items c.args.lists.now c.loop-records.records-index
    c.records-item.result (omega arith) c.records-item.is in
    record {
      wide = subst (λ (n : ℕ). AreWide n c.deref.result.now) (sym c.loop-records.invariant.wide)
          (subst (AreWide c.args.n) (at ∙ sym c.deref.ensures.value)
          (c.requires.wide c.loop-records.records-index));
    }

pub loop-records-preserved : goal.loop-records-preserved
loop-records-preserved c =
    let items : Vec Record Global → List Record = λ v. v.items in
    record {
      wide = c.raise_to_all.ensures.wide ∙ c.loop-records.invariant.wide;
      counts = λ (i : ℕ).
          omega (
            arith,
            greatest_in-more items c.args.lists.now i c.loop-records.records-index
                c.records-item.result (omega arith) c.records-item.is,
            ap (λ (rs : List Record). greatest_of rs i) c.deref.ensures.value,
            c.raise_to_all.ensures.counts i,
            c.loop-records.invariant.counts i,
          );
    }
