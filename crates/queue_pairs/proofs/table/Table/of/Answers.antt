use Rattle.std.proofs.Common.{◌≡◌, ◌∙◌, ℕ, ◌+◌, List, [], ◌∷◌, ◌++◌, map, length, sym, ap, subst, arith}
use Rattle.std.proofs.lemmas.List.{map-append}
use Rattle.queue_pairs.specs.declared.table.TimedCall.{TimedCall}
use Rattle.queue_pairs.specs.Tables.{AreRowsTo, AreFindsTo}
use Rattle.queue_pairs.proofs.Tabling.{rows-none, rows-more, finds-none}
use Rattle.queue_pairs.proofs.table.Table.of.Goals as goal

pub loop-caller-init : goal.loop-caller-init
loop-caller-init g c =
    let reading = g.R.Reader.reading c.args.reader.now in
    let book = c.args.book.now in
    record {
      rows = subst (λ (rows : List (List TimedCall)). AreRowsTo reading book 0 rows)
          (sym (ap (map (λ row. row.items)) c.new-rows.ensures.items)) (rows-none reading book);
      finds = subst (AreFindsTo reading book 0 0) (sym c.new-finds.ensures.items)
          (finds-none reading book);
    }

pub loop-caller-preserved : goal.loop-caller-preserved
loop-caller-preserved g c =
    let reading = g.R.Reader.reading c.args.reader.now in
    let book = c.args.book.now in
    let i : ℕ = c.loop-caller.caller in
    let h = c.loop-caller.invariant in
    let pushed : map (λ row. row.items) c.push.new.self.items
    ≡ map (λ row. row.items) c.loop-caller.rows.items ++ c.in_ok-row.row.items ∷ []
    = ap (map (λ row. row.items)) c.in_ok-push.ensures.items
    ∙ map-append (λ row. row.items) c.loop-caller.rows.items (c.in_ok-row.row ∷ []) in
    record {
      rows =
          subst (λ (rows : List (List TimedCall)). AreRowsTo reading book (i + 1) rows) (sym pushed)
          (rows-more reading book i (map (λ row. row.items) c.loop-caller.rows.items)
          c.in_ok-row.row.items h.rows c.in_ok-row.ensures.row);
      finds = c.in_ok-row.ensures.finds;
    }

pub returns : goal.returns
returns g c =
    let reading = g.R.Reader.reading c.args.reader.now in
    let book = c.args.book.now in
    let all : c.loop-caller.caller ≡ length book =
    omega (arith, c.callers-caller-end.ensures.count, c.loop-caller-test.false) in
    record {
      valid = c.callers-caller-end.ensures.valid;
      small = c.callers-caller-end.ensures.small;
      rows = subst
          (λ (n : ℕ). AreRowsTo reading book n (map (λ row. row.items) c.loop-caller.rows.items))
          all c.loop-caller.invariant.rows;
      finds = subst (λ (n : ℕ). AreFindsTo reading book n 0 c.loop-caller.finds.items) all
          c.loop-caller.invariant.finds;
    }
