use Rattle.book_picture.specs.declared.row.Row.{Row}
use Rattle.book_picture.specs.Heads.{lanes_text}
use Rattle.book_picture.proofs.PlainTexts.{flat_turn, grows_nothing}
use Rattle.book_picture.proofs.sheet.put_rows.Goals as goal

pub loop-row-init : goal.loop-row-init
loop-row-init c = grows_nothing _

pub loop-row-preserved : goal.loop-row-preserved
loop-row-preserved c =
    flat_turn (λ (row : Row). lanes_text row.top c.args.right c.args.callers)
    c.args.rows.now c.loop-row.row-index c.row-item.result _ _ _ c.loop-row-test.true c.row-item.is
    c.loop-row.invariant c.in_ok-put_lanes.ensures
