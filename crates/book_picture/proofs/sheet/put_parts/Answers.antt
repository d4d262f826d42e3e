use Rattle.book_picture.specs.Bars.{shown_by}
use Rattle.book_picture.specs.Elements.{part_text}
use Rattle.book_picture.proofs.PlainTexts.{flat_turn, grows_nothing}
use Rattle.book_picture.proofs.sheet.put_parts.Goals as goal

pub loop-row-init : goal.loop-row-init
loop-row-init c = grows_nothing _

pub loop-row-preserved : goal.loop-row-preserved
loop-row-preserved c =
    flat_turn (part_text c.args.interval.now (shown_by c.args.label.now c.args.number))
    c.args.rows.now c.loop-row.row-index c.row-item.result _ _ _ c.loop-row-test.true c.row-item.is
    c.loop-row.invariant c.in_ok-put_part.ensures
