use Rattle.std.proofs.Common.{◌+◌, ℕ, List, sym, ap, subst, add-one, string_bytes}
use Rattle.book_picture.specs.Groups.{GrowsPlain}
use Rattle.book_picture.specs.Heads.{lanes_text}
use Rattle.book_picture.proofs.PlainTexts.{grows_then, grows_nothing}
use Rattle.book_picture.proofs.sheet.put_lanes.Goals as goal

pub loop-caller-init : goal.loop-caller-init
loop-caller-init c = grows_nothing _

pub loop-caller-preserved : goal.loop-caller-preserved
loop-caller-preserved c =
    subst (λ (n : ℕ). GrowsPlain (lanes_text c.args.top c.args.right n)
    (string_bytes c.args.out.now) (string_bytes c.put_lane.new.out))
    (sym (add-one c.loop-caller.caller))
    (grows_then _ _ _ _ _ c.loop-caller.invariant c.in_ok-put_lane.ensures)
