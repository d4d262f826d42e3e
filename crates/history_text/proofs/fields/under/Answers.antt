use Rattle.std.proofs.Common.{[], arith}
use Rattle.history_text.proofs.Stepping.{under_on, fields_named-uneven}
use Rattle.history_text.proofs.fields.under.Goals as goal

pub returns-then-row-names : goal.returns-then-row-names
returns-then-row-names c =
    fields_named-uneven c.args.names.now c.args.row.now c.if-row-names.true

pub loop-at-preserved : goal.loop-at-preserved
loop-at-preserved c =
    under_on c.loop-at.found.items c.push.new.self.items c.args.names.now c.args.row.now c.loop-at.at
    (record { ref_ptr = (0, 0); now = [] }) c.plain.result _ (omega arith) (omega arith)
    c.in_ok-push.ensures.items c.plain.ensures c.loop-at.invariant
