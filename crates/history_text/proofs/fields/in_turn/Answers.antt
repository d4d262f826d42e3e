use Rattle.std.proofs.Common.{[], ap, Vec, Global, ◌∙◌}
use Rattle.history_text.specs.declared.fields.Field.{Field}
use Rattle.history_text.proofs.Stepping.{names_on, values_on}
use Rattle.history_text.proofs.fields.in_turn.Goals as goal
use Rattle.history_text.proofs.fields.in_turn.Goals.{in-None, in-Some+in_ok-push-in-Some}

pub loop-item-preserved : goal.loop-item-preserved
loop-item-preserved c =
    let items = λ (v : Vec Field Global). v.items in
    elim c.match-name.branch [
      | in-None w ↦
          names_on c.loop-item.found.items c.match-name.found.items c.loop-item.name
          c.match-name.name c.args.items.now c.loop-item.item-index
          (record { ref_ptr = (0, 0); now = [] }) _ c.loop-item-test.true w.in-None.is w.name-is
          (ap items w.found-is) c.loop-item.invariant
      | in-Some+in_ok-push-in-Some w ↦
          values_on c.loop-item.found.items c.match-name.found.items c.loop-item.name
          c.match-name.name w.in-Some.before w.plain.result c.args.items.now c.loop-item.item-index
          (record { ref_ptr = (0, 0); now = [] }) _ c.loop-item-test.true w.in-Some.is w.name-is
          (ap items w.found-is ∙ w.in_ok-push-in-Some.ensures.items) w.plain.ensures
          c.loop-item.invariant
    ]
