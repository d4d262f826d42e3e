use Rattle.std.proofs.Common.{◌∙◌, ap, arith}
use Rattle.row_table.specs.declared.rows.Rows.{Rows}
use Rattle.call_handles.proofs.table_handle.TableHandle.modelled.Goals as goal

pub take_next-caller-requires-clause-left : goal.take_next-caller-requires-clause-left
take_next-caller-requires-clause-left c =
    omega (
      arith,
      c.requires.sound.few,
      c.if-self-callers.false,
      c.callers.ensures,
      ap (λ (r : Rows _). r.callers) c.deref.ensures,
    )

pub returns-clause-given : goal.returns-clause-given
returns-clause-given c =
    let taken = c.take_next-caller in (
      c.new.ensures.rows ∙ c.in_ok-rows.ensures,
      c.new.ensures.table,
      (
        taken.result,
        c.new.ensures.idle,
        taken.ensures.who,
        taken.ensures.fresh.0,
        taken.ensures.fresh.1,
      ),
    )
