use Rattle.std.proofs.Common.{◌∙◌, sym, arith}
use Rattle.std.proofs.lemmas.Option.{same_Some}
use Rattle.world_core.specs.Local.{fresh}
use Rattle.row_table.specs.Callers.{local_with, stance_of}
use Rattle.drv_wrapper.specs.Stands.{ready}
use Rattle.call_handles.proofs.table_handle.TableHandle.take_next.Goals as goal

pub returns-clause-fresh : goal.returns-clause-fresh
returns-clause-fresh c =
    let self = c.args.self.now in
    let caller = c.part-caller.result in
    let new = c.requires.sound.fresh_from self.next (omega arith) c.requires.left in (
      sym (same_Some fresh (local_with caller) (sym new.0 ∙ c.part-caller.ensures.local)),
      sym (same_Some ready (stance_of caller) (sym new.1 ∙ c.part-caller.ensures.stance)),
    )
