use Rattle.std.proofs.Common.{Some, ap, ◌∙◌}
use Rattle.seq_objects.specs.Words.{kind_name}
use Rattle.call_handles.proofs.opening.open.Goals as goal

pub returns-clause-opened : goal.returns-clause-opened
returns-clause-opened c = λ _.
    let opened = c.in_ok-table.ensures in (
      c.in_ok-table.table,
      c.of.ensures ∙ ap Some c.in_ok-handle.ensures.ok,
      ap kind_name opened.kind ∙ c.in-Some.ensures.found,
      opened.sized.0,
      opened.sized.1,
      opened.first,
    )
