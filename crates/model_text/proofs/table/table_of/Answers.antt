use Rattle.std.proofs.Common.{List, [], take, sym, subst}
use Rattle.std.proofs.lemmas.List.{take_more}
use Rattle.told_models.specs.Table.{Table}
use Rattle.model_text.specs.declared.told_line.ToldLine.{ToldLine}
use Rattle.model_text.specs.Told.{TellsAlike, told_table}
use Rattle.model_text.proofs.Tables.{alike-nothing, follow_to}
use Rattle.model_text.proofs.table.table_of.Goals as goal

pub loop-line-init : goal.loop-line-init
loop-line-init c = subst (λ (table : Table). TellsAlike (told_table []) table)
    (sym c.new-table.ensures) alike-nothing

pub tell-requires : goal.tell-requires
tell-requires c = (
  take c.loop-line.line-index c.args.told.now,
  follow_to c.args.told.now c.loop-line.line-index _ c.loop-line-test.true c.requires,
  c.loop-line.invariant,
)

pub loop-line-preserved : goal.loop-line-preserved
loop-line-preserved c = subst (λ (lines : List ToldLine). TellsAlike (told_table lines)
    c.tell.new.table) (sym (take_more c.args.told.now c.loop-line.line-index _ c.loop-line-test.true))
    (c.in_ok-tell.ensures (take c.loop-line.line-index c.args.told.now)
    (follow_to c.args.told.now c.loop-line.line-index _ c.loop-line-test.true c.requires)
    c.loop-line.invariant)
