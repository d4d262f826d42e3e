use Rattle.std.proofs.Common.{◌^◌, arith}
use Rattle.list_laws.proofs.Decimals.{IfNone-narrowed}
use Rattle.seq_objects.proofs.digits.argument.Goals as goal

pub returns-clause-none : goal.returns-clause-none
returns-clause-none c =
    rw c.ok.ensures.value (IfNone-narrowed c.args.word.now c.in_ok-number.field-0 (2 ^ 32)
    c.try_from.result (omega arith) (omega arith) c.in_ok-number.ensures.found c.try_from.ensures)
