use Rattle.broken_rules.proofs.Writing.{reads_give_the_last_write, reads_give_zero_at_first, writes_are_done}
use Rattle.broken_rules.proofs.object_laws.registers_give_the_last_write.Goals as goal

pub returns-clause-last : goal.returns-clause-last
returns-clause-last c = reads_give_the_last_write

pub returns-clause-first : goal.returns-clause-first
returns-clause-first c = reads_give_zero_at_first

pub returns-clause-done : goal.returns-clause-done
returns-clause-done c = writes_are_done
