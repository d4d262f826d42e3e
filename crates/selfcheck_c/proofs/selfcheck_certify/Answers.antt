use Rattle.std.proofs.Common.{arith}
use Rattle.selfcheck_c.proofs.selfcheck_certify.Goals as goal

pub returns-then-put-clause-fault_told : goal.returns-then-put-clause-fault_told
returns-then-put-clause-fault_told c = λ fault h. absurd (c.in-Ok-Some.ensures.first fault h)

pub returns-in-Ok-Some-clause-unheld : goal.returns-in-Ok-Some-clause-unheld
returns-in-Ok-Some-clause-unheld c = λ _.
    let certified = rw c.in-Ok-Some.field-0-is at c.in-Ok-Some.ensures.certificate in
    (c.in-Ok-Some.certificate.items, certified, omega (arith, c.len.ensures))

pub returns-in-Ok-Some-clause-fault_told : goal.returns-in-Ok-Some-clause-fault_told
returns-in-Ok-Some-clause-fault_told c = λ fault h. absurd (c.in-Ok-Some.ensures.first fault h)

pub returns-in-Ok-None-clause-fault_told : goal.returns-in-Ok-None-clause-fault_told
returns-in-Ok-None-clause-fault_told c = λ fault h. absurd (c.in-Ok-None.ensures.first fault h)
