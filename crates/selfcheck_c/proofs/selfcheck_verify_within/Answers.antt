use Rattle.certificate_text.specs.declared.book_verdict.BookVerdict.TheVariants.{Legal, Illegal}
use Rattle.selfcheck_c.proofs.selfcheck_verify_within.Goals as goal

pub returns-in-Ok-Some-Legal-clause-illegal_told : goal.returns-in-Ok-Some-Legal-clause-illegal_told
returns-in-Ok-Some-Legal-clause-illegal_told c =
    λ h. let e = rw c.in-Ok-Some-Legal.field-0-is at (c.in-Ok-Some-Legal.ensures.only Illegal h) in
    absurd (cc e)

pub returns-in-Ok-Some-Legal-clause-fault_told : goal.returns-in-Ok-Some-Legal-clause-fault_told
returns-in-Ok-Some-Legal-clause-fault_told c =
    λ fault h. absurd (c.in-Ok-Some-Legal.ensures.first fault h)

pub returns-in-Ok-Some-Illegal-clause-legal_told : goal.returns-in-Ok-Some-Illegal-clause-legal_told
returns-in-Ok-Some-Illegal-clause-legal_told c =
    λ h. let e = rw c.in-Ok-Some-Illegal.field-0-is at (c.in-Ok-Some-Illegal.ensures.only Legal h) in
    absurd (cc e)

pub returns-in-Ok-Some-Illegal-clause-fault_told : goal.returns-in-Ok-Some-Illegal-clause-fault_told
returns-in-Ok-Some-Illegal-clause-fault_told c =
    λ fault h. absurd (c.in-Ok-Some-Illegal.ensures.first fault h)

pub returns-in-Ok-None-clause-fault_told : goal.returns-in-Ok-None-clause-fault_told
returns-in-Ok-None-clause-fault_told c =
    λ fault h. absurd (c.in-Ok-None.ensures.first fault h)

pub returns-in-Err-Text-clause-legal_told : goal.returns-in-Err-Text-clause-legal_told
returns-in-Err-Text-clause-legal_told c =
    λ h. let e = c.in-Err-Text.ensures.only Legal h in absurd (cc e)

pub returns-in-Err-Text-clause-illegal_told : goal.returns-in-Err-Text-clause-illegal_told
returns-in-Err-Text-clause-illegal_told c =
    λ h. let e = c.in-Err-Text.ensures.only Illegal h in absurd (cc e)
