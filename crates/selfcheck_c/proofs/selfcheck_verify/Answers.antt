use Rattle.certificate_text.specs.declared.book_verdict.BookVerdict.TheVariants.{Legal, Illegal}
use Rattle.selfcheck_c.proofs.selfcheck_verify.Goals as goal

pub returns-in-Ok-Legal-clause-illegal_told : goal.returns-in-Ok-Legal-clause-illegal_told
returns-in-Ok-Legal-clause-illegal_told c =
    λ h. let e = c.in-Ok-Legal.ensures.only Illegal h in absurd (cc e)

pub returns-in-Ok-Legal-clause-fault_told : goal.returns-in-Ok-Legal-clause-fault_told
returns-in-Ok-Legal-clause-fault_told c = λ fault h. absurd (c.in-Ok-Legal.ensures.first fault h)

pub returns-in-Ok-Illegal-clause-legal_told : goal.returns-in-Ok-Illegal-clause-legal_told
returns-in-Ok-Illegal-clause-legal_told c =
    λ h. let e = c.in-Ok-Illegal.ensures.only Legal h in absurd (cc e)

pub returns-in-Ok-Illegal-clause-fault_told : goal.returns-in-Ok-Illegal-clause-fault_told
returns-in-Ok-Illegal-clause-fault_told c =
    λ fault h. absurd (c.in-Ok-Illegal.ensures.first fault h)

pub returns-in-Err-Text-clause-legal_told : goal.returns-in-Err-Text-clause-legal_told
returns-in-Err-Text-clause-legal_told c =
    λ h. let e = c.in-Err-Text.ensures.only Legal h in absurd (cc e)

pub returns-in-Err-Text-clause-illegal_told : goal.returns-in-Err-Text-clause-illegal_told
returns-in-Err-Text-clause-illegal_told c =
    λ h. let e = c.in-Err-Text.ensures.only Illegal h in absurd (cc e)
