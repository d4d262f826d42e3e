use Rattle.certificate_text.specs.declared.order_verdict.OrderVerdict.TheVariants.{Legal, Faulty}
use Rattle.selfcheck_c.proofs.selfcheck_order.Goals as goal

pub returns-in-Ok-Legal-clause-illegal_told : goal.returns-in-Ok-Legal-clause-illegal_told
returns-in-Ok-Legal-clause-illegal_told c =
    λ h. let e = c.in-Ok-Legal.ensures.only (Faulty h.0) h.1 in absurd (cc e)

pub returns-in-Ok-Legal-clause-fault_told : goal.returns-in-Ok-Legal-clause-fault_told
returns-in-Ok-Legal-clause-fault_told c = λ fault h. absurd (c.in-Ok-Legal.ensures.first fault h)

pub returns-in-Ok-Faulty-clause-legal_told : goal.returns-in-Ok-Faulty-clause-legal_told
returns-in-Ok-Faulty-clause-legal_told c =
    λ h. let e = c.in-Ok-Faulty.ensures.only Legal h in absurd (cc e)

pub returns-in-Ok-Faulty-clause-fault_told : goal.returns-in-Ok-Faulty-clause-fault_told
returns-in-Ok-Faulty-clause-fault_told c = λ fault h. absurd (c.in-Ok-Faulty.ensures.first fault h)

pub returns-in-Err-Text-clause-legal_told : goal.returns-in-Err-Text-clause-legal_told
returns-in-Err-Text-clause-legal_told c =
    λ h. let e = c.in-Err-Text.ensures.only Legal h in absurd (cc e)

pub returns-in-Err-Text-clause-illegal_told : goal.returns-in-Err-Text-clause-illegal_told
returns-in-Err-Text-clause-illegal_told c =
    λ h. let e = c.in-Err-Text.ensures.only (Faulty h.0) h.1 in absurd (cc e)
