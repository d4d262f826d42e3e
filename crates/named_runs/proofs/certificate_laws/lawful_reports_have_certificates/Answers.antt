use Rattle.named_runs.proofs.CertificateLaws.{lawful_reports_have_an_order, certificates_need_an_order, delivered_replies_stand_in_the_order}
use Rattle.named_runs.proofs.certificate_laws.lawful_reports_have_certificates.Goals as goal

pub returns-clause-order : goal.returns-clause-order
returns-clause-order c = lawful_reports_have_an_order

pub returns-clause-only : goal.returns-clause-only
returns-clause-only c = certificates_need_an_order

pub returns-clause-replies : goal.returns-clause-replies
returns-clause-replies c = delivered_replies_stand_in_the_order
