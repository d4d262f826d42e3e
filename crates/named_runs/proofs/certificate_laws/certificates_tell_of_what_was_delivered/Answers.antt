use Rattle.named_runs.proofs.CertificateLaws.{certificates_are_read, certificates_have_one_book}
use Rattle.named_runs.proofs.certificate_laws.certificates_tell_of_what_was_delivered.Goals as goal

pub returns-clause-read : goal.returns-clause-read
returns-clause-read c = certificates_are_read

pub returns-clause-one_book : goal.returns-clause-one_book
returns-clause-one_book c = certificates_have_one_book
