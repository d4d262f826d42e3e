use Rattle.named_runs.proofs.RunLemmas.{certificates_are_legal, certificates_are_of_their_kind, certificates_tell_one_book}
use Rattle.named_runs.proofs.laws.certificates_are_legal_and_tell_one_book.Goals as goal

pub returns-clause-legal : goal.returns-clause-legal
returns-clause-legal c = certificates_are_legal

pub returns-clause-of_their_kind : goal.returns-clause-of_their_kind
returns-clause-of_their_kind c = certificates_are_of_their_kind

pub returns-clause-one_book : goal.returns-clause-one_book
returns-clause-one_book c = certificates_tell_one_book
