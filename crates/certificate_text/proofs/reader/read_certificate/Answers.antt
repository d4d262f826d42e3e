use Rattle.certificate_text.proofs.Readings.{only_read, refused_read, first_read}
use Rattle.certificate_text.proofs.reader.read_certificate.Goals as goal

pub returns-clause-only : goal.returns-clause-only
returns-clause-only c = only_read c.args.bytes.now c.read_parts.result c.read_parts.ensures.found
    c.read_parts.ensures.refused

pub returns-clause-refused : goal.returns-clause-refused
returns-clause-refused c =
    refused_read c.args.bytes.now c.read_parts.result c.read_parts.ensures.refused

pub returns-clause-first : goal.returns-clause-first
returns-clause-first c = first_read c.args.bytes.now c.read_parts.result c.read_parts.ensures.found
    c.read_parts.ensures.refused
