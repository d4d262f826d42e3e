use Rattle.set_order.proofs.SharpSetBooks.{only_read, refused_read, first_read}
use Rattle.set_order.proofs.reader.read_setbook.Goals as goal

pub returns-clause-only : goal.returns-clause-only
returns-clause-only c = only_read c.args.bytes.now c.read_text.result c.read_text.ensures.found
    c.read_text.ensures.refused

pub returns-clause-refused : goal.returns-clause-refused
returns-clause-refused c =
    refused_read c.args.bytes.now c.read_text.result c.read_text.ensures.refused

pub returns-clause-first : goal.returns-clause-first
returns-clause-first c = first_read c.args.bytes.now c.read_text.result c.read_text.ensures.found
    c.read_text.ensures.refused
