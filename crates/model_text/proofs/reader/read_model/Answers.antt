use Rattle.model_text.proofs.Readings.{only_read, refused_read, first_read}
use Rattle.model_text.proofs.ReadTexts.{follow_read}
use Rattle.model_text.proofs.reader.read_model.Goals as goal

pub returns-clause-only : goal.returns-clause-only
returns-clause-only c = only_read c.args.bytes.now c.read_parts.result c.read_parts.ensures.found
    c.read_parts.ensures.refused

pub returns-clause-refused : goal.returns-clause-refused
returns-clause-refused c =
    refused_read c.args.bytes.now c.read_parts.result c.read_parts.ensures.refused

pub returns-clause-first : goal.returns-clause-first
returns-clause-first c = first_read c.args.bytes.now c.read_parts.result c.read_parts.ensures.found
    c.read_parts.ensures.refused

pub returns-clause-follow : goal.returns-clause-follow
returns-clause-follow c =
    follow_read c.args.bytes.now c.read_parts.result c.read_parts.ensures.found
