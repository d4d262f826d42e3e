use Rattle.text_fields.specs.declared.version.Version.TheVariants.{First}
use Rattle.client_scripts.proofs.Readings.{only_read, refused_read, first_read}
use Rattle.client_scripts.proofs.reader.read_script1.Goals as goal

pub returns-clause-only : goal.returns-clause-only
returns-clause-only c = only_read First c.args.bytes.now c.read_version.result
    c.read_version.ensures.found c.read_version.ensures.refused

pub returns-clause-refused : goal.returns-clause-refused
returns-clause-refused c =
    refused_read First c.args.bytes.now c.read_version.result c.read_version.ensures.refused

pub returns-clause-first : goal.returns-clause-first
returns-clause-first c = first_read First c.args.bytes.now c.read_version.result
    c.read_version.ensures.found c.read_version.ensures.refused
