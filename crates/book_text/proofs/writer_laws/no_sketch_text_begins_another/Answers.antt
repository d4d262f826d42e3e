use Rattle.book_text.proofs.Prefixes.{no_sketch_prefix}
use Rattle.book_text.proofs.writer_laws.no_sketch_text_begins_another.Goals as goal

pub returns : goal.returns
returns c = no_sketch_prefix
