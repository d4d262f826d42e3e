use Rattle.std.proofs.Common.{inr}
use Rattle.text_fields.specs.Counts.{pair_words}
use Rattle.book_text.proofs.WordTexts.{after_pairs}
use Rattle.report_text.proofs.fields.read_seen.Goals as goal

pub returns-in-Some-clause-none : goal.returns-in-Some-clause-none
returns-in-Some-clause-none c =
    inr (after_pairs (pair_words 0 c.in_ok-cut.cut) c.read_pairs.new.words c.args.words.now _ _
    c.in_ok-cut.ensures.found.2 c.in-Some.ensures c.in_ok-cut.ensures.whole)
