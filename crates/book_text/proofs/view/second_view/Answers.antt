use Rattle.std.proofs.Common.{inr}
use Rattle.text_fields.specs.Counts.{pair_words}
use Rattle.book_text.proofs.WordTexts.{after_pairs}
use Rattle.book_text.proofs.view.second_view.Goals as goal

pub returns-in-Some-clause-none : goal.returns-in-Some-clause-none
returns-in-Some-clause-none c =
    inr (
      c.take_word.new.words,
      c.in_ok-take_word.ensures.found,
      inr (after_pairs (pair_words 0 c.in_ok-view.view) c.read_pairs.new.words c.take_word.new.words
          _ _ c.in_ok-view.ensures.found.2 c.in-Some.ensures c.in_ok-view.ensures.whole),
    )
