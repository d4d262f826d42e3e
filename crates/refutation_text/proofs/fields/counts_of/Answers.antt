use Rattle.std.proofs.Common.{sym, subst, ◌∙◌, arith}
use Rattle.text_fields.specs.Counts.{pair_words, HasBadPair, HasWordAfterPairs}
use Rattle.text_fields.proofs.NumberTexts.{same_first}
use Rattle.book_text.proofs.EntryTexts.{pairs_not_bad, pairs_not_words}
use Rattle.book_text.proofs.WordTexts.{after_pairs}
use Rattle.refutation_text.specs.declared.TheConstants.{STEP_CALLERS}
use Rattle.refutation_text.proofs.fields.counts_of.Goals as goal

pub returns-in_err-counts-clause-none : goal.returns-in_err-counts-clause-none
returns-in_err-counts-clause-none c =
    rw c.from_residual-in_err-counts.ensures (λ counts may text.
    pairs_not_bad STEP_CALLERS counts 0 0 (omega arith) (omega (arith, may.0)) (omega arith) may.1
    (subst (HasBadPair STEP_CALLERS 0)
    (same_first _ _ _ _ (sym c.in_ok-take_word.ensures.found ∙ text)).1
    c.in_err-counts.ensures.none))

pub returns-in-Some-clause-none : goal.returns-in-Some-clause-none
returns-in-Some-clause-none c = λ counts may text.
    pairs_not_words 0 counts (omega (arith, may.0)) (subst HasWordAfterPairs
    (same_first _ _ _ _ (sym c.in_ok-take_word.ensures.found ∙ text)).1
    (after_pairs (pair_words 0 c.in_ok-counts.counts) c.read_pairs.new.words c.take_word.new.words
    _ _ c.in_ok-counts.ensures.found.2 c.in-Some.ensures c.in_ok-counts.ensures.whole))
