use Rattle.std.proofs.Common.{refl, sym, ap, inr, arith}
use Rattle.std.proofs.lemmas.Bool.{true≢false}
use Rattle.book_base.specs.declared.call.Call.{Call}
use Rattle.seq_objects.specs.Words.{is_known_word, entry_of, entries}
use Rattle.judging_examples.proofs.rules.counts_go_up.Goals as goal

pub returns-clause-unseen : goal.returns-clause-unseen
unfolding is_known_word entry_of entries
returns-clause-unseen c = record {
  first = omega arith;
  second = omega arith;
  kept = refl;
  fit = refl;
  related = (refl, omega arith);
  puts = λ call inside. tt;
  takes = λ call inside. tt;
}

pub returns-clause-none : goal.returns-clause-none
unfolding is_known_word entry_of entries
returns-clause-none c = λ breaks. omega (arith, breaks.related.1)

pub returns-clause-twice : goal.returns-clause-twice
unfolding is_known_word entry_of entries
returns-clause-twice c = record {
  first = omega arith;
  second = omega arith;
  kept = refl;
  fit = refl;
  related = λ e. omega (arith, ap (λ (call : Call). call.caller) e);
  puts = λ call inside. tt;
  takes = λ call inside. tt;
}

pub returns-clause-once : goal.returns-clause-once
unfolding is_known_word entry_of entries
returns-clause-once c = λ breaks. true≢false (sym breaks.fit)

pub returns-clause-itself : goal.returns-clause-itself
returns-clause-itself c = λ breaks. breaks.related refl

pub returns-clause-down : goal.returns-clause-down
unfolding is_known_word entry_of entries
returns-clause-down c = record {
  first = omega arith;
  second = omega arith;
  kept = refl;
  fit = refl;
  related = inr (refl, omega arith);
  puts = λ call inside. tt;
  takes = λ call inside. tt;
}

pub returns-clause-up : goal.returns-clause-up
unfolding is_known_word entry_of entries
returns-clause-up c = λ breaks. true≢false (sym breaks.fit)
