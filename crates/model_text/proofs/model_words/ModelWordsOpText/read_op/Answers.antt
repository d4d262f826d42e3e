use Rattle.std.proofs.Common.{ℕ, ◌+◌, ◌^◌, ap}
use Rattle.std.specs.Prelude.{option_copied}
use Rattle.std.proofs.lemmas.Bool.{both_ways}
use Rattle.seq_objects.specs.Words.{further}
use Rattle.model_text.proofs.ModelWordTexts.{spelled_numbered, not_spelled_numbered, spelled_other, not_spelled_other}
use Rattle.model_text.proofs.model_words.ModelWordsOpText.read_op.Goals as goal

pub returns-in_err-number-clause-none : goal.returns-in_err-number-clause-none
returns-in_err-number-clause-none c = rw c.from_residual.ensures
    (not_spelled_numbered c.args.first.now (option_copied c.args.second) (option_copied c.args._third)
    (c.is_name.ensures.0 c.if-is_name.true) c.in_err-number.ensures.none)

pub returns-then-is_name-clause-found : goal.returns-then-is_name-clause-found
returns-then-is_name-clause-found c =
    spelled_numbered c.args.first.now (option_copied c.args.second) (option_copied c.args._third)
    c.in_ok-number.number _ (c.is_name.ensures.0 c.if-is_name.true)
    c.in_ok-number.ensures.found.0 c.in_ok-number.ensures.found.1
    (ap (λ (n : ℕ). 2 ^ 32 + n) c.from.ensures)

pub returns-in_err-op-clause-none : goal.returns-in_err-op-clause-none
returns-in_err-op-clause-none c = rw c.from_residual-in_err-op.ensures
    (not_spelled_other c.args.first.now
    (further (option_copied c.args.second) (option_copied c.args._third))
    (λ name. both_ways c.is_name.result c.if-is_name.false (c.is_name.ensures.1 name))
    c.in_err-op.ensures.none)

pub returns-clause-found : goal.returns-clause-found
returns-clause-found c =
    spelled_other c.args.first.now
    (further (option_copied c.args.second) (option_copied c.args._third)) c.in_ok-op.op
    c.in_ok-op.ensures.found.0 c.in_ok-op.ensures.found.1 c.in_ok-op.ensures.found.2
