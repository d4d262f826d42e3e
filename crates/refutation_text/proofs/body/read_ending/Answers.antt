use Rattle.std.proofs.lemmas.Result.{err_from_is_err_and}
use Rattle.refutation_text.proofs.Parts.{no_rest}
use Rattle.refutation_text.proofs.body.read_ending.Goals as goal

pub returns-in_err-read_entries-in-Closed-clause-refused :
    goal.returns-in_err-read_entries-in-Closed-clause-refused
returns-in_err-read_entries-in-Closed-clause-refused c =
    let p = err_from_is_err_and c.from_residual.result c.from_residual.ensures.1 in
    rw (p.1, p.2, c.in-Closed.is) c.in_err-read_entries-in-Closed.ensures.refused

pub returns-in_err-read_pairs-in-Pairs-clause-refused :
    goal.returns-in_err-read_pairs-in-Pairs-clause-refused
returns-in_err-read_pairs-in-Pairs-clause-refused c =
    let p = err_from_is_err_and c.from_residual-in_err-read_pairs-in-Pairs.result
    c.from_residual-in_err-read_pairs-in-Pairs.ensures.1 in
    rw (p.1, p.2, c.in-Pairs.is) c.in_err-read_pairs-in-Pairs.ensures.refused

pub returns-in_err-read_levels-in-Levels-clause-refused :
    goal.returns-in_err-read_levels-in-Levels-clause-refused
returns-in_err-read_levels-in-Levels-clause-refused c =
    let p = err_from_is_err_and c.from_residual-in_err-read_levels-in-Levels.result
    c.from_residual-in_err-read_levels-in-Levels.ensures.1 in
    rw (p.1, p.2, c.in-Levels.is) c.in_err-read_levels-in-Levels.ensures.refused

pub returns-in_err-read_end-in_default : goal.returns-in_err-read_end-in_default
returns-in_err-read_end-in_default c =
    let p = err_from_is_err_and c.from_residual-in_err-read_end-in_default.result
    c.from_residual-in_err-read_end-in_default.ensures.1 in
    rw (p.1, p.2) (record {
      found = tt;
      refused = no_rest c.args.begun c.args.lines.now c.in_err-read_end-in_default.field-0.0
          c.in_default.not-Closed c.in_default.not-Pairs c.in_default.not-Levels
          c.in_err-read_end-in_default.ensures.refused;
    })
