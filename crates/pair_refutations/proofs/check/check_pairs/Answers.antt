use Rattle.refutations.proofs.Judging.{IfOk-IsOk}
use Rattle.pair_refutations.specs.Fault.{IsFirstFault}
use Rattle.pair_refutations.proofs.Faults.{refutations_fail_no_test}
use Rattle.pair_refutations.proofs.check.check_pairs.Goals as goal

pub returns-clause-accepted : goal.returns-clause-accepted
returns-clause-accepted c refuted =
    let book = c.args.book.now in
    let entries = c.args.entries.now in
    IfOk-IsOk {P = IsFirstFault book entries} c.check_closed.result c.check_closed.ensures.fault
    (λ fault at. refutations_fail_no_test book entries refuted fault at.fails)
