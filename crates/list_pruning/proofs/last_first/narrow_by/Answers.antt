use Rattle.std.proofs.Common.{refl, arith}
use Rattle.search_hints.proofs.PruningLemmas.{all_next_suffice}
use Rattle.list_pruning.proofs.StackTaking.{last_take_suffices}
use Rattle.list_pruning.proofs.Pairing.{paired_put_suffices}
use Rattle.list_pruning.proofs.Keeping.{kept_put_suffices}
use Rattle.list_pruning.proofs.Answering.{needed_suffice}
use Rattle.list_pruning.proofs.Representing.{takes_last, puts_paired_in, puts_kept, puts_needless}
use Rattle.list_pruning.proofs.last_first.narrow_by.Goals as goal

pub returns-in-Some-clause-suffice : goal.returns-in-Some-clause-suffice
returns-in-Some-clause-suffice g c next bound list is small stands =
    let book = c.args.book.now in
    let cut = c.args.cut.now in
    let caller = c.in-Some.caller in
    last_take_suffices (g.R.Reader.reading c.args.reader.now) next bound is book cut list caller
    c.only.result small
    c.callers-callers.ensures.valid c.requires.open (omega (arith, c.requires.wide))
    ((c.requires.marks caller).0 c.in-Some.ensures.marked)
    (takes_last (g.R.Reader.reading c.args.reader.now) book cut c.args.ends.now c.args.others.now
    list c.args.look caller stands c.in-Some.ensures.take) ((c.only.ensures caller).1 refl)

pub returns-in-Some-paired_put-clause-suffice : goal.returns-in-Some-paired_put-clause-suffice
returns-in-Some-paired_put-clause-suffice g c next bound list is small stands =
    let book = c.args.book.now in
    let cut = c.args.cut.now in
    let caller = c.in-Some-paired_put.caller in
    paired_put_suffices (g.R.Reader.reading c.args.reader.now) next bound is book cut list caller
    c.only-in-Some-paired_put.result small
    c.callers-callers.ensures.valid c.requires.open (omega (arith, c.requires.wide))
    ((c.requires.marks caller).0 c.in-Some-paired_put.ensures.marked)
    (puts_paired_in (g.R.Reader.reading c.args.reader.now) book cut c.args.ends.now
    c.args.others.now list c.args.look caller stands c.in-Some-paired_put.ensures.put)
    ((c.only-in-Some-paired_put.ensures caller).1 refl)

pub returns-in-Some-put_if_kept-clause-suffice : goal.returns-in-Some-put_if_kept-clause-suffice
returns-in-Some-put_if_kept-clause-suffice g c next bound list is small stands =
    let book = c.args.book.now in
    let cut = c.args.cut.now in
    let caller = c.in-Some-put_if_kept.caller in
    kept_put_suffices (g.R.Reader.reading c.args.reader.now) next bound is book cut list caller
    c.only-in-Some-put_if_kept.result small
    c.requires.open (omega (arith, c.requires.wide))
    ((c.requires.marks caller).0 c.in-Some-put_if_kept.ensures.marked)
    (puts_kept (g.R.Reader.reading c.args.reader.now) book cut c.args.ends.now c.args.others.now
    list c.args.look caller c.in-Some-put_if_kept.ensures.look stands
    c.in-Some-put_if_kept.ensures.put)
    ((c.only-in-Some-put_if_kept.ensures caller).1 refl)

pub returns-in-Some-forced_take-clause-suffice : goal.returns-in-Some-forced_take-clause-suffice
returns-in-Some-forced_take-clause-suffice g c next bound list is small stands =
    needed_suffice (g.R.Reader.reading c.args.reader.now) next bound is c.args.book.now
    c.callers-callers.ensures.valid c.requires.open c.args.cut.now list c.args.forced
    c.in-Some-forced_take.shown c.args.marks c.without_needless.result
    (omega (arith, c.requires.wide)) c.requires.forced c.in-Some-forced_take.ensures
    c.requires.marks
    (puts_needless (g.R.Reader.reading c.args.reader.now) c.args.book.now c.args.cut.now
    c.args.ends.now c.args.others.now list c.args.look c.in-Some-forced_take.shown
    c.args.marks c.without_needless.result stands c.without_needless.ensures.needless)

pub returns-in-None-clause-suffice : goal.returns-in-None-clause-suffice
returns-in-None-clause-suffice g c next bound list is small stands =
    all_next_suffice c.args.book.now next c.args.cut.now list c.args.forced c.args.marks
    c.requires.forced c.requires.marks
