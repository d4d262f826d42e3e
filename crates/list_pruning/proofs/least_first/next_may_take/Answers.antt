use Rattle.std.proofs.Common.{◌≡◌, ℕ, Some, sym, subst, arith}
use Rattle.book_base.specs.Book.{operation_of}
use Rattle.list_pruning.specs.HoldsLast.{ReadsOutside}
use Rattle.list_pruning.proofs.Wanting.{answered_takes}
use Rattle.list_pruning.proofs.least_first.next_may_take.Goals as goal

pub returns-then-not-has : goal.returns-then-not-has
returns-then-not-has g c untrue may could =
    let is = c.has.ensures.1 ((c.requires.marks c.args.caller).1 may) in
    let lacks = c.if-not-has.true in
    absurd cc

pub returns-then-number-answers : goal.returns-then-number-answers
returns-then-number-answers g c untrue may could =
    let reading = g.R.Reader.reading c.args.reader.now in
    let book = c.args.book.now in
    let cut = c.args.cut.now in
    let caller : ℕ = c.args.caller in
    let value : ℕ = c.args.value in
    answered_takes reading book cut value caller
    (omega (arith, c.if-number-answers.true, c.answers.ensures, c.get-number.ensures))
    (λ reads. let is = c.reads_outside.ensures.1 (subst (λ (n : ℕ). ReadsOutside reading book cut
    value (record { caller = caller; number = n })) (sym c.get-number.ensures) reads) in absurd cc)
    could

pub returns : goal.returns
returns g c untrue may could =
    let book = c.args.book.now in
    let caller : ℕ = c.args.caller in
    c.is_take.ensures untrue could.op (subst (λ (n : ℕ). operation_of book
    (record { caller = caller; number = n }) ≡ Some could.op) (sym c.get-number.ensures)
    could.operation) could.takes
