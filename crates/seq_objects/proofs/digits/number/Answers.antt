use Rattle.std.proofs.Common.{subst, arith}
use Rattle.list_laws.proofs.Decimals.{BeginsAsNumber, BeginsAsNumber-decimal, IfSome-parsed, IfNone-parsed, decimal-other_bytes}
use Rattle.seq_objects.proofs.digits.number.Goals as goal

pub returns-then-not-begins_as_number-clause-none :
    goal.returns-then-not-begins_as_number-clause-none
returns-then-not-begins_as_number-clause-none c = λ n small same.
    let yes =
    c.begins_as_number.ensures.1 (subst BeginsAsNumber same (BeginsAsNumber-decimal n small)) in
    grind arith

pub returns-in_default-clause-none : goal.returns-in_default-clause-none
returns-in_default-clause-none c = decimal-other_bytes c.args.word.now c.in_default.ensures.cases.0

pub returns-clause-found : goal.returns-clause-found
returns-clause-found c =
    let begins = c.begins_as_number.ensures.0 c.if-not-begins_as_number.false in
    rw c.ok.ensures.value (IfSome-parsed c.args.word.now c.parse.result begins
    (rw c.in-Ok.ensures.cases.0 at c.parse.ensures.value.0))

pub returns-clause-none : goal.returns-clause-none
returns-clause-none c =
    rw c.ok.ensures.value (IfNone-parsed c.args.word.now c.parse.result
    (rw c.in-Ok.ensures.cases.0 at c.parse.ensures.value.0))
