use Rattle.std.proofs.Common.{◌≡◌, ℕ, List, ◌++◌, ◌∷◌, decimal, ◌∙◌}
use Rattle.seq_objects.specs.Words.{argument_of, extra_of, AppendsPrefix}
use Rattle.list_laws.proofs.Results.{OnErr-holds, OnErr_then}
use Rattle.seq_objects.proofs.Prefixes.{AppendsPrefix-after, AppendsPrefix-longer}
use Rattle.seq_objects.proofs.entry.put_arguments.Goals as goal

pub returns-in_err-put_marked-in-Binary-clause-err :
    goal.returns-in_err-put_marked-in-Binary-clause-err
returns-in_err-put_marked-in-Binary-clause-err c =
    let argument : c.from-in-Binary.result ≡ argument_of c.args.word =
    c.from-in-Binary.ensures ∙ c.argument_of-in-Binary.ensures in
    let prefix : AppendsPrefix c.args.out.now.items c.put_marked-in-Binary.new.out.items
    (32 ∷ decimal (argument_of c.args.word)) =
    rw argument at c.in_err-put_marked-in-Binary.ensures.err in
    rw c.in-Binary.is (OnErr-holds c.from_residual.result
    (AppendsPrefix-longer c.args.out.now.items c.put_marked-in-Binary.new.out.items
    (32 ∷ decimal (argument_of c.args.word)) (32 ∷ decimal (extra_of c.args.word)) prefix))

pub returns-in_ok-put_marked-in-Binary-clause-err :
    goal.returns-in_ok-put_marked-in-Binary-clause-err
returns-in_ok-put_marked-in-Binary-clause-err c =
    let old : List ℕ = c.args.out.now.items in
    let mid : List ℕ = c.put_marked-in-Binary.new.out.items in
    let new : List ℕ = c.put_marked-in-Binary-2.new.out.items in
    let first : List ℕ = 32 ∷ decimal (argument_of c.args.word) in
    let argument : c.from-in-Binary.result ≡ argument_of c.args.word =
    c.from-in-Binary.ensures ∙ c.argument_of-in-Binary.ensures in
    let written : mid ≡ old ++ first = rw argument at c.in_ok-put_marked-in-Binary.ensures.ok in
    let second = rw c.high.ensures at c.put_marked-in-Binary-2.ensures.err in
    rw c.in-Binary.is (OnErr_then c.put_marked-in-Binary-2.result second
    (AppendsPrefix-after old mid new first (32 ∷ decimal (extra_of c.args.word)) written))
