use Rattle.std.proofs.Common.{ℕ, List, ◌∷◌, decimal, subst, sym}
use Rattle.book_base.specs.OperationWord.{low_of}
use Rattle.seq_objects.specs.Words.{AppendsPrefix}
use Rattle.list_laws.proofs.Results.{OnErr-holds}
use Rattle.seq_objects.proofs.Prefixes.{AppendsPrefix-longer}
use Rattle.seq_objects.proofs.WholeDigits.{whole_digits-begins}
use Rattle.seq_objects.proofs.whole.put_whole.Goals as goal

pub returns-in_err-put_marked-clause-err : goal.returns-in_err-put_marked-clause-err
returns-in_err-put_marked-clause-err c =
    let old : List ℕ = c.args.out.now.items in
    let new : List ℕ = c.put_marked.new.out.items in
    let begins = whole_digits-begins c.args.op in
    let low : AppendsPrefix old new (c.args.mark ∷ decimal (low_of c.args.op)) =
    rw c.low.ensures at c.in_err-put_marked.ensures.err in
    OnErr-holds c.from_residual.result
    (subst (λ ds. AppendsPrefix old new (c.args.mark ∷ ds)) (sym begins.1)
    (AppendsPrefix-longer old new (c.args.mark ∷ decimal (low_of c.args.op)) begins.0 low))
