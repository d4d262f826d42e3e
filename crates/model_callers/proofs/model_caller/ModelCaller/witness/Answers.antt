use Rattle.std.proofs.Common.{subst}
use Rattle.model_callers.specs.declared.stage.ModelStage.{ModelStage}
use Rattle.model_callers.specs.Callers.{rows_of, table_of, IsSoundAt}
use Rattle.model_callers.proofs.model_caller.ModelCaller.witness.Goals as goal

pub returns-in_ok-write_book-in-Wrong-clause-text :
    goal.returns-in_ok-write_book-in-Wrong-clause-text
returns-in_ok-write_book-in-Wrong-clause-text c =
    let self = c.args.self.now in
    let stands =
    subst (λ (s : ModelStage). IsSoundAt (rows_of self) (table_of self) self.kept.gathered s)
    c.in-Wrong.is c.requires.sound.0 in
    (c.in-Wrong.call, c.in-Wrong.is, c.in_ok-write_book-in-Wrong.ensures, stands.1)
