use Rattle.std.proofs.Common.{subst}
use Rattle.call_handles.specs.declared.stage.HandleStage.{HandleStage}
use Rattle.call_handles.specs.Callers.{rows_of, IsSoundAt}
use Rattle.call_handles.proofs.caller_handle.CallerHandle.witness.Goals as goal

pub returns-in_ok-write_book-in-Wrong-clause-text :
    goal.returns-in_ok-write_book-in-Wrong-clause-text
returns-in_ok-write_book-in-Wrong-clause-text c =
    let self = c.args.self.now in
    let stands =
    subst (λ (s : HandleStage). IsSoundAt (rows_of self) self.kept.kind self.kept.gathered s)
    c.in-Wrong.is c.requires.sound.0 in
    (c.in-Wrong.wrong, c.in-Wrong.is, c.in_ok-write_book-in-Wrong.ensures.read, stands.1)
