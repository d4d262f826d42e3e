use Rattle.std.proofs.Common.{◌≡◌, drop}
use Rattle.log_books.specs.Words.{named_by}
use Rattle.log_books.proofs.options.Options.operation.Given as goal

-- the operations so far have other names
abbrev pub invariant-loop-named : goal.invariant-loop-named
invariant-loop-named l = named_by l.name (drop l.named-index l.named-items) ≡ named_by l.name l.self.operations.items
