use Rattle.std.proofs.Common.{◌≡◌, ℕ, List, ◌++◌, ap, subst, sym, ◌∙◌}
use Rattle.seq_objects.specs.Words.{AppendsPrefix}
use Rattle.seq_objects.specs.EntryView.{shown, spaced_arguments}
use Rattle.list_laws.proofs.Results.{OnErr_then}
use Rattle.seq_objects.proofs.Prefixes.{AppendsPrefix-after}
use Rattle.seq_objects.proofs.Arguments.{text_of-spaced}
use Rattle.seq_objects.proofs.entry.OperationEntry.put.Goals as goal

pub returns-clause-err : goal.returns-clause-err
returns-clause-err c =
    let old : List ℕ = c.args.out.now.items in
    let mid : List ℕ = c.extend_from_slice.new.self.items in
    let new : List ℕ = c.put_arguments.new.out.items in
    let name : List ℕ = c.args.self.now.name.now in
    let arguments : List ℕ = spaced_arguments c.args.self.now.arity c.args.word in
    let whole : mid ≡ old ++ name =
    c.in_ok-extend_from_slice.ensures.items ∙ ap (λ t. old ++ t) c.as_bytes.ensures.value in
    OnErr_then c.put_arguments.result c.put_arguments.ensures.err (λ prefix.
    subst (AppendsPrefix old new) (sym (text_of-spaced (shown c.args.self.now) c.args.word))
    (AppendsPrefix-after old mid new name arguments whole prefix))
