use Rattle.std.proofs.Common.{option_copied, sym}
use Rattle.std.proofs.lemmas.Option.{IfSome_then}
use Rattle.seq_objects.specs.Words.{further}
use Rattle.seq_objects.specs.EntryView.{shown}
use Rattle.seq_objects.proofs.Spelling.{Spells-unknown, Spells-known, not-Spells-marked, not-Spells-unnamed, not-Spells-lacking}
use Rattle.list_laws.proofs.Options.{IfNone_then}
use Rattle.seq_objects.proofs.kind.Kind.op_from_words.Goals as goal

pub returns-in_err-unknown_word-in-Some-clause-none :
    goal.returns-in_err-unknown_word-in-Some-clause-none
returns-in_err-unknown_word-in-Some-clause-none c =
    rw c.from_residual.ensures (not-Spells-marked c.args.self c.args.first.now c.in-Some.digits.now
    (further (option_copied c.args.second) (option_copied c.args.third)) c.in-Some.ensures.found
    c.in_err-unknown_word-in-Some.ensures.none)

pub returns-in_err-entry_named-in-None-clause-none :
    goal.returns-in_err-entry_named-in-None-clause-none
returns-in_err-entry_named-in-None-clause-none c =
    rw c.from_residual-in_err-entry_named-in-None.ensures
    (λ op used small. not-Spells-unnamed c.args.self c.args.first.now
    (further (option_copied c.args.second) (option_copied c.args.third)) c.in-None.ensures.none
    (sym c.in_err-entry_named-in-None.ensures) op used)

pub returns-in_ok-unknown_word-in-Some-clause-found :
    goal.returns-in_ok-unknown_word-in-Some-clause-found
returns-in_ok-unknown_word-in-Some-clause-found c =
    let unknown = c.in_ok-unknown_word-in-Some.ensures.found in
    Spells-unknown c.args.self c.args.first.now c.in-Some.digits.now
    (further (option_copied c.args.second) (option_copied c.args.third))
    c.in_ok-unknown_word-in-Some.field-0 c.in-Some.ensures.found unknown.0 unknown.1

pub returns-in_ok-entry_named-in-None-clause-found :
    goal.returns-in_ok-entry_named-in-None-clause-found
returns-in_ok-entry_named-in-None-clause-found c =
    IfSome_then c.operation.result c.operation.ensures.found
    (λ x written. Spells-known c.args.self c.args.first.now (further (option_copied c.args.second)
    (option_copied c.args.third)) (shown c.in_ok-entry_named-in-None.field-0) x.0 x.1
    (sym c.in_ok-entry_named-in-None.ensures) written)

pub returns-in_ok-entry_named-in-None-clause-none :
    goal.returns-in_ok-entry_named-in-None-clause-none
returns-in_ok-entry_named-in-None-clause-none c =
    IfNone_then c.operation.result c.operation.ensures.none (λ lacks op used small.
    not-Spells-lacking c.args.self c.args.first.now (further (option_copied c.args.second)
    (option_copied c.args.third)) (shown c.in_ok-entry_named-in-None.field-0) c.in-None.ensures.none
    (sym c.in_ok-entry_named-in-None.ensures) lacks op used)
