use Rattle.std.proofs.Common.{ℕ, ◌==◌, List, [], ◌∷◌, ◌++◌, sym, subst}
use Rattle.std.specs.Prelude.{IfNone}
use Rattle.std.specs.List.{All}
use Rattle.std.proofs.lemmas.Bool.{eqb-true}
use Rattle.std.proofs.lemmas.List.Elements.{All-nil, All-cons, All-append}
use Rattle.std.proofs.lemmas.List.Folds.{Any-from_list_any}
use Rattle.smaller_book.specs.Minimal.{IsKeyNeeded}
use Rattle.smaller_book.proofs.keyless.without_new_key.Goals as goal

pub returns-then-contains-clause-none : goal.returns-then-contains-clause-none
returns-then-contains-clause-none c =
    let keys : List ℕ = c.deref.result.now in
    let needed : ℕ → Type 0 = IsKeyNeeded c.args.kind c.args.book.now in
    let all : All needed keys =
    subst (λ (it : List ℕ). All needed it) (sym c.deref.ensures.value) c.requires.needed in
    let found = Any-from_list_any (λ (it : ℕ). it == c.args.key) keys
    (sym c.if-contains.ensures.value) in
    subst needed (eqb-true found.1 c.args.key found.4)
    (subst needed found.3 (all found.0 found.1 found.2))

pub returns-in_ok-push-in-None-clause-needed : goal.returns-in_ok-push-in-None-clause-needed
returns-in_ok-push-in-None-clause-needed c =
    let key = c.args.key in
    let needed : ℕ → Type 0 = IsKeyNeeded c.args.kind c.args.book.now in
    let here : needed key =
    subst (λ o. IfNone o (needed key)) c.in-None.is c.in_ok-smaller.ensures.none in
    let all : All needed (c.args.needed.now.items ++ key ∷ []) =
    All-append needed c.args.needed.now.items (key ∷ []) c.requires.needed
    (All-cons needed key [] here (All-nil needed)) in
    subst (λ (it : List ℕ). All needed it) (sym c.in_ok-push-in-None.ensures.items) all
