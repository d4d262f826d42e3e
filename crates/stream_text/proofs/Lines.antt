-- The words of lines of streams.
use Rattle.std.proofs.Common.{◌≡◌, ◌≢◌, ◌∙◌, ℕ, List, [], ◌∷◌, ◌++◌, length, sym, ap, append-nil, length-append, true, Option, Some, None, MatchOption, is_some, arith}
use Rattle.seq_objects.specs.declared.kind.Kind.{Kind}
use Rattle.seq_objects.specs.Words.{operation_words}
use Rattle.text_fields.specs.declared.version.Version.TheVariants.{Second}
use Rattle.text_fields.specs.OperationLaws.{one_kind_operation}
use Rattle.stream_text.specs.Line.{HasOperation}

-- words of an operation and one more are exactly those of no operation
pub operation_more : (kind : Kind) (op : ℕ) (next : List ℕ) (words more : List (List ℕ))
    → HasOperation kind op → words ≡ operation_words kind op ++ next ∷ more → (other : ℕ)
    → HasOperation kind other → words ≢ operation_words kind other
operation_more kind op next words more has is other also whole =
    let e : operation_words kind op ++ next ∷ more ≡ operation_words kind other ++ [] =
    sym is ∙ (whole ∙ sym (append-nil (operation_words kind other))) in
    let same = one_kind_operation Second kind op other (next ∷ more) [] has also e in
    let long = ap (λ (l : List (List ℕ)). length l) (sym is ∙ (whole
    ∙ ap (λ (n : ℕ). operation_words kind n) (sym same))) in
    omega (arith, long, length-append (operation_words kind op) (next ∷ more))

-- the word that comes next, where one does
pub next_there : {X : Type 0} (o : Option X) (P : Type 0) (Q : X → Type 0) → is_some o ≡ true
    → MatchOption o P Q → (x : X) × Q x
next_there None P Q is there = absurd cc
next_there (Some x) P Q is there = (x, there)
