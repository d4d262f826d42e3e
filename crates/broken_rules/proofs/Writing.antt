-- A register holds what was written last.
use Rattle.std.proofs.Common.{◌≡◌, ℕ, true, false, List, [], ◌∷◌, ◌++◌, refl, sym, ap, subst, ◌∙◌, append_assoc, inl, inr, arith}
use Rattle.std.proofs.lemmas.Bool.{cases_Bool}
use Rattle.book_base.specs.Sequential.{IsRunFrom}
use Rattle.book_base.specs.Reaching.{list_after_run}
use Rattle.seq_objects.specs.Words as words
use Rattle.seq_objects.specs.Words.{argument_of, is_operation_of}
use Rattle.seq_objects.specs.Replies.{reply_value}
use Rattle.seq_objects.specs.Items.{first_or_zero}
use Rattle.seq_objects.specs.declared.kind.Kind.TheVariants.{Register}
use Rattle.seq_objects.specs.RegisterSteps.{register_operation, register_after, register_after-write, register_after-read, register_after-other}
use Rattle.seq_objects.specs.Objects.{kind_next}
use Rattle.broken_rules.specs.Runs.{AreDone, NonePass, does}
use Rattle.broken_rules.specs.RegisterRuns.{ReadsGiveTheLastWrite, ReadsGiveZeroAtFirst}
use Rattle.broken_rules.proofs.Stepping.{replied, apart, list_after-append}

abbrev next : List ℕ → ℕ → List ℕ × ℕ
next list word = register_after list (register_operation word)

-- a step that doesn't write doesn't change the list
leaves : (list : List ℕ) (word : ℕ) → is_operation_of word words.write ≡ false
    → (next list word).0 ≡ list
leaves list word other = elim (cases_Bool (is_operation_of word words.read)) [
  | inl read ↦ ap (λ (r : List ℕ × ℕ). r.0) (register_after-read list word other read)
  | inr none ↦ ap (λ (r : List ℕ × ℕ). r.0) (register_after-other list word other none)
]

-- steps that don't write don't change the list
stays : (list : List ℕ) (steps : List (ℕ × ℕ)) → NonePass (does words.write) steps
    → list_after_run next list steps ≡ list
stays list [] none = refl
stays list (step ∷ steps) none =
    ap (λ (xs : List ℕ). list_after_run next xs steps) (leaves list step.0 none.0)
    ∙ stays list steps none.1

-- the reply to a read of a list
read_of : (list : List ℕ) (word : ℕ) → is_operation_of word words.read ≡ true
    → (next list word).1 ≡ reply_value (first_or_zero list)
read_of list word read = ap (λ (r : List ℕ × ℕ). r.1)
    (register_after-read list word (apart word words.read words.write (omega arith) read) read)

pub reads_give_the_last_write : ReadsGiveTheLastWrite
unfolding kind_next
reads_give_the_last_write before between rest write read run writes none reads =
    let start : List ℕ = list_after_run next (0 ∷ []) before in
    let written : (next start write.0).0 ≡ argument_of write.0 ∷ [] =
    ap (λ (r : List ℕ × ℕ). r.0) (register_after-write start write.0 writes) in
    let joined : List (ℕ × ℕ) = before ++ write ∷ between in
    let held : list_after_run next (0 ∷ []) joined ≡ argument_of write.0 ∷ [] =
    list_after-append next (0 ∷ []) before (write ∷ between)
    ∙ stays (next start write.0).0 between none ∙ written in
    let reply : (next (list_after_run next (0 ∷ []) joined) read.0).1 ≡ read.1
    = replied next (0 ∷ []) joined rest read (subst (IsRunFrom next (0 ∷ []))
    (sym (append_assoc before (write ∷ between) (read ∷ rest))) run) in
    sym reply ∙ read_of (list_after_run next (0 ∷ []) joined) read.0 reads
    ∙ ap (λ (xs : List ℕ). reply_value (first_or_zero xs)) held

pub reads_give_zero_at_first : ReadsGiveZeroAtFirst
unfolding kind_next
reads_give_zero_at_first before rest read run none reads =
    let held : List ℕ = list_after_run next (0 ∷ []) before in
    sym (replied next (0 ∷ []) before rest read run) ∙ read_of held read.0 reads
    ∙ ap (λ (xs : List ℕ). reply_value (first_or_zero xs)) (stays (0 ∷ []) before none)

pub writes_are_done : AreDone Register words.write
unfolding kind_next
writes_are_done before rest step run writes =
    let held : List ℕ = list_after_run next (0 ∷ []) before in
    sym (replied next (0 ∷ []) before rest step run)
    ∙ ap (λ (r : List ℕ × ℕ). r.1) (register_after-write held step.0 writes)
