-- The calls of a pass are those that its log, and any log that extends it, has of its caller.
use Rattle.std.proofs.Common.{◌≡◌, ℕ, List, [], ◌∷◌, ◌++◌, length, refl, sym, ap, ◌∙◌, arith, length-append, eq-eqb}
use Rattle.std.proofs.lemmas.List.{append-nil, append_cancel_right, nil_from_length, length-map}
use Rattle.shared_words.specs.declared.entry.Entry.{Entry}
use Rattle.shared_words.specs.Entries.{calls_by, BeginsWith, IsAfterCall, entry}
use Rattle.shared_words.proofs.Logs.{calls_by-append, calls_by-push_own}
use Rattle.test_objects.specs.Pairs.{pairs_of}
use Rattle.test_objects.proofs.Pairing.{pairs_after-append, none_after, pairs_have_the_calls, after_own}

-- a log has as many pairs of a caller as entries
pub length-pairs_of : (answer : List Entry → ℕ) (log : List Entry) (i : ℕ)
    → length (pairs_of answer log i) ≡ length (calls_by i log)
length-pairs_of answer log i = sym (length-map (pairs_of answer log i) (λ (pair : ℕ × ℕ). pair.0))
    ∙ ap (λ (l : List ℕ). length l) (pairs_have_the_calls answer log i)

-- a log that extends another without entries of the caller has the same pairs of it
pub pairs_of-begins : (answer : List Entry → ℕ) (log prefix : List Entry) (i : ℕ)
    → BeginsWith log prefix → calls_by i log ≡ calls_by i prefix
    → pairs_of answer prefix i ≡ pairs_of answer log i
pairs_of-begins answer log prefix i begins own =
    let split : calls_by i prefix ++ calls_by i begins.0 ≡ calls_by i prefix =
    sym (ap (calls_by i) begins.1 ∙ calls_by-append i prefix begins.0) ∙ own in
    let long = ap length split in
    let none : calls_by i begins.0 ≡ [] = nil_from_length (calls_by i begins.0)
    (omega (arith, length-append (calls_by i prefix) (calls_by i begins.0))) in
    sym
    (ap (λ (l : List Entry). pairs_of answer l i) begins.1
    ∙ pairs_after-append answer i [] prefix begins.0
    ∙ ap (λ (l : List (ℕ × ℕ)). pairs_of answer prefix i ++ l)
    (none_after answer i prefix begins.0 none)
    ∙ append-nil (pairs_of answer prefix i))

-- after a call there is one pair more: the call's
pub pairs_of-call : (answer : List Entry → ℕ) (before after : List Entry) (i op : ℕ)
    → IsAfterCall i op before after
    → pairs_of answer after i ≡ pairs_of answer before i ++ (op, answer after) ∷ []
pairs_of-call answer before after i op call =
    let prefix = before ++ call.between in
    let calls : calls_by i prefix ++ op ∷ [] ≡ calls_by i before ++ op ∷ [] =
    sym (ap (calls_by i) call.log ∙ calls_by-push_own i op prefix) ∙ call.own in
    let same : pairs_of answer before i ≡ pairs_of answer prefix i =
    pairs_of-begins answer prefix before i (call.between, refl)
    (append_cancel_right (calls_by i prefix) (calls_by i before) (op ∷ []) calls) in
    ap (λ (l : List Entry). pairs_of answer l i) call.log
    ∙ pairs_after-append answer i [] prefix (entry i op ∷ [])
    ∙ (λ k. sym same k ++ after_own answer i prefix [] (entry i op) (eq-eqb i i refl) k)
    ∙ ap (λ (l : List Entry). pairs_of answer before i ++ (op, answer l) ∷ []) (sym call.log)

-- after a call there is one pair more of a pass whose pairs were those of the log before
pub pairs_called : (answer : List Entry → ℕ) (before after : List Entry) (i j op reply : ℕ)
    (pairs new : List (ℕ × ℕ)) → IsAfterCall i op before after → j ≡ i
    → pairs ≡ pairs_of answer before i → new ≡ pairs ++ (op, reply) ∷ [] → reply ≡ answer after
    → new ≡ pairs_of answer after j
pairs_called answer before after i j op reply pairs new call same were pushed is =
    pushed
    ∙ (λ k. were k ++ (op, is k) ∷ [])
    ∙ sym (pairs_of-call answer before after i op call)
    ∙ ap (pairs_of answer after) (sym same)
