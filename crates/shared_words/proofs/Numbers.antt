-- Words of different calls and tickets lie at different places, and all lie in the table.
use Rattle.std.proofs.Common.{◌≡◌, ◌≢◌, ℕ, ◌+◌, ◌*◌, ◌<◌, ◌≤◌, List, ◌∷◌, ◌++◌, length, ap, subst, arith}
use Rattle.std.proofs.lemmas.Nat.{mul-le, mul-add-lt, same_from_place}
use Rattle.shared_words.specs.declared.entry.Entry.{Entry}
use Rattle.shared_words.specs.Entries.{calls_by, IsWithinCap}
use Rattle.shared_words.specs.Words.{number_of, number_after, operation_index, ticket_index, word_count}
use Rattle.shared_words.specs.Hands.{Hand, next_number}
use Rattle.shared_words.proofs.Logs.{calls_by-at, within_at}

-- a table of a log has words
pub some_words : (n cap : ℕ) → 1 ≤ n → 1 ≤ cap → 0 < word_count n cap
some_words n cap some few = let most = mul-le 1 1 n cap some few in omega arith

pub number_low : (n cap i k : ℕ) → i < n → k < cap → number_of cap i k < n * cap
number_low n cap i k low few = omega (arith, mul-add-lt i cap k n low few)

-- a word of a call's operation lies before the tickets
pub operation_low : (n cap i k half : ℕ) → i < n → k < cap → half < 2
    → operation_index (number_of cap i k) + half < 2 * (n * cap)
operation_low n cap i k half low few one = let number = number_low n cap i k low few in omega arith

pub not_ticket : (n cap number half place : ℕ) → number < n * cap → half < 2
    → operation_index number + half ≢ ticket_index n cap place
not_ticket n cap number half place low one = λ e. omega arith

pub not_other : (a b half other : ℕ) → a ≢ b → half < 2 → other < 2
    → operation_index a + half ≢ operation_index b + other
not_other a b half other ne one two = λ e. ne (omega arith)

-- the next call of a caller has no entry in the log
pub not_stored : (n cap who : ℕ) (log before rest : List Entry) (e : Entry) (h : Hand)
    → IsWithinCap n cap log → log ≡ before ++ e ∷ rest
    → calls_by who log ≡ calls_by who h.log → length (calls_by who h.log) < cap
    → number_after cap before e ≢ next_number cap who h
not_stored n cap who log before rest e h within is own left = λ same.
    let at =
    within_at n cap before rest e (subst (λ (l : List Entry). IsWithinCap n cap l) is within) in
    let parts = same_from_place e.caller (length (calls_by e.caller before)) who
    (length (calls_by who h.log)) cap at.1 left same in
    let here = calls_by-at before rest e in
    let all : length (calls_by e.caller log) ≡ length (calls_by e.caller (before ++ e ∷ rest)) =
    ap (λ (l : List Entry). length (calls_by e.caller l)) is in
    let mine : length (calls_by e.caller log) ≡ length (calls_by who log) =
    ap (λ (i : ℕ). length (calls_by i log)) parts.0 in
    let known : length (calls_by who log) ≡ length (calls_by who h.log) = ap length own in
    let count = parts.1 in
    omega arith

-- the next call of a caller isn't that of another caller
pub not_others : (cap i who : ℕ) (m h : Hand) → i ≢ who → length (calls_by i m.log) < cap
    → length (calls_by who h.log) < cap → next_number cap i m ≢ next_number cap who h
not_others cap i who m h ne room left = λ same. ne (same_from_place i
    (length (calls_by i m.log)) who (length (calls_by who h.log)) cap room left same).0
