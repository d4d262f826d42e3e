-- Lemmas on one log for all calls.
use Rattle.std.proofs.Common.{◌≡◌, ℕ, zero, suc, ◌<◌, ◌==◌, true, false, List, [], ◌∷◌, ◌++◌, length, map, take, Some, slice_get, refl, sym, ap, ◌∙◌, subst, inl, inr, append_assoc, eq-eqb}
use Rattle.std.specs.List.{filter, All}
use Rattle.std.proofs.lemmas.Bool.{cases_Bool, cond-true, cond-false, eqb-true}
use Rattle.std.proofs.lemmas.List.Elements.{All-head}
use Rattle.std.proofs.lemmas.Option.{same_Some, none-some}
use Rattle.list_laws.proofs.Places.{slice_get-take}
use Rattle.list_laws.proofs.Prefixes.{slice_get-take_below}
use Rattle.shared_words.specs.declared.entry.Entry.{Entry}
use Rattle.shared_words.specs.Entries.{calls_by, entry}
use Rattle.shared_words.proofs.Logs.{calls_by-append, All-suffix}
use Rattle.report_lines.specs.Phases.{asked, answered, operations_of}
use Rattle.test_objects.specs.Pairs.{pairs_of, pairs_after}
use Rattle.test_objects.proofs.Pairing.{after_own}
use Rattle.core_runs.specs.LogLaws.{AnswersComeFromTheLog, EntriesAreOfCalls}

-- ---- a pair of a log is that of an entry

-- an entry of a caller is the one that asks for its operation
entry_is : (i : ℕ) (e : Entry) → (e.caller == i) ≡ true → e ≡ entry i e.op
entry_is i e own = let same : e.caller ≡ i = eqb-true e.caller i own in
    λ j. record { caller = same j; op = e.op }

-- an entry that is put first in a log adds its call to those of its own caller, and none to those
-- of another
calls_with_own : (i : ℕ) (e : Entry) (log : List Entry) → (e.caller == i) ≡ true
    → calls_by i (e ∷ log) ≡ e.op ∷ calls_by i log
calls_with_own i e log own =
    ap (λ (l : List Entry). map (λ (d : Entry). d.op) l) (cond-true (e.caller == i)
    (e ∷ filter (λ (d : Entry). d.caller == i) log) (filter (λ (d : Entry). d.caller == i) log) own)

calls_with_other : (i : ℕ) (e : Entry) (log : List Entry) → (e.caller == i) ≡ false
    → calls_by i (e ∷ log) ≡ calls_by i log
calls_with_other i e log other =
    ap (λ (l : List Entry). map (λ (d : Entry). d.op) l)
    (cond-false (e.caller == i) (e ∷ filter (λ (d : Entry). d.caller == i) log)
    (filter (λ (d : Entry). d.caller == i) log) other)

module _ (answer : List Entry → ℕ) (i : ℕ) where
  -- Call k of the caller has an entry in the rest of a log after some prefix, and its reply is the
  -- answer to the log up to this entry.
  abbrev IsInLog : List Entry → List Entry → ℕ → ℕ → ℕ → Type 0
  IsInLog prefix rest k op reply =
      (before suffix : List Entry) × (rest ≡ before ++ entry i op ∷ suffix)
      × (length (calls_by i before) ≡ k) × (reply ≡ answer (prefix ++ (before ++ entry i op ∷ [])))

  -- an entry of the rest of a log is still one with one entry more first
  later : (prefix rest : List Entry) (e : Entry) (j k op reply : ℕ)
      (s : IsInLog (prefix ++ e ∷ []) rest k op reply) → length (calls_by i (e ∷ s.0)) ≡ j
      → IsInLog prefix (e ∷ rest) j op reply
  later prefix rest e j k op reply s count = (
    e ∷ s.0,
    s.1,
    ap (λ (log : List Entry). e ∷ log) s.2,
    count,
    s.4 ∙ ap answer (append_assoc prefix (e ∷ []) (s.0 ++ entry i op ∷ [])),
  )

  -- the first pair is that of the first entry, where this is the caller's
  first_or_later : (prefix rest : List Entry) (e : Entry) (op reply : ℕ) → (e.caller == i) ≡ true
      → ((k : ℕ) → slice_get (pairs_after answer i (prefix ++ e ∷ []) rest) k ≡ Some (op, reply)
      → IsInLog (prefix ++ e ∷ []) rest k op reply)
      → (k : ℕ) → slice_get
      ((e.op, answer (prefix ++ e ∷ [])) ∷ pairs_after answer i (prefix ++ e ∷ []) rest) k
      ≡ Some (op, reply) → IsInLog prefix (e ∷ rest) k op reply
  first_or_later prefix rest e op reply own others zero there =
      let same : ◌≡◌ {A = ℕ × ℕ} (e.op, answer (prefix ++ e ∷ [])) (op, reply) =
      same_Some (e.op, answer (prefix ++ e ∷ [])) (op, reply) there in
      let is : e ≡ entry i op = entry_is i e own ∙ ap (λ (pair : ℕ × ℕ). entry i pair.0) same in (
        [],
        rest,
        ap (λ (d : Entry). d ∷ rest) is,
        refl,
        sym (ap (λ (pair : ℕ × ℕ). pair.1) same) ∙ ap (λ (d : Entry). answer (prefix ++ d ∷ [])) is,
      )
  first_or_later prefix rest e op reply own others (suc k) there =
      let s = others k there in
      later prefix rest e (suc k) k op reply s
      (ap (λ (l : List ℕ). length l) (calls_with_own i e s.0 own) ∙ ap suc s.3)

  pair_stands : (prefix rest : List Entry) (k op reply : ℕ)
      → slice_get (pairs_after answer i prefix rest) k ≡ Some (op, reply)
      → IsInLog prefix rest k op reply
  pair_stands prefix [] k op reply there = absurd (none-some (op, reply) there)
  pair_stands prefix (e ∷ rest) k op reply there = elim (cases_Bool (e.caller == i)) [
    | inl own ↦
        first_or_later prefix rest e op reply own
        (λ j at. pair_stands (prefix ++ e ∷ []) rest j op reply at) k
        (sym
        (ap (λ (pairs : List (ℕ × ℕ)). slice_get pairs k) (after_own answer i prefix rest e own))
        ∙ there)
    | inr other ↦
        let s = pair_stands (prefix ++ e ∷ []) rest k op reply
        (sym (ap (λ (pairs : List (ℕ × ℕ)). slice_get pairs k)
        (cond-false (e.caller == i) _ _ other)) ∙ there) in
        later prefix rest e k k op reply s
        (ap (λ (l : List ℕ). length l) (calls_with_other i e s.0 other) ∙ s.3)
  ]

-- each answered call has an entry in the log, and was answered from the log up to it
pub answers_come_from_the_log : AnswersComeFromTheLog
answers_come_from_the_log answer n phases calls logged i k op reply low there =
    let pairs : List (ℕ × ℕ) = pairs_of answer logged.log i in
    let s =
    pair_stands answer i [] logged.log k op reply
    (slice_get-take (answered (phases i)) pairs k (op, reply)
    (ap (λ (list : List (ℕ × ℕ)). slice_get list k) (logged.replies i low) ∙ there)) in
    record { before = s.0; suffix = s.1; at = s.2; number = s.3; replied = s.4 }

-- ---- an entry of a log is of a call

-- the element between two lists is at the place of the first one's length
slice_get-middle : {X : Type 0} (xs : List X) (y : X) (ys : List X)
    → slice_get (xs ++ y ∷ ys) (length xs) ≡ Some y
slice_get-middle [] y ys = refl
slice_get-middle (x ∷ xs) y ys = slice_get-middle xs y ys

-- the call of an entry is the next one of its caller
next_call : (before suffix : List Entry) (e : Entry) → slice_get
    (calls_by e.caller (before ++ e ∷ suffix)) (length (calls_by e.caller before)) ≡ Some e.op
next_call before suffix e =
    ap (λ (ops : List ℕ). slice_get ops (length (calls_by e.caller before)))
    (calls_by-append e.caller before (e ∷ suffix)
    ∙ ap (λ (ops : List ℕ). calls_by e.caller before ++ ops)
    (calls_with_own e.caller e suffix (eq-eqb e.caller e.caller refl)))
    ∙ slice_get-middle (calls_by e.caller before) e.op (calls_by e.caller suffix)

-- each entry of the log is of a call that its caller asked the object for
pub entries_are_of_calls : EntriesAreOfCalls
entries_are_of_calls answer n phases calls logged before suffix e at =
    let caller : e.caller < n =
    All-head (λ (d : Entry). d.caller < n) e suffix
    (All-suffix (λ (d : Entry). d.caller < n) before (e ∷ suffix)
    (subst (λ (l : List Entry). All (λ (d : Entry). d.caller < n) l) at logged.callers)) in
    let many : ℕ = asked (phases e.caller) in
    let there : slice_get (take many (operations_of (calls e.caller)))
    (length (calls_by e.caller before)) ≡ Some e.op =
    ap (λ (ops : List ℕ). slice_get ops (length (calls_by e.caller before)))
    (sym (logged.entries e.caller caller) ∙ ap (calls_by e.caller) at)
    ∙ next_call before suffix e in
    record {
      caller = caller;
      asked_for = slice_get-take_below many (operations_of (calls e.caller))
          (length (calls_by e.caller before)) e.op there;
      operation = slice_get-take many (operations_of (calls e.caller))
          (length (calls_by e.caller before)) e.op there;
    }
