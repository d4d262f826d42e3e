use Rattle.std.proofs.Common.{◌≡◌, ℕ, zero, suc, ◌<◌, ◌++◌, List, [], ◌∷◌, map, take, slice_index_or, refl, sym, ap, ◌∙◌, inl, inr, arith}
use Rattle.std.specs.List.{All}
use Rattle.std.proofs.lemmas.Bool.{cases_eq}
use Rattle.std.proofs.lemmas.List.Elements.{All-nil, All-cons, All-head, All-tail}
use Rattle.shared_words.specs.declared.entry.Entry.{Entry}
use Rattle.shared_words.specs.Entries.{calls_by, entry}
use Rattle.shared_words.proofs.Logs.{calls_by-append, calls_by-own, calls_by-other}
use Rattle.report_lines.specs.Phases.{asked, answered, operations_of, answers_in}
use Rattle.test_objects.specs.Pairs.{pairs_of}
use Rattle.object_examples.specs.OneLog.{count_before, one_answered, others_made}
use Rattle.object_examples.proofs.one_log.logs_have_the_calls_that_were_asked.Goals as goal

abbrev IsBelow : ℕ → Entry → Type 0
IsBelow n e = e.caller < n

-- a log of caller 0 alone is that of its calls
alone : (log : List Entry) → All (IsBelow 1) log → log ≡ map (entry 0) (calls_by 0 log)
alone [] all = refl
alone (e ∷ log) all =
    let low = All-head (IsBelow 1) e log all in
    let here : e.caller ≡ 0 = omega (arith, low) in
    let rest : log ≡ map (entry 0) (calls_by 0 log) = alone log (All-tail (IsBelow 1) e log all) in
    let calls : calls_by 0 (e ∷ log) ≡ e.op ∷ calls_by 0 log =
    calls_by-append 0 (e ∷ []) log
    ∙ ap (λ (ops : List ℕ). ops ++ calls_by 0 log) (calls_by-own 0 e here) in
    (λ k. record { caller = here k; op = e.op } ∷ rest k) ∙ ap (map (entry 0)) (sym calls)

-- where the second of two callers has no entry, the first is alone
first_alone : (log : List Entry) → All (IsBelow 2) log → calls_by 1 log ≡ [] → All (IsBelow 1) log
first_alone [] all none = All-nil (IsBelow 1)
first_alone (e ∷ log) all none =
    let split = calls_by-append 1 (e ∷ []) log in
    let low = All-head (IsBelow 2) e log all in
    elim (cases_eq e.caller 1) [
      | inl second ↦
          let some : e.op ∷ calls_by 1 log ≡ [] = sym
          (split ∙ ap (λ (ops : List ℕ). ops ++ calls_by 1 log) (calls_by-own 1 e second)) ∙ none in
          absurd cc
      | inr other ↦
          All-cons (IsBelow 1) e log (omega (arith, low, other))
          (first_alone log (All-tail (IsBelow 2) e log all) (sym
          (split ∙ ap (λ (ops : List ℕ). ops ++ calls_by 1 log) (calls_by-other 1 e other)) ∙ none))
    ]

-- The reply of the first of these pairs, 0 where there is none.
abbrev first_reply : List (ℕ × ℕ) → ℕ
first_reply pairs = (slice_index_or pairs 0 (0, 0)).1

-- a log with the calls 5 of caller 0 and 6 of caller 1 has the calls that were asked of each
of_two : (phases reply : ℕ) (log : List Entry)
    → calls_by 0 log ≡ 5 ∷ [] → calls_by 1 log ≡ take (asked phases) (6 ∷ [])
    → (i : ℕ) → i < 2
    → calls_by i log ≡ take (asked (others_made phases i)) (operations_of (one_answered reply i))
of_two phases reply log first second zero low = first
of_two phases reply log first second (suc zero) low = second
of_two phases reply log first second (suc (suc i)) low = absurd (omega (arith, low))

replies_of_two : (phases reply : ℕ) (log : List Entry) → take 1 (pairs_of count_before log 0)
    ≡ (5, reply) ∷ [] → take (answered phases) (pairs_of count_before log 1) ≡ []
    → (i : ℕ) → i < 2 → take (answered (others_made phases i)) (pairs_of count_before log i)
    ≡ answers_in (one_answered reply i)
replies_of_two phases reply log first second zero low = first
replies_of_two phases reply log first second (suc zero) low = second
replies_of_two phases reply log first second (suc (suc i)) low = absurd (omega (arith, low))

pub returns-clause-asked_before : goal.returns-clause-asked_before
returns-clause-asked_before c =
    let log : List Entry = entry 1 6 ∷ entry 0 5 ∷ [] in
    record {
      log = log;
      callers = All-cons (IsBelow 2) (entry 1 6) (entry 0 5 ∷ []) (omega arith)
          (All-cons (IsBelow 2) (entry 0 5) [] (omega arith) (All-nil (IsBelow 2)));
      entries = of_two 2 1 log refl refl;
      replies = replies_of_two 2 1 log refl refl;
    }

pub returns-clause-asked_after : goal.returns-clause-asked_after
returns-clause-asked_after c =
    let log : List Entry = entry 0 5 ∷ entry 1 6 ∷ [] in
    record {
      log = log;
      callers = All-cons (IsBelow 2) (entry 0 5) (entry 1 6 ∷ []) (omega arith)
          (All-cons (IsBelow 2) (entry 1 6) [] (omega arith) (All-nil (IsBelow 2)));
      entries = of_two 2 0 log refl refl;
      replies = replies_of_two 2 0 log refl refl;
    }

pub returns-clause-unasked : goal.returns-clause-unasked
returns-clause-unasked c =
    let log : List Entry = entry 0 5 ∷ [] in
    record {
      log = log;
      callers = All-cons (IsBelow 2) (entry 0 5) [] (omega arith) (All-nil (IsBelow 2));
      entries = of_two 1 0 log refl refl;
      replies = replies_of_two 1 0 log refl refl;
    }

-- where the log has caller 0's entry alone, its call is the first
first_counts_none : (log : List Entry) → All (IsBelow 1) log
    → calls_by 0 log ≡ 5 ∷ [] → take 1 (pairs_of count_before log 0) ≡ (5, 1) ∷ [] → ⊥
first_counts_none log all calls replied =
    let is : log ≡ entry 0 5 ∷ [] = alone log all ∙ ap (map (entry 0)) calls in
    let never : 0 ≡ 1 = ap first_reply
    (sym (ap (λ (own : List Entry). take 1 (pairs_of count_before own 0)) is) ∙ replied) in
    omega (arith, never)

pub returns-clause-counts_unasked : goal.returns-clause-counts_unasked
returns-clause-counts_unasked c h =
    first_counts_none h.log (first_alone h.log h.callers (h.entries 1 (omega arith)))
    (h.entries 0 (omega arith)) (h.replies 0 (omega arith))

pub returns-clause-counts_a_stranger : goal.returns-clause-counts_a_stranger
returns-clause-counts_a_stranger c h =
    first_counts_none h.log h.callers (h.entries 0 (omega arith)) (h.replies 0 (omega arith))

pub returns-clause-counts_its_next : goal.returns-clause-counts_its_next
returns-clause-counts_its_next c h =
    let is : h.log ≡ entry 0 5 ∷ entry 0 7 ∷ [] =
    alone h.log h.callers ∙ ap (map (entry 0)) (h.entries 0 (omega arith)) in
    let never : 0 ≡ 1 =
    ap first_reply (sym (ap (λ (own : List Entry). take 2 (pairs_of count_before own 0)) is)
    ∙ h.replies 0 (omega arith)) in
    absurd (omega (arith, never))
