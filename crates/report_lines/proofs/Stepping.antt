-- How a phase changes a caller's marks.
use Rattle.std.proofs.Common.{◌≡◌, ℕ, zero, suc, ◌+◌, ◌*◌, ◌/◌, ◌%◌, Bool, true, false, cond, eqb, nat_lt, List, [], ◌∷◌, ◌++◌, length, take, replicate, refl, sym, ap, ◌∙◌, arith}
use Rattle.std.proofs.lemmas.Bool.{ne_eqb}
use Rattle.std.proofs.lemmas.List.{length-append, length-replicate, append-nil, replicate-append-replicate}
use Rattle.world_core.specs.Calls.{Reached, Is_announced, Has_record, Has_seen, Made}
use Rattle.report_lines.specs.Phases.{CallMark, Announced, Recorded, Seen, begun, mark_of, mark_under_way, marks_after, operations_of, marks_of}
use Rattle.report_lines.specs.Progress.{with_last, with_seen}
use Rattle.report_lines.specs.Steps.{ViewingIsAPhase, SeeingIsAPhase}

-- the operations stay where the last call changes
pub operations_of-with_last : (further : Reached → Reached) (calls : List Made)
    → operations_of (with_last further calls) ≡ operations_of calls
operations_of-with_last further [] = refl
operations_of-with_last further (c ∷ []) = refl
operations_of-with_last further (c ∷ d ∷ calls) =
    ap (λ (ops : List ℕ). c.operation ∷ ops) (operations_of-with_last further (d ∷ calls))

-- where a change of the last call changes its mark, it changes the last of all marks, and the
-- others stay
marks_of-with_last : (further : Reached → Reached) (before after : CallMark)
    → ((reached : Reached) → mark_of reached ≡ before → mark_of (further reached) ≡ after)
    → (prefix : List CallMark) (calls : List Made) → marks_of calls
    ≡ prefix ++ before ∷ [] → marks_of (with_last further calls) ≡ prefix ++ after ∷ []
marks_of-with_last further before after turns prefix [] e =
    absurd
    (omega (arith, ap (λ (ms : List CallMark). length ms) e, length-append prefix (before ∷ [])))
marks_of-with_last further before after turns [] (c ∷ []) e =
    let own : mark_of c.reached ≡ before = cc in
    ap (λ (m : CallMark). m ∷ []) (turns c.reached own)
marks_of-with_last further before after turns [] (c ∷ d ∷ calls) e =
    absurd (omega (arith, ap (λ (ms : List CallMark). length ms) e))
marks_of-with_last further before after turns (m ∷ prefix) (c ∷ []) e =
    absurd
    (omega (arith, ap (λ (ms : List CallMark). length ms) e, length-append prefix (before ∷ [])))
marks_of-with_last further before after turns (m ∷ prefix) (c ∷ d ∷ calls) e =
    let own : mark_of c.reached ≡ m = cc in
    let rest : marks_of (d ∷ calls) ≡ prefix ++ before ∷ [] = cc in
    let later = marks_of-with_last further before after turns prefix (d ∷ calls) rest in
    cc

-- a call that has its record sees a cut
seen_turns : (cut : List ℕ) (reached : Reached) → mark_of reached ≡ Recorded
    → mark_of (with_seen cut reached) ≡ Seen
seen_turns cut Is_announced e = absurd cc
seen_turns cut (Has_record r) e = refl
seen_turns cut (Has_seen r earlier) e = refl

-- There are as many marks as calls that have begun.
one_mark : (early : Bool) (a b : CallMark) → length (cond early (a ∷ []) (b ∷ [])) ≡ 1
one_mark true a b = refl
one_mark false a b = refl

abbrev under_way : Bool → Bool → List CallMark
under_way none early = cond none [] (cond early (Announced ∷ []) (Recorded ∷ []))

as_many_marks : (p place : ℕ) → p % 5 ≡ place
    → length (replicate (p / 5) Seen ++ mark_under_way place) ≡ begun p
as_many_marks p zero e =
    omega (
      arith,
      e,
      length-append (replicate (p / 5) Seen) (mark_under_way 0),
      length-replicate (p / 5) Seen,
    )
as_many_marks p (suc place) e =
    let some : eqb (suc place) 0 ≡ false = ne_eqb (suc place) 0 (λ h. absurd (omega (arith, h))) in
    let one : length (mark_under_way (suc place)) ≡ 1 =
    ap (λ none. length (under_way none (nat_lt (suc place) 3))) some
    ∙ one_mark (nat_lt (suc place) 3) Announced Recorded in
    omega (
      arith,
      e,
      length-append (replicate (p / 5) Seen) (mark_under_way (suc place)),
      length-replicate (p / 5) Seen,
      one,
    )

pub length-marks_after : (p : ℕ) → length (marks_after p) ≡ begun p
length-marks_after p = as_many_marks p (p % 5) refl

-- The marks after k judged calls.
pub marks_with : (k p : ℕ) → p / 5 ≡ k → (place : ℕ) → p % 5 ≡ place
    → marks_after p ≡ replicate k Seen ++ mark_under_way place
marks_with k p judged place under_way =
    ap (λ (n : ℕ). replicate n Seen ++ mark_under_way (p % 5)) judged
    ∙ ap (λ (n : ℕ). replicate k Seen ++ mark_under_way n) under_way

push-replicate : (k : ℕ) (m : CallMark) → replicate k m ++ m ∷ [] ≡ replicate (k + 1) m
push-replicate k m = replicate-append-replicate k 1 m

pub viewing_is_a_phase : ViewingIsAPhase
viewing_is_a_phase operations k progress r h =
    let before : marks_of progress.calls ≡ replicate k Seen ++ Announced ∷ [] =
    h.marks ∙ marks_with k (5 * k + 2) (omega arith) 2 (omega arith) in
    record {
      in_order = operations_of-with_last (λ _. Has_record r) progress.calls ∙ h.in_order
          ∙ ap (λ (n : ℕ). take n operations) (omega arith);
      marks = marks_of-with_last (λ _. Has_record r) Announced Recorded (λ _ _. refl)
          (replicate k Seen) progress.calls before
          ∙ sym (marks_with k (5 * k + 3) (omega arith) 3 (omega arith));
      published = omega (arith, h.published);
    }

pub seeing_is_a_phase : SeeingIsAPhase
seeing_is_a_phase operations k progress cut h =
    let before : marks_of progress.calls ≡ replicate k Seen ++ Recorded ∷ [] =
    h.marks ∙ marks_with k (5 * k + 4) (omega arith) 4 (omega arith) in
    record {
      in_order = operations_of-with_last (with_seen cut) progress.calls ∙ h.in_order
          ∙ ap (λ (n : ℕ). take n operations) (omega arith);
      marks = marks_of-with_last (with_seen cut) Recorded Seen (seen_turns cut)
          (replicate k Seen) progress.calls before
          ∙ push-replicate k Seen
          ∙ sym (append-nil (replicate (k + 1) Seen))
          ∙ sym (marks_with (k + 1) (5 * (k + 1)) (omega arith) 0 (omega arith));
      published = omega (arith, h.published);
    }
