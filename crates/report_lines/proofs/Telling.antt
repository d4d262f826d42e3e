-- What an object tells after each phase of a caller.
use Rattle.std.proofs.Common.{◌≡◌, ℕ, ◌+◌, ◌*◌, ◌≤◌, List, [], ◌∷◌, ◌++◌, length, map, take, replicate, slice_index, refl, sym, ap, ◌∙◌, arith}
use Rattle.std.proofs.lemmas.List.{length-append, length-map, length-take, length_push, map-append, append-nil, take_all, take-append-le, get_or-take, take_more}
use Rattle.std.proofs.lemmas.List.Concat.{flat_map-append}
use Rattle.book_base.specs.declared.call.Record.{Record}
use Rattle.world_core.specs.Calls.{Reached, Is_announced, Has_record, Has_seen, Made, records_of}
use Rattle.report_lines.specs.Phases.{CallMark, Announced, Seen, begun, asked, answered, mark_of, operations_of, marks_of, Progress, IsProgressAfter, answers_in, IsTold}
use Rattle.report_lines.specs.Progress.{with_last, with_seen}
use Rattle.report_lines.proofs.Accounts.{the_last_call_goes_on}
use Rattle.report_lines.specs.Telling.{ToldAsAnnounced, ToldAsAsked, ToldAsViewed, ToldAsPublished, ToldAsSeen}
use Rattle.report_lines.proofs.Stepping.{operations_of-with_last, marks_with, length-marks_after}

-- there are as many calls as have begun
pub as_many_calls : (operations : List ℕ) (p : ℕ) (progress : Progress)
    → IsProgressAfter operations p progress → length (operations_of progress.calls) ≡ begun p
as_many_calls operations p progress h =
    omega (
      arith,
      length-map progress.calls (λ (c : Made). c.operation),
      length-map progress.calls (λ (c : Made). mark_of c.reached),
      ap (λ (ms : List CallMark). length ms) h.marks,
      length-marks_after p,
    )

-- The operation and the reply of a call, where it has its record; and those of some calls and one
-- more.
abbrev answers_at : ℕ → Reached → List (ℕ × ℕ)
answers_at operation reached = map (λ (r : Record). (operation, r.reply)) (records_of reached)

abbrev answers_with : Made → List (ℕ × ℕ)
answers_with c = answers_at c.operation c.reached

answers_in-push : (calls : List Made) (c : Made)
    → answers_in (calls ++ c ∷ []) ≡ answers_in calls ++ answers_with c
answers_in-push calls c =
    flat_map-append answers_with calls (c ∷ [])
    ∙ ap (λ (pairs : List (ℕ × ℕ)). answers_in calls ++ pairs) (append-nil (answers_with c))

operations_of-push : (calls : List Made) (c : Made)
    → operations_of (calls ++ c ∷ []) ≡ operations_of calls ++ c.operation ∷ []
operations_of-push calls c = map-append (λ (c : Made). c.operation) calls (c ∷ [])

pub told_as_announced : ToldAsAnnounced
told_as_announced operations k progress operation pairs h told =
    let c : Made = record { operation = operation; reached = Is_announced } in
    let calls : List Made = progress.calls in
    let many : k ≤ length (operations_of calls) =
    omega (arith, as_many_calls operations (5 * k) progress h) in
    let kept : take k (operations_of (calls ++ c ∷ [])) ≡ take k (operations_of calls) =
    ap (λ (ops : List ℕ). take k ops) (operations_of-push calls c)
    ∙ take-append-le k (operations_of calls) (operation ∷ []) many in
    record {
      operations =
          told.operations
          ∙ ap (λ (n : ℕ). take n (operations_of calls)) (omega arith)
          ∙ sym kept
          ∙ ap (λ (n : ℕ). take n (operations_of (calls ++ c ∷ []))) (omega arith);
      replies = ap (λ (n : ℕ). take n pairs) (omega arith) ∙ told.replies
          ∙ sym (answers_in-push calls c ∙ append-nil (answers_in calls));
    }

-- how many pairs are told
as_many_pairs : (p : ℕ) (calls : List Made) (pairs : List (ℕ × ℕ)) → IsTold p calls pairs
    → asked p ≤ length (operations_of calls) → length pairs ≡ asked p
as_many_pairs p calls pairs told few =
    omega (
      arith,
      length-map pairs (λ (pair : ℕ × ℕ). pair.0),
      ap (λ (ops : List ℕ). length ops) told.operations,
      length-take (asked p) (operations_of calls),
      few,
    )

pub told_as_asked : ToldAsAsked
told_as_asked operations k progress reply pairs h told =
    let calls : List Made = progress.calls in
    let ops : List ℕ = operations_of calls in
    let many : length ops ≡ k + 1 =
    omega (arith, as_many_calls operations (5 * k + 1) progress h) in
    let long : length pairs ≡ k =
    omega (arith, as_many_pairs (5 * k + 1) calls pairs told (omega (arith, many))) in
    let last : slice_index operations k ≡ slice_index ops k =
    sym (ap (λ (xs : List ℕ). slice_index xs k) h.in_order
    ∙ get_or-take (begun (5 * k + 1)) operations k 0 (omega arith)) in
    let pair : ℕ × ℕ = (slice_index operations k, reply) in
    record {
      operations =
          map-append (λ (pair : ℕ × ℕ). pair.0) pairs (pair ∷ [])
          ∙ ap (λ (xs : List ℕ). xs ++ slice_index operations k ∷ [])
          (told.operations ∙ ap (λ (n : ℕ). take n ops) (omega arith))
          ∙ ap (λ (x : ℕ). take k ops ++ x ∷ []) last
          ∙ sym (take_more ops k 0 (omega (arith, many)))
          ∙ ap (λ (n : ℕ). take n ops) (omega arith);
      replies =
          ap (λ (n : ℕ). take n (pairs ++ pair ∷ [])) (omega arith)
          ∙ take-append-le k pairs (pair ∷ []) (omega (arith, long))
          ∙ ap (λ (n : ℕ). take n pairs) (omega arith)
          ∙ told.replies;
    }

-- The last of some calls, which has this mark.
record EndsWith (calls : List Made) (m : CallMark) : Type 0 where
  before : List Made
  last : Made
  are : calls ≡ before ++ last ∷ []
  mark : mark_of last.reached ≡ m

ends_with : (calls : List Made) (prefix : List CallMark) (m : CallMark)
    → marks_of calls ≡ prefix ++ m ∷ [] → EndsWith calls m
ends_with [] prefix m e =
    absurd (omega (arith, ap (λ (ms : List CallMark). length ms) e, length-append prefix (m ∷ [])))
ends_with (c ∷ []) [] m e = let own : mark_of c.reached ≡ m = cc in
    record { before = []; last = c; are = refl; mark = own }
ends_with (c ∷ d ∷ calls) [] m e = absurd (omega (arith, ap (λ (ms : List CallMark). length ms) e))
ends_with (c ∷ []) (x ∷ prefix) m e =
    absurd (omega (arith, ap (λ (ms : List CallMark). length ms) e, length-append prefix (m ∷ [])))
ends_with (c ∷ d ∷ calls) (x ∷ prefix) m e =
    let rest : marks_of (d ∷ calls) ≡ prefix ++ m ∷ [] = cc in
    let found = ends_with (d ∷ calls) prefix m rest in
    record {
      before = c ∷ found.before;
      last = found.last;
      are = ap (λ (cs : List Made). c ∷ cs) found.are;
      mark = found.mark;
    }

-- a call that is only announced has no answer
no_answer : (c : Made) → mark_of c.reached ≡ Announced → answers_with c ≡ []
no_answer c e = by_reached c.reached e
  where
    by_reached : (reached : Reached) → mark_of reached ≡ Announced
        → answers_at c.operation reached ≡ []
    by_reached Is_announced e = refl
    by_reached (Has_record r) e = absurd cc
    by_reached (Has_seen r cut) e = absurd cc

-- the last of two equal lists
same_last : (xs ys : List ℕ) (x y : ℕ) → xs ++ x ∷ [] ≡ ys ++ y ∷ [] → x ≡ y
same_last [] [] x y e = cc
same_last [] (b ∷ ys) x y e =
    absurd (omega (arith, ap (λ (zs : List ℕ). length zs) e, length-append ys (y ∷ [])))
same_last (a ∷ xs) [] x y e =
    absurd (omega (arith, ap (λ (zs : List ℕ). length zs) e, length-append xs (x ∷ [])))
same_last (a ∷ xs) (b ∷ ys) x y e = let rest : xs ++ x ∷ [] ≡ ys ++ y ∷ [] = cc in
    same_last xs ys x y rest

pub told_as_viewed : ToldAsViewed
told_as_viewed operations k progress operation r pairs h told =
    let calls : List Made = progress.calls in
    let pair : ℕ × ℕ = (operation, r.reply) in
    let all : List (ℕ × ℕ) = pairs ++ pair ∷ [] in
    let many : length (operations_of calls) ≡ k + 1 =
    omega (arith, as_many_calls operations (5 * k + 2) progress h) in
    let long : length all ≡ k + 1 =
    omega (arith, as_many_pairs (5 * k + 2) calls all told (omega (arith, many))) in
    let short : length pairs ≡ k = omega (arith, long, length_push pairs pair) in
    let end : EndsWith calls Announced = ends_with calls (replicate k Seen) Announced
    (h.marks ∙ marks_with k (5 * k + 2) (omega arith) 2 (omega arith)) in
    let own : map (λ (pair : ℕ × ℕ). pair.0) pairs ++ operation ∷ [] ≡ operations_of end.before
    ++ end.last.operation ∷ [] =
    sym (map-append (λ (pair : ℕ × ℕ). pair.0) pairs (pair ∷ []))
    ∙ told.operations
    ∙ take_all (asked (5 * k + 2)) (operations_of calls) (omega (arith, many))
    ∙ ap operations_of end.are
    ∙ operations_of-push end.before end.last in
    let same : operation ≡ end.last.operation = same_last (map (λ (pair : ℕ × ℕ). pair.0) pairs)
    (operations_of end.before) operation end.last.operation own in
    let answers_before : answers_in end.before ≡ pairs =
    sym (append-nil (answers_in end.before))
    ∙ ap (λ (ps : List (ℕ × ℕ)). answers_in end.before ++ ps) (sym (no_answer end.last end.mark))
    ∙ sym (answers_in-push end.before end.last)
    ∙ ap answers_in (sym end.are)
    ∙ sym told.replies
    ∙ ap (λ (n : ℕ). take n all) (omega arith)
    ∙ take-append-le k pairs (pair ∷ []) (omega (arith, short))
    ∙ take_all k pairs (omega (arith, short)) in
    let viewed : Made = record { operation = end.last.operation; reached = Has_record r } in
    let answers_after : answers_in (with_last (λ _. Has_record r) calls) ≡ all =
    ap (λ (cs : List Made). answers_in (with_last (λ _. Has_record r) cs)) end.are
    ∙ ap answers_in (the_last_call_goes_on (λ _. Has_record r) end.before end.last)
    ∙ answers_in-push end.before viewed
    ∙ ap (λ (ps : List (ℕ × ℕ)). ps ++ (end.last.operation, r.reply) ∷ []) answers_before
    ∙ ap (λ (o : ℕ). pairs ++ (o, r.reply) ∷ []) (sym same) in
    record {
      operations =
          told.operations
          ∙ ap (λ (n : ℕ). take n (operations_of calls)) (omega arith)
          ∙ ap (λ (ops : List ℕ). take (asked (5 * k + 3)) ops)
          (sym (operations_of-with_last (λ _. Has_record r) calls));
      replies = take_all (answered (5 * k + 3)) all (omega (arith, long)) ∙ sym answers_after;
    }

pub told_as_published : ToldAsPublished
told_as_published k progress pairs told =
    record {
      operations =
          told.operations ∙ ap (λ (n : ℕ). take n (operations_of progress.calls)) (omega arith);
      replies = ap (λ (n : ℕ). take n pairs) (omega arith) ∙ told.replies;
    }

-- seeing a cut changes no answer
answers_seen : (cut : List ℕ) (operation : ℕ) (reached : Reached)
    → answers_at operation (with_seen cut reached) ≡ answers_at operation reached
answers_seen cut operation Is_announced = refl
answers_seen cut operation (Has_record r) = refl
answers_seen cut operation (Has_seen r earlier) = refl

answers_in-seen : (cut : List ℕ) (calls : List Made)
    → answers_in (with_last (with_seen cut) calls) ≡ answers_in calls
answers_in-seen cut [] = refl
answers_in-seen cut (c ∷ []) =
    ap (λ (ps : List (ℕ × ℕ)). ps ++ []) (answers_seen cut c.operation c.reached)
answers_in-seen cut (c ∷ d ∷ calls) =
    ap (λ (ps : List (ℕ × ℕ)). answers_with c ++ ps) (answers_in-seen cut (d ∷ calls))

pub told_as_seen : ToldAsSeen
told_as_seen k progress cut pairs told =
    record {
      operations =
          told.operations
          ∙ ap (λ (n : ℕ). take n (operations_of progress.calls)) (omega arith)
          ∙ ap (λ (ops : List ℕ). take (asked (5 * (k + 1))) ops)
          (sym (operations_of-with_last (with_seen cut) progress.calls));
      replies = ap (λ (n : ℕ). take n pairs) (omega arith) ∙ told.replies
          ∙ sym (answers_in-seen cut progress.calls);
    }
