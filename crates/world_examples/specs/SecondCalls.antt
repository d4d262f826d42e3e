-- Worked runs in which one caller makes two calls, and the locals at moments of these runs.
use Rattle.std.specs.Prelude.{ℕ, ◌+◌, ◌*◌, ◌^◌, ◌==◌, true, List, [], ◌∷◌, ◌++◌, take}
use Rattle.book_base.specs.declared.call.Record.{Record}
use Rattle.book_base.specs.Book.{Page}
use Rattle.world_core.specs.declared.region.Region.TheVariants.{N, M}
use Rattle.world_core.specs.Layout.{Content, Low, High, Reply, View_entry, Embedded_entry}
use Rattle.world_core.specs.Shape.{Shape}
use Rattle.world_core.specs.Programs.{outside}
use Rattle.world_core.specs.Local.{Local}
use Rattle.world_core.specs.CallSteps.{operation_now}
use Rattle.world_core.specs.Event.{Announce, Object, Look, Peek, Begins_none, Begins_scan, Begins_view}
use Rattle.world_core.specs.World.{Step}
use Rattle.world_core.specs.Calls.{Reached, Made}
use Rattle.world_examples.specs.Schedules.{by, scan, stages, announcement, publication, local_after_all, borrowing, object_step}

-- Two callers with two rows each; the object is outside the world.
abbrev pub twice : Shape
twice = record { callers = 2; cap = 2; program = outside }

-- The steps of a whole call of caller 0, given the low and the high word of its operation, its
-- reply, the cut that its row embeds in N, its view, the cut that its row embeds in M, and its seen
-- cut.
abbrev pub whole_call : ℕ → ℕ → ℕ → List ℕ → List ℕ → List ℕ → List ℕ → List Step
whole_call low high reply in_N view in_M seen =
    scan 0 N Begins_scan in_N
    ++ stages 0 N 0 (low ∷ high ∷ in_N)
    ++ by 0 Announce
    ∷ scan 0 N (Begins_view reply) view
    ++ publication 0 reply view in_M
    ++ scan 0 M Begins_scan seen

-- Caller 1 announces the operation 9, and makes no further step. Then caller 0 makes two whole
-- calls. Each cut of N that caller 0 is given counts the call of caller 1, and no cut of M that it
-- is given does.
abbrev pub two_by_one : List Step
two_by_one =
    announcement 1 9 (0 ∷ 0 ∷ [])
    ++ whole_call 5 7 50 (0 ∷ 1 ∷ []) (1 ∷ 1 ∷ []) (0 ∷ 0 ∷ []) (1 ∷ 0 ∷ [])
    ++ whole_call 6 8 60 (1 ∷ 1 ∷ []) (2 ∷ 1 ∷ []) (1 ∷ 0 ∷ []) (2 ∷ 0 ∷ [])

-- The operation of the first call of caller 0: its low word is 5, and its high word 7.
abbrev pub first_operation : ℕ
first_operation = 5 + 7 * 2 ^ 64

-- The operation of the second call of caller 0: its low word is 6, and its high word 8.
abbrev pub second_operation : ℕ
second_operation = 6 + 8 * 2 ^ 64

-- The local of caller 0 right after its second announcement in `two_by_one`.
abbrev pub as_announced : Local
as_announced = local_after_all twice (take 45 two_by_one) 0

-- The local of caller 0 right after its second view in `two_by_one`.
abbrev pub as_viewed : Local
as_viewed = local_after_all twice (take 49 two_by_one) 0

-- The local of caller 0 right after its second publication in `two_by_one`.
abbrev pub as_published : Local
as_published = local_after_all twice (take 59 two_by_one) 0

-- The local of caller 0 right after its second seen cut, at the end of `two_by_one`.
abbrev pub as_judged : Local
as_judged = local_after_all twice two_by_one 0

-- The steps of `two_by_one` through the scan of M after the second view: next caller 0 may stage
-- the words of its second row in M.
abbrev pub second_ready : List Step
second_ready = take 53 two_by_one

-- The record of the first call of caller 0.
abbrev pub first_record : Record
first_record = record { reply = 50; view = 1 ∷ 1 ∷ [] }

-- The record of the second call of caller 0.
abbrev pub second_record : Record
second_record = record { reply = 60; view = 2 ∷ 1 ∷ [] }

-- A call with this operation that has come this far.
abbrev pub made : ℕ → Reached → Made
made operation reached = record { operation = operation; reached = reached }

-- The book of both callers' calls at the end of `two_by_one`.
abbrev pub book_of_two : List Page
book_of_two =
    record {
      operations = first_operation ∷ second_operation ∷ [];
      records = first_record ∷ second_record ∷ [];
    }
    ∷ record { operations = 9 ∷ []; records = [] }
    ∷ []

-- What the places of a row of two callers are for, in order: those of N, and then those of M.
abbrev pub contents : List Content
contents =
    Low
    ∷ High
    ∷ Embedded_entry N 0
    ∷ Embedded_entry N 1
    ∷ Reply
    ∷ View_entry 0
    ∷ View_entry 1
    ∷ Embedded_entry M 0
    ∷ Embedded_entry M 1
    ∷ []

-- Caller 0 stages both words of its operation twice, first 5 and 7, and then 6 and 8, and
-- announces.
abbrev pub staged_again : List Step
staged_again =
    scan 0 N Begins_scan (0 ∷ 0 ∷ [])
    ++ stages 0 N 0 (5 ∷ 7 ∷ [])
    ++ stages 0 N 0 (6 ∷ 8 ∷ [])
    ++ stages 0 N 2 (0 ∷ 0 ∷ [])
    ++ by 0 Announce
    ∷ []

-- Caller 0 scans N and stages all places of its row in N but the first.
abbrev pub first_unstaged : List Step
first_unstaged = scan 0 N Begins_scan (0 ∷ 0 ∷ []) ++ stages 0 N 1 (0 ∷ 0 ∷ 0 ∷ [])

-- After `borrowing` caller 2 peeks the low word of the operation that caller 1 announced.
abbrev pub peeking : List Step
peeking = borrowing ++ by 2 (Peek N 1 0 0 7) ∷ []

-- Caller 0 begins a scan of N, which next needs the count of caller 1 in N, and looks at the count
-- of caller 1 in M.
abbrev pub looked_beside : List Step
looked_beside = by 0 (Look N 0 0 Begins_scan) ∷ by 0 (Look M 1 0 Begins_none) ∷ []

-- One caller with two rows, and two object words, where every step and every reply is allowed.
abbrev pub two_words : Shape
two_words = record {
  callers = 1;
  cap = 2;
  program = record { objects = 2; may_step = λ i l step. true; may_reply = λ i l reply. true };
}

-- The caller makes two object steps in its first call, and one in its second.
abbrev pub steps_by_call : List Step
steps_by_call =
    announcement 0 5 (0 ∷ [])
    ++ by 0 (Object (object_step 1 0 3))
    ∷ by 0 (Object (object_step 0 0 4))
    ∷ scan 0 N (Begins_view 50) (1 ∷ [])
    ++ publication 0 50 (1 ∷ []) (0 ∷ [])
    ++ scan 0 M Begins_scan (1 ∷ [])
    ++ announcement 0 6 (1 ∷ [])
    ++ by 0 (Object (object_step 1 3 8))
    ∷ []

-- One caller with two rows, and one object word, where the only word that a step may leave and the
-- only reply is the operation of the call under way.
abbrev pub by_operation : Shape
by_operation =
    record {
      callers = 1;
      cap = 2;
      program = record {
        objects = 1;
        may_step = λ i l step. step.new == operation_now l;
        may_reply = λ i l reply. reply == operation_now l;
      };
    }
