use Rattle.std.proofs.Common.{ℕ, List}
use Rattle.frontier_check.proofs.Pairs.{remembers-slots, OnOk-holds}
use Rattle.frontier_check.specs.Memo.{Remembers}
use Rattle.frontier_check.proofs.memo.Memo.remember.Goals as goal

pub returns-clause-only : goal.returns-clause-only
returns-clause-only c =
    OnOk-holds c.place.result (λ (cut list : List ℕ) (h : Remembers c.place.new.self cut list).
    c.in_ok-add.ensures.only cut list
    (remembers-slots c.add.new.self c.place.new.self c.place.ensures cut list h))
