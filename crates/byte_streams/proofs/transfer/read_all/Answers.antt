use Rattle.std.proofs.Common.{◌≡◌, ◌+◌, ◌≤◌, ◌++◌, length, arith, length-append}
use Rattle.std.proofs.lemmas.Result.{err_from_is_err_and}
use Rattle.std.proofs.KnownBytes.{Consumes-trans}
use Rattle.byte_streams.specs.declared.TheConstants.{INPUT_LIMIT}
use Rattle.byte_streams.proofs.ToldLemmas.{HasRead-full, HasRead-end}
use Rattle.byte_streams.proofs.transfer.read_all.Goals as goal
use Rattle.byte_streams.proofs.transfer.read_all.Goals.{else-loop-piece-test, then-loop-piece-test+in_ok-read_more+then-branch-eq0}

pub returns-in_err-read_more-clause-err : goal.returns-in_err-read_more-clause-err
returns-in_err-read_more-clause-err g c =
    let p = err_from_is_err_and c.from_residual.result c.from_residual.ensures.1 in
    let last = c.in_err-read_more.ensures.err in
    rw p.1 (
      c.loop-piece.bytes.items ++ last.0,
      Consumes-trans _ _ _ _ _ c.loop-piece.invariant.given last.1,
    )

pub returns-clause-read : goal.returns-clause-read
returns-clause-read g c =
    elim c.loop-piece-test.branch [
      | else-loop-piece-test w ↦
          let full : length c.loop-piece.bytes.items ≡ INPUT_LIMIT + 1 =
          omega (
            arith,
            w.loop-piece-test.false,
            c.loop-piece.invariant.within,
            c.len.ensures,
            c.loop-piece.bytes.ok.0,
          ) in
          rw (w.source-is, w.bytes-is) (HasRead-full _ _ _ c.loop-piece.invariant.given full)
      | then-loop-piece-test+in_ok-read_more+then-branch-eq0 w ↦
          let last = w.in_ok-read_more.ensures.bytes in
          let few : length (c.loop-piece.bytes.items ++ last.0) ≤ INPUT_LIMIT + 1 =
          omega (
            arith,
            w.if-branch-eq0.true,
            last.1,
            c.loop-piece.invariant.within,
            length-append c.loop-piece.bytes.items last.0,
          ) in
          rw (w.source-is, w.bytes-is, last.2)
          (HasRead-end _ _ _ (Consumes-trans _ _ _ _ _ c.loop-piece.invariant.given last.3)
          (w.in_ok-read_more.ensures.end w.if-branch-eq0.true) few)
    ]
