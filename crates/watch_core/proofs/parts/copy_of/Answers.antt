use Rattle.std.proofs.Common.{◌+◌, ◌<◌, length, sym, subst, arith}
use Rattle.watch_core.proofs.Lookups.{CopiesFirst, copies_more, copies_all, none_at}
use Rattle.watch_core.proofs.parts.copy_of.Goals.{in-Some+in_ok-copy+in_ok-insert+in-Some-1, in-Some+in_ok-copy+in_ok-insert+in-None-1, in_default}
use Rattle.watch_core.proofs.parts.copy_of.Goals as goal

pub loop-at-preserved : goal.loop-at-preserved
loop-at-preserved c =
    let parts = c.args.parts.now.entries in
    let at = c.loop-at.at in
    let low : at < length parts = omega (arith, c.loop-at-test.true, c.len-at-end.ensures.len) in
    elim c.match-get_index.branch [
      | in-Some+in_ok-copy+in_ok-insert+in-Some-1 w ↦
          subst (λ m. CopiesFirst parts m.entries (at + 1)) (sym w.copy-is)
          (copies_more parts c.loop-at.copy w.insert.new.self at w.in-Some.key.now
          w.in-Some.part.now w.in_ok-copy.field-0 c.loop-at.invariant
          (sym w.in-Some.ensures.entry) w.in-Some.ensures.value w.in_ok-copy.ensures
          w.in_ok-insert.ensures.updates)
      | in-Some+in_ok-copy+in_ok-insert+in-None-1 w ↦
          subst (λ m. CopiesFirst parts m.entries (at + 1)) (sym w.copy-is)
          (copies_more parts c.loop-at.copy w.insert.new.self at w.in-Some.key.now
          w.in-Some.part.now w.in_ok-copy.field-0 c.loop-at.invariant
          (sym w.in-Some.ensures.entry) w.in-Some.ensures.value w.in_ok-copy.ensures
          w.in_ok-insert.ensures.updates)
      | in_default w ↦ absurd (none_at parts at low w.in_default.ensures.entry)
    ]

pub returns : goal.returns
returns c = copies_all c.args.parts.now.entries c.loop-at.copy.entries c.loop-at.at
    (omega (arith, c.loop-at-test.false, c.len-at-end.ensures.len)) c.loop-at.invariant
