use Rattle.std.proofs.Common.{◌<◌, IsTrue, Option, sym, ap, ◌∙◌, subst, arith}
use Rattle.world_core.specs.declared.region.Region.{Region}
use Rattle.world_core.specs.declared.want.Want.TheVariants.{Look as Wants_look, Peek as Wants_peek}
use Rattle.world_core.specs.Local.{Local}
use Rattle.world_core.specs.Event.{Look, Peek, local_after, knows_row}
use Rattle.row_table.specs.Actions.{opening_in}
use Rattle.row_table.specs.Stances.{opening_with}
use Rattle.row_table.specs.Callers.{local_with, stance_of}
use Rattle.collect_scan.proofs.Going.{look_goes, peek_goes}
use Rattle.collect_scan.proofs.Seen.{peek_known}
use Rattle.collect_scan.proofs.Turning.{wants_is}
use Rattle.collect_scan.proofs.steps.go_on.Goals as goal

pub peek-requires-clause-known : goal.peek-requires-clause-known
peek-requires-clause-known g c =
    let n = c.args.rows.now.callers in
    let l = local_with c.args.caller.now in
    let h = c.requires.goes.scanning in
    let p = c.in-Some-Peek in
    let some : 0 < n = omega (arith, c.requires.caller.seat.who) in
    let wants = wants_is n c.args.caller.now.callers l h.before c.args.region h.opening h.taken
    c.wants.result p.field-0 (Wants_peek p.j p.row p.entry) c.wants.ensures.wants p.is p.field-0-is
    c.requires.caller.callers h.is in
    subst (λ (m : Local). IsTrue (knows_row n m c.args.region p.j p.row)) (sym h.is)
    (peek_known n h.before c.args.region h.opening h.taken p.j p.row p.entry some wants)

pub returns-in-Some-Look-clause-taken : goal.returns-in-Some-Look-clause-taken
returns-in-Some-Look-clause-taken g c before opening taken is =
    let n = c.args.rows.now.callers in
    let l = local_with c.args.caller.now in
    let p = c.in-Some-Look in
    let x = c.look.result in
    let wants = wants_is n c.args.caller.now.callers l before c.args.region opening taken
    c.wants.result p.field-0
    (Wants_look p.j) c.wants.ensures.wants p.is p.field-0-is c.requires.caller.callers is in
    let op =
    ap (λ (b : Option Region). opening_in (opening_with b (stance_of c.args.caller.now).reply))
    c.requires.goes.plain in (
      x,
      c.look.ensures.event ∙ (λ i. local_after n (is i) (Look c.args.region p.j x (op i)))
          ∙ look_goes n before c.args.region opening taken x p.j wants,
    )

pub returns-in-Some-Peek-clause-taken : goal.returns-in-Some-Peek-clause-taken
returns-in-Some-Peek-clause-taken g c before opening taken is =
    let n = c.args.rows.now.callers in
    let l = local_with c.args.caller.now in
    let p = c.in-Some-Peek in
    let place = c.embedded_place-place.result in
    let x = c.peek.result in
    let wants = wants_is n c.args.caller.now.callers l before c.args.region opening taken
    c.wants.result p.field-0 (Wants_peek p.j p.row p.entry) c.wants.ensures.wants p.is p.field-0-is
    c.requires.caller.callers is in (
      x,
      c.peek.ensures.event ∙ ap
          (λ (m : Local). local_after n m (Peek c.args.region p.j p.row place x)) is
          ∙ peek_goes n before c.args.region opening taken x p.j p.row p.entry place wants
          c.embedded_place-place.ensures.place,
    )
