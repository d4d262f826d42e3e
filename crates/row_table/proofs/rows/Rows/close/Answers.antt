use Rattle.std.proofs.Common.{◌≡◌, ℕ, ◌<◌, List, map, sym, ◌∙◌, subst}
use Rattle.std.specs.Slots.{slots_items}
use Rattle.row_table.specs.declared.plays.Key.{Key}
use Rattle.row_table.specs.Shapes.{shape_for}
use Rattle.row_table.specs.Seats.{View, the, IsWorldOf}
use Rattle.row_table.proofs.Parting.{closes, world_long}
use Rattle.row_table.proofs.Deeds.{key_told}
use Rattle.row_table.proofs.rows.Rows.close.Goals as goal

ended_world : goal.returns-clause-world
ended_world g c =
    let words = slots_items c.close_with-closed.result.words in
    let view : View = c.args.bench.seat.me.0 in
    let callers : c.args.bench.callers ≡ c.args.self.table.shared.key.callers =
    c.requires.bench.callers ∙ sym c.args.self.sized.2 in
    let ended = closes (shape_for g.P.Program.meaning c.args.self.table.shared.key)
    c.args.self.table.shared.key.objects c.args.bench.seat.id view words
    (slots_items c.close_with-closed.result.slots)
    (c.requires.bench.wide ∙ sym c.args.self.sized.2)
    (λ i low. c.requires.all i (subst (λ (n : ℕ). i < n) (sym callers) low))
    c.close_with-closed.ensures.values.2 in
    let told = subst
    (λ (k : Key g.row.P.Denot). IsWorldOf (shape_for g.P.Program.meaning k) words (map the view))
    (key_told c.args.self) ended in
    subst (λ (ws : List ℕ). IsWorldOf (shape_for g.P.Program.meaning (record {
      program = c.args.self.program;
      callers = c.args.self.callers;
      cap = c.args.self.cap;
      objects = c.args.self.objects;
    })) ws (map the view)) (sym c.in_ok-words.ensures) told

pub returns-clause-world : goal.returns-clause-world
returns-clause-world = ended_world

pub returns-clause-count : goal.returns-clause-count
returns-clause-count g c = world_long _ _ _ (ended_world g c)
