use Rattle.std.proofs.Common.{ℕ, ◌<◌, sym, subst}
use Rattle.row_table.specs.Callers.{shape_of}
use Rattle.row_table.proofs.Parting.{whole_is_together}
use Rattle.row_table.proofs.rows.Rows.whole_bench_is_together.Goals as goal

pub returns : goal.returns
returns g c =
    whole_is_together (shape_of g.P.Program.meaning c.args.self.now) _ c.requires.bench.wide
    (λ i low. c.requires.all i (subst (λ (n : ℕ). i < n) (sym c.requires.bench.callers) low))
    c.requires.bench.together
