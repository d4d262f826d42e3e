use Rattle.std.proofs.Common.{◌≡◌, List, ℕ, inr, subst}
use Rattle.byte_streams.specs.Told.{HasRead}
use Rattle.byte_streams.proofs.program.run_program.Goals as goal

pub returns-in-Ok-clause-ends : goal.returns-in-Ok-clause-ends
returns-in-Ok-clause-ends g c =
    let value = c.deref.ensures.value in
    let same : c.in-Ok.bytes.items ≡ c.deref.result.now = cc in
    inr (
      c.deref.result.now,
      subst (λ (b : List ℕ). HasRead (g.S.Source.left c.args.source.now)
          (g.S.Source.left c.read_all.new.source) b) same c.in-Ok.ensures.read,
      c.write_output.ensures.ends,
    )
