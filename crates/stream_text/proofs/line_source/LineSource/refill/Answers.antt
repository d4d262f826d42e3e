use Rattle.std.proofs.Common.{◌∙◌, ap}
use Rattle.stream_text.specs.Source.{Held}
use Rattle.stream_text.proofs.Parts.{stretch_some}
use Rattle.stream_text.proofs.line_source.LineSource.refill.Goals as goal

pub returns-then-self-clause-some : goal.returns-then-self-clause-some
returns-then-self-clause-some g c _ e = stretch_some c.self.inside.piece.items c.self.inside.from
    c.self.inside.to c.if-self.true c.self.invariant.1 (ap Held.bytes c.self.view_is ∙ e)
