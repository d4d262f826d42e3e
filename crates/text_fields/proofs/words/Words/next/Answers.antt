use Rattle.std.proofs.Common.{sym, ◌∙◌}
use Rattle.text_fields.proofs.Cuts.{split_uncut, split_cut}
use Rattle.text_fields.proofs.words.Words.next.Goals as goal

pub returns-in-None : goal.returns-in-None
returns-in-None c = sym (rw c.if-self.false at c.self.view_is)
    ∙ split_uncut 32 c.self.inside.rest.now (sym (rw c.in-None.is at c.cut_at.ensures))

pub returns-in-Some : goal.returns-in-Some
returns-in-Some c = rw c.if-self.false
    (sym (rw c.if-self.false at c.self.view_is) ∙ split_cut 32 c.self.inside.rest.now
    c.in-Some.word.now c.in-Some.rest.now (sym (rw c.in-Some.is at c.cut_at.ensures)))
