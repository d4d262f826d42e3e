use Rattle.std.proofs.Common.{◌∙◌, ap, sym, subst, arith}
use mathlib.Core.List.{IsPrefix}
use Rattle.shared_words.specs.Passes.{callers_of, cap_of, history_of}
use Rattle.shared_words.proofs.Calling.{called}
use Rattle.test_objects.proofs.word_object.WordObject.make.Goals as goal

pub note-requires : goal.note-requires
note-requires g c =
    let own = c.requires.own in
    let left = c.requires.left in
    let cap = own.cap in
    let room = own.room in
    omega arith

pub returns-clause-own : goal.returns-clause-own
returns-clause-own g c =
    let w = c.args.self.now.words in
    let noted = c.note.ensures in
    called g.M.Usage.may (g.M.WordCalls.call (callers_of w) (cap_of w)) w c.args.pass.now
    c.note.new.self c.reply-reply.new.seat c.args.op c.reply-reply.result c.requires.own
    c.reply-reply.ensures.seat c.reply-reply.ensures.caller c.reply-reply.ensures.call noted.pairs
    noted.seat noted.same.0 noted.same.1

pub returns-clause-same : goal.returns-clause-same
returns-clause-same g c =
    (ap (λ s. s.who) c.note.ensures.seat ∙ c.reply-reply.ensures.caller, c.note.ensures.same.0)

pub returns-clause-history : goal.returns-clause-history
returns-clause-history g c = subst (λ s. IsPrefix (history_of c.args.pass.now.seat) (history_of s))
    (sym c.note.ensures.seat) c.reply-reply.ensures.history

pub returns-clause-known : goal.returns-clause-known
returns-clause-known g c = subst
    (λ s. g.M.WordCalls.known c.args.pass.now.seat.who c.args.op c.reply-reply.result
    (history_of s)) (sym c.note.ensures.seat) c.reply-reply.ensures.known
