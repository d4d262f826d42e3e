use Rattle.pair_refutations.specs.declared.standings.Standings.{Standings}
use Rattle.pair_refutations.proofs.Storing.{known-more, early-more}
use Rattle.pair_refutations.proofs.standings.Standings.push.Goals as goal

pub returns-clause-known : goal.returns-clause-known
returns-clause-known c =
    let new : Standings = record { all = c.push.new.self; known = c.insert.new.self } in
    known-more c.args.self.now new c.args.standing c.requires.known c.in_ok-push.ensures.items
    c.in_ok-_is_new.ensures.keys

pub returns-clause-early : goal.returns-clause-early
returns-clause-early c =
    let new : Standings = record { all = c.push.new.self; known = c.insert.new.self } in
    early-more c.args.self.now new c.args.standing c.requires.early c.requires.new
    c.in_ok-push.ensures.items
