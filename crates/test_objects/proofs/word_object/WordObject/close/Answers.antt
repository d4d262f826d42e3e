use Rattle.shared_words.specs.Passes.{callers_of, cap_of}
use Rattle.shared_words.proofs.Closing.{seats_of, of_one_history}
use Rattle.test_objects.proofs.word_object.WordObject.close.Goals as goal

pub close-requires-clause-seats : goal.close-requires-clause-seats
close-requires-clause-seats g c =
    let w = c.args.self.words in
    seats_of g.M.Usage.may (g.M.WordCalls.call (callers_of w) (cap_of w)) w c.args.passes.items
    c.requires.own

pub returns : goal.returns
returns g c =
    let w = c.args.self.words in
    let known = c.close.ensures.history in
    record {
      history = (
        known.0,
        c.tells_together.ensures (callers_of w) (cap_of w) known.0 _
            (of_one_history g.M.Usage.may (g.M.WordCalls.call (callers_of w) (cap_of w)) w _ known.0
            c.args.passes.items c.requires.callers c.requires.own known.1),
      );
    }
