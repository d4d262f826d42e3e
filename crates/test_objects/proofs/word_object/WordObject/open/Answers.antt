use Rattle.shared_words.specs.Passes.{callers_of, cap_of}
use Rattle.shared_words.proofs.Dealing.{new_are_own, new_are_fresh}
use Rattle.test_objects.proofs.word_object.WordObject.open.Goals as goal

pub returns-clause-own : goal.returns-clause-own
returns-clause-own g c =
    let w = c.in_ok-words.words in
    new_are_own g.M.Usage.may (g.M.WordCalls.call (callers_of w) (cap_of w)) w
    c.in_ok-words.passes.items c.in_ok-words.ensures.new

pub returns-clause-fresh : goal.returns-clause-fresh
returns-clause-fresh g c = new_are_fresh c.in_ok-words.words c.args.cap c.in_ok-words.passes.items
    c.in_ok-words.ensures.words.1 c.in_ok-words.ensures.new
