use Rattle.std.proofs.Common.{true, false, refl}
use Rattle.seq_objects.specs.Words as words
use Rattle.pinned_numbers.proofs.Codes.{by_code}
use Rattle.pinned_numbers.proofs.laws.codes_of_puts_and_takes.Goals as goal

pub returns-clause-puts : goal.returns-clause-puts
returns-clause-puts c = (
  by_code words.enq true false refl refl,
  (
    by_code words.push true false refl refl,
    (
      by_code words.write true false refl refl,
      (
        by_code words.inc true false refl refl,
        (
          by_code words.add true false refl refl,
          (by_code words.insert true false refl refl, (by_code words.put true false refl refl, tt)),
        ),
      ),
    ),
  ),
)

pub returns-clause-takes : goal.returns-clause-takes
returns-clause-takes c = (
  by_code words.deq false true refl refl,
  (
    by_code words.pop false true refl refl,
    (
      by_code words.read false true refl refl,
      (
        by_code words.remove false true refl refl,
        (by_code words.min false true refl refl, (by_code words.get false true refl refl, tt)),
      ),
    ),
  ),
)

pub returns-clause-neither : goal.returns-clause-neither
returns-clause-neither c = (
  by_code words.has false false refl refl,
  (by_code words.cas false false refl refl, (by_code words.del false false refl refl, tt)),
)
