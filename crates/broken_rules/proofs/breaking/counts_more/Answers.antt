use Rattle.std.proofs.Common.{◌≡◌, ◌∙◌, ℕ, ap, arith}
use Rattle.std.proofs.lemmas.Bool.{ltb-true, lt-ltb}
use Rattle.broken_rules.specs.declared.tally.Tally.{Tally}
use Rattle.broken_rules.specs.Deeds.{did, value_by, value_at}
use Rattle.broken_rules.specs.Tallies.{tally_of}
use Rattle.broken_rules.proofs.breaking.counts_more.Goals as goal

pub returns : goal.returns
returns c =
    let book = c.args.book.now in
    let count : Tally → ℕ → ℕ = λ tally value.
    tally_of (did c.args.kind book) book tally value c.args.last in
    let own : ℕ = value_at c.args.kind book c.args.valued in
    let value : c.value-value.result ≡ own = c.value-value.ensures ∙ ap value_by c.act_of.ensures in
    let lesser : c.tally_of-lesser.result ≡ count c.args.fewer own =
    c.tally_of-lesser.ensures.count ∙ ap (count c.args.fewer) value in
    let greater : c.tally_of-greater.result ≡ count c.args.more own =
    c.tally_of-greater.ensures.count ∙ ap (count c.args.more) value in (
      λ yes. omega (
        arith,
        lesser,
        greater,
        ltb-true c.tally_of-lesser.result c.tally_of-greater.result yes,
      ),
      λ more. lt-ltb c.tally_of-lesser.result c.tally_of-greater.result
          (omega (arith, lesser, greater, more)),
    )
