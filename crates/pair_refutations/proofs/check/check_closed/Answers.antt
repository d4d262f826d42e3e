use Rattle.std.proofs.Common.{◌≡◌, ℕ, ◌+◌, List, length, get_or, refl, sym, subst, arith}
use Rattle.std.proofs.lemmas.Option.{slice_get-get_or}
use Rattle.seq_objects.specs.declared.kind.Kind.TheVariants.{Queue}
use Rattle.seq_objects.specs.Objects.{kind_next, kind_spec}
use Rattle.kind_search.specs.Readings.{queue_reading}
use Rattle.kind_search.proofs.Reading.{queue_is_read}
use Rattle.queue_pairs.specs.Pairs.{Paired}
use Rattle.queue_pairs.specs.NextEntries.{paired}
use Rattle.pair_refutations.specs.declared.entry.Move.TheVariants.{Finds}
use Rattle.pair_refutations.specs.declared.entry.PairEntry.{PairEntry}
use Rattle.pair_refutations.specs.Closed.{AreMade}
use Rattle.pair_refutations.specs.Fault.{HasTable, IsFirstFault}
use Rattle.pair_refutations.specs.Tabled.{standings_of}
use Rattle.pair_refutations.proofs.Making.{made-more, made-within}
use Rattle.pair_refutations.proofs.Faults.{first-unlisted, first-open, refutes}
use Rattle.pair_refutations.proofs.Refuting.{closed-none}
use Rattle.pair_refutations.proofs.check.check_closed.Goals as goal

-- an entry
abbrev no_entry : PairEntry
no_entry = record { item = 0; by = Finds }

pub returns-in_default-clause-fault : goal.returns-in_default-clause-fault
returns-in_default-clause-fault c =
    let book = c.args.book.now in
    let entries = c.args.entries.now in
    first-unlisted book entries c.requires c.loop-k.k (standings_of c.loop-k.standings)
    (get_or entries c.loop-k.k no_entry) c.loop-k.invariant.made
    (slice_get-get_or entries c.loop-k.k no_entry c.loop-k-test.true)
    (λ next makes. c.in_default.ensures.none queue_reading book next c.in_ok-table.ensures makes)

pub loop-k-preserved : goal.loop-k-preserved
loop-k-preserved c =
    let book = c.args.book.now in
    let entries = c.args.entries.now in
    let k : ℕ = c.loop-k.k in
    record {
      known = c.in_ok-push.ensures.known;
      early = c.in_ok-push.ensures.early;
      made = subst (AreMade queue_reading book entries (k + 1)) (sym c.in_ok-push.ensures.added)
          (made-more queue_reading book entries k (standings_of c.loop-k.standings)
          (get_or entries k no_entry) (paired c.in-Some.next) c.loop-k.invariant.made
          (slice_get-get_or entries k no_entry c.loop-k-test.true)
          (c.in-Some.ensures.made queue_reading book c.in_ok-table.ensures));
    }

pub returns-in-Some-2-clause-fault : goal.returns-in-Some-2-clause-fault
returns-in-Some-2-clause-fault c =
    let book = c.args.book.now in
    let entries = c.args.entries.now in
    let all : List Paired = standings_of c.loop-k.standings in
    let whole : c.loop-k.k ≡ length entries = omega (
      arith,
      c.loop-k-test.false,
      made-within queue_reading book entries c.loop-k.k all c.loop-k.invariant.made,
    ) in
    let made = subst (λ (n : ℕ). AreMade queue_reading book entries n all) whole
    c.loop-k.invariant.made in
    let found = rw c.in-Some-2.is at c.in_ok-fault.ensures.fault in
    subst (IsFirstFault book entries) (sym c.fault_of.ensures)
    (first-open book entries c.requires all made c.in-Some-2.fault
    (found queue_reading book c.in_ok-table.ensures))

pub returns-clause-tabled : goal.returns-clause-tabled
unfolding HasTable
returns-clause-tabled c = (c.in_ok-table.table, c.in_ok-table.ensures)

pub returns-clause-none : goal.returns-clause-none
unfolding kind_next
returns-clause-none c has =
    let book = c.args.book.now in
    let entries = c.args.entries.now in
    let all : List Paired = standings_of c.loop-k.standings in
    let whole : c.loop-k.k ≡ length entries = omega (
      arith,
      c.loop-k-test.false,
      made-within queue_reading book entries c.loop-k.k all c.loop-k.invariant.made,
    ) in
    let made = subst (λ (n : ℕ). AreMade queue_reading book entries n all) whole
    c.loop-k.invariant.made in
    let closed = rw c.in-None.is at c.in_ok-fault.ensures.closed in
    let refuted = refutes book entries c.requires all made
    (λ number s at. closed number s at queue_reading book c.in_ok-table.ensures) in
    closed-none queue_reading (kind_spec Queue) book c.in_ok-table.table entries
    c.in_ok-table.ensures queue_is_read refl c.requires.0 refuted.closed has
