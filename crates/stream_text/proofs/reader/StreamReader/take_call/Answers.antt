use Rattle.std.proofs.Common.{◌≡◌, ◌∙◌, ℕ, get_or, set, refl, ap, arith}
use Rattle.std.proofs.lemmas.List.{set-get_or}
use Rattle.stream_text.specs.Stream.{names_with, open_of}
use Rattle.stream_text.proofs.Tables.{alike_tables, known_tables}
use Rattle.stream_text.proofs.reader.StreamReader.take_call.Goals as goal

pub returns-then-count-ge-MAX_OPEN-clause-same : goal.returns-then-count-ge-MAX_OPEN-clause-same
returns-then-count-ge-MAX_OPEN-clause-same c what e said has =
    let mid = c.object_of.new.self in
    let object = c.in_ok-object.object in
    let name = c.args.name.now in
    let goes = c.in_ok-object.ensures.tables said has in
    let value : c.in-Some.count.now ≡ get_or mid.counts.items object 0 =
    c.in-Some.ensures.item.3.1 0 in
    known_tables c.args.self.now _ said name has
    (omega (
      arith,
      c.if-count-ge-MAX_OPEN.true,
      value,
      goes.2.counts object,
      ap (λ (k : ℕ). open_of k said.events) goes.0,
    ))
    (alike_tables mid _ (record said { names = names_with said.names name }) refl
    (ap (set mid.counts.items object) value ∙ set-get_or mid.counts.items object 0)
    (λ process. refl) goes.2)
