use Rattle.std.proofs.Common.{◌≡◌, ℕ, ◌∙◌, length, Some, refl, sym, ap, subst, arith}
use Rattle.std.proofs.lemmas.Option.{same_Some, slice_get_within}
use Rattle.std.specs.Prelude.{IsSomeAnd}
use Rattle.book_base.specs.State.{Contents}
use Rattle.book_base.specs.declared.call.Call.{Call}
use Rattle.book_base.specs.declared.call.Record.{Record}
use Rattle.book_base.specs.Book.{record_of}
use Rattle.book_base.specs.Next.{MayComeNext}
use Rattle.seq_objects.specs.Objects.{length-kind_next}
use Rattle.legal_prefixes.proofs.Blocking.{given_is, never_given}
use Rattle.legal_prefixes.proofs.blocked.blocked_call.Goals as goal

pub step-given-requires : goal.step-given-requires
step-given-requires c =
    let words = ap (λ (s : Contents). length s.words) c.load.ensures in
    let room = ap (λ (s : Contents). s.room) c.load.ensures in
    omega (
      arith,
      words,
      room,
      ap length c.deref.ensures.value,
      length-kind_next c.args.kind c.load.new.state.words c.op.result,
      c.requires.room,
      c.requires.longest.short,
    )

pub unreachable-requires : goal.unreachable-requires
unreachable-requires c =
    let call : Call = record { caller = c.args.caller; number = c.get.result } in
    let may : MayComeNext c.args.book.now c.args.prefix.now.cut call =
    subst (λ (n : ℕ). MayComeNext c.args.book.now c.args.prefix.now.cut
    (record { caller = c.args.caller; number = n })) (sym c.get.ensures) c.requires.may in
    never_given c.args.kind c.args.book.now c.args.prefix.now call c.step-given.result
    c.requires.longest may
    (given_is c.args.kind c.args.book.now c.args.prefix.now.words.items c.load.new.state.words call
    c.op.result c.step-given.result c.op.ensures
    (ap (λ (s : Contents). s.words) c.load.ensures ∙ c.deref.ensures.value)
    c.step-given.ensures.reply)
    (λ (r : Record) (known : record_of c.args.book.now call ≡ Some r).
    let early = slice_get_within _ c.get.result r known in
    absurd (omega (arith, early, c.if-call-answers.true, c.answers.ensures)))

pub returns-clause-blocked : goal.returns-clause-blocked
returns-clause-blocked c =
    let call : Call = record { caller = c.args.caller; number = c.get.result } in
    let may : MayComeNext c.args.book.now c.args.prefix.now.cut call =
    subst (λ (n : ℕ). MayComeNext c.args.book.now c.args.prefix.now.cut
    (record { caller = c.args.caller; number = n })) (sym c.get.ensures) c.requires.may in
    let given = given_is c.args.kind c.args.book.now c.args.prefix.now.words.items
    c.load.new.state.words call c.op.result c.step-given.result c.op.ensures
    (ap (λ (s : Contents). s.words) c.load.ensures ∙ c.deref.ensures.value)
    c.step-given.ensures.reply in
    record {
      may_come = may;
      recorded = subst (λ o. IsSomeAnd o (λ (r : Record). r.reply ≡ c.record.result.reply))
          (sym c.record.ensures.«record») refl;
      given = given;
      differs = λ (same : c.step-given.result ≡ c.record.result.reply).
          never_given c.args.kind c.args.book.now c.args.prefix.now call c.step-given.result
          c.requires.longest may given
          (λ (r : Record) (known : record_of c.args.book.now call ≡ Some r).
          ap (λ (x : Record). x.reply)
          (same_Some r c.record.result (sym known ∙ c.record.ensures.«record»)) ∙ sym same);
    }
