use Rattle.std.proofs.Common.{◌≡◌, ℕ, ◌+◌, ◌∙◌, List, [], ◌∷◌, ◌++◌, length, set, Some, refl, sym, ap, subst, slice_get, arith}
use Rattle.std.proofs.lemmas.List.{length-set}
use Rattle.book_base.specs.State.{Contents}
use Rattle.book_base.specs.declared.call.Call.{Call}
use Rattle.book_base.specs.declared.call.Place.{Place}
use Rattle.book_base.specs.declared.call.Record.{Record}
use Rattle.book_base.specs.Book.{operation_of, record_of}
use Rattle.book_base.specs.Next.{raised, next_call}
use Rattle.seq_objects.specs.Objects.{kind_next, length-kind_next}
use Rattle.legal_prefixes.specs.declared.prefix.LegalPrefix.{LegalPrefix}
use Rattle.legal_prefixes.specs.Layers.{ArePrefixesOf, IsListed, AreApart, AddsCall}
use Rattle.legal_prefixes.proofs.Adding.{adds_one, apart-push, listed-push, listed-last, listed_as, right-push, right_next}
use Rattle.legal_prefixes.proofs.layer.push_call.Goals as goal

pub step-reply-requires : goal.step-reply-requires
step-reply-requires c =
    omega (
      arith,
      ap (λ (s : Contents). length s.words) c.load.ensures,
      ap (λ (s : Contents). s.room) c.load.ensures,
      ap length c.deref.ensures.value,
      length-kind_next c.args.kind c.load.new.state.words c.op.result,
      c.requires.room,
      c.requires.few,
      c.requires.prefix.short,
    )

pub is_listed-requires : goal.is_listed-requires
is_listed-requires c k prefix has =
    let it = c.requires.right k prefix
    (sym (ap (λ (xs : List LegalPrefix). slice_get xs k) c.deref-2.ensures.value) ∙ has) in
    it.wide ∙ sym c.requires.prefix.wide
    ∙ sym (length-set c.args.prefix.now.cut c.args.caller (c.get.result + 1))
    ∙ sym (ap length c.set.ensures)

pub returns-then-is_listed-clause-added : goal.returns-then-is_listed-clause-added
returns-then-is_listed-clause-added c =
    let kind = c.args.kind in
    let book = c.args.book.now in
    let prefix = c.args.prefix.now in
    let caller = c.args.caller in
    let op = c.op.result in
    let call : ℕ → Call = λ n. record { caller = caller; number = n } in
    let asked : operation_of book (next_call prefix.cut caller) ≡ Some op =
    ap (λ (n : ℕ). operation_of book (call n)) (sym c.get.ensures) ∙ c.op.ensures in
    let cut_is : c.set.new.self ≡ raised prefix.cut caller =
    c.set.ensures ∙ ap (λ (n : ℕ). set prefix.cut caller (n + 1)) c.get.ensures in
    let loaded : c.load.new.state.words ≡ prefix.words.items =
    ap (λ (s : Contents). s.words) c.load.ensures ∙ c.deref.ensures.value in
    let list_is : c.words.result.now ≡ (kind_next kind prefix.words.items op).0 =
    c.words.ensures ∙ ap (λ (s : Contents). s.words) c.step-reply.ensures.list
    ∙ ap (λ (l : List ℕ). (kind_next kind l op).0) loaded in
    adds_one kind book prefix caller op c.args.next.now.items c.args.next.now.items asked
    (λ cut list it. it)
    (listed_as c.deref-2.result.now c.args.next.now.items c.set.new.self (raised prefix.cut caller)
    c.words.result.now (kind_next kind prefix.words.items op).0 c.deref-2.ensures.value cut_is
    list_is (c.is_listed.ensures.listed c.if-is_listed.true))

pub returns-clause-right : goal.returns-clause-right
returns-clause-right c =
    let kind = c.args.kind in
    let book = c.args.book.now in
    let prefix = c.args.prefix.now in
    let caller = c.args.caller in
    let op = c.op.result in
    let call : ℕ → Call = λ n. record { caller = caller; number = n } in
    let asked : operation_of book (next_call prefix.cut caller) ≡ Some op =
    ap (λ (n : ℕ). operation_of book (call n)) (sym c.get.ensures) ∙ c.op.ensures in
    let cut_is : c.set.new.self ≡ raised prefix.cut caller =
    c.set.ensures ∙ ap (λ (n : ℕ). set prefix.cut caller (n + 1)) c.get.ensures in
    let loaded : c.load.new.state.words ≡ prefix.words.items =
    ap (λ (s : Contents). s.words) c.load.ensures ∙ c.deref.ensures.value in
    let place : Place = record {
      caller = caller;
      number = c.get.result;
      reply = c.step-reply.result;
    } in
    let longer : LegalPrefix = record {
      places = c.in_ok-with_place.field-0;
      cut = c.set.new.self;
      words = c.in_ok-from_slice.field-0;
    } in
    let list_is : longer.words.items ≡ (kind_next kind prefix.words.items op).0 =
    c.in_ok-from_slice.ensures.items ∙ c.words-2.ensures
    ∙ ap (λ (s : Contents). s.words) c.step-reply.ensures.list
    ∙ ap (λ (l : List ℕ). (kind_next kind l op).0) loaded in
    let right = right_next kind book c.args.count prefix longer caller op place c.requires.prefix
    refl c.get.ensures
    (c.step-reply.ensures.reply ∙ ap (λ (l : List ℕ). (kind_next kind l op).1) loaded)
    (c.may_come.ensures.0 c.if-not-may_come.false) asked
    (λ (r : Record) (known : record_of book (next_call prefix.cut caller) ≡ Some r).
    c.is_recorded.ensures.0 c.if-not-is_recorded.false r
    (ap (λ (n : ℕ). record_of book (call n)) c.get.ensures ∙ known))
    (c.in_ok-with_place.ensures
    ∙ ap (λ (ps : List Place). ps ++ place ∷ []) c.deref-3.ensures.value)
    cut_is list_is in
    subst (ArePrefixesOf kind book (c.args.count + 1)) (sym c.in_ok-push.ensures.items)
    (right-push kind book (c.args.count + 1) c.args.next.now.items longer c.requires.right right)

pub returns-clause-added : goal.returns-clause-added
returns-clause-added c =
    let kind = c.args.kind in
    let book = c.args.book.now in
    let prefix = c.args.prefix.now in
    let caller = c.args.caller in
    let op = c.op.result in
    let call : ℕ → Call = λ n. record { caller = caller; number = n } in
    let asked : operation_of book (next_call prefix.cut caller) ≡ Some op =
    ap (λ (n : ℕ). operation_of book (call n)) (sym c.get.ensures) ∙ c.op.ensures in
    let cut_is : c.set.new.self ≡ raised prefix.cut caller =
    c.set.ensures ∙ ap (λ (n : ℕ). set prefix.cut caller (n + 1)) c.get.ensures in
    let loaded : c.load.new.state.words ≡ prefix.words.items =
    ap (λ (s : Contents). s.words) c.load.ensures ∙ c.deref.ensures.value in
    let old = c.args.next.now.items in
    let longer : LegalPrefix = record {
      places = c.in_ok-with_place.field-0;
      cut = c.set.new.self;
      words = c.in_ok-from_slice.field-0;
    } in
    let list_is : longer.words.items ≡ (kind_next kind prefix.words.items op).0 =
    c.in_ok-from_slice.ensures.items ∙ c.words-2.ensures
    ∙ ap (λ (s : Contents). s.words) c.step-reply.ensures.list
    ∙ ap (λ (l : List ℕ). (kind_next kind l op).0) loaded in
    subst (AddsCall kind book prefix caller old) (sym c.in_ok-push.ensures.items)
    (adds_one kind book prefix caller op old (old ++ longer ∷ []) asked
    (listed-push old longer)
    (listed-last old longer (raised prefix.cut caller) (kind_next kind prefix.words.items op).0
    cut_is list_is))

pub returns-clause-apart : goal.returns-clause-apart
returns-clause-apart c =
    let old = c.args.next.now.items in
    let longer : LegalPrefix = record {
      places = c.in_ok-with_place.field-0;
      cut = c.set.new.self;
      words = c.in_ok-from_slice.field-0;
    } in
    let never : IsListed old c.set.new.self c.words.result.now → ⊥ =
    λ (it : IsListed old c.set.new.self c.words.result.now).
    c.is_listed.ensures.none c.if-is_listed.false
    (listed_as old c.deref-2.result.now c.set.new.self c.set.new.self c.words.result.now
    c.words.result.now (sym c.deref-2.ensures.value) refl refl it) in
    subst AreApart (sym c.in_ok-push.ensures.items)
    (apart-push old longer c.set.new.self c.words.result.now refl
    (c.in_ok-from_slice.ensures.items ∙ c.words-2.ensures ∙ sym c.words.ensures)
    c.requires.apart never)
