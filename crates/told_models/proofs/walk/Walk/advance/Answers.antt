use Rattle.std.proofs.Common.{◌≡◌, ◌∙◌, ℕ, length, Option, Some, unwrap_or, refl, sym, ap, arith}
use Rattle.std.proofs.lemmas.Result.{IfOk-weaker}
use Rattle.book_base.specs.Book.{operation_of}
use Rattle.book_base.specs.Next.{next_call}
use Rattle.told_models.specs.Table.{told_step}
use Rattle.told_models.specs.Walking.{IsWalk, IsRightStep}
use Rattle.told_models.specs.Weighing.{IsLighter}
use Rattle.told_models.proofs.Walks.{walk_wide, walk_counts, walk_call, walk_has_call, walk_remembers, walk_asks, walk_leaves_out, walk_may_enter, lighter_without, lighter_within, lighter_from}
use Rattle.told_models.proofs.walk.Walk.advance.Goals as goal

pub remember-requires-clause-wide : goal.remember-requires-clause-wide
remember-requires-clause-wide c =
    ap length c.deref.ensures.value
    ∙ (walk_wide c.args.table.now c.args.book.now c.args.self.now c.requires.walk
    ∙ sym c.requires.walk.callers)

pub retreat-requires-clause-walk : goal.retreat-requires-clause-walk
retreat-requires-clause-walk c =
    walk_remembers c.args.table.now c.args.book.now c.args.self.now c.remember.new.self
    c.deref.result.now c.requires.walk c.in_default.ensures.none c.deref.ensures.value
    c.in_ok-remember.ensures.memo c.in_ok-remember.ensures.callers c.in_ok-remember.ensures.only

pub returns-in_default-clause-walk : goal.returns-in_default-clause-walk
returns-in_default-clause-walk c = c.retreat.ensures.0

pub returns-in_default-clause-step : goal.returns-in_default-clause-step
returns-in_default-clause-step c = c.retreat.ensures.1

pub returns-in_default-clause-lighter : goal.returns-in_default-clause-lighter
returns-in_default-clause-lighter c = c.retreat.ensures.2

pub index-requires : goal.index-requires
index-requires c =
    let table = c.args.table.now in
    let book = c.args.book.now in
    let walk = c.args.self.now in
    let h = c.requires.walk in
    let caller = c.in-Some.caller in
    let marked = c.in-Some.ensures.some in
    omega (
      arith,
      walk.counts.ok.0,
      walk_counts table book walk (next_call walk.counts.items caller) h
          (h.here.may caller marked).is_call,
    )

pub op-op-requires : goal.op-op-requires
op-op-requires c =
    let table = c.args.table.now in
    let book = c.args.book.now in
    let walk = c.args.self.now in
    let h = c.requires.walk in
    let caller = c.in-Some.caller in
    let marked = c.in-Some.ensures.some in
    walk_has_call table book walk caller c.index.result.now c.from-number.result h marked
    c.index.ensures c.from-number.ensures

pub returns-in_default-get-clause-step : goal.returns-in_default-get-clause-step
returns-in_default-get-clause-step c =
    let table = c.args.table.now in
    let book = c.args.book.now in
    let walk = c.args.self.now in
    let h = c.requires.walk in
    let caller = c.in-Some.caller in
    let marked = c.in-Some.ensures.some in
    let same = walk_call table book walk caller c.index.result.now c.from-number.result h marked
    c.index.ensures c.from-number.ensures in
    let is_op : operation_of book (next_call walk.counts.items caller) ≡ Some c.op-op.result =
    ap (operation_of book) (sym same) ∙ c.op-op.ensures in
    walk_asks table book walk caller c.op-op.result h marked is_op
    (sym c.get.ensures ∙ c.in_default-get.is)

pub returns-then-is_left_out-clause-walk : goal.returns-then-is_left_out-clause-walk
returns-then-is_left_out-clause-walk c =
    let table = c.args.table.now in
    let book = c.args.book.now in
    let walk = c.args.self.now in
    let h = c.requires.walk in
    let caller = c.in-Some.caller in
    let marked = c.in-Some.ensures.some in
    let same = walk_call table book walk caller c.index.result.now c.from-number.result h marked
    c.index.ensures c.from-number.ensures in
    let is_op : operation_of book (next_call walk.counts.items caller) ≡ Some c.op-op.result =
    ap (operation_of book) (sym same) ∙ c.op-op.ensures in
    walk_leaves_out table book walk c.without-self.result caller c.op-op.result
    c.in-Some-get.transition h marked c.without-self.ensures is_op
    (sym c.get.ensures ∙ c.in-Some-get.is) (c.is_left_out.ensures.left_out c.if-is_left_out.true)

pub returns-then-is_left_out-clause-lighter : goal.returns-then-is_left_out-clause-lighter
returns-then-is_left_out-clause-lighter c =
    lighter_without c.args.table.now c.args.book.now c.args.self.now c.without-self.result
    c.in-Some.caller c.requires.walk c.in-Some.ensures.some c.without-self.ensures

pub to_try-self-requires-clause-told : goal.to_try-self-requires-clause-told
to_try-self-requires-clause-told c =
    let table = c.args.table.now in
    let book = c.args.book.now in
    let walk = c.args.self.now in
    let h = c.requires.walk in
    let caller = c.in-Some.caller in
    let marked = c.in-Some.ensures.some in
    let same = walk_call table book walk caller c.index.result.now c.from-number.result h marked
    c.index.ensures c.from-number.ensures in
    let is_op : operation_of book (next_call walk.counts.items caller) ≡ Some c.op-op.result =
    ap (operation_of book) (sym same) ∙ c.op-op.ensures in
    ap (λ (o : Option ℕ). told_step table walk.state (unwrap_or o 0)) is_op
    ∙ (sym c.get.ensures ∙ c.in-Some-get.is)

pub enter-requires-clause-walk : goal.enter-requires-clause-walk
enter-requires-clause-walk c = c.to_try-self.ensures.walk

pub enter-requires-clause-waiting : goal.enter-requires-clause-waiting
enter-requires-clause-waiting c = c.to_try-self.ensures.marked

pub enter-requires-clause-enters : goal.enter-requires-clause-enters
enter-requires-clause-enters c =
    let table = c.args.table.now in
    let book = c.args.book.now in
    let walk = c.args.self.now in
    let h = c.requires.walk in
    let caller = c.in-Some.caller in
    let marked = c.in-Some.ensures.some in
    let same = walk_call table book walk caller c.index.result.now c.from-number.result h marked
    c.index.ensures c.from-number.ensures in
    let tried = c.to_try-self.ensures in
    walk_may_enter table book (record walk { waiting = c.to_try-self.result })
    (record {
      caller = caller;
      number = c.from-number.result;
      reply = c.in-Some-get.transition.reply;
    })
    c.op-op.result c.in-Some-get.transition tried.walk tried.marked same refl c.op-op.ensures
    (sym c.get.ensures ∙ c.in-Some-get.is)
    (c.is_left_out.ensures.recorded c.if-is_left_out.false)

pub returns-clause-walk : goal.returns-clause-walk
returns-clause-walk c =
    IfOk-weaker c.enter.result _
    (λ step. IsWalk c.args.table.now c.args.book.now c.enter.new.self) (λ step e. e.0)
    c.enter.ensures

pub returns-clause-step : goal.returns-clause-step
returns-clause-step c =
    IfOk-weaker c.enter.result _ (IsRightStep c.args.table.now c.args.book.now) (λ step e. e.1)
    c.enter.ensures

pub returns-clause-lighter : goal.returns-clause-lighter
returns-clause-lighter c =
    let book = c.args.book.now in
    let walk = c.args.self.now in
    let tried = c.to_try-self.ensures in
    IfOk-weaker c.enter.result _ (λ step. IsLighter book walk step c.enter.new.self)
    (λ step e. lighter_from book walk (record walk { waiting = c.to_try-self.result })
    c.enter.new.self step (lighter_within book walk c.to_try-self.result tried.fewer) e.2)
    c.enter.ensures
