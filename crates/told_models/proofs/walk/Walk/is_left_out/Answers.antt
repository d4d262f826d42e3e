use Rattle.std.proofs.Common.{◌≡◌, ℕ, ◌<◌, get_or, sym, ap, subst, inl, inr, arith}
use Rattle.book_base.specs.declared.call.Call.{Call}
use Rattle.book_base.specs.Book.{calls_of}
use Rattle.book_base.specs.Next.{next_call}
use Rattle.told_models.specs.Walking.{IsRecorded, IsSpared}
use Rattle.told_models.proofs.Walks.{walk_counts, walk_number}
use Rattle.told_models.proofs.walk.Walk.is_left_out.Goals as goal

pub index-requires : goal.index-requires
index-requires c = omega (
  arith,
  c.args.self.now.counts.ok.0,
  walk_counts c.requires.walk.0 c.args.book.now c.args.self.now
      (next_call c.args.self.now.counts.items c.args.caller) c.requires.walk.1
      (c.requires.walk.1.here.may c.args.caller c.requires.waiting).is_call,
)

pub is_recorded-requires : goal.is_recorded-requires
is_recorded-requires c =
    let caller = c.args.caller in
    let walk = c.args.self.now in
    let book = c.args.book.now in
    let h = c.requires.walk.1 in
    let number : c.from-number.result ≡ get_or walk.counts.items caller 0 = omega (
      arith,
      c.from-number.ensures,
      walk_number c.requires.walk.0 book walk caller c.index.result.now h c.requires.waiting
          c.index.ensures,
    ) in
    subst (λ (n : ℕ). n < calls_of book caller) (sym number)
    (h.here.may caller c.requires.waiting).is_call

pub is_spared-requires-clause-call : goal.is_spared-requires-clause-call
is_spared-requires-clause-call c =
    let caller = c.args.caller in
    let walk = c.args.self.now in
    let book = c.args.book.now in
    let h = c.requires.walk.1 in
    let number : c.from-number.result ≡ get_or walk.counts.items caller 0 = omega (
      arith,
      c.from-number.ensures,
      walk_number c.requires.walk.0 book walk caller c.index.result.now h c.requires.waiting
          c.index.ensures,
    ) in
    subst (λ (n : ℕ). n < calls_of book caller) (sym number)
    (h.here.may caller c.requires.waiting).is_call

pub returns-then-not-is_recorded-clause-left_out :
    goal.returns-then-not-is_recorded-clause-left_out
returns-then-not-is_recorded-clause-left_out c = λ out.
    let caller = c.args.caller in
    let walk = c.args.self.now in
    let book = c.args.book.now in
    let h = c.requires.walk.1 in
    let number : c.from-number.result ≡ get_or walk.counts.items caller 0 = omega (
      arith,
      c.from-number.ensures,
      walk_number c.requires.walk.0 book walk caller c.index.result.now h c.requires.waiting
          c.index.ensures,
    ) in
    let read : Call = record { caller = caller; number = c.from-number.result } in
    let same : read ≡ next_call walk.counts.items caller =
    ap (λ (n : ℕ). record { caller = caller; number = n }) number in
    inl
    (λ (recorded : IsRecorded book (next_call walk.counts.items caller) c.args.transition.reply).
    absurd (let e = c.is_recorded.ensures.1
    (subst (λ (call : Call). IsRecorded book call c.args.transition.reply) (sym same) recorded) in
    cc))

pub returns-then-self-clause-left_out : goal.returns-then-self-clause-left_out
returns-then-self-clause-left_out c = λ spared.
    let caller = c.args.caller in
    let walk = c.args.self.now in
    let book = c.args.book.now in
    let h = c.requires.walk.1 in
    let number : c.from-number.result ≡ get_or walk.counts.items caller 0 = omega (
      arith,
      c.from-number.ensures,
      walk_number c.requires.walk.0 book walk caller c.index.result.now h c.requires.waiting
          c.index.ensures,
    ) in
    let read : Call = record { caller = caller; number = c.from-number.result } in
    let same : read ≡ next_call walk.counts.items caller =
    ap (λ (n : ℕ). record { caller = caller; number = n }) number in
    let recorded : IsRecorded book (next_call walk.counts.items caller) c.args.transition.reply =
    subst (λ (call : Call). IsRecorded book call c.args.transition.reply) same
    (c.is_recorded.ensures.0 c.if-not-is_recorded.false) in
    inr (
      c.if-self.true,
      recorded,
      subst (λ (call : Call). IsSpared book walk call c.args.transition) same
          (c.is_spared.ensures spared),
    )

pub returns-then-self-clause-recorded : goal.returns-then-self-clause-recorded
returns-then-self-clause-recorded c = λ kept.
    let caller = c.args.caller in
    let walk = c.args.self.now in
    let book = c.args.book.now in
    let h = c.requires.walk.1 in
    let number : c.from-number.result ≡ get_or walk.counts.items caller 0 = omega (
      arith,
      c.from-number.ensures,
      walk_number c.requires.walk.0 book walk caller c.index.result.now h c.requires.waiting
          c.index.ensures,
    ) in
    let read : Call = record { caller = caller; number = c.from-number.result } in
    let same : read ≡ next_call walk.counts.items caller =
    ap (λ (n : ℕ). record { caller = caller; number = n }) number in
    let recorded : IsRecorded book (next_call walk.counts.items caller) c.args.transition.reply =
    subst (λ (call : Call). IsRecorded book call c.args.transition.reply) same
    (c.is_recorded.ensures.0 c.if-not-is_recorded.false) in
    recorded

pub returns-else-self-clause-recorded : goal.returns-else-self-clause-recorded
returns-else-self-clause-recorded c = λ kept.
    let caller = c.args.caller in
    let walk = c.args.self.now in
    let book = c.args.book.now in
    let h = c.requires.walk.1 in
    let number : c.from-number.result ≡ get_or walk.counts.items caller 0 = omega (
      arith,
      c.from-number.ensures,
      walk_number c.requires.walk.0 book walk caller c.index.result.now h c.requires.waiting
          c.index.ensures,
    ) in
    let read : Call = record { caller = caller; number = c.from-number.result } in
    let same : read ≡ next_call walk.counts.items caller =
    ap (λ (n : ℕ). record { caller = caller; number = n }) number in
    let recorded : IsRecorded book (next_call walk.counts.items caller) c.args.transition.reply =
    subst (λ (call : Call). IsRecorded book call c.args.transition.reply) same
    (c.is_recorded.ensures.0 c.if-not-is_recorded.false) in
    recorded
