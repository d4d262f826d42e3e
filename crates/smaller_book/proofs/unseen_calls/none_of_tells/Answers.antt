use Rattle.std.proofs.Common.{ℕ, ◌⊎◌, ◌∙◌, get_or, sym, subst, inl, inr, arith}
use Rattle.std.proofs.lemmas.Bool.{cases_eq, true≢false}
use Rattle.book_base.specs.declared.call.Call.{Call}
use Rattle.book_base.specs.Book.{Precedes}
use Rattle.smaller_book.specs.Settings.{Writes, RepliesOtherwise, CannotTell}
use Rattle.smaller_book.proofs.unseen_calls.none_of_tells.Goals.{else-number-until-via-then-number-until+else-not-cannot_see, else-number-until-via-else-number-until}
use Rattle.smaller_book.proofs.unseen_calls.none_of_tells.Goals as goal

pub loop-place-preserved : goal.loop-place-preserved
loop-place-preserved c k below =
    let place = c.loop-place.place in
    let Hidden : ℕ → Type 0 = λ j. CannotTell c.args.kind c.args.book.now c.args.setting
    c.args.item (record { caller = c.args.caller; number = get_or c.args.numbers.now j 0 }) in
    let here : Hidden place = elim c.else-number-until.branch [
      | else-number-until-via-then-number-until+else-not-cannot_see w ↦
          elim (w.cannot_see.ensures.0 w.if-not-cannot_see.false) [
            | inl writes ↦ inl writes
            | inr rest ↦ elim rest [
              | inl otherwise ↦ inr (inl otherwise)
              | inr precedes ↦ inr (inr (inl precedes))
            ]
          ]
      | else-number-until-via-else-number-until w ↦ inr (inr (inr (
          (c.overwritten_from-until.ensures (get_or c.args.numbers.now place 0)
          (c.requires.inside place c.loop-place-test.true)).0 (omega (arith, w.if-number-until.false))
          )))
    ] in
    elim (cases_eq k place) [
      | inl e ↦ subst Hidden (sym e) here
      | inr other ↦ c.loop-place.invariant k (omega (arith, below, other))
    ]

pub returns-then-not-cannot_see : goal.returns-then-not-cannot_see
returns-then-not-cannot_see c =
    let place = c.loop-place.place in
    let number : ℕ = get_or c.args.numbers.now place 0 in
    let call : Call = record { caller = c.args.caller; number = number } in
    let sees : ¬ (Writes c.args.kind c.args.book.now call
    ⊎ RepliesOtherwise c.args.kind c.args.book.now c.args.item call
    ⊎ Precedes c.args.book.now call c.args.setting) = λ cannot.
    true≢false (sym (c.cannot_see.ensures.1 cannot) ∙ c.if-not-cannot_see.true) in (
      λ wrong. absurd (true≢false (sym wrong)),
      λ all. absurd (elim (all place c.loop-place-test.true) [
        | inl writes ↦ sees (inl writes)
        | inr rest ↦ elim rest [
          | inl otherwise ↦ sees (inr (inl otherwise))
          | inr later ↦ elim later [
            | inl precedes ↦ sees (inr (inr precedes))
            | inr overwritten ↦ omega (
              arith,
              c.if-number-until.true,
              (c.overwritten_from-until.ensures number
                  (c.requires.inside place c.loop-place-test.true)).1 overwritten,
            )
          ]
        ]
      ]),
    )
