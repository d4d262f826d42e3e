use Rattle.std.proofs.Common.{◌≡◌, ◌∙◌, ℕ, List, [], ◌∷◌, ◌++◌, length, map, Bool, Some, sym, ap, arith}
use Rattle.std.proofs.lemmas.List.{take_all}
use Rattle.book_base.specs.State.{Contents}
use Rattle.set_order.specs.Joins.{mask_of, with_joins, joins_some, list_joined, join_reply}
use Rattle.set_order.proofs.Joining.{joined_room}
use Rattle.set_order.proofs.joins.JoinsSetObject.serve.Goals as goal
use Rattle.set_order.proofs.joins.JoinsSetObject.serve.Goals.{then-joins_some, else-joins_some}

pub push-requires : goal.push-requires
push-requires c =
    omega (
      arith,
      joined_room c.args.state.now.words c.args.ops.now c.args.state.now.room
          (sym c.joins_some.ensures ∙ c.if-joins_some.true) c.requires.room,
      ap (λ (s : Contents). s.room) c.clear.ensures,
      ap (λ (s : Contents). length s.words) c.clear.ensures,
    )

pub returns-clause-served : goal.returns-clause-served
returns-clause-served c _ =
    let list : List ℕ = c.args.state.now.words in
    let ops : List ℕ = c.args.ops.now in
    let mask : ℕ = c.with_joins-mask.result in
    let mask_is : mask ≡ with_joins (mask_of list) ops =
    c.with_joins-mask.ensures ∙ ap (λ (n : ℕ). with_joins n ops) c.mask.ensures in
    let made : c.loop-op.replies.words ≡ map (join_reply mask) ops =
    c.loop-op.invariant.made ∙ ap (map (join_reply mask))
    (take_all c.loop-op.op-index ops c.loop-op-test.false) in
    let words : c.if-joins_some.state.words ≡ list_joined (joins_some ops) mask list =
    elim c.if-joins_some.branch [
      | then-joins_some w ↦
          ap (λ (s : Contents). s.words) w.state-is ∙ (ap (λ (s : Contents). s.words) w.push.ensures
          ∙ (ap (λ (s : Contents). s.words ++ mask ∷ []) w.clear.ensures ∙ ap (λ (b : Bool).
          list_joined b mask list) (sym w.if-joins_some.true ∙ c.joins_some.ensures)))
      | else-joins_some w ↦
          ap (λ (s : Contents). s.words) w.state-is ∙ ap (λ (b : Bool). list_joined b mask list)
          (sym w.if-joins_some.false ∙ c.joins_some.ensures)
    ] in
    ap (λ (n : ℕ). Some (list_joined (joins_some ops) n list, map (join_reply n) ops)) (sym mask_is)
    ∙ (ap (λ (l : List ℕ). Some (l, map (join_reply mask) ops)) (sym words)
    ∙ ap (λ (r : List ℕ). Some (c.if-joins_some.state.words, r)) (sym made))
