use Rattle.std.proofs.Common.{◌≡◌, ℕ, ◌∙◌, List, ◌++◌, take, Some, sym, ap, slice_get}
use Rattle.std.proofs.lemmas.List.{take_all}
use Rattle.level_refutations.specs.declared.entry.LevelEntry.{LevelEntry}
use Rattle.level_refutations.specs.declared.node.Node.{Node}
use Rattle.level_refutations.specs.Closed.{nodes_at, with_nodes, nodes_of}
use Rattle.level_refutations.proofs.Listing.{read_at}
use Rattle.level_refutations.proofs.Bounds.{nodes_of_more, no_nodes}
use Rattle.level_refutations.proofs.nodes.nodes_of.Goals.{in-At+in_ok-add_all, in_default}
use Rattle.level_refutations.proofs.nodes.nodes_of.Goals as goal

pub loop-k-init : goal.loop-k-init
loop-k-init c = c.new-nodes.ensures.items

pub loop-k-preserved : goal.loop-k-preserved
loop-k-preserved c =
    let entries = c.args.entries.now in
    let k : ℕ = c.loop-k.k in
    let here : LevelEntry = c.index-entries-k.result in
    let before : List Node = nodes_of (take k entries) in
    let at : slice_get entries k ≡ Some here =
    read_at entries k here _ c.loop-k-test.true c.index-entries-k.is in
    let more = nodes_of_more entries k here at c.loop-k-test.true in
    elim c.match-entries-k.branch [
      | in-At+in_ok-add_all w ↦ ap (λ nodes. nodes.items) w.nodes-is
          ∙ (w.in_ok-add_all.ensures
          ∙ (ap (λ (ns : List Node). ns ++ nodes_at w.in-At.level w.deref.result.now)
          c.loop-k.invariant
          ∙ (ap (λ (cs : List ℕ). before ++ nodes_at w.in-At.level cs) w.deref.ensures.value
          ∙ (ap (with_nodes before) (sym w.in-At.is) ∙ sym more))))
      | in_default w ↦ ap (λ nodes. nodes.items) w.nodes-is
          ∙ (c.loop-k.invariant ∙ sym (more ∙ no_nodes here w.in_default.not-At before))
    ]

pub returns : goal.returns
returns c = c.loop-k.invariant ∙ ap (λ (es : List LevelEntry). nodes_of es)
    (take_all c.loop-k.k c.args.entries.now c.loop-k-test.false)
