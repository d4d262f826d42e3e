use Rattle.std.proofs.Common.{◌≡◌, ◌∙◌, ℕ, not, ◌==◌, List, [], ◌∷◌, ◌++◌, map, sym, ap, subst}
use Rattle.std.specs.List.{filter}
use Rattle.residue_laws.proofs.Appending.{map-both}
use Rattle.streams.specs.StreamOrder.{StreamPlace}
use Rattle.late_residue.specs.declared.reached.Placed.{Placed}
use Rattle.late_residue.specs.Reached.{place_of}
use Rattle.late_residue.specs.Placing.{AreOthers}
use Rattle.late_residue.proofs.Views.{without_others}
use Rattle.late_residue.proofs.Meanings.{among-push}
use Rattle.late_residue.proofs.reached.Reached.after.Goals as goal

pub returns-clause-after : goal.returns-clause-after
returns-clause-after g c =
    let next = (g.O.SeqObject.spec c.args.object.now).next in
    let call = c.args.call.now in
    let list = c.args.self.now.list.items in
    let items = c.args.self.now.placed.items in
    let words : c.in_ok-state.state.words ≡ list = ap (λ s. s.words) c.in_ok-state.ensures in
    let replies : c.step-reply.result ≡ (next list call.op).1 = c.step-reply.ensures.reply
    ∙ ap (λ (l : List ℕ). (next l call.op).1) words in
    let lists : c.step-reply.new.state.words ≡ (next list call.op).0 =
    ap (λ s. s.words) c.step-reply.ensures.list
    ∙ ap (λ (l : List ℕ). (next l call.op).0) words in
    let place : Placed = record { call = call.call; reply = c.step-reply.result } in
    let same : place_of place ≡ record { call = call.call; reply = (next list call.op).1 } =
    ap (λ (r : ℕ). record { call = call.call; reply = r }) replies in
    let put = c.in_ok-push.ensures.items
    ∙ ap (λ (ps : List Placed). ps ++ place ∷ [])
    (c.in_ok-placed.ensures ∙ c.deref.ensures.value) in
    let images : map place_of c.push.new.self.items
    ≡ map place_of items ++ record { call = call.call; reply = (next list call.op).1 } ∷ [] =
    ap (λ (ps : List Placed). map place_of ps) put ∙ (map-both place_of items (place ∷ [])
    ∙ ap (λ (q : StreamPlace). map place_of items ++ q ∷ []) same) in
    let optional = c.in_ok-others.ensures
    ∙ ap (λ (ps : List Placed). filter (λ (p : Placed). not (p.call == call.call)) ps)
    c.deref-2.ensures.value in
    record {
      list = c.in_ok-copy_of.ensures ∙ (c.words.ensures ∙ lists);
      placed = λ q. among-push (map place_of items) (map place_of c.push.new.self.items)
          (record { call = call.call; reply = (next list call.op).1 }) q images;
      optional = subst (λ (ps : List Placed). AreOthers call.call
          (map place_of c.args.self.now.optional.items) (map place_of ps)) (sym optional)
          (without_others c.args.self.now.optional.items call.call);
    }
