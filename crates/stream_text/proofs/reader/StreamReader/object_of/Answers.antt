use Rattle.std.proofs.Common.{◌≡◌, ◌∙◌, ◌+◌, ◌++◌, ◌∷◌, [], Bool, if◌then◌else◌, List, ℕ, length, get_or, map, ap, arith, refl, bytes_eq, length-append}
use Rattle.std.proofs.lemmas.List.{length-map}
use Rattle.stream_text.specs.Stream.{names_with, object_named}
use Rattle.stream_text.proofs.Names.{names_grow, names_count, place_mapped, zero_more}
use Rattle.stream_text.proofs.Tables.{named_tables}
use Rattle.stream_text.proofs.reader.StreamReader.object_of.Goals as goal

pub returns-in_ok-push-clause-tables : goal.returns-in_ok-push-clause-tables
returns-in_ok-push-clause-tables c said has =
    let keys = c.args.self.now.names.keys in
    let key = c.extend_from_slice.new.self in
    let named : key.items ≡ c.args.name.now = c.in_ok-extend_from_slice.ensures.items
    ∙ ap (λ (l : List ℕ). l ++ c.args.name.now) c.new-key.ensures.items in
    let after : map (λ k. k.items) c.insert_full.new.self.keys
    ≡ names_with said.names c.args.name.now = ap (λ ks. map (λ k. k.items) ks) c.in_ok-object.ensures.keys
    ∙ names_grow (λ k. k.items) _ (λ a b. refl) key keys
    ∙ ap (λ (ns : List (List ℕ)). names_with ns key.items) has.names
    ∙ ap (names_with said.names) named in
    let at : c.in_ok-object.object ≡ object_named said.names c.args.name.now =
    c.in_ok-object.ensures.index ∙ place_mapped (λ k. k.items) _ bytes_eq (λ a b. refl) key keys
    ∙ ap (λ (ns : List (List ℕ)). object_named ns key.items) has.names
    ∙ ap (object_named said.names) named in
    let count = names_count (λ k. k.items) _ (λ a b. refl) key keys said.names c.args.name.now
    has.names named c.in_ok-object.is_new c.in_ok-object.ensures.added
    ∙ ap (λ (b : Bool). length said.names + (if b then 1 else 0)) c.if-is_new.true in
    let pushed = c.in_ok-push.ensures.items in (
      at,
      omega (
        arith,
        c.in_ok-object.ensures.within,
        ap length after,
        length-map c.insert_full.new.self.keys (λ k. k.items),
      ),
      named_tables c.args.self.now _ said c.args.name.now after
          (ap length pushed ∙ omega (
            arith,
            length-append c.args.self.now.counts.items (0 ∷ []),
            count,
            has.size,
          ))
          (λ object. ap (λ l. get_or l object 0) pushed
          ∙ zero_more c.args.self.now.counts.items object)
          refl has,
    )

pub returns-else-is_new-clause-tables : goal.returns-else-is_new-clause-tables
returns-else-is_new-clause-tables c said has =
    let keys = c.args.self.now.names.keys in
    let key = c.extend_from_slice.new.self in
    let named : key.items ≡ c.args.name.now = c.in_ok-extend_from_slice.ensures.items
    ∙ ap (λ (l : List ℕ). l ++ c.args.name.now) c.new-key.ensures.items in
    let after : map (λ k. k.items) c.insert_full.new.self.keys
    ≡ names_with said.names c.args.name.now = ap (λ ks. map (λ k. k.items) ks) c.in_ok-object.ensures.keys
    ∙ names_grow (λ k. k.items) _ (λ a b. refl) key keys
    ∙ ap (λ (ns : List (List ℕ)). names_with ns key.items) has.names
    ∙ ap (names_with said.names) named in
    let at : c.in_ok-object.object ≡ object_named said.names c.args.name.now =
    c.in_ok-object.ensures.index ∙ place_mapped (λ k. k.items) _ bytes_eq (λ a b. refl) key keys
    ∙ ap (λ (ns : List (List ℕ)). object_named ns key.items) has.names
    ∙ ap (object_named said.names) named in
    let count = names_count (λ k. k.items) _ (λ a b. refl) key keys said.names c.args.name.now
    has.names named c.in_ok-object.is_new c.in_ok-object.ensures.added
    ∙ ap (λ (b : Bool). length said.names + (if b then 1 else 0)) c.if-is_new.false in (
      at,
      omega (
        arith,
        c.in_ok-object.ensures.within,
        ap length after,
        length-map c.insert_full.new.self.keys (λ k. k.items),
      ),
      named_tables c.args.self.now _ said c.args.name.now after (omega (arith, count, has.size))
          (λ object. refl) refl has,
    )
