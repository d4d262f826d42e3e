use Rattle.std.proofs.Common.{◌≡◌, ◌∙◌, ℕ, ◌+◌, List, [], ◌∷◌, ◌++◌, length, take, drop, refl, sym, ap, arith, append_assoc, length-append}
use Rattle.std.proofs.lemmas.List.{take-append-drop}
use Rattle.watch_core.specs.Event.{event_of}
use Rattle.watch.proofs.Returning.{where_ok}
use Rattle.watch.proofs.objects.Object.take.Goals as goal

pub returns-then-len-saturating_add : goal.returns-then-len-saturating_add
returns-then-len-saturating_add c = record {
  received = λ kind asked stream lines w.
      let q = c.push_back.new.self.items in
      let pushed : q ≡ c.args.self.now.lines.items ++ c.args.line ∷ [] =
      c.in_ok-push_back.ensures.items in
      let event = event_of c.args.event in record {
        received = where_ok c.take.result c.is_err.result c.is_err.ensures.value c.if-is_err.false
            c.take.ensures.received stream w.received;
        counted = omega (arith, c.in-Some.ensures, w.counted, length-append stream (event ∷ []));
        window_is = w.window_is;
        kind_is = c.take.ensures.kind.0 ∙ w.kind_is;
        limit_is = c.take.ensures.kind.1 ∙ w.limit_is;
        even = omega (
          arith,
          w.even,
          length-append stream (event ∷ []),
          length-append lines (c.args.line ∷ []),
        );
        older = w.older ++ take 1 q;
        recent = ap (λ (l : List ℕ). l ++ c.args.line ∷ []) w.recent
            ∙ (append_assoc w.older c.args.self.now.lines.items (c.args.line ∷ [])
            ∙ (ap (λ (l : List ℕ). w.older ++ l) (sym pushed ∙ sym (take-append-drop 1 q))
            ∙ (sym (append_assoc w.older (take 1 q) (drop 1 q))
            ∙ ap (λ (l : List ℕ). (w.older ++ take 1 q) ++ l) (sym c.pop_front.ensures.rest))));
      };
}

pub returns-else-len-saturating_add : goal.returns-else-len-saturating_add
returns-else-len-saturating_add c = record {
  received = λ kind asked stream lines w.
      let q = c.push_back.new.self.items in
      let pushed : q ≡ c.args.self.now.lines.items ++ c.args.line ∷ [] =
      c.in_ok-push_back.ensures.items in
      let event = event_of c.args.event in record {
        received = where_ok c.take.result c.is_err.result c.is_err.ensures.value c.if-is_err.false
            c.take.ensures.received stream w.received;
        counted = omega (arith, c.in-Some.ensures, w.counted, length-append stream (event ∷ []));
        window_is = w.window_is;
        kind_is = c.take.ensures.kind.0 ∙ w.kind_is;
        limit_is = c.take.ensures.kind.1 ∙ w.limit_is;
        even = omega (
          arith,
          w.even,
          length-append stream (event ∷ []),
          length-append lines (c.args.line ∷ []),
        );
        older = w.older;
        recent = ap (λ (l : List ℕ). l ++ c.args.line ∷ []) w.recent
            ∙ (append_assoc w.older c.args.self.now.lines.items (c.args.line ∷ [])
            ∙ ap (λ (l : List ℕ). w.older ++ l) (sym pushed));
      };
}
