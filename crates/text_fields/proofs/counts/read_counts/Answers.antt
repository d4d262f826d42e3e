use Rattle.std.proofs.Common.{◌≡◌, ℕ, ◌∷◌, ◌++◌, [], ◌+◌, ◌<◌, ◌≤◌, true, false, List, length, map, decimal, take, sym, subst, ap, ◌∙◌, append_assoc, arith}
use Rattle.std.specs.Prelude.{not, is_some}
use Rattle.std.proofs.lemmas.List.{take_all, take_more_set, length-set, length-take, map_push, append-nil}
use Rattle.list_laws.proofs.Elements.{AllByRecursion-append}
use Rattle.text_fields.specs.Counts.{AreAtMost}
use Rattle.text_fields.proofs.NumberTexts.{number_after, nothing_after, no_next, some_next}
use Rattle.text_fields.proofs.counts.read_counts.Goals as goal

pub returns-in_err-next_number-clause-none : goal.returns-in_err-next_number-clause-none
returns-in_err-next_number-clause-none c = rw c.from_residual.ensures (λ counts wide few text.
    let prefix = take c.loop-i.i c.loop-i.counts in
    let next =
    number_after c.args.most prefix counts c.loop-i.words (sym c.loop-i.invariant.text ∙ text)
    (omega (arith, length-take c.loop-i.i c.loop-i.counts, c.loop-i.invariant.wide)) few in
    c.in_err-next_number.ensures.none next.0 next.1 next.2 next.3)

pub loop-i-preserved : goal.loop-i-preserved
loop-i-preserved c =
    let within : c.loop-i.i < length c.loop-i.counts = omega arith in
    let old = take c.loop-i.i c.loop-i.counts in
    let n = c.in_ok-next_number.field-0 in
    let prefix : take (c.loop-i.i + 1) c.set.new.self ≡ old ++ n ∷ [] =
    ap (take (c.loop-i.i + 1)) c.set.ensures ∙ take_more_set c.loop-i.counts c.loop-i.i n within in
    let read = c.in_ok-next_number.ensures.found in
    record {
      wide = rw (c.set.ensures, length-set) c.loop-i.invariant.wide;
      few = rw prefix (AllByRecursion-append (λ (m : ℕ). m ≤ c.args.most) old
          (n ∷ []) c.loop-i.invariant.few (read.0, tt));
      text = c.loop-i.invariant.text ∙ ap (λ (ws : List (List ℕ)). map decimal old ++ ws) read.1
          ∙ sym (append_assoc (map decimal old) (decimal n ∷ []) c.next_number.new.words)
          ∙ ap (λ (ws : List (List ℕ)). ws ++ c.next_number.new.words)
          (sym (ap (map decimal) prefix ∙ map_push decimal old n));
    }

pub returns-then-is_none-clause-found : goal.returns-then-is_none-clause-found
returns-then-is_none-clause-found c =
    let none : is_some c.next.result ≡ false = c.is_none.ensures ∙ ap not c.if-is_none.true in
    let empty = no_next c.next.result _ _ none c.next.ensures in
    let all : take c.loop-i.i c.loop-i.counts ≡ c.loop-i.counts =
    take_all c.loop-i.i c.loop-i.counts (omega (arith, c.loop-i.invariant.wide)) in (
      c.loop-i.invariant.wide,
      subst (AreAtMost c.args.most) all c.loop-i.invariant.few,
      c.loop-i.invariant.text ∙ ap
          (λ (ws : List (List ℕ)). map decimal (take c.loop-i.i c.loop-i.counts) ++ ws) empty.0
          ∙ append-nil (map decimal (take c.loop-i.i c.loop-i.counts)) ∙ ap (map decimal) all,
    )

pub returns-else-is_none-clause-none : goal.returns-else-is_none-clause-none
returns-else-is_none-clause-none c = λ counts wide few text.
    let some : is_some c.next.result ≡ true = c.is_none.ensures ∙ ap not c.if-is_none.false in
    let more = some_next c.next.result _ _ some c.next.ensures in
    let all : take c.loop-i.i c.loop-i.counts ≡ c.loop-i.counts =
    take_all c.loop-i.i c.loop-i.counts (omega (arith, c.loop-i.invariant.wide)) in
    let empty = nothing_after (take c.loop-i.i c.loop-i.counts) counts c.loop-i.words
    (sym c.loop-i.invariant.text ∙ text) (omega (arith, ap length all, c.loop-i.invariant.wide)) in
    absurd (cc (sym more.1 ∙ empty))
