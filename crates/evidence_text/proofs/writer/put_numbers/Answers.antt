use Rattle.std.proofs.Common.{ℕ, ◌<◌, ◌^◌, List, [], ◌∷◌, take, get_or, refl, sym, subst, arith}
use Rattle.std.proofs.lemmas.List.{take_more}
use Rattle.list_laws.proofs.Elements.{AllByRecursion-append}
use Rattle.text_fields.specs.Counts.{AreNumbers}
use Rattle.book_text.proofs.WrittenLines.{step_counts}
use Rattle.evidence_text.proofs.writer.put_numbers.Goals as goal

pub loop-number-preserved : goal.loop-number-preserved
loop-number-preserved c =
    let numbers : List ℕ = c.args.numbers.now in
    let i = c.loop-number.number-index in
    let small : get_or numbers i 0 < 2 ^ 64 =
    omega (arith, c.type_inv.numbers i) in
    record {
      text = step_counts c.args.out.now.items c.loop-number.out.items
          c.put_spaced.new.out.items numbers i (get_or numbers i 0) c.loop-number-test.true refl
          c.loop-number.invariant.text c.in_ok-put_spaced.ensures;
      small = subst AreNumbers (sym (take_more numbers i 0 c.loop-number-test.true))
          (AllByRecursion-append (λ n. n < 2 ^ 64) (take i numbers) (get_or numbers i 0 ∷ [])
          c.loop-number.invariant.small (small, tt));
    }
