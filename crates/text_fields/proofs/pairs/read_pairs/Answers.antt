use Rattle.std.proofs.Common.{◌≡◌, ◌≢◌, ℕ, ◌<◌, ◌∷◌, ◌++◌, [], List, length, get_or, sym, ◌∙◌, ap, append_assoc, arith, inr}
use Rattle.std.proofs.lemmas.List.{length-set, get_or-set_other, length-replicate}
use Rattle.list_laws.proofs.Places.{get_or-replicate_default}
use Rattle.text_fields.specs.Counts.{pair_word, pair_words}
use Rattle.text_fields.proofs.NumberTexts.{pair_words-zeros, pair_words-set, numbers-set, numbers-zeros, low_pair}
use Rattle.text_fields.proofs.pairs.read_pairs.Goals as goal

pub loop-caller-init : goal.loop-caller-init
loop-caller-init c =
    let zeros : (k : ℕ) → get_or c.zero-cut.result k 0 ≡ 0 = λ k. ap
    (λ (xs : List ℕ). get_or xs k 0) c.zero-cut.ensures ∙ get_or-replicate_default c.args.n k 0 in
    record {
      wide = ap length c.zero-cut.ensures ∙ length-replicate c.args.n 0;
      small = numbers-zeros c.zero-cut.result zeros;
      text = sym (ap (λ (ws : List (List ℕ)). ws ++ c.args.words.now)
          (pair_words-zeros 0 c.zero-cut.result zeros));
      zeros = λ k le. zeros k;
      bad = λ h. h;
    }

pub loop-caller-preserved : goal.loop-caller-preserved
loop-caller-preserved c =
    let j = c.in_ok-j.j in
    let count = c.in_ok-j.count in
    let cut = c.loop-caller.cut in
    let found = c.in-Some.ensures.found in
    let pair = c.in_ok-j.ensures.found in
    let inside : j < length cut = omega (arith, pair.caller, c.loop-caller.invariant.wide) in
    let suffix = c.next_parts.new.words in
    let added : pair_words 0 c.set.new.self ≡ pair_words 0 cut ++ pair_word j count ∷ [] =
    ap (pair_words 0) c.set.ensures ∙ pair_words-set 0 cut j count inside pair.some
    (λ k le. c.loop-caller.invariant.zeros k (omega arith))
    ∙ ap (λ (i : ℕ). pair_words 0 cut ++ pair_word i count ∷ []) (omega arith) in
    let text : c.args.words.now ≡ pair_words 0 c.set.new.self ++ suffix =
    c.loop-caller.invariant.text ∙ ap (λ (ws : List (List ℕ)). pair_words 0 cut ++ ws)
    (found.0 ∙ ap (λ (w : List ℕ). w ∷ suffix) pair.text)
    ∙ sym (append_assoc (pair_words 0 cut) (pair_word j count ∷ []) suffix)
    ∙ ap (λ (ws : List (List ℕ)). ws ++ suffix) (sym added) in
    record {
      wide = ap length c.set.ensures ∙ length-set cut j count ∙ c.loop-caller.invariant.wide;
      small = rw c.set.ensures (numbers-set cut j count pair.small c.loop-caller.invariant.small);
      text = text;
      zeros = λ k le. let other : k ≢ j =
          λ same. omega arith in ap (λ (xs : List ℕ). get_or xs k 0) c.set.ensures
          ∙ get_or-set_other cut j k count 0 other ∙ c.loop-caller.invariant.zeros k (omega arith);
      bad = λ h. c.loop-caller.invariant.bad (low_pair c.args.n c.loop-caller.least _ _ j count
          suffix c.loop-caller.words found.0 found.1 pair (inr h));
    }
