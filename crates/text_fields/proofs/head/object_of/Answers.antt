use Rattle.std.proofs.Common.{◌≡◌, true, sym, ◌∙◌, ap}
use Rattle.seq_objects.proofs.Texts.{kind_name-once}
use Rattle.text_fields.specs.Version.{has_kind}
use Rattle.text_fields.proofs.NumberTexts.{same_first}
use Rattle.text_fields.proofs.head.object_of.Goals as goal

pub returns-then-not-has_kind-clause-none : goal.returns-then-not-has_kind-clause-none
returns-then-not-has_kind-clause-none c = λ kind has text.
    let suffix = same_first _ _ _ _ (sym c.in_ok-next.ensures ∙ text) in
    let name = same_first _ _ _ _ (sym c.in_ok-next-2.ensures ∙ suffix.1) in
    let same =
    kind_name-once kind c.in_ok-kind.kind (sym name.0 ∙ sym c.in_ok-kind.ensures.found) in
    let known : has_kind c.args.version c.in_ok-kind.kind ≡ true =
    ap (has_kind c.args.version) (sym same) ∙ has in
    absurd (cc (known, c.has_kind.ensures, c.if-not-has_kind.true))
