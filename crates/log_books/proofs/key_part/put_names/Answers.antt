use Rattle.std.proofs.Common.{◌++◌, ℕ, List, ap, sym, take, ◌∙◌}
use Rattle.std.proofs.lemmas.List.{append_assoc}
use Rattle.log_books.specs.Lines.{name_line, names_text}
use Rattle.log_books.specs.Words.{names_of}
use Rattle.log_books.proofs.Writing.{names_next}
use Rattle.log_books.proofs.key_part.put_names.Goals as goal

pub loop-number-preserved : goal.loop-number-preserved
loop-number-preserved c =
    let names = names_of c.args.names.now in
    let k = c.loop-number.number in
    c.in_ok-put_name.ensures
    ∙ ap (λ (l : List ℕ). l ++ name_line k c.name.result.now) c.loop-number.invariant
    ∙ append_assoc c.args.out.now.items (names_text 0 (take k names)) (name_line k c.name.result.now)
    ∙ ap (λ (l : List ℕ). c.args.out.now.items ++ l) (sym (names_next names k c.name.result.now c.name.ensures))
