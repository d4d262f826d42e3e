use Rattle.std.proofs.Common.{◌≡◌, ◌∙◌, ℕ, List, [], ◌∷◌, ◌++◌, get_or, slice_get, Some, refl, sym, ap}
use Rattle.std.specs.Prelude.{codes}
use Rattle.watch.specs.Output.{OutputLine, Unsure, output_line, text_of}
use Rattle.watch.specs.Account.{IsUnsureTold}
use Rattle.watch.proofs.Outputs.{tables_of, says_named, tells_none, has_new, text_one}
use Rattle.watch.proofs.Findings.{name_of}
use Rattle.watch.proofs.Changing.{holds_unsure}
use Rattle.watch.proofs.watching.Watching.tell_unsure.Goals as goal

pub returns-then-contains : goal.returns-then-contains
returns-then-contains c = record {
  told = λ asked lines due said output h low stands.
      tells_none asked c.args.self.now lines due said output
      (λ after. IsUnsureTold said after c.args.object) h
      (h.each c.args.object (sym c.contains.ensures ∙ c.if-contains.true));
}

pub returns : goal.returns
returns c = record {
  told = λ asked lines due said output h low stands.
      let text = c.in_ok-put_line.ensures in
      let object = c.args.object in
      let line = c.args.line in
      let name = get_or said.names object [] in
      let one : OutputLine = Unsure line name in
      let tables = tables_of due said c.args.self.now.reader
      (says_named due said object h.says low) h.reader in
      let named = name_of said object low in
      let shown : Some c.name-name.result.now ≡ Some name =
      sym (c.name-name.ensures said tables low) ∙ named in
      let same : c.name-name.result.now ≡ name = cc in (
        one ∷ [],
        text ∙ ap (λ (l : List ℕ). c.args.self.now.out.items ++ l)
            (ap (λ (n : List ℕ). output_line (codes "unsure") line line n) same
            ∙ sym (text_one one)),
        holds_unsure asked c.args.self.now _ lines due said output object line
            (record { settings = refl; reader = refl; objects = refl; number = refl }) refl refl
            (λ q. c.in_ok-insert.ensures.updates.0 q) h low stands
            (sym c.contains.ensures ∙ c.if-contains.false),
        (line, name, named, has_new output one),
      );
}
