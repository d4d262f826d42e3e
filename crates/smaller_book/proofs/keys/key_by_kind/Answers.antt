use Rattle.std.proofs.Common.{◌≡◌, ◌∙◌, true, sym, ap, subst}
use Rattle.seq_objects.specs.declared.kind.Kind.{Kind}
use Rattle.seq_objects.specs.declared.kind.Kind.TheVariants as kinds
use Rattle.seq_objects.specs.Words.{is_known_word}
use Rattle.smaller_book.specs.Keys.{key_by_kind}
use Rattle.smaller_book.proofs.KeyCodes.{queue_by_code, stack_by_code, pqueue_by_code, register_by_code}
use Rattle.smaller_book.proofs.keys.key_by_kind.Goals as goal

pub returns-in-Queue : goal.returns-in-Queue
returns-in-Queue c =
    let op = c.args.op in
    let reply = c.args.reply in
    let known : is_known_word kinds.Queue op ≡ true =
    subst (λ (k : Kind). is_known_word k op ≡ true) c.in-Queue.is c.requires in
    c.value_moved.ensures
    ∙ (queue_by_code op reply known ∙ ap (λ (k : Kind). key_by_kind k op reply) (sym c.in-Queue.is))

pub returns-in-Stack : goal.returns-in-Stack
returns-in-Stack c =
    let op = c.args.op in
    let reply = c.args.reply in
    let known : is_known_word kinds.Stack op ≡ true =
    subst (λ (k : Kind). is_known_word k op ≡ true) c.in-Stack.is c.requires in
    c.value_moved-in-Stack.ensures
    ∙ (stack_by_code op reply known ∙ ap (λ (k : Kind). key_by_kind k op reply) (sym c.in-Stack.is))

pub returns-in-Pqueue : goal.returns-in-Pqueue
returns-in-Pqueue c =
    let op = c.args.op in
    let reply = c.args.reply in
    let known : is_known_word kinds.Pqueue op ≡ true =
    subst (λ (k : Kind). is_known_word k op ≡ true) c.in-Pqueue.is c.requires in
    c.value_moved-in-Pqueue.ensures ∙ (pqueue_by_code op reply known
    ∙ ap (λ (k : Kind). key_by_kind k op reply) (sym c.in-Pqueue.is))

pub returns-in-Register : goal.returns-in-Register
returns-in-Register c =
    let op = c.args.op in
    let reply = c.args.reply in
    let known : is_known_word kinds.Register op ≡ true =
    subst (λ (k : Kind). is_known_word k op ≡ true) c.in-Register.is c.requires in
    c.value_moved-in-Register.ensures ∙ (register_by_code op reply known
    ∙ ap (λ (k : Kind). key_by_kind k op reply) (sym c.in-Register.is))
