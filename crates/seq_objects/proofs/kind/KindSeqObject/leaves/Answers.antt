use Rattle.std.proofs.Common.{◌↔◌, IsTrue, sym, subst}
use Rattle.book_base.specs.Reaching.{Leaves}
use Rattle.seq_objects.specs.Objects.{kind_next}
use Rattle.seq_objects.proofs.kind.KindSeqObject.leaves.Goals as goal

pub returns-in-Queue : goal.returns-in-Queue
unfolding kind_next
returns-in-Queue c =
    subst (λ kind. IsTrue c.leaves.result ↔ Leaves (kind_next kind) c.args.op c.args.reply)
    (sym c.in-Queue.is) c.leaves.ensures

pub returns-in-Stack : goal.returns-in-Stack
unfolding kind_next
returns-in-Stack c =
    subst (λ kind. IsTrue c.leaves-in-Stack.result ↔ Leaves (kind_next kind) c.args.op c.args.reply)
    (sym c.in-Stack.is) c.leaves-in-Stack.ensures

pub returns-in-Register : goal.returns-in-Register
unfolding kind_next
returns-in-Register c = subst
    (λ kind. IsTrue c.leaves-in-Register.result ↔ Leaves (kind_next kind) c.args.op c.args.reply)
    (sym c.in-Register.is) c.leaves-in-Register.ensures

pub returns-in-Counter : goal.returns-in-Counter
unfolding kind_next
returns-in-Counter c = subst
    (λ kind. IsTrue c.leaves-in-Counter.result ↔ Leaves (kind_next kind) c.args.op c.args.reply)
    (sym c.in-Counter.is) c.leaves-in-Counter.ensures

pub returns-in-IntSet : goal.returns-in-IntSet
unfolding kind_next
returns-in-IntSet c = subst
    (λ kind. IsTrue c.leaves-in-IntSet.result ↔ Leaves (kind_next kind) c.args.op c.args.reply)
    (sym c.in-IntSet.is) c.leaves-in-IntSet.ensures

pub returns-in-Pqueue : goal.returns-in-Pqueue
unfolding kind_next
returns-in-Pqueue c = subst
    (λ kind. IsTrue c.leaves-in-Pqueue.result ↔ Leaves (kind_next kind) c.args.op c.args.reply)
    (sym c.in-Pqueue.is) c.leaves-in-Pqueue.ensures

pub returns-in-CasRegister : goal.returns-in-CasRegister
unfolding kind_next
returns-in-CasRegister c = subst
    (λ kind. IsTrue c.leaves-in-CasRegister.result ↔ Leaves (kind_next kind) c.args.op c.args.reply)
    (sym c.in-CasRegister.is) c.leaves-in-CasRegister.ensures

pub returns-in-Map : goal.returns-in-Map
unfolding kind_next
returns-in-Map c =
    subst (λ kind. IsTrue c.leaves-in-Map.result ↔ Leaves (kind_next kind) c.args.op c.args.reply)
    (sym c.in-Map.is) c.leaves-in-Map.ensures
