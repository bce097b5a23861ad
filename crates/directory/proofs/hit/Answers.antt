-- LRU's page goes to T1's tail, which is all of its cache, and the others' bit is set; FIFO's directory stays.
use Rattle.std.proofs.Common.{inr, arith}
use Rattle.figures.specs.Words.{decode}
use Rattle.directory.proofs.Serving.{words_held}
use Rattle.directory.proofs.Named.{none_in_t2, hit_ignored, hit_renewed, hit_marked}
use Rattle.directory.proofs.hit.Goals as goal

pub renew-requires-clause-in_t1 : goal.renew-requires-clause-in_t1
renew-requires-clause-in_t1 c =
    omega (arith, none_in_t2 c.requires.ready c.policy_of.ensures (inr (inr c.in-Lru.is)))

pub returns-in-Fifo : goal.returns-in-Fifo
returns-in-Fifo c x here = hit_ignored c.requires.ready c.policy_of.ensures x c.in-Fifo.is

pub returns-in-Lru : goal.returns-in-Lru
returns-in-Lru c x here = hit_renewed c.requires.ready c.policy_of.ensures x c.in-Lru.is here c.renew.ensures

pub returns-in-Car : goal.returns-in-Car
returns-in-Car c x here =
    hit_marked c.requires.ready c.policy_of.ensures x c.in-Car.is
    (c.mark.ensures (decode c.args.dir.now) x (words_held c.requires.ready) here)
