-- The policy whose number word 0 has is the one that the directory names; FIFO, CLOCK and LRU have one miss.
use Rattle.terms.specs.declared.policies.Policy.{Policy}
use Rattle.directory.proofs.Named.{evicts_as, full_queue, forgets_as}
use Rattle.directory.proofs.miss.Goals as goal

pub miss-requires-in-Fifo : goal.miss-requires-in-Fifo
miss-requires-in-Fifo c = full_queue c.requires.ready c.policy_of.ensures c.in-Fifo.is c.requires.full

pub returns-in-Car : goal.returns-in-Car
returns-in-Car c = evicts_as c.requires.ready c.policy_of.ensures Policy.Car c.in-Car.is c.args.page c.miss.ensures

pub returns-in-Cart : goal.returns-in-Cart
returns-in-Cart c =
    evicts_as c.requires.ready c.policy_of.ensures Policy.Cart c.in-Cart.is c.args.page c.miss-in-Cart.ensures

pub returns-in-Fifo : goal.returns-in-Fifo
returns-in-Fifo c =
    forgets_as c.requires.ready c.policy_of.ensures c.in-Fifo.is c.args.page c.miss-in-Fifo.ensures
