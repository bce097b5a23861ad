-- Each name is that of the policy's number.
use mathlib.Core.Path.{sym}
use Rattle.std.proofs.Common.{codes, ℕ, List}
use Rattle.terms.specs.Policies.{number_of, policy_name}
use Rattle.terms.specs.declared.policies.Policy.{Policy}
use Rattle.terms.proofs.policies.Policy.name.Goals as goal

abbrev name_of : Policy → List ℕ
name_of policy = codes (policy_name (number_of policy))

pub returns-in-Car : goal.returns-in-Car
returns-in-Car c = λ i. name_of (sym c.in-Car.is i)

pub returns-in-Cart : goal.returns-in-Cart
returns-in-Cart c = λ i. name_of (sym c.in-Cart.is i)

pub returns-in-Fifo : goal.returns-in-Fifo
returns-in-Fifo c = λ i. name_of (sym c.in-Fifo.is i)

pub returns-in-Clock : goal.returns-in-Clock
returns-in-Clock c = λ i. name_of (sym c.in-Clock.is i)

pub returns-in-Lru : goal.returns-in-Lru
returns-in-Lru c = λ i. name_of (sym c.in-Lru.is i)
