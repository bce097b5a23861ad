-- A name's bytes are those of the quoted name.
use Rattle.std.proofs.Common.{◌≡◌, ◌∙◌, ap, refl}
use Rattle.std.specs.Prelude.{codes}
use Rattle.terms.specs.Choice.{same}
use Rattle.terms.specs.Policies.{number_of, policy_name}
use Rattle.terms.specs.declared.policies.Policy.{Policy}
use Rattle.text.specs.Text.{bytes}
use Rattle.bid.proofs.keyed_lines.names.Goals as goal

name_bytes : (policy : Policy) → codes (policy_name (number_of policy)) ≡ bytes (policy_name (number_of policy))
name_bytes Policy.Car = refl
name_bytes Policy.Cart = refl
name_bytes Policy.Fifo = refl
name_bytes Policy.Clock = refl
name_bytes Policy.Lru = refl

pub returns : goal.returns
returns c = c.equal.ensures ∙ ap (same c.args.text.now) (c.name.ensures ∙ name_bytes c.args.policy)
