-- A sound directory names a policy.
use Rattle.directory.proofs.Named.{names_one}
use Rattle.directory.proofs.policy_of.Goals as goal

pub unwrap-requires : goal.unwrap-requires
unwrap-requires c = names_one c.requires c.try_from.result c.try_from.ensures
