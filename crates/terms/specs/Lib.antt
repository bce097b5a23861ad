-- Words of the trade, below the cache and the sheets alike.
--
-- In order: what rules are written with (`if◌then◌else◌`, `∣◌∣`, `every`); the limits; the policies by number and name;
-- the refusal numbers, and what an answer says of a refusal at a line; all of these at their edges.
--
-- Not here: what a policy does, and when a call is refused (figures/specs).
pub mod Choice
pub mod Limits
pub mod Policies
pub mod Refusals
pub mod RefusedAt
pub mod Examples
