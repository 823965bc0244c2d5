-- What the orders know of a flow.
pub use Rattle.bucket_rules.specs.Row.{has, is_linked}
pub use Rattle.bucket_flow.specs.Held.{Held, is_unused_held, linked_with}
pub use Rattle.bucket_flow.specs.Flows.{Before}
pub use Rattle.bucket_flow.specs.Dues.{deadline_of}
