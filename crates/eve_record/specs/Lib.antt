pub mod Address
pub mod Fields
pub mod FlowLine
pub mod NetflowLine
pub mod Parts
pub mod StatsLine
pub mod SummaryLine
pub mod Time
