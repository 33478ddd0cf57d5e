mod Rows
pub mod Marked
mod Shapes
mod Walked
pub mod Hulls
pub mod LimitsHull
pub mod LimitsSearch
pub mod LimitsCall
pub mod LimitsCached
pub mod LimitsCut
pub mod LimitsFrames
pub mod LimitsUnits
pub mod LimitsStep
pub mod LimitsApart
