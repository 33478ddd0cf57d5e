pub mod Probes
pub mod Axes
