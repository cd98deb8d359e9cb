pub mod BaseNets
pub mod Workload
