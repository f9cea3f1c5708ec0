pub mod Equations
pub mod Growth
pub mod Simulation
pub mod SteadyCode
