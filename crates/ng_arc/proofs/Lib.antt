pub mod RadiiLemmas
pub mod ArcFaultLemmas
pub mod RotatedQuadrantLemmas
pub mod PassageLemmas
pub mod ExtremesLemmas
